-- What a session reads: a version that it needs is never dropped.
use Rattle.std.proofs.Common.{◌≡◌, ℕ, ◌<◌, ◌≤◌, Bool, true, false, cond, leb, ◌⊎◌, List, [], ◌∷◌, Some, None, sym, refl, ap, ◌∙◌, inl, inr, ⊎_elim, arith}
use Rattle.std.proofs.lemmas.Bool.{cases_lt, cond-false, cond-true, le-leb}
use Rattle.std.proofs.lemmas.Bool.Decides.{nat_tests}
use Rattle.stamps.specs.declared.Interval.{Interval}
use Rattle.stamps.specs.Intervals.{inside, none_inside, obsolete}
use Rattle.stamps.specs.Laws.{among}
use Rattle.preview.specs.Laws.{read_at}
use Rattle.preview.specs.Walk.{walk, left}
use Rattle.preview.proofs.Walking.{left_cases}

-- Nothing is dropped that the session lies in.
abbrev pub Spares : (Interval → Bool) → ℕ → Type 0
Spares drops session = (i : Interval) → drops i ≡ true → inside session i ≡ false

-- The session reads the first of two lists with the same front, or it goes on to rests that it reads alike.
reads_front : (session stamp : ℕ) (older rest : List ℕ) → (session < stamp → read_at session rest ≡ read_at session older) → read_at session (stamp ∷ rest) ≡ read_at session (stamp ∷ older)
reads_front session stamp older rest alike =
    ⊎_elim
    (λ lt. ap (λ o. cond (leb stamp session) (Some stamp) o) (alike lt))
    (λ ge. let e = le-leb stamp session ge in cond-true (leb stamp session) (Some stamp) (read_at session rest) e ∙ sym (cond-true (leb stamp session) (Some stamp) (read_at session older) e))
    (cases_lt session stamp)

-- Below a version above the session, the walk leaves what the session reads.
pub reads_below : (drops : Interval → Bool) (session : ℕ) → Spares drops session
    → (older : List ℕ) (newer : ℕ) → session < newer → read_at session (left (walk drops (Some newer) older)) ≡ read_at session older
reads_below drops session spares [] newer above = refl
reads_below drops session spares (stamp ∷ older) newer above =
    left_cases (λ xs. read_at session xs ≡ read_at session (stamp ∷ older)) drops newer stamp older
    (λ d. let out = spares (record { start = stamp; end = newer }) d in
    let later : leb stamp session ≡ false = grind (arith, nat_tests) in
    reads_below drops session spares older newer above ∙ sym (cond-false (leb stamp session) (Some stamp) (read_at session older) later))
    (λ _. reads_front session stamp older _ (reads_below drops session spares older stamp))

pub reads_same : (drops : Interval → Bool) (session : ℕ) → Spares drops session → (versions : List ℕ) → read_at session (left (walk drops None versions)) ≡ read_at session versions
reads_same drops session spares [] = refl
reads_same drops session spares (head ∷ older) = reads_front session head older _ (reads_below drops session spares older head)

none_inside_among : (sessions : List ℕ) (session : ℕ) (i : Interval) → among session sessions ≡ true → none_inside sessions i ≡ true → inside session i ≡ false
none_inside_among [] session i m n = grind (arith, nat_tests)
none_inside_among (a ∷ rest) session i m n = let ih = none_inside_among rest session i in grind (arith, nat_tests)

-- A judge that drops only the obsolete spares the sessions that it was told, and all at or above the cutoff.
pub obsolete_spares : (drops : Interval → Bool) (t : ℕ) (sessions : List ℕ) → ((i : Interval) → drops i ≡ true → obsolete t sessions i ≡ true)
    → (session : ℕ) → (among session sessions ≡ true) ⊎ (t ≤ session) → Spares drops session
obsolete_spares drops t sessions lawful session (inl m) i d = let o = lawful i d in none_inside_among sessions session i m (grind (arith, nat_tests))
obsolete_spares drops t sessions lawful session (inr above) i d = let o = lawful i d in grind (arith, nat_tests)
