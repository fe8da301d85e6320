-- How much is left: each version that stays below the newest of the old ones holds a session that no other holds.
use Rattle.std.proofs.Common.{◌≡◌, ℕ, ◌+◌, ◌<◌, ◌≤◌, Bool, true, false, cond, ltb, List, [], ◌∷◌, length, Some, None, sym, refl, ◌∙◌, ⊎_elim, arith}
use Rattle.std.proofs.lemmas.Bool.{cases_lt, and_parts}
use Rattle.std.proofs.lemmas.Bool.Decides.{nat_tests}
use Rattle.stamps.specs.declared.Interval.{Interval}
use Rattle.stamps.specs.Intervals.{none_inside, obsolete}
use Rattle.preview.specs.Laws.{count_upto, falling, at_least_first}
use Rattle.preview.specs.Walk.{walk, left}
use Rattle.preview.proofs.Walking.{left_cases}

-- How many sessions are below a stamp.
abbrev below : ℕ → List ℕ → ℕ
below p [] = 0
below p (a ∷ rest) = cond (ltb a p) 1 0 + below p rest

below_all : (p : ℕ) (sessions : List ℕ) → below p sessions ≤ length sessions
below_all p [] = omega arith
below_all p (a ∷ rest) = let ih = below_all p rest in grind (arith, nat_tests)

below_mono : (s p : ℕ) (sessions : List ℕ) → s ≤ p → below s sessions ≤ below p sessions
below_mono s p [] h = omega arith
below_mono s p (a ∷ rest) h = let ih = below_mono s p rest h in grind (arith, nat_tests)

-- A session inside an interval is below its end and not below its start.
below_inside : (i : Interval) (sessions : List ℕ) → i.start ≤ i.end → none_inside sessions i ≡ false → below i.start sessions + 1 ≤ below i.end sessions
below_inside i [] h n = grind (arith, nat_tests)
below_inside i (a ∷ rest) h n = let ih = below_inside i rest h in let mono = below_mono i.start i.end rest h in grind (arith, nat_tests)

falling_without : (a b : ℕ) (rest : List ℕ) → falling (a ∷ b ∷ rest) ≡ true → falling (a ∷ rest) ≡ true
falling_without a b [] f = refl
falling_without a b (c ∷ rest) f = grind (arith, nat_tests)

falling_rest : (a b : ℕ) (rest : List ℕ) → falling (a ∷ b ∷ rest) ≡ true → falling (b ∷ rest) ≡ true
falling_rest a b rest f = (and_parts (at_least_first a (b ∷ rest)) (falling (b ∷ rest)) f).1

-- Below an old version: each that stays takes a session of its own.
old_left : (drops : Interval → Bool) (t : ℕ) (sessions : List ℕ) → ((i : Interval) → drops i ≡ obsolete t sessions i)
    → (older : List ℕ) (newer : ℕ) → newer ≤ t → falling (newer ∷ older) ≡ true → count_upto t (left (walk drops (Some newer) older)) ≤ below newer sessions
old_left drops t sessions exact [] newer old f = omega arith
old_left drops t sessions exact (stamp ∷ older) newer old f =
    let i : Interval = record { start = stamp; end = newer } in
    let down : stamp ≤ newer = grind (arith, nat_tests) in
    left_cases (λ xs. count_upto t xs ≤ below newer sessions) drops newer stamp older
    (λ _. old_left drops t sessions exact older newer old (falling_without newer stamp older f))
    (λ d. let kept = sym (exact i) ∙ d in
    let held : none_inside sessions i ≡ false = grind (arith, nat_tests) in
    let room = below_inside i sessions down held in
    let ih = old_left drops t sessions exact older stamp (omega arith) (falling_rest newer stamp older f) in
    grind (arith, nat_tests))

-- A version that stays, with what is left below it: it is old, or what is below is bounded already.
front : (drops : Interval → Bool) (t : ℕ) (sessions : List ℕ) → ((i : Interval) → drops i ≡ obsolete t sessions i)
    → (stamp : ℕ) (older : List ℕ) → falling (stamp ∷ older) ≡ true
    → (t < stamp → count_upto t (left (walk drops (Some stamp) older)) ≤ length sessions + 1)
    → count_upto t (stamp ∷ left (walk drops (Some stamp) older)) ≤ length sessions + 1
front drops t sessions exact stamp older f new =
    ⊎_elim
    (λ lt. let ih = new lt in grind (arith, nat_tests))
    (λ ge. let ih = old_left drops t sessions exact older stamp ge f in let all = below_all stamp sessions in grind (arith, nat_tests))
    (cases_lt t stamp)

-- Below a version above the cutoff: the first old one stays as well.
new_left : (drops : Interval → Bool) (t : ℕ) (sessions : List ℕ) → ((i : Interval) → drops i ≡ obsolete t sessions i)
    → (older : List ℕ) (newer : ℕ) → t < newer → falling (newer ∷ older) ≡ true → count_upto t (left (walk drops (Some newer) older)) ≤ length sessions + 1
new_left drops t sessions exact [] newer above f = omega arith
new_left drops t sessions exact (stamp ∷ older) newer above f =
    left_cases (λ xs. count_upto t xs ≤ length sessions + 1) drops newer stamp older
    (λ d. let gone = sym (exact (record { start = stamp; end = newer })) ∙ d in grind (arith, nat_tests))
    (λ _. front drops t sessions exact stamp older (falling_rest newer stamp older f) (λ lt. new_left drops t sessions exact older stamp lt (falling_rest newer stamp older f)))

pub few_left : (drops : Interval → Bool) (t : ℕ) (sessions : List ℕ) → ((i : Interval) → drops i ≡ obsolete t sessions i)
    → (versions : List ℕ) → falling versions ≡ true → count_upto t (left (walk drops None versions)) ≤ length sessions + 1
few_left drops t sessions exact [] f = omega arith
few_left drops t sessions exact (head ∷ older) f = front drops t sessions exact head older f (λ lt. new_left drops t sessions exact older head lt f)
