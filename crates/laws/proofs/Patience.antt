-- Patience. A read has at most as much to do as there are versions at its begin, and two steps for the head's stamp;
-- every step of its own does one part of it (ReadSteps), and the last part is the answer. So while it has no answer it
-- has had at most one step more than there were versions, and none of them was refused.
use Rattle.std.proofs.Common.{◌≡◌, ℕ, zero, suc, ◌+◌, ◌-◌, ◌<◌, ◌≤◌, List, [], ◌∷◌, length, take, drop, Some, None, count_by, Option, sym, refl, ap, ◌∙◌, subst, inl, inr, ⊎_elim, arith}
use Rattle.std.proofs.lemmas.Option.{some_pair_parts}
use Rattle.std.proofs.lemmas.List.{get_or-set_same}
use Rattle.std.proofs.lemmas.List.Sums.{sum_by-cons}
use Rattle.std.proofs.lemmas.Bool.{both_ways}
use Rattle.std.specs.List.{slice_get}
use Rattle.model.specs.Answers.{Answer, again, granted, value}
use Rattle.model.specs.Calls.{Call, step, ReadBegin, ReadStep, Abandon}
use Rattle.model.specs.Making.{make}
use Rattle.model.specs.Runs.{run, log}
use Rattle.model.specs.State.{Version, Node, State, fresh, node, worker, head, version, is_reading, linked, free, waiting, reading}
use Rattle.laws.specs.Histories.{history, Was}
use Rattle.laws.specs.Patience.{is_own_step, GoesOn, Patient}
use Rattle.laws.specs.Space.{Down, ends, goes_on}
use Rattle.laws.proofs.CellLists.{IsLinked, older_of, stamp_of, Ages, WellLinked}
use Rattle.laws.proofs.Depth.{Depth, last, more, steps_to_stamp}
use Rattle.laws.proofs.Effects.{Seen, after}
use Rattle.laws.proofs.EveryRun.{faithful_run, faithful_next}
use Rattle.laws.proofs.Faithful.{Faithful}
use Rattle.laws.proofs.NeverLost.{never_lost}
use Rattle.laws.proofs.Places.{was_transition, state_at}
use Rattle.laws.proofs.ReadSteps.{ToDo, ReadOver, own, does_its_part}
use Rattle.laws.proofs.Transitions.{Transition, transition, refuses, loses, read_begins, takes_reading, gives_stamp, reads, reads_on}

-- the versions of a list from a linked node downward: ranks fall, so there is an end
record Below {V : Type 0} (s : State V) (p : ℕ) : Type 0 where
  versions : List (Version V)
  down : Down s (Some p) versions
  depth_is : Depth s.nodes p (length versions)

below : {V : Type 0} {s : State V} {g : Ages} → WellLinked s.heads s.nodes g → (r p : ℕ) → g.rank p < r → IsLinked (node s p) → Below s p
below S zero p h l = absurd (omega arith)
below {V} {s} {g} S (suc r) p h l = at_node (node s p) refl l (below S r)
  where
    at_older : (v : Version V) → node s p ≡ linked v → (o : Option ℕ) → v.older ≡ o → ((m : ℕ) → g.rank m < r → IsLinked (node s m) → Below s m) → Below s p
    at_older v e None f deeper =
        record { versions = v ∷ []; down = goes_on v (ap version e) (subst (λ o. Down s o []) (sym f) ends); depth_is = last (ap older_of e ∙ f) }
    at_older v e (Some m) f deeper =
        let o = ap older_of e ∙ f in
        let q = S.rank_down 0 p m (inl l) o in
        let B = deeper m (omega arith) (S.down_linked p m l o) in
        record { versions = v ∷ B.versions; down = goes_on v (ap version e) (subst (λ o. Down s o B.versions) (sym f) B.down); depth_is = more o B.depth_is }

    at_node : (x : Node V) → node s p ≡ x → IsLinked x → ((m : ℕ) → g.rank m < r → IsLinked (node s m) → Below s m) → Below s p
    at_node free e k deeper = absurd k
    at_node (linked v) e k deeper = at_older v e v.older refl deeper
    at_node (waiting v ms) e k deeper = absurd k

-- a read begins
begins :
    {V : Type 0} {s : State V} {g : Seen V} {w x : ℕ} {s' : State V} → Faithful s g → Transition s (ReadBegin w x) granted s'
    → (b : Below s (head s x)) × ToDo s' w (length b.versions + 2)
begins {s} {g} G (read_begins {w} {x} i l b e) =
    let t = G.anchored.well_linked.head_linked x l in
    let d = below G.anchored.well_linked (suc (G.ages.rank (head s x))) (head s x) (omega arith) t in
    let h = get_or-set_same s.workers w (record { session = (worker s w).session; operation = reading x (head s x); clock_reading = None }) fresh i in
    let n = two (stamp_of (node s (head s x))) None in (
      d,
      record {
        cell = x;
        position = head s x;
        depth = length d.versions;
        op_is = ap (λ r. r.operation) h;
        depth_is = d.depth_is;
        all = subst (λ q. length d.versions + steps_to_stamp (stamp_of (node s (head s x))) q ≤ length d.versions + 2) (sym (ap (λ r. r.clock_reading) h)) (omega arith);
      },
    )
  where
    two : (a h : Option ℕ) → steps_to_stamp a h ≤ 2
    two None None = omega arith
    two None (Some r) = omega arith
    two (Some t) h = omega arith

depth_positive : {V : Type 0} {N : List (Node V)} {p d : ℕ} → Depth N p d → 1 ≤ d
depth_positive x = grind arith

-- a step of a read that is under way answers again, or its value
reads_again : {V : Type 0} {s : State V} {g : Seen V} {w k : ℕ} {a : Answer V} {s' : State V} → Faithful s g → ToDo s w k → ((v : V) → a ≡ value v → ⊥)
    → Transition s (ReadStep w) a s' → a ≡ again
reads_again G P n (refuses nc) = absurd (both_ways _ nc (ap is_reading P.op_is))
reads_again G P n (loses lo) = absurd (never_lost _ _ G lo)
reads_again G P n (takes_reading i pt th st he) = refl
reads_again G P n (gives_stamp i pt th st he) = refl
reads_again G P n (reads i e f st l) = absurd (n _ refl)
reads_again G P n (reads_on i e f st l o) = refl

to_do_run :
    {V : Type 0} (s : State V) (g : Seen V) (w k : ℕ) (cs : List (Call V)) → Faithful s g → ToDo s w k
    → ((j : ℕ) (v : V) → slice_get (log s cs) j ≡ Some (ReadStep w, value v) → ⊥) → ((j : ℕ) → slice_get (log s cs) j ≡ Some (Abandon w, granted) → ⊥)
    → (count_by (is_own_step w) (log s cs) + 1 ≤ k) × ((j : ℕ) (a : Answer V) → slice_get (log s cs) j ≡ Some (ReadStep w, a) → a ≡ again)
unfolding log
to_do_run s g w k [] G P q r = ((let a = P.all in let d = depth_positive P.depth_is in omega arith), λ j a e. grind arith)
to_do_run {V} s g w k (c ∷ cs) G P q r =
    ⊎_elim (λ o. absurd (over o))
    (λ o. let t = to_do_run (step s c).1 (after (transition s c) g) w o.left cs (faithful_next g (transition s c) G) o.to_do (λ j. q (suc j)) (λ j. r (suc j)) in
    let p = o.pays in
    let n = sum_by-cons (λ e. own w e.0 e.1) (c, (step s c).0) (log (step s c).1 cs) in
    ((let m = t.0 in omega arith), answers t.1))
    (does_its_part (never_lost s g G) G.anchored P (transition s c))
  where
    over : ReadOver w c (step s c).0 → ⊥
    over (inl h) = q 0 h.0 (λ k. Some (h.1 k, h.2 k))
    over (inr h) = r 0 (λ k. Some (h.0 k, h.1 k))

    answers : ((j : ℕ) (a : Answer V) → slice_get (log (step s c).1 cs) j ≡ Some (ReadStep w, a) → a ≡ again)
        → (j : ℕ) (a : Answer V) → slice_get (log s (c ∷ cs)) j ≡ Some (ReadStep w, a) → a ≡ again
    answers f zero a e =
        let p = some_pair_parts _ _ _ _ e in
        sym p.1 ∙ reads_again G P (λ v h. q 0 v (λ k. Some (p.0 k, h k)))
        (subst (λ d. Transition s d (step s c).0 (step s c).1) p.0 (transition s c))
    answers f (suc j) a e = f j a e

-- the log from a place on
log_drop : {V : Type 0} (s : State V) (cs : List (Call V)) (i : ℕ) → drop i (log s cs) ≡ log (run s (take i cs)) (drop i cs)
unfolding run log
log_drop s cs zero = refl
log_drop s [] (suc i) = refl
log_drop s (c ∷ cs) (suc i) = log_drop (step s c).1 cs i

nth_drop : {A : Type 0} (l : List A) (i j : ℕ) → slice_get (drop i l) j ≡ slice_get l (i + j)
nth_drop l zero j = ap (slice_get l) (omega arith)
nth_drop [] (suc i) j = refl
nth_drop (x ∷ l) (suc i) j = nth_drop l i j ∙ (let e : suc (i + j) ≡ suc i + j = omega arith in ap (slice_get (x ∷ l)) e)

pub patient : {V : Type 0} (cells workers nodes start : ℕ) (first : V) (cs : List (Call V)) (w x i : ℕ)
    → Was (history (make cells workers nodes start first) cs) i (ReadBegin w x) granted → GoesOn (history (make cells workers nodes start first) cs) w i
    → Patient (history (make cells workers nodes start first) cs) w x i
patient {V} cells workers nodes start first cs w x i h q =
    let s₀ : State V = make cells workers nodes start first in
    let b = begins (faithful_run cells workers nodes start first (take i cs)).1 (was_transition s₀ cs i (ReadBegin w x) granted h) in
    let G = faithful_run cells workers nodes start first (take (suc i) cs) in
    let place : (j : ℕ) → slice_get (log (state_at s₀ cs (suc i)) (drop (suc i) cs)) j ≡ slice_get (log s₀ cs) (suc i + j) =
    λ j. sym (ap (λ l. slice_get l j) (log_drop s₀ cs (suc i))) ∙ nth_drop (log s₀ cs) (suc i) j in
    let r = to_do_run (state_at s₀ cs (suc i)) G.0 w _ (drop (suc i) cs) G.1 b.1
    (λ j v e. q.0 (suc i + j) v (omega arith) (sym (place j) ∙ e)) (λ j e. q.1 (suc i + j) (omega arith) (sym (place j) ∙ e)) in
    record {
      versions = b.0.versions;
      from_head = b.0.down;
      never_refused = λ j a l e. r.1 (j - suc i) a (place (j - suc i) ∙ (let k : suc i + (j - suc i) ≡ j = omega arith in ap (slice_get (log s₀ cs)) k) ∙ e);
      bounded = let y = ap (count_by (is_own_step w)) (log_drop s₀ cs (suc i)) in let z = r.0 in omega arith;
    }
