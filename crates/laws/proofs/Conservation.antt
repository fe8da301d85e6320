-- Nothing is lost or invented, in every state that a run leads to. A linked node is found from its cell's head, since
-- ranks fall going down and none is left out; what an operation can reach is linked or bears its worker's mark, so it is
-- not free.
use Rattle.std.proofs.Common.{◌≡◌, ℕ, zero, suc, ◌+◌, ◌<◌, ◌≤◌, true, false, cond, List, [], ◌∷◌, length, get_or, take, set, Some, None, count_by, Option, sym, refl, ap, ◌∙◌, subst, inl, ⊎_elim, arith}
use Rattle.std.proofs.lemmas.List.{get_or-set_same}
use Rattle.std.proofs.lemmas.List.Sums.{sum_by-cons}
use Rattle.std.proofs.lemmas.Bool.{cases_eq, both_ways}
use Rattle.model.specs.Answers.{granted, impossible}
use Rattle.model.specs.Calls.{Call, WriteOffer}
use Rattle.model.specs.Changes.{is_free}
use Rattle.model.specs.Making.{make, is_linked, is_waiting}
use Rattle.model.specs.Runs.{run}
use Rattle.model.specs.State.{Version, Node, State, node, worker, head, version, free, linked, waiting, write_looked}
use Rattle.laws.specs.Conservation.{InList, is_head, is_below, CanReach, stands, goes_down, Conserved, OffersTakeFree, NeverImpossible}
use Rattle.laws.specs.Histories.{history}
use Rattle.laws.proofs.CellLists.{Marked, IsLinked, KeptFor, Ages, WellLinked, older_of, older_at}
use Rattle.laws.proofs.Clock.{StampWithin, version_within}
use Rattle.laws.proofs.Effects.{Seen}
use Rattle.laws.proofs.EveryRun.{faithful_run}
use Rattle.laws.proofs.Faithful.{Faithful}
use Rattle.laws.proofs.Marks.{bears_mark, BearMarks, mark_of, marks_borne}
use Rattle.laws.proofs.NeverLost.{never_lost}
use Rattle.laws.proofs.Places.{was_transition}
use Rattle.laws.proofs.References.{Anchored, anchor_at, stands_kept}
use Rattle.laws.proofs.Transitions.{Transition, loses, links}

-- every node is free, linked or waiting
kinds_add_up : {V : Type 0} (N : List (Node V)) → count_by is_free N + count_by is_linked N + count_by is_waiting N ≡ length N
kinds_add_up [] = omega arith
kinds_add_up {V} (x ∷ N) =
    let r = kinds_add_up N in
    let a = sum_by-cons (λ (y : Node V). cond (is_free y) 1 0) x N in
    let b = sum_by-cons (λ (y : Node V). cond (is_linked y) 1 0) x N in
    let c = sum_by-cons (λ (y : Node V). cond (is_waiting y) 1 0) x N in
    let o = one x in
    omega arith
  where
    one : (y : Node V) → cond (is_free y) 1 0 + cond (is_linked y) 1 0 + cond (is_waiting y) 1 0 ≡ 1
    one free = refl
    one (linked v) = refl
    one (waiting v ms) = refl

is_linked_on : {V : Type 0} (x : Node V) → IsLinked x → is_linked x ≡ true
is_linked_on x h = grind arith

linked_from : {V : Type 0} (x : Node V) → is_linked x ≡ true → IsLinked x
linked_from x e = grind arith

kept_not_free : {V : Type 0} (u : ℕ) (x : Node V) → KeptFor u x → is_free x ≡ false
kept_not_free u x o = grind arith

module _ {V : Type 0} {s : State V} {g : Ages} (I : Anchored s g) where
  listed : (x n : ℕ) → x < length s.heads → InList s x n → IsLinked (node s n) × (g.cell n ≡ x)
  listed x n l is_head = (I.well_linked.head_linked x l, I.well_linked.head_cell x l)
  listed x n l (is_below {n = m} v h e o) =
      let r = listed x m l h in
      let b = older_at (node s m) v n e o in
      (I.well_linked.down_linked m n r.0 b, (I.well_linked.rank_down 0 m n (inl r.0) b).1 ∙ r.1)

  -- from a node of the list at or above n one comes down to n
  find : (x n r m : ℕ) → IsLinked (node s n) → g.cell n ≡ x → g.rank m < r → IsLinked (node s m) → g.cell m ≡ x → g.rank n ≤ g.rank m → InList s x m → InList s x n
  find x n zero m ln cn h lm cm le i = absurd (omega arith)
  find x n (suc r) m ln cn h lm cm le i =
      ⊎_elim (λ e. subst (InList s x) (I.well_linked.same m n lm ln (cm ∙ sym cn) (sym e)) i)
      (λ ne. at_node (λ k lk ck rk le. find x n r k ln cn rk lk ck le) (node s m) refl lm (omega arith)) (cases_eq (g.rank n) (g.rank m))
    where
      Deeper : Type 0
      Deeper = (k : ℕ) → IsLinked (node s k) → g.cell k ≡ x → g.rank k < r → g.rank n ≤ g.rank k → InList s x k → InList s x n

      step_down : Deeper → (v : Version V) → node s m ≡ linked v → (o : Option ℕ) → v.older ≡ o → g.rank n < g.rank m → InList s x n
      step_down deeper v e None f lt = absurd (let y = I.well_linked.down_last m n lm (ap older_of e ∙ f) ln (cn ∙ sym cm) in omega arith)
      step_down deeper v e (Some k) f lt =
          let o = ap older_of e ∙ f in
          let d = I.well_linked.rank_down 0 m k (inl lm) o in
          let y = I.well_linked.down_next m k n lm o ln (cn ∙ sym cm) lt in
          deeper k (I.well_linked.down_linked m k lm o) (d.1 ∙ cm) (omega arith) y (is_below v i (ap version e) f)

      at_node : Deeper → (y : Node V) → node s m ≡ y → IsLinked y → g.rank n < g.rank m → InList s x n
      at_node deeper free e l lt = absurd l
      at_node deeper (linked v) e l lt = step_down deeper v e v.older refl lt
      at_node deeper (waiting v ms) e l lt = absurd l

  reach_kept : (u n : ℕ) → CanReach s (worker s u).operation n → KeptFor u (node s n)
  reach_kept u n (stands e) = stands_kept s.heads s.nodes g u n (worker s u).operation (I.anchors u) e
  reach_kept u n (goes_down {n = m} v h e o) = I.well_linked.kept_down u m n (reach_kept u m h) (older_at (node s m) v n e o)

conserved : {V : Type 0} {s : State V} {g : Seen V} → Faithful s g → BearMarks s.nodes → Conserved s
conserved {s = s} G M =
    record {
      counted = kinds_add_up s.nodes;
      linked_listed = λ n e. let l = linked_from (node s n) e in
          let x = G.ages.cell n in
          let lx = S.in_cell n l in
          (x, lx, find G.anchored x n (suc (G.ages.rank (head s x))) (head s x) l refl (omega arith) (S.head_linked x lx) (S.head_cell x lx) (S.head_newest x n lx l refl) is_head);
      listed_linked = λ x n l h. is_linked_on (node s n) (listed G.anchored x n l h).0;
      one_list = λ x y n l m h k. sym (listed G.anchored x n l h).1 ∙ (listed G.anchored y n m k).1;
      reached_held = λ u n h. kept_not_free u (node s n) (reach_kept G.anchored u n h);
      waits_for = λ n v marks e. let u = mark_of marks (sym (ap bears_mark e) ∙ M n) in
          (u.0, u.1, G.anchored.marks u.0 n (subst (Marked u.0) (sym e) u.1));
      clock_within = G.stamps_within.clock_bounded;
      stamps_within = λ n t v e f. subst (StampWithin s.clock) f (version_within s.clock (node s n) v e (G.stamps_within.nodes_within n));
    }
  where
    S : WellLinked s.heads s.nodes G.ages
    S = G.anchored.well_linked

pub conserved_run : {V : Type 0} (cells workers nodes start : ℕ) (first : V) (cs : List (Call V)) → Conserved (run (make cells workers nodes start first) cs)
conserved_run cells workers nodes start first cs = conserved (faithful_run cells workers nodes start first cs).1 (marks_borne cells workers nodes start first cs)

-- an offer that is linked
takes_free : {V : Type 0} {s : State V} {g : Seen V} {w told : ℕ} {v : V} {s' : State V} → Faithful s g → Transition s (WriteOffer w v told) granted s'
    → (x : ℕ) × (is_free (node s (head s' x)) ≡ true) × ((u : ℕ) → CanReach s (worker s u).operation (head s' x) → ⊥)
takes_free {s = s} G (links {w = w} {x = x} {b = b} {n = n} i e h f) =
    let lx = (anchor_at w (write_looked x b) e G.anchored).2 in
    let top : get_or (set s.heads x n) x 0 ≡ n = get_or-set_same s.heads x n 0 lx in
    let is : is_free (node s n) ≡ true = ap is_free f.1 in (
      x,
      ap (λ k. is_free (node s k)) top ∙ is,
      λ u r. both_ways _ (kept_not_free u (node s n) (subst (λ k. KeptFor u (node s k)) top (reach_kept G.anchored u _ r))) is,
    )

pub offers_take_free : {V : Type 0} (cells workers nodes start : ℕ) (first : V) (cs : List (Call V)) → OffersTakeFree (history (make cells workers nodes start first) cs)
offers_take_free cells workers nodes start first cs i w told v W =
    takes_free (faithful_run cells workers nodes start first (take i cs)).1 (was_transition (make cells workers nodes start first) cs i _ _ W)

no_impossible : {V : Type 0} {s : State V} {g : Seen V} {c : Call V} {s' : State V} → Faithful s g → Transition s c impossible s' → ⊥
no_impossible G (loses lo) = never_lost _ _ G lo

pub nothing_impossible : {V : Type 0} (cells workers nodes start : ℕ) (first : V) (cs : List (Call V)) → NeverImpossible (history (make cells workers nodes start first) cs)
nothing_impossible cells workers nodes start first cs i c W =
    no_impossible (faithful_run cells workers nodes start first (take i cs)).1 (was_transition (make cells workers nodes start first) cs i _ _ W)
