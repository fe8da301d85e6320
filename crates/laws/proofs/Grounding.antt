-- Every state that a made store comes to is grounded. What an operation refers to is linked or bears its worker's mark,
-- and so does what lies below such a node; a waiting node bears somebody's mark. So which free nodes the offers take
-- does not matter.
use Rattle.std.proofs.Common.{◌≡◌, ℕ, true, Some, inl, inr, arith}
use Rattle.model.specs.Making.{make}
use Rattle.model.specs.State.{Version, Node, Operation, State, node, worker, version, free, linked, waiting}
use Rattle.laws.specs.Law.{ChoiceIsFree}
use Rattle.laws.proofs.CellLists.{KeptFor, Ages, older_at, kept_used}
use Rattle.laws.proofs.Choice.{StaysGrounded, choice_free}
use Rattle.laws.proofs.FirstState.{anchored}
use Rattle.laws.proofs.Marks.{bears_mark, BearMarks, mark_of, marks_borne}
use Rattle.laws.proofs.References.{Anchored, Anchor}
use Rattle.laws.proofs.Renaming.{Sound, Grounded}

-- Every node that holds a version is kept for somebody.
kept_by : {V : Type 0} (x : Node V) (v : Version V) → bears_mark x ≡ true → version x ≡ Some v → (u : ℕ) × KeptFor u x
kept_by free v b e = grind arith
kept_by (linked u) v b e = (0, inl tt)
kept_by (waiting u marks) v b e = let r = mark_of marks b in (r.0, inr r.1)

module _ {V : Type 0} {s : State V} {g : Ages} (A : Anchored s g) (M : BearMarks s.nodes) where
  anchor_sound : (u : ℕ) (o : Operation) → Anchor s.heads s.nodes g u o → Sound s o
  anchor_sound u x r = grind arith

  grounded : Grounded s
  grounded =
      record {
        heads_used = λ x l. kept_used 0 _ (inl (A.well_linked.head_linked x l));
        older_used = λ n m v e o. let k = kept_by (node s n) v (M n) e in kept_used k.0 (node s m) (A.well_linked.kept_down k.0 n m k.1 (older_at (node s n) v m e o));
        operations_sound = λ u. anchor_sound u (worker s u).operation (A.anchors u);
      }

made_stays_grounded : {V : Type 0} (cells workers nodes start : ℕ) (v : V) → StaysGrounded (make cells workers nodes start v)
made_stays_grounded cells workers nodes start v cs =
    grounded (anchored cells workers nodes start v cs).1
    (marks_borne cells workers nodes start v cs)

pub choice_is_free : {V : Type 0} → ChoiceIsFree V
choice_is_free cells workers nodes start first calls others =
    choice_free (make cells workers nodes start first) (made_stays_grounded cells workers nodes start first) calls others
