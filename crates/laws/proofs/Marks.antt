-- A waiting node bears a mark, in every state that a run leads to: a version is taken out by a worker whose operation is
-- under way, so its node gets that worker's mark, and when its last mark is taken off the node is free.
use Rattle.std.proofs.Common.{◌≡◌, ℕ, suc, Bool, true, false, List, [], ◌∷◌, map, get_or, set, refl, arith, ◌∙◌}
use Rattle.laws.proofs.References.{marks_of_busy}
use Rattle.laws.proofs.CellLists.{some_mark}
use Rattle.std.proofs.lemmas.Bool.{both_ways}
use Rattle.model.specs.Calls.{Call, step, Note, Publish, Advance, Close, ReadBegin, ReadStep, WriteBegin, WriteLook, WriteOffer, WriteStamp, Abandon, CompactBegin, CompactStep}
use Rattle.model.specs.Changes.{on_version, unmark}
use Rattle.model.specs.Making.{make, made, first_version}
use Rattle.model.specs.Runs.{run}
use Rattle.model.specs.State.{Version, Node, Worker, State, fresh, busy, any, free, linked, waiting}
use Rattle.laws.proofs.Frames.{set_either, map_each, table_each}

-- A node that waits bears a mark: it is taken out by a worker that is busy, and is free when its last mark is off.
abbrev pub bears_mark : {V : Type 0} → Node V → Bool
bears_mark free = true
bears_mark (linked v) = true
bears_mark (waiting v marks) = any (λ mark. mark) marks

abbrev pub BearMarks : {V : Type 0} → List (Node V) → Type 0
BearMarks ns = (n : ℕ) → bears_mark (get_or ns n free) ≡ true

busy_marks : (ws : List Worker) (w : ℕ) → busy (get_or ws w fresh).operation ≡ true → any (λ (mark : Bool). mark) (map (λ (k : Worker). busy k.operation) ws) ≡ true
busy_marks ws w e = some_mark (map (λ k. busy k.operation) ws) w (marks_of_busy ws w ∙ e)

set_bears : {V : Type 0} (ns : List (Node V)) (k n : ℕ) (x : Node V) → bears_mark x ≡ true → bears_mark (get_or ns n free) ≡ true → bears_mark (get_or (set ns k x) n free) ≡ true
set_bears ns k n x p q = set_either ns k n x free (λ y. bears_mark y ≡ true) (λ e. p) q

unmark_bears : {V : Type 0} (ns : List (Node V)) (w n : ℕ) → bears_mark (get_or (map (unmark w) ns) n free) ≡ true
unmark_bears {V} ns w n = map_each (unmark w) ns n free (λ y. bears_mark y ≡ true) (go (get_or ns n free))
  where
    go : (x : Node V) → bears_mark (unmark w x) ≡ true
    go x = grind arith

on_version_bears : {V : Type 0} (f : Version V → Version V) (x : Node V) → bears_mark (on_version f x) ≡ bears_mark x
on_version_bears f x = grind arith

step_bears : {V : Type 0} (s : State V) → BearMarks s.nodes → (c : Call V) → BearMarks (step s c).1.nodes
unfolding step
step_bears s M (Note w) n = grind (arith, M n)
step_bears s M (Publish w) n = grind (arith, M n)
step_bears s M (Advance w) n = grind (arith, M n)
step_bears s M (Close w) n = grind (arith, M n)
step_bears s M (ReadBegin w x) n = grind (arith, M n)
step_bears s M (ReadStep w) n = let ended = unmark_bears s.nodes w n in grind (arith, M, set_bears, on_version_bears)
step_bears s M (WriteBegin w x) n = grind (arith, M n)
step_bears s M (WriteLook w) n = grind (arith, M, set_bears, on_version_bears)
step_bears s M (WriteOffer w v m) n = let ended = unmark_bears s.nodes w n in grind (arith, M n, set_bears)
step_bears s M (WriteStamp w) n = let ended = unmark_bears s.nodes w n in grind (arith, M, set_bears, on_version_bears)
step_bears s M (Abandon w) n = let ended = unmark_bears s.nodes w n in grind (arith, M n)
step_bears s M (CompactBegin w x) n = grind (arith, M n)
step_bears s M (CompactStep w judge) n = let ended = unmark_bears s.nodes w n in let marks = busy_marks s.workers w in grind (arith, M, set_bears, on_version_bears)

run_bears : {V : Type 0} (s : State V) → BearMarks s.nodes → (cs : List (Call V)) → BearMarks (run s cs).nodes
unfolding run
run_bears s M [] = M
run_bears s M (c ∷ cs) = run_bears (step s c).1 (step_bears s M c) cs

made_bears : {V : Type 0} (b : Bool) (cells workers spare start : ℕ) (v : V) → BearMarks (made b cells workers spare start v).nodes
made_bears false cells workers spare start v = λ n. refl
made_bears true cells workers spare start v = table_each cells spare (first_version start v) free (λ x. bears_mark x ≡ true) refl refl

pub marks_borne : {V : Type 0} (cells workers nodes start : ℕ) (first : V) (cs : List (Call V)) → BearMarks (run (make cells workers nodes start first) cs).nodes
marks_borne cells workers nodes start first cs = grind (arith, run_bears, made_bears)

-- where some mark is borne, this is one
pub mark_of : (marks : List Bool) → any (λ mark. mark) marks ≡ true → (u : ℕ) × (get_or marks u false ≡ true)
mark_of [] e = absurd (both_ways false refl e)
mark_of (true ∷ marks) e = (0, refl)
mark_of (false ∷ marks) e = let r = mark_of marks e in (suc r.0, r.1)
