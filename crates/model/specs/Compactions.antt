-- Compact begin and Compact step.
use Rattle.std.specs.Prelude.{ℕ, suc, Bool, true, false, List, [], ◌∷◌, ◌++◌, length, Some, None, Option, nat_lt}
use Rattle.stamps.specs.declared.Interval.{Interval}
use Rattle.values.specs.declared.Refusal.TheVariants.{OperationStage, CellBusy}
use Rattle.model.specs.State.{Version, Operation, State, worker, head, node, version, slot, compacts, any}
use Rattle.model.specs.State.{idle, reading, write_begun, write_looked, write_linked, scanning, walking}
use Rattle.model.specs.Changes.{with_operation, ended, taken_out}
use Rattle.model.specs.Answers.{Outcome, refuse, no_run, again, granted, done}
use Rattle.model.specs.Checks.{known, in_cells, when_idle, stamping}

-- Compact begin, by whether another compaction has the cell: the cutoff is the clock, and no slot is read yet.
abbrev pub compact_begin_at : {V : Type 0} → State V → ℕ → ℕ → Bool → Outcome V
compact_begin_at s w x true = refuse s CellBusy
compact_begin_at s w x false = (granted, with_operation s w (scanning x s.clock 0 []))

abbrev pub compact_begin : {V : Type 0} → State V → ℕ → ℕ → Outcome V
compact_begin s w x =
    known s w (in_cells s x (when_idle s w (compact_begin_at s w x (any (λ k. compacts x k.operation) s.workers))))

-- A full slot's stamp is added to the scan.
abbrev pub scanned : Option ℕ → List ℕ → List ℕ
scanned None scan = scan
scanned (Some c) scan = scan ++ c ∷ []

-- By whether there is a worker i whose slot comes next. When all slots are read, the position is the cell's head.
abbrev pub scan_slot : {V : Type 0} → State V → ℕ → ℕ → ℕ → ℕ → List ℕ → Bool → Outcome V
scan_slot s w x t i scan true =
    (again, with_operation s w (scanning x t (suc i) (scanned (slot (worker s i).session) scan)))
scan_slot s w x t i scan false = (again, with_operation s w (walking x t scan (head s x) 0))

-- By whether the judge drops the version u in node n, right below the position p: it leaves the list, or it becomes
-- the position. r versions were taken out before.
abbrev pub keep_or_drop : {V : Type 0} → State V → ℕ → ℕ → ℕ → List ℕ → ℕ → ℕ → ℕ → Version V → Bool → Outcome V
keep_or_drop s w x t scan p r n u true = (again, with_operation (taken_out s p n u) w (walking x t scan p (suc r)))
keep_or_drop s w x t scan p r n u false = (again, with_operation s w (walking x t scan n r))

abbrev pub interval : (start end : ℕ) → Interval
interval start end = record { start = start; end = end }

-- The judge is asked about the interval from the stamp of u to the stamp e of the position. No run has an unstamped
-- version below another.
abbrev pub ask_about : {V : Type 0} → State V → ℕ → (ℕ → List ℕ → Interval → Bool) → ℕ → ℕ → List ℕ → ℕ → ℕ → ℕ → ℕ → Version V → Option ℕ → Outcome V
ask_about s w drops x t scan p r e n u None = no_run s
ask_about s w drops x t scan p r e n u (Some a) = keep_or_drop s w x t scan p r n u (drops t scan (interval a e))

-- No run has a node without a version in a list.
abbrev pub ask_below : {V : Type 0} → State V → ℕ → (ℕ → List ℕ → Interval → Bool) → ℕ → ℕ → List ℕ → ℕ → ℕ → ℕ → ℕ → Option (Version V) → Outcome V
ask_below s w drops x t scan p r e n None = no_run s
ask_below s w drops x t scan p r e n (Some u) = ask_about s w drops x t scan p r e n u u.stamp

-- At a position stamped e: if nothing older follows, the compaction is done.
abbrev pub walk_on : {V : Type 0} → State V → ℕ → (ℕ → List ℕ → Interval → Bool) → ℕ → ℕ → List ℕ → ℕ → ℕ → ℕ → Option ℕ → Outcome V
walk_on s w drops x t scan p r e None = (done t (length scan) r, ended s w)
walk_on s w drops x t scan p r e (Some n) = ask_below s w drops x t scan p r e n (version (node s n))

abbrev pub compact_step_at : {V : Type 0} → State V → ℕ → (ℕ → List ℕ → Interval → Bool) → Operation → Outcome V
compact_step_at s w drops idle = refuse s OperationStage
compact_step_at s w drops (reading x p) = refuse s OperationStage
compact_step_at s w drops (write_begun x b) = refuse s OperationStage
compact_step_at s w drops (write_looked x b) = refuse s OperationStage
compact_step_at s w drops (write_linked x o) = refuse s OperationStage
compact_step_at s w drops (scanning x t i scan) = scan_slot s w x t i scan (nat_lt i (length s.workers))
compact_step_at s w drops (walking x t scan p r) = stamping s w p (λ v e. walk_on s w drops x t scan p r e v.older)

-- Compact step with a judge that drops so.
abbrev pub compact_step : {V : Type 0} → State V → ℕ → (ℕ → List ℕ → Interval → Bool) → Outcome V
compact_step s w drops = known s w (compact_step_at s w drops (worker s w).operation)
