-- Read begin and Read step.
use Rattle.std.specs.Prelude.{ℕ, Bool, true, false, Some, None, Option, nat_le}
use Rattle.values.specs.declared.Refusal.TheVariants.{OperationStage, NoOpenSession}
use Rattle.model.specs.State.{Version, Session, Operation, State, worker, head, none, noted, published, opened}
use Rattle.model.specs.State.{idle, reading, write_begun, write_looked, write_linked, scanning, walking}
use Rattle.model.specs.Changes.{with_operation, ended}
use Rattle.model.specs.Answers.{Outcome, refuse, no_run, again, granted, value}
use Rattle.model.specs.Checks.{known, in_cells, when_idle, stamping}

-- Read begin: the position is the cell's head.
abbrev pub read_begin_at : {V : Type 0} → State V → ℕ → ℕ → Session → Outcome V
read_begin_at s w x none = refuse s NoOpenSession
read_begin_at s w x (noted c) = refuse s NoOpenSession
read_begin_at s w x (published c) = refuse s NoOpenSession
read_begin_at s w x (opened c) = (granted, with_operation s w (reading x (head s x)))

abbrev pub read_begin : {V : Type 0} → State V → ℕ → ℕ → Outcome V
read_begin s w x = known s w (in_cells s x (when_idle s w (read_begin_at s w x (worker s w).session)))

-- The position becomes the next older version. No run reads past the oldest.
abbrev pub read_older : {V : Type 0} → State V → ℕ → ℕ → Option ℕ → Outcome V
read_older s w x None = no_run s
read_older s w x (Some n) = (again, with_operation s w (reading x n))

-- At a stamped version, by whether its stamp is at most the session's: its value is answered and the read ends, or
-- the read goes on below.
abbrev pub read_version : {V : Type 0} → State V → ℕ → ℕ → Version V → Bool → Outcome V
read_version s w x v true = (value v.value, ended s w)
read_version s w x v false = read_older s w x v.older

-- By the session's stage. No run has a read under way whose session is not open.
abbrev pub read_in : {V : Type 0} → State V → ℕ → ℕ → ℕ → Session → Outcome V
read_in s w x p none = no_run s
read_in s w x p (noted c) = no_run s
read_in s w x p (published c) = no_run s
read_in s w x p (opened c) = stamping s w p (λ v t. read_version s w x v (nat_le t c))

abbrev pub read_step_at : {V : Type 0} → State V → ℕ → Operation → Outcome V
read_step_at s w idle = refuse s OperationStage
read_step_at s w (reading x p) = read_in s w x p (worker s w).session
read_step_at s w (write_begun x b) = refuse s OperationStage
read_step_at s w (write_looked x b) = refuse s OperationStage
read_step_at s w (write_linked x o) = refuse s OperationStage
read_step_at s w (scanning x t i scan) = refuse s OperationStage
read_step_at s w (walking x t scan p r) = refuse s OperationStage

abbrev pub read_step : {V : Type 0} → State V → ℕ → Outcome V
read_step s w = known s w (read_step_at s w (worker s w).operation)
