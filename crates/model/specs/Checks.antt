-- What the calls share: the checks that come first, in their order, and the stamping rule.
use Rattle.std.specs.Prelude.{ℕ, if◌then◌else◌, length, Some, None, Option, nat_lt}
use Rattle.values.specs.declared.Refusal.TheVariants.{NoSuchWorker, NoSuchCell, OperationStage}
use Rattle.model.specs.State.{Version, State, worker, node, version, busy}
use Rattle.model.specs.Changes.{with_reading, stamp_given}
use Rattle.model.specs.Answers.{Outcome, refuse, no_run, again}

-- Each check goes on to `go` where it passes.
abbrev pub known : {V : Type 0} → State V → ℕ → Outcome V → Outcome V
known s w go = if nat_lt w (length s.workers) then go else refuse s NoSuchWorker

abbrev pub in_cells : {V : Type 0} → State V → ℕ → Outcome V → Outcome V
in_cells s x go = if nat_lt x (length s.heads) then go else refuse s NoSuchCell

abbrev pub when_idle : {V : Type 0} → State V → ℕ → Outcome V → Outcome V
when_idle s w go = if busy (worker s w).operation then refuse s OperationStage else go

-- The stamping rule, by the version's stamp and the worker's clock reading. An unstamped version: a worker without a
-- clock reading takes the clock as its reading; a worker with one gives it to the version as its stamp. A stamped one:
-- the same step goes on, by `go` from the stamp; every way on drops a clock reading.
abbrev pub stamping_by : {V : Type 0} → State V → ℕ → ℕ → Option ℕ → Option ℕ → (ℕ → Outcome V) → Outcome V
stamping_by s w n None None go = (again, with_reading s w s.clock)
stamping_by s w n None (Some t) go = (again, stamp_given s w n t)
stamping_by s w n (Some t) r go = go t

-- No run has a position, a base or an own version in a node that holds none.
abbrev pub stamping_of : {V : Type 0} → State V → ℕ → ℕ → Option (Version V) → (Version V → ℕ → Outcome V) → Outcome V
stamping_of s w n None go = no_run s
stamping_of s w n (Some v) go = stamping_by s w n v.stamp (worker s w).clock_reading (go v)

-- The stamping rule of worker w at node n.
abbrev pub stamping : {V : Type 0} → State V → ℕ → ℕ → (Version V → ℕ → Outcome V) → Outcome V
stamping s w n go = stamping_of s w n (version (node s n)) go
