-- Write begin, Write look, Write offer, Write stamp, and Abandon.
use Rattle.std.specs.Prelude.{ℕ, Bool, true, false, Some, None, Option, ◌==◌}
use Rattle.values.specs.declared.Refusal.TheVariants.{OperationStage, NoFreeNode}
use Rattle.model.specs.State.{Operation, State, worker, head, busy}
use Rattle.model.specs.State.{idle, reading, write_begun, write_looked, write_linked, scanning, walking}
use Rattle.model.specs.Changes.{with_operation, ended, linked_above, node_to_take}
use Rattle.model.specs.Answers.{Outcome, refuse, overtaken, granted, number, value}
use Rattle.model.specs.Checks.{known, in_cells, when_idle, stamping}

-- Write begin: the base is the cell's head.
abbrev pub write_begin : {V : Type 0} → State V → ℕ → ℕ → Outcome V
write_begin s w x = known s w (in_cells s x (when_idle s w (granted, with_operation s w (write_begun x (head s x)))))

-- Write look: once the base is stamped, its value is answered.
abbrev pub write_look_at : {V : Type 0} → State V → ℕ → Operation → Outcome V
write_look_at s w idle = refuse s OperationStage
write_look_at s w (reading x p) = refuse s OperationStage
write_look_at s w (write_begun x b) = stamping s w b (λ v t. (value v.value, with_operation s w (write_looked x b)))
write_look_at s w (write_looked x b) = refuse s OperationStage
write_look_at s w (write_linked x o) = refuse s OperationStage
write_look_at s w (scanning x t i scan) = refuse s OperationStage
write_look_at s w (walking x t scan p r) = refuse s OperationStage

abbrev pub write_look : {V : Type 0} → State V → ℕ → Outcome V
write_look s w = known s w (write_look_at s w (worker s w).operation)

-- Write offer of value v, told the node n. By the node to take: it becomes the cell's new head, above the base.
abbrev pub offer_into : {V : Type 0} → State V → ℕ → ℕ → ℕ → V → Option ℕ → Outcome V
offer_into s w x b v None = refuse s NoFreeNode
offer_into s w x b v (Some n) = (granted, with_operation (linked_above s x n b v) w (write_linked x n))

-- By whether the base still is the head; otherwise the write is overtaken and ends.
abbrev pub offer_on : {V : Type 0} → State V → ℕ → ℕ → ℕ → V → ℕ → Bool → Outcome V
offer_on s w x b v n true = offer_into s w x b v (node_to_take s n)
offer_on s w x b v n false = (overtaken, ended s w)

abbrev pub write_offer_at : {V : Type 0} → State V → ℕ → V → ℕ → Operation → Outcome V
write_offer_at s w v n idle = refuse s OperationStage
write_offer_at s w v n (reading x p) = refuse s OperationStage
write_offer_at s w v n (write_begun x b) = refuse s OperationStage
write_offer_at s w v n (write_looked x b) = offer_on s w x b v n (head s x == b)
write_offer_at s w v n (write_linked x o) = refuse s OperationStage
write_offer_at s w v n (scanning x t i scan) = refuse s OperationStage
write_offer_at s w v n (walking x t scan p r) = refuse s OperationStage

abbrev pub write_offer : {V : Type 0} → State V → ℕ → V → ℕ → Outcome V
write_offer s w v n = known s w (write_offer_at s w v n (worker s w).operation)

-- Write stamp: once the own version is stamped, its stamp is answered and the write ends.
abbrev pub write_stamp_at : {V : Type 0} → State V → ℕ → Operation → Outcome V
write_stamp_at s w idle = refuse s OperationStage
write_stamp_at s w (reading x p) = refuse s OperationStage
write_stamp_at s w (write_begun x b) = refuse s OperationStage
write_stamp_at s w (write_looked x b) = refuse s OperationStage
write_stamp_at s w (write_linked x o) = stamping s w o (λ v t. (number t, ended s w))
write_stamp_at s w (scanning x t i scan) = refuse s OperationStage
write_stamp_at s w (walking x t scan p r) = refuse s OperationStage

abbrev pub write_stamp : {V : Type 0} → State V → ℕ → Outcome V
write_stamp s w = known s w (write_stamp_at s w (worker s w).operation)

-- Abandon, by whether an operation is under way: it ends. A linked version stays, and the session is not touched.
abbrev pub abandon_at : {V : Type 0} → State V → ℕ → Bool → Outcome V
abandon_at s w true = (granted, ended s w)
abandon_at s w false = refuse s OperationStage

abbrev pub abandon : {V : Type 0} → State V → ℕ → Outcome V
abandon s w = known s w (abandon_at s w (busy (worker s w).operation))
