-- Check, Make and Counts.
use Rattle.std.specs.Prelude.{ℕ, zero, suc, ◌+◌, ◌-◌, Bool, true, false, if◌then◌else◌, ◌&&◌, List, [], ◌∷◌, ◌++◌, replicate, Some, None, count_by, Option, nat_le}
use Rattle.values.specs.declared.Refusal.{Refusal}
use Rattle.values.specs.declared.Refusal.TheVariants.{BadSizes}
use Rattle.model.specs.State.{Node, State, last_stamp, fresh, free, linked, waiting}
use Rattle.model.specs.Changes.{is_free}

-- 1 to 256 cells, 1 to 16 workers, a table of at least one node more than there are cells and at most 4,096, and a
-- first clock up to the last stamp.
abbrev pub sizes_allowed : (cells workers nodes start : ℕ) → Bool
sizes_allowed cells workers nodes start =
    (nat_le 1 cells && nat_le cells 256) && (nat_le 1 workers && nat_le workers 16) && (nat_le (cells + 1) nodes && nat_le nodes 4096) && nat_le start last_stamp

-- Check: the refusal, if there is one.
abbrev pub check : (cells workers nodes start : ℕ) → Option Refusal
check cells workers nodes start = if sizes_allowed cells workers nodes start then None else Some BadSizes

-- A store without cells, workers and nodes.
abbrev pub no_store : {V : Type 0} → State V
no_store = record { clock = 0; heads = []; workers = []; nodes = [] }

-- i, i + 1, .. , n numbers.
abbrev pub numbers_from : ℕ → ℕ → List ℕ
numbers_from i zero = []
numbers_from i (suc n) = i ∷ numbers_from (suc i) n

abbrev pub first_version : {V : Type 0} → ℕ → V → Node V
first_version start v = linked (record { value = v; stamp = Some start; older = None })

-- By whether the sizes are allowed. Cell x has its one version in node x; the other nodes are free.
abbrev pub made : {V : Type 0} → Bool → ℕ → ℕ → ℕ → ℕ → V → State V
made false cells workers spare start v = no_store
made true cells workers spare start v =
    record {
      clock = start;
      heads = numbers_from 0 cells;
      workers = replicate workers fresh;
      nodes = replicate cells (first_version start v) ++ replicate spare free;
    }

-- Make, over a table of so many nodes.
abbrev pub make : {V : Type 0} → (cells workers nodes start : ℕ) → V → State V
make cells workers nodes start v = made (sizes_allowed cells workers nodes start) cells workers (nodes - cells) start v

abbrev pub is_linked : {V : Type 0} → Node V → Bool
is_linked free = false
is_linked (linked v) = true
is_linked (waiting v marks) = false

abbrev pub is_waiting : {V : Type 0} → Node V → Bool
is_waiting free = false
is_waiting (linked v) = false
is_waiting (waiting v marks) = true

-- Counts: the free nodes, the linked ones, the waiting ones.
abbrev pub counts : {V : Type 0} → State V → ℕ × ℕ × ℕ
counts s = (count_by is_free s.nodes, count_by is_linked s.nodes, count_by is_waiting s.nodes)
