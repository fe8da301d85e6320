-- The small changes of a state that steps are made of.
use Rattle.std.specs.Prelude.{ℕ, suc, Bool, true, false, List, [], ◌∷◌, map, length, set, Some, None, Option, nat_lt}
use Rattle.model.specs.State.{Version, Node, Session, Operation, Worker, State, worker, node, busy, any}
use Rattle.model.specs.State.{free, linked, waiting, idle}

-- One part of the state replaced.
abbrev pub with_clock : {V : Type 0} → State V → ℕ → State V
with_clock s t = record { clock = t; heads = s.heads; workers = s.workers; nodes = s.nodes }

abbrev pub with_head : {V : Type 0} → State V → ℕ → ℕ → State V
with_head s x n = record { clock = s.clock; heads = set s.heads x n; workers = s.workers; nodes = s.nodes }

abbrev pub with_worker : {V : Type 0} → State V → ℕ → Worker → State V
with_worker s w k = record { clock = s.clock; heads = s.heads; workers = set s.workers w k; nodes = s.nodes }

abbrev pub with_nodes : {V : Type 0} → State V → List (Node V) → State V
with_nodes s ns = record { clock = s.clock; heads = s.heads; workers = s.workers; nodes = ns }

-- One part of a worker's record replaced.
abbrev pub with_session : {V : Type 0} → State V → ℕ → Session → State V
with_session s w q =
    with_worker s w (record { session = q; operation = (worker s w).operation; clock_reading = (worker s w).clock_reading })

abbrev pub with_reading : {V : Type 0} → State V → ℕ → ℕ → State V
with_reading s w t =
    with_worker s w (record { session = (worker s w).session; operation = (worker s w).operation; clock_reading = Some t })

-- The worker's operation goes on to a stage, and drops its clock reading if it has one.
abbrev pub with_operation : {V : Type 0} → State V → ℕ → Operation → State V
with_operation s w o = with_worker s w (record { session = (worker s w).session; operation = o; clock_reading = None })

-- A version with a stamp, and a version above another older one.
abbrev pub stamped : {V : Type 0} → Version V → ℕ → Version V
stamped v t = record { value = v.value; stamp = Some t; older = v.older }

abbrev pub above : {V : Type 0} → Version V → Option ℕ → Version V
above v o = record { value = v.value; stamp = v.stamp; older = o }

abbrev pub on_version : {V : Type 0} → (Version V → Version V) → Node V → Node V
on_version f free = free
on_version f (linked v) = linked (f v)
on_version f (waiting v marks) = waiting (f v) marks

-- The version in node n gets the stamp t, the clock reading of worker w, which drops it.
abbrev pub stamp_given : {V : Type 0} → State V → ℕ → ℕ → ℕ → State V
stamp_given s w n t =
    with_operation (with_nodes s (set s.nodes n (on_version (λ v. stamped v t) (node s n)))) w (worker s w).operation

-- Node n, which was free, becomes the head of cell x: value v, unstamped, above the base b.
abbrev pub linked_above : {V : Type 0} → State V → ℕ → ℕ → ℕ → V → State V
linked_above s x n b v =
    with_head (with_nodes s (set s.nodes n (linked (record { value = v; stamp = None; older = Some b })))) x n

-- Node n, right below node p and holding version u, leaves its list: p is now above what was below n, and n waits
-- with a mark for every worker whose operation is under way.
abbrev pub taken_out : {V : Type 0} → State V → ℕ → ℕ → Version V → State V
taken_out s p n u =
    with_nodes s
    (set (set s.nodes p (on_version (λ v. above v u.older) (node s p))) n
    (waiting u (map (λ k. busy k.operation) s.workers)))

-- A waiting node with these marks: it goes on waiting while it has one, and is free without.
abbrev pub waits_or_free : {V : Type 0} → Version V → List Bool → Bool → Node V
waits_or_free v marks true = waiting v marks
waits_or_free v marks false = free

-- The mark of worker w is taken off.
abbrev pub unmark : {V : Type 0} → ℕ → Node V → Node V
unmark w free = free
unmark w (linked v) = linked v
unmark w (waiting v marks) = waits_or_free v (set marks w false) (any (λ mark. mark) (set marks w false))

-- The operation of worker w ends: its mark is taken off every node, and a clock reading is dropped.
abbrev pub ended : {V : Type 0} → State V → ℕ → State V
ended s w = with_operation (with_nodes s (map (unmark w) s.nodes)) w idle

-- Which node a new version takes: the one that is told, if it lies in the table and is free; otherwise the first
-- free one; none where no node is free.
abbrev pub is_free : {V : Type 0} → Node V → Bool
is_free free = true
is_free (linked v) = false
is_free (waiting v marks) = false

abbrev pub one_later : Option ℕ → Option ℕ
one_later None = None
one_later (Some n) = Some (suc n)

abbrev pub first_free : {V : Type 0} → List (Node V) → Option ℕ
first_free [] = None
first_free (free ∷ ns) = Some 0
first_free (linked v ∷ ns) = one_later (first_free ns)
first_free (waiting v marks ∷ ns) = one_later (first_free ns)

abbrev pub told_or_first : {V : Type 0} → List (Node V) → ℕ → Bool → Node V → Option ℕ
told_or_first ns n true free = Some n
told_or_first ns n true (linked v) = first_free ns
told_or_first ns n true (waiting v marks) = first_free ns
told_or_first ns n false x = first_free ns

abbrev pub node_to_take : {V : Type 0} → State V → ℕ → Option ℕ
node_to_take s n = told_or_first s.nodes n (nat_lt n (length s.nodes)) (node s n)
