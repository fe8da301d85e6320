-- The state of a store, as plain values: the clock, the head of each cell, a record for each worker, the nodes.
use Rattle.std.specs.Prelude.{ℕ, ◌^◌, Bool, true, false, ◌||◌, List, [], ◌∷◌, Some, None, Option, ◌==◌, slice_index, slice_index_or}

-- A stamp is a number up to this one; the clock is a stamp.
abbrev pub last_stamp : ℕ
last_stamp = 2 ^ 40

-- A value, its stamp if it has one, and the node of the next older version if there is one.
pub record Version (V : Type 0) : Type 0 where
  pub value : V
  pub stamp : Option ℕ
  pub older : Option ℕ

-- A node is free; or its version is linked into the list of a cell; or its version was taken out and waits, with a
-- mark (true) for each worker whose operation may still come by.
pub data Node (V : Type 0) : Type 0 where
  free : Node V
  linked : Version V → Node V
  waiting : Version V → (marks : List Bool) → Node V

-- The stages of a session: none, then noted, published and open at a stamp.
pub data Session : Type 0 where
  none : Session
  noted published opened : (stamp : ℕ) → Session

-- The stages of an operation. A read has its position; a write the base that it found, then its own version; a
-- compaction first reads the slots and then walks down the list. Positions, bases and own versions are nodes.
pub data Operation : Type 0 where
  idle : Operation
  reading : (cell position : ℕ) → Operation
  write_begun write_looked : (cell base : ℕ) → Operation
  write_linked : (cell own : ℕ) → Operation
  scanning : (cell cutoff next_slot : ℕ) (scan : List ℕ) → Operation
  walking : (cell cutoff : ℕ) (scan : List ℕ) (position taken_out : ℕ) → Operation

-- A worker's record. The clock reading is one that the worker took for an unstamped version and has not used yet.
pub record Worker : Type 0 where
  pub session : Session
  pub operation : Operation
  pub clock_reading : Option ℕ

pub record State (V : Type 0) : Type 0 where
  pub clock : ℕ
  pub heads : List ℕ
  pub workers : List Worker
  pub nodes : List (Node V)

-- A worker at the start.
abbrev pub fresh : Worker
fresh = record { session = none; operation = idle; clock_reading = None }

-- Looking things up by their numbers. Past the end there is a fresh worker, and a free node.
abbrev pub worker : {V : Type 0} → State V → ℕ → Worker
worker s w = slice_index_or s.workers w fresh

abbrev pub head : {V : Type 0} → State V → ℕ → ℕ
head s x = slice_index s.heads x

abbrev pub node : {V : Type 0} → State V → ℕ → Node V
node s n = slice_index_or s.nodes n free

-- The version that a node holds.
abbrev pub version : {V : Type 0} → Node V → Option (Version V)
version free = None
version (linked v) = Some v
version (waiting v marks) = Some v

-- The slot shows the session's stamp from its publishing on.
abbrev pub slot : Session → Option ℕ
slot none = None
slot (noted c) = None
slot (published c) = Some c
slot (opened c) = Some c

-- An operation is under way.
abbrev pub busy : Operation → Bool
busy idle = false
busy (reading x p) = true
busy (write_begun x b) = true
busy (write_looked x b) = true
busy (write_linked x o) = true
busy (scanning x t i scan) = true
busy (walking x t scan p r) = true

abbrev pub is_reading : Operation → Bool
is_reading idle = false
is_reading (reading x p) = true
is_reading (write_begun x b) = false
is_reading (write_looked x b) = false
is_reading (write_linked x o) = false
is_reading (scanning x t i scan) = false
is_reading (walking x t scan p r) = false

-- It is a compaction of cell y.
abbrev pub compacts : ℕ → Operation → Bool
compacts y idle = false
compacts y (reading x p) = false
compacts y (write_begun x b) = false
compacts y (write_looked x b) = false
compacts y (write_linked x o) = false
compacts y (scanning x t i scan) = x == y
compacts y (walking x t scan p r) = x == y

-- Some element passes a test.
abbrev pub any : {A : Type 0} → (A → Bool) → List A → Bool
any test [] = false
any test (a ∷ rest) = test a || any test rest
