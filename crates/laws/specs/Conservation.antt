-- Nothing is lost or invented: where the nodes are, what an operation can still reach, and what no run comes to.
use Rattle.std.specs.Prelude.{◌≡◌, ℕ, suc, ◌+◌, ◌<◌, ◌≤◌, Bool, true, false, List, length, Some, None, Option, slice_index_or}
use Rattle.model.specs.State.{last_stamp, Version, Operation, State, node, worker, head, version, busy, waiting, idle, reading, write_begun, write_looked, write_linked, scanning, walking}
use Rattle.model.specs.Changes.{is_free}
use Rattle.model.specs.Making.{is_linked, counts}
use Rattle.model.specs.Answers.{granted, impossible}
use Rattle.model.specs.Calls.{Call, WriteOffer}
use Rattle.laws.specs.Histories.{History, Was}

-- A node is in the list of cell x: it is the head, or right below a node that is in the list.
pub data InList {V : Type 0} (s : State V) (x : ℕ) : ℕ → Type 0 where
  is_head : InList s x (head s x)
  is_below : {n m : ℕ} (v : Version V) → InList s x n → version (node s n) ≡ Some v → v.older ≡ Some m → InList s x m

-- The node at which an operation stands: its position, its base, or its own version.
abbrev pub stands_at : Operation → Option ℕ
stands_at idle = None
stands_at (reading x p) = Some p
stands_at (write_begun x b) = Some b
stands_at (write_looked x b) = Some b
stands_at (write_linked x o) = Some o
stands_at (scanning x t i scan) = None
stands_at (walking x t scan p r) = Some p

-- An operation can reach a node: it stands there, or the node is right below one that it can reach.
pub data CanReach {V : Type 0} (s : State V) (o : Operation) : ℕ → Type 0 where
  stands : {n : ℕ} → stands_at o ≡ Some n → CanReach s o n
  goes_down : {n m : ℕ} (v : Version V) → CanReach s o n → version (node s n) ≡ Some v → v.older ≡ Some m → CanReach s o m

pub record Conserved {V : Type 0} (s : State V) : Type 0 where
  -- free, linked and waiting nodes add up to the table
  pub counted : (counts s).0 + (counts s).1 + (counts s).2 ≡ length s.nodes
  -- the linked nodes are those in the cells' lists, each in one
  pub linked_listed : (n : ℕ) → is_linked (node s n) ≡ true → (x : ℕ) × (x < length s.heads) × InList s x n
  pub listed_linked : (x n : ℕ) → x < length s.heads → InList s x n → is_linked (node s n) ≡ true
  pub one_list : (x y n : ℕ) → x < length s.heads → y < length s.heads → InList s x n → InList s y n → x ≡ y
  -- what an operation can reach is not free
  pub reached_held : (u n : ℕ) → CanReach s (worker s u).operation n → is_free (node s n) ≡ false
  -- a waiting node bears the mark of a worker whose operation is under way
  pub waits_for :
      (n : ℕ) (v : Version V) (marks : List Bool) → node s n ≡ waiting v marks
      → (u : ℕ) × (slice_index_or marks u false ≡ true) × (busy (worker s u).operation ≡ true)
  -- the clock is a stamp, and no version has a stamp above the clock
  pub clock_within : s.clock ≤ last_stamp
  pub stamps_within : (n t : ℕ) (v : Version V) → version (node s n) ≡ Some v → v.stamp ≡ Some t → t ≤ s.clock

module _ {V : Type 0} (h : History V) where
  -- A linked offer makes a node the head of a cell that was free, and that no operation could reach.
  abbrev pub OffersTakeFree : Type 0
  OffersTakeFree =
      (i w told : ℕ) (v : V) → Was h i (WriteOffer w v told) granted
      → (x : ℕ) × (is_free (node (h.at i) (head (h.at (suc i)) x)) ≡ true)
      × ((u : ℕ) → CanReach (h.at i) (worker (h.at i) u).operation (head (h.at (suc i)) x) → ⊥)

  -- No call gets the answer that stands where no run comes.
  abbrev pub NeverImpossible : Type 0
  NeverImpossible = (i : ℕ) (c : Call V) → Was h i c impossible → ⊥
