-- One order: the opened sessions and the stamped writes of a history stand in an order that agrees with time and
-- explains what reads and looks answered.
use Rattle.std.specs.Prelude.{◌≡◌, ℕ, suc, ◌<◌, ◌≤◌, if◌then◌else◌, ◌≢◌, List, [], ◌∷◌, ◌++◌, Some, None, Option, ◌==◌}
use Rattle.model.specs.State.{Version, head, node, version}
use Rattle.model.specs.Answers.{granted, number, value}
use Rattle.model.specs.Calls.{ReadBegin, ReadStep, WriteBegin, WriteLook, WriteOffer, WriteStamp}
use Rattle.laws.specs.Histories.{History, Latest, Was, Noted, Opens, ReadBegun, WriteBegun}

-- What stands in the order: a session, by the place of the Advance that opened it; a write, by the place of its
-- Write begin, with its cell and the value of its linked offer.
pub data Item (V : Type 0) : Type 0 where
  session : (opened_at : ℕ) → Item V
  write : (begun_at cell : ℕ) → V → Item V

abbrev pub place : {V : Type 0} → Item V → ℕ
place (session i) = i
place (write i x v) = i

-- A store of single values: one value for each cell. A write sets its cell; a session changes nothing.
abbrev pub put : {V : Type 0} → (ℕ → V) → ℕ → V → ℕ → V
put values x v y = if x == y then v else values y

abbrev pub fed : {V : Type 0} → (ℕ → V) → List (Item V) → ℕ → V
fed values [] = values
fed values (session i ∷ rest) = fed values rest
fed values (write i x v ∷ rest) = fed (put values x v) rest

-- A node holds a version without a stamp; a version with one.
abbrev pub Unstamped : {V : Type 0} → Option (Version V) → Type 0
Unstamped None = ⊥
Unstamped (Some v) = v.stamp ≡ None

abbrev pub HasStamp : {V : Type 0} → Option (Version V) → Type 0
HasStamp None = ⊥
HasStamp (Some v) = v.stamp ≢ None

-- In a list, a stands before b.
abbrev pub Before : {V : Type 0} → Item V → Item V → List (Item V) → Type 0
Before {V} a b o = (p q r : List (Item V)) × (o ≡ p ++ a ∷ (q ++ b ∷ r))

module _ {V : Type 0} (h : History V) where
  -- A read of the session opened at place i answered v for cell x. A read begins only in an open session, so its
  -- session is the one that its worker opened latest.
  pub record Reads (i x : ℕ) (v : V) : Type 0 where
    pub by : ℕ
    pub begun_at : ℕ
    pub answered_at : ℕ
    pub in_session : Latest (Opens h by) i begun_at
    pub begins : Was h begun_at (ReadBegin by x) granted
    pub of_read : Latest (ReadBegun h by) begun_at answered_at
    pub answers : Was h answered_at (ReadStep by) (value v)

  -- The look of the write begun at place i answered v.
  pub record Looks (i : ℕ) (v : V) : Type 0 where
    pub by : ℕ
    pub answered_at : ℕ
    pub of_write : Latest (WriteBegun h by) i answered_at
    pub answers : Was h answered_at (WriteLook by) (value v)

  -- The write begun at place i linked v in cell x, and a step gave its version a stamp: a step of its own worker or of
  -- another, before or after the write was abandoned. Its version is in the node that is the cell's head right after
  -- the linked offer.
  pub record Stamped (i x : ℕ) (v : V) : Type 0 where
    pub by : ℕ
    pub told : ℕ
    pub linked_at : ℕ
    pub given_at : ℕ
    pub own : ℕ
    pub begins : Was h i (WriteBegin by x) granted
    pub of_write : Latest (WriteBegun h by) i linked_at
    pub links : Was h linked_at (WriteOffer by v told) granted
    pub is_head : head (h.at (suc linked_at)) x ≡ own
    pub later : linked_at < given_at
    pub waits : (m : ℕ) → linked_at < m → m ≤ given_at → Unstamped (version (node (h.at m) own))
    pub gets : HasStamp (version (node (h.at (suc given_at)) own))

  -- What has a place in the order.
  abbrev pub Happened : Item V → Type 0
  Happened (session i) = (w : ℕ) × Opens h w i
  Happened (write i x v) = Stamped i x v

  -- A session begins at its worker's last granted Note and ends at the Advance that opened it: it stands in the order
  -- by its opening. A write begins at its Write begin and ends when its stamp is answered; one that was abandoned
  -- never ends, and may still stand in the order.
  abbrev pub Begins : Item V → ℕ → Type 0
  Begins (session i) b = (w : ℕ) × Opens h w i × Latest (Noted h w) b i
  Begins (write i x v) b = b ≡ i

  abbrev pub Ends : Item V → ℕ → Type 0
  Ends (session i) e = e ≡ i
  Ends (write i x v) e = (w t : ℕ) × Latest (WriteBegun h w) i e × Was h e (WriteStamp w) (number t)

  -- The order o of a history in which every cell has the value `first` at the start.
  pub record Ordered (first : V) (o : List (Item V)) : Type 0 where
    -- all that happened stands in it, nothing else does, and each once
    pub all : (a : Item V) → Happened a → (p q : List (Item V)) × (o ≡ p ++ a ∷ q)
    pub only : (p q : List (Item V)) (a : Item V) → o ≡ p ++ a ∷ q → Happened a
    pub once : (a b : Item V) → Before a b o → place a ≢ place b
    -- what ended before another began comes first
    pub in_time : (a b : Item V) (e f : ℕ) → Happened a → Happened b → Ends a e → Begins b f → e < f → Before a b o
    -- at a session's turn the store of single values holds what its reads answered ..
    pub reads :
        (p q : List (Item V)) (i : ℕ) → o ≡ p ++ session i ∷ q → (x : ℕ) (v : V) → Reads i x v → fed (λ y. first) p x ≡ v
    -- .. and just before a write, in its cell, what its look answered
    pub looks :
        (p q : List (Item V)) (i x : ℕ) (u : V) → o ≡ p ++ write i x u ∷ q → (v : V) → Looks i v → fed (λ y. first) p x ≡ v
