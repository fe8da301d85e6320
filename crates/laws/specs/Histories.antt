-- Histories: what the calls of a list answered, and the state before each of them. Calls are told apart by their
-- place in the list, from 0 on.
use Rattle.std.specs.Prelude.{◌≡◌, ℕ, zero, suc, ◌+◌, ◌-◌, ◌<◌, List, take, Some}
use Rattle.std.specs.List.{slice_get}
use Rattle.model.specs.State.{State}
use Rattle.model.specs.Answers.{Answer, granted, number}
use Rattle.model.specs.Calls.{Call, Note, Advance, ReadBegin, WriteBegin, CompactBegin}
use Rattle.model.specs.Runs.{run, log}

-- The calls with their answers, and the state before the call at each place; after the last place, the state at the end.
pub record History (V : Type 0) : Type 0 where
  pub entries : List (Call V × Answer V)
  pub at : ℕ → State V

-- The history of a list of calls from a state on.
abbrev pub history : {V : Type 0} → State V → List (Call V) → History V
history s calls = record { entries = log s calls; at = λ i. run s (take i calls) }

-- i is the latest place before k at which P holds.
abbrev pub Latest : (ℕ → Type 0) → ℕ → ℕ → Type 0
Latest P i k = (i < k) × P i × ((j : ℕ) → i < j → j < k → P j → ⊥)

-- The sum of a number for each place between i and k.
abbrev pub sum_from : (ℕ → ℕ) → ℕ → ℕ → ℕ
sum_from f i zero = 0
sum_from f i (suc n) = f i + sum_from f (suc i) n

abbrev pub sum_between : (ℕ → ℕ) → ℕ → ℕ → ℕ
sum_between f i k = sum_from f (suc i) (k - suc i)

module _ {V : Type 0} (h : History V) where
  -- At place i the call was c, and a its answer.
  abbrev pub Was : ℕ → Call V → Answer V → Type 0
  Was i c a = slice_get h.entries i ≡ Some (c, a)

  -- At place i worker w was granted a Note, opened a session, began a read, a write or a compaction.
  abbrev pub Noted : ℕ → ℕ → Type 0
  Noted w i = (c : ℕ) × Was i (Note w) (number c)

  abbrev pub Opens : ℕ → ℕ → Type 0
  Opens w i = (c : ℕ) × Was i (Advance w) (number c)

  abbrev pub ReadBegun : ℕ → ℕ → Type 0
  ReadBegun w i = (x : ℕ) × Was i (ReadBegin w x) granted

  abbrev pub WriteBegun : ℕ → ℕ → Type 0
  WriteBegun w i = (x : ℕ) × Was i (WriteBegin w x) granted

  abbrev pub CompactBegun : ℕ → ℕ → Type 0
  CompactBegun w i = (x : ℕ) × Was i (CompactBegin w x) granted
