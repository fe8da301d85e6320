-- Patience: how many steps a read can take.
use Rattle.std.specs.Prelude.{◌≡◌, ℕ, suc, ◌+◌, ◌<◌, ◌≤◌, Bool, true, false, not, ◌&&◌, List, length, drop, Some, count_by, ◌==◌}
use Rattle.model.specs.State.{Version, head}
use Rattle.model.specs.Answers.{Answer, refused, again, overtaken, granted, impossible, number, value, done}
use Rattle.model.specs.Calls.{Call, Note, Publish, Advance, Close, ReadBegin, ReadStep, WriteBegin, WriteLook, WriteOffer, WriteStamp, Abandon, CompactBegin, CompactStep}
use Rattle.laws.specs.Histories.{History, Was}
use Rattle.laws.specs.Space.{Down}

abbrev pub is_refused : {V : Type 0} → Answer V → Bool
is_refused (refused r) = true
is_refused again = false
is_refused overtaken = false
is_refused granted = false
is_refused impossible = false
is_refused (number n) = false
is_refused (value v) = false
is_refused (done t k r) = false

-- A call is a Read step of worker w.
abbrev pub is_read_step : {V : Type 0} → ℕ → Call V → Bool
is_read_step w (Note u) = false
is_read_step w (Publish u) = false
is_read_step w (Advance u) = false
is_read_step w (Close u) = false
is_read_step w (ReadBegin u x) = false
is_read_step w (ReadStep u) = u == w
is_read_step w (WriteBegin u x) = false
is_read_step w (WriteLook u) = false
is_read_step w (WriteOffer u v n) = false
is_read_step w (WriteStamp u) = false
is_read_step w (Abandon u) = false
is_read_step w (CompactBegin u x) = false
is_read_step w (CompactStep u judge) = false

-- A read's own steps are its worker's Read steps that are not refused.
abbrev pub is_own_step : {V : Type 0} → ℕ → Call V × Answer V → Bool
is_own_step w entry = is_read_step w entry.0 && not (is_refused entry.1)

module _ {V : Type 0} (h : History V) where
  -- The read that worker w began at place i was neither answered nor abandoned.
  abbrev pub GoesOn : ℕ → ℕ → Type 0
  GoesOn w i =
      ((j : ℕ) (v : V) → i < j → Was h j (ReadStep w) (value v) → ⊥) × ((j : ℕ) → i < j → Was h j (Abandon w) granted → ⊥)

  -- Such a read of cell x: its steps all answered again, none was refused, and there were at most one more of them than
  -- the cell had versions when the read began.
  pub record Patient (w x i : ℕ) : Type 0 where
    pub versions : List (Version V)
    pub from_head : Down (h.at i) (Some (head (h.at i) x)) versions
    pub never_refused : (j : ℕ) (a : Answer V) → i < j → Was h j (ReadStep w) a → a ≡ again
    pub bounded : count_by (is_own_step w) (drop (suc i) h.entries) ≤ length versions + 1
