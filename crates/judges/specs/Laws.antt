-- What the definitions come to, in words that do not repeat them.
use Rattle.std.specs.Prelude.{◌≡◌, ℕ, min, Bool, true, false, List, [], ◌∷◌, map, is_some, Some, None, Option}
use Rattle.stamps.specs.declared.Interval.{Interval}
use Rattle.stamps.specs.declared.TheConstants.{MOST_STAMPS}
use Rattle.stamps.specs.Intervals.{ordered, ends_by, needed}
use Rattle.judges.specs.Kinds.{limit_kind, told_kind, prepared}
use Rattle.judges.specs.Told.{Told, uncleared, notes, told_noted, told_drops, keeping}

-- An interval with start ≤ end ≤ t is needed exactly where a stamp can be named for which it is kept.
abbrev pub KeptForAStamp : Type 0
KeptForAStamp =
    (t : ℕ) (stamps : List ℕ) (i : Interval) → ordered i ≡ true → ends_by t i ≡ true → needed t stamps i ≡ is_some (keeping (notes t stamps) i)

-- Two notes may come in either order.
abbrev pub NotesUnordered : Type 0
NotesUnordered =
    (places : ℕ) (m : Told) (a b : ℕ) → told_noted places (told_noted places m a) b ≡ told_noted places (told_noted places m b) a

-- The smallest of a stamp and those of a list.
abbrev pub smallest_of : ℕ → List ℕ → ℕ
smallest_of t [] = t
smallest_of t (a ∷ rest) = min a (smallest_of t rest)

-- The limit of a prepared oldest judge is the smallest of the cutoff and the notes.
abbrev pub LimitIsSmallest : Type 0
LimitIsSmallest = (m : Option ℕ) (t : ℕ) (stamps : List ℕ) → prepared limit_kind m t stamps ≡ Some (smallest_of t stamps)

-- Worked values: a thorough judge that was cleared at 5 and told 3. Each row has an interval, whether
-- it is dropped, and the stamp for which it is kept.
pub record Worked : Type 0 where
  pub interval : Interval
  pub dropped : Bool
  pub kept_for : Option ℕ

abbrev pub row : ℕ → ℕ → Bool → Option ℕ → Worked
row s e dropped kept_for = record { interval = record { start = s; end = e }; dropped = dropped; kept_for = kept_for }

abbrev pub worked_table : List Worked
worked_table =
    row 2 3 true None
    ∷ row 4 5 true None
    ∷ row 5 5 true None
    ∷ row 3 5 false (Some 3)
    ∷ row 3 6 false None
    ∷ row 6 6 false None
    ∷ []

abbrev pub worked_told : Told
worked_told = prepared (told_kind MOST_STAMPS) uncleared 5 (3 ∷ [])

abbrev pub WorkedValues : Type 0
WorkedValues =
    map (λ r. row r.interval.start r.interval.end (told_drops worked_told r.interval) (keeping worked_told r.interval)) worked_table
    ≡ worked_table
