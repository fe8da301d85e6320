-- What a thorough judge has been told, what it then drops, and for which stamp it keeps the rest.
use Rattle.std.specs.Prelude.{ℕ, Bool, false, if◌then◌else◌, List, [], length, None, Option, nat_lt}
use Rattle.stamps.specs.Intervals.{obsolete, ends_by, smallest_inside}
use Rattle.stamps.specs.Rising.{insert}
use Rattle.stamps.specs.declared.Interval.{Interval}

-- Nothing, before the first clear. Then the cutoff t and the stamps noted since, without the order in which they
-- came: as a rising list, so that the same notes in another order are the same list. Once told more than it has
-- places for, the cutoff alone.
pub data Told : Type 0 where
  uncleared : Told
  notes : ℕ → List ℕ → Told
  too_many : ℕ → Told

-- Cleared at t, whatever it was told before.
abbrev pub told_cleared : Told → ℕ → Told
told_cleared told t = notes t []

-- Told one stamp more, with a number of places.
abbrev pub told_noted : ℕ → Told → ℕ → Told
told_noted places uncleared a = uncleared
told_noted places (notes t stamps) a = if nat_lt (length stamps) places then notes t (insert a stamps) else too_many t
told_noted places (too_many t) a = too_many t

-- What the list judge and the rising judge drop: exactly the obsolete; nothing before the first clear, and nothing
-- while they were told more than they have places for.
abbrev pub told_drops : Told → Interval → Bool
told_drops uncleared i = false
told_drops (notes t stamps) i = obsolete t stamps i
told_drops (too_many t) i = false

-- The stamp for which an interval is kept: the smallest note inside it, of an interval that ends by the cutoff.
abbrev pub keeping : Told → Interval → Option ℕ
keeping uncleared i = None
keeping (notes t stamps) i = if ends_by t i then smallest_inside stamps i else None
keeping (too_many t) i = None
