-- What rows keep, and what they answer to one stamp more.
use Rattle.std.specs.Prelude.{ℕ, Bool, List, length, Ok, Err, Result, nat_lt, if◌then◌else◌}
use Rattle.stamps.specs.declared.TheConstants.{MOST_STAMPS}
use Rattle.stamps.specs.declared.kept.Full.{Full}
use Rattle.stamps.specs.declared.list.ListStamps.{ListStamps}
use Rattle.stamps.specs.declared.rising.RisingStamps.{RisingStamps}
use Rattle.stamps.specs.Rows.{stamps_in}

-- The stamps of each kind, in the order of their places.
abbrev pub as_they_came : ListStamps → List ℕ
as_they_came row = stamps_in row.stamps

abbrev pub as_they_rise : RisingStamps → List ℕ
as_they_rise row = stamps_in row.stamps

-- Beside some stamps there is a place for one more.
abbrev pub has_room : List ℕ → Bool
has_room stamps = nat_lt (length stamps) MOST_STAMPS

-- The answer to one more: a row that is full refuses it.
abbrev pub taken_in : List ℕ → Result (Unit {0}) Full
taken_in stamps = if has_room stamps then Ok tt else Err (record {})
