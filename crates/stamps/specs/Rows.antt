-- A row of a few stamps.
use Rattle.std.specs.Prelude.{ℕ, List, take}
use Rattle.stamps.specs.declared.row.Row.{Row}

-- Its stamps are those in its first places.
abbrev pub stamps_in : Row → List ℕ
stamps_in row = take row.count row.places
