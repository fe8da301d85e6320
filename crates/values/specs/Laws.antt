-- What the numbers of refusals come to.
use Rattle.std.specs.Prelude.{◌≡◌, ◌⊎◌}
use Rattle.values.specs.Refusals.{number_of, position_of}
use Rattle.values.specs.declared.refusal.Refusal.{Refusal}
use Rattle.values.specs.declared.refusal.Refusal.TheVariants.{BadLine}

-- The one kind of refusal that names a place.
abbrev pub IsBadLine : Refusal → Type 0
IsBadLine (BadLine p) = Unit {0}
IsBadLine r = ⊥

-- No two kinds of refusal share a number: two refusals with one number are the same, or are of that kind.
abbrev pub NumberTellsKind : Type 0
NumberTellsKind = (a b : Refusal) → number_of a ≡ number_of b → (a ≡ b) ⊎ (IsBadLine a × IsBadLine b)

-- So a refusal is known by its number and the place that it names.
abbrev pub KnownByNumber : Type 0
KnownByNumber = (a b : Refusal) → number_of a ≡ number_of b → position_of a ≡ position_of b → a ≡ b
