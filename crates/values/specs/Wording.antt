-- What people read of a refusal.
use Rattle.std.specs.Prelude.{ℕ, List, ◌++◌, Some, None, Option, codes}
use Rattle.std.specs.Fmt.{decimal}
use Rattle.values.specs.Refusals.{number_of, position_of}
use Rattle.values.specs.declared.refusal.Position.{Position}
use Rattle.values.specs.declared.refusal.Refusal.{Refusal}

abbrev pub position_text : Position → List ℕ
position_text p = codes "line " ++ decimal p.line ++ codes ", field " ++ decimal p.field

-- The number, and the place where the refusal names one.
abbrev pub numbered_text : ℕ → Option Position → List ℕ
numbered_text number None = codes "refused " ++ decimal number
numbered_text number (Some p) = codes "refused " ++ decimal number ++ codes ": " ++ position_text p

abbrev pub refusal_text : Refusal → List ℕ
refusal_text r = numbered_text (number_of r) (position_of r)
