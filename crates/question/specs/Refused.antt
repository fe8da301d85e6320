-- Where a line of a question is refused.
use Rattle.std.specs.Prelude.{ℕ, ◌≤◌, List, [], ◌∷◌, Ok, Err, Result, IsSomeAnd}
use Rattle.values.specs.Refusals.{position_of}
use Rattle.values.specs.declared.Position.{Position}
use Rattle.values.specs.declared.Refusal.{Refusal}
use Rattle.values.specs.declared.Refusal.TheVariants.{BadLine}
use Rattle.question.specs.declared.error.CaseError.{CaseError}
use Rattle.question.specs.declared.error.CaseError.TheVariants.{Refused, NoMemory}

-- Line and field count from 1.
abbrev pub bad_line : ℕ → ℕ → Refusal
bad_line line field = BadLine (record { line = line; field = field })

-- The stamp of the first line; where there is none, its field 2 is missing.
abbrev pub only_stamp : List ℕ → Result ℕ Refusal
only_stamp [] = Err (bad_line 1 2)
only_stamp (stamp ∷ rest) = Ok stamp

-- A refusal of some line from `low` to `high`, at one of its fields.
abbrev pub IsWithinLines : ℕ → ℕ → Refusal → Type 0
IsWithinLines low high r = IsSomeAnd (position_of r) (λ (p : Position). (low ≤ p.line) × (p.line ≤ high) × (1 ≤ p.field))

-- An error for want of memory, or such a refusal.
abbrev pub WithinLines : ℕ → ℕ → CaseError → Type 0
WithinLines low high NoMemory = Unit {0}
WithinLines low high (Refused r) = IsWithinLines low high r
