-- What a session reads of a key, how many versions of it are old, and that words tell verdicts.
use Rattle.std.specs.Prelude.{◌≡◌, ℕ, ◌+◌, ◌^◌, ◌<◌, Bool, true, if◌then◌else◌, ◌&&◌, List, [], ◌∷◌, Some, None, Option, All, nat_le}
use Rattle.preview.specs.Verdicts.{verdict_lines}
use Rattle.preview.specs.declared.verdict.Verdict.{Verdict}
use Rattle.preview.specs.declared.verdict.Verdict.TheVariants.{Kept}

-- A session reads the newest version stamped up to its own stamp, from the newest down.
abbrev pub read_at : ℕ → List ℕ → Option ℕ
read_at session [] = None
read_at session (stamp ∷ older) = if nat_le stamp session then Some stamp else read_at session older

-- How many of some versions are stamped up to t.
abbrev pub count_upto : ℕ → List ℕ → ℕ
count_upto t [] = 0
count_upto t (stamp ∷ older) = (if nat_le stamp t then 1 else 0) + count_upto t older

-- A stamp is at least the first of a list, if there is one.
abbrev pub at_least_first : ℕ → List ℕ → Bool
at_least_first a [] = true
at_least_first a (b ∷ rest) = nat_le b a

-- Stamps that never rise going down, as those of a key's versions.
abbrev pub falling : List ℕ → Bool
falling [] = true
falling (a ∷ rest) = at_least_first a rest && falling rest

-- The stamp that a verdict names, if it names one, is of 64 bits, as it is in code.
abbrev pub StampFits : Verdict → Type 0
StampFits (Kept (Some stamp)) = stamp < 2 ^ 64
StampFits verdict = Unit {0}

-- Lines of words tell the verdicts: no two lists of verdicts have the same.
abbrev pub LinesTellVerdicts : Type 0
LinesTellVerdicts = (v w : List Verdict) → All StampFits v → All StampFits w → verdict_lines v ≡ verdict_lines w → v ≡ w
