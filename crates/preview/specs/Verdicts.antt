-- Decisions in plain words.
use Rattle.std.specs.Prelude.{ℕ, Bool, if◌then◌else◌, List, [], ◌∷◌, ◌++◌, Some, None, Option, codes}
use Rattle.std.specs.Fmt.{decimal}
use Rattle.std.specs.List.{flat_map}
use Rattle.judges.specs.Told.{Told, keeping}
use Rattle.preview.specs.declared.decision.Decision.{Decision}
use Rattle.preview.specs.declared.verdict.Verdict.{Verdict}
use Rattle.preview.specs.declared.verdict.Verdict.TheVariants.{Newest, Dropped, Kept}

-- Of a version below a newer one: dropped, or kept for a session, if one is named.
abbrev pub below_newest : Bool → Option ℕ → Verdict
below_newest dropped session = if dropped then Dropped else Kept session

-- By any judge.
abbrev pub plain_by : Option ℕ → Bool → Verdict
plain_by None dropped = Newest
plain_by (Some newer) dropped = below_newest dropped None

abbrev pub plain_verdict : Decision → Verdict
plain_verdict d = plain_by d.newer d.dropped

-- By a thorough judge, which names the stamp for which it keeps an interval.
abbrev pub named_by : Told → ℕ → Option ℕ → Bool → Verdict
named_by told stamp None dropped = Newest
named_by told stamp (Some newer) dropped = below_newest dropped (keeping told (record { start = stamp; end = newer }))

abbrev pub named_verdict : Told → Decision → Verdict
named_verdict told d = named_by told d.stamp d.newer d.dropped

-- What people read.
abbrev pub verdict_text : Verdict → List ℕ
verdict_text Newest = codes "newest"
verdict_text Dropped = codes "dropped"
verdict_text (Kept (Some stamp)) = codes "kept for " ++ decimal stamp
verdict_text (Kept None) = codes "kept"

-- Verdicts as lines, each in its words: 10 ends a line.
abbrev pub verdict_lines : List Verdict → List ℕ
verdict_lines verdicts = flat_map (λ v. verdict_text v ++ 10 ∷ []) verdicts
