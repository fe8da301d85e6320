-- What `why` is about to print of one judge.
use Rattle.std.specs.Prelude.{◌≡◌, ℕ, true, List, [], ◌∷◌, map, string_bytes, codes, None}
use Rattle.judges.specs.Kinds.{Kind, limit_kind, told_kind, held_kind}
use Rattle.judges.specs.Told.{uncleared}
use Rattle.stamps.specs.declared.TheConstants.{MOST_STAMPS}
use Rattle.question.specs.declared.Case.{Case}
use Rattle.preview.specs.Verdicts.{plain_verdict, named_verdict, verdict_lines}
use Rattle.preview.specs.Walk.{left}
use Rattle.preview.specs.declared.Decision.{Decision}
use Rattle.preview.specs.declared.Verdict.{Verdict}
use Rattle.why.specs.Decisions.{prepared_for, decided_by}
use Rattle.why.specs.declared.report.Column.{Column}

-- Its name, each decision in the words of a verdict, a line for each, and what the decisions leave.
pub record IsColumn (column : Column) (judge : List ℕ) (verdict : Decision → Verdict) (decisions : List Decision) : Type 0 where
  pub named : column.judge.now ≡ judge
  pub worded : string_bytes column.words ≡ verdict_lines (map verdict decisions)
  pub leaves : column.left.items ≡ left decisions

-- By a judge that names no stamps, of some kind and meaning.
abbrev pub IsPlain : {M : Type 0} → Column → List ℕ → Kind M → M → Case → Type 0
IsPlain column judge kind m case = IsColumn column judge plain_verdict (decided_by kind m case)

-- By one that names the stamp for which it keeps a version.
abbrev pub IsNamed : {M : Type 0} → Column → List ℕ → Kind M → M → Case → Type 0
IsNamed column judge kind m case = IsColumn column judge (named_verdict (kind.told (prepared_for case kind m))) (decided_by kind m case)

-- The columns of an answer: an oldest judge, a list judge, a rising judge, and a rising judge that is held back, each new.
abbrev pub AreColumns : List Column → Case → Type 0
AreColumns (oldest ∷ list ∷ rising ∷ held ∷ []) case =
    IsPlain oldest (codes "oldest") limit_kind None case
    × IsNamed list (codes "list") (told_kind MOST_STAMPS) uncleared case
    × IsNamed rising (codes "rising") (told_kind MOST_STAMPS) uncleared case
    × IsPlain held (codes "held") (held_kind (told_kind MOST_STAMPS)) (record { on = true; below = uncleared }) case
AreColumns columns case = ⊥
