-- The judges that compaction steps bring are those of the code.
use Rattle.std.specs.Prelude.{◌≡◌, ℕ, true, List}
use Rattle.stamps.specs.declared.Interval.{Interval}
use Rattle.judges.specs.Kinds.{Kind, prepared}
use Rattle.model.specs.Judging.{Judge, Thorough}

-- A judge by its kind and what it means. A judge of the rules drops just what a judge with the meaning m drops once it
-- is cleared at the cutoff and told the scan; and it is thorough with the places of its kind if m is.
abbrev pub IsAJudge : {M : Type 0} → Kind M → M → Type 0
IsAJudge kind m =
    (judge : Judge)
    × ((t : ℕ) (scan : List ℕ) (i : Interval) → judge.drops t scan i ≡ kind.drops (prepared kind m t scan) i)
    × (kind.thorough m ≡ true → Thorough kind.places judge)
