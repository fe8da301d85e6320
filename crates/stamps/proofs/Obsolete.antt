-- What it is to be obsolete, part by part.
use Rattle.std.proofs.Common.{◌≡◌, ℕ, ◌≤◌, true, ◌&&◌, List}
use Rattle.std.proofs.lemmas.Bool.{and_parts, leb-true}
use Rattle.stamps.specs.declared.interval.Interval.{Interval}
use Rattle.stamps.specs.Intervals.{ordered, ends_by, none_inside, obsolete}

-- An obsolete interval is in order, ends by the cutoff, and has no told stamp inside.
pub obsolete_parts : (t : ℕ) (stamps : List ℕ) (i : Interval) → obsolete t stamps i ≡ true → (i.start ≤ i.end) × (i.end ≤ t) × (none_inside stamps i ≡ true)
obsolete_parts t stamps i h =
    let outer = and_parts (ordered i) (ends_by t i && none_inside stamps i) h in
    let inner = and_parts (ends_by t i) (none_inside stamps i) outer.1 in
    (leb-true i.start i.end outer.0, leb-true i.end t inner.0, inner.1)
