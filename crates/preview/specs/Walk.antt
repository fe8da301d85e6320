-- Compaction's walk down the versions of one key, by their stamps.
use Rattle.std.specs.Prelude.{ℕ, Bool, false, if◌then◌else◌, List, [], ◌∷◌, Some, None, Option}
use Rattle.stamps.specs.declared.Interval.{Interval}
use Rattle.preview.specs.declared.decision.Decision.{Decision}

-- The newest version stays. Any other goes where the judge drops the interval from its own stamp up to that of the
-- next newer version that stays.
abbrev pub goes : (Interval → Bool) → ℕ → Option ℕ → Bool
goes drops stamp None = false
goes drops stamp (Some newer) = drops (record { start = stamp; end = newer })

abbrev pub decided : (Interval → Bool) → ℕ → Option ℕ → Decision
decided drops stamp newer = record { stamp = stamp; newer = newer; dropped = goes drops stamp newer }

-- The interval that a judge is asked about; none for the newest version.
abbrev pub interval_from : ℕ → Option ℕ → Option Interval
interval_from stamp None = None
interval_from stamp (Some newer) = Some (record { start = stamp; end = newer })

abbrev pub asked_about : Decision → Option Interval
asked_about d = interval_from d.stamp d.newer

-- For the version below: a dropped version leaves the list, so the next newer one that stays is still the one above.
abbrev pub newer_below : Decision → Option ℕ
newer_below d = if d.dropped then d.newer else Some d.stamp

abbrev pub walk : (Interval → Bool) → Option ℕ → List ℕ → List Decision
walk drops newer [] = []
walk drops newer (stamp ∷ older) = decided drops stamp newer ∷ walk drops (newer_below (decided drops stamp newer)) older

-- The stamps of the versions that stay.
abbrev pub left : List Decision → List ℕ
left [] = []
left (d ∷ rest) = if d.dropped then left rest else d.stamp ∷ left rest
