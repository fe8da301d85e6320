-- What a judge decides on the case that `why` was asked about.
use Rattle.std.specs.Prelude.{Bool, List, None}
use Rattle.judges.specs.Kinds.{Kind, prepared}
use Rattle.preview.specs.Walk.{walk}
use Rattle.preview.specs.declared.Decision.{Decision}
use Rattle.question.specs.declared.Case.{Case}
use Rattle.stamps.specs.declared.Interval.{Interval}

-- What a judge means once it is prepared for the case's cutoff and open sessions.
abbrev pub prepared_for : {M : Type 0} → Case → Kind M → M → M
prepared_for case kind m = prepared kind m case.cutoff case.sessions.items

-- What is decided on its versions, from the newest down, by a judge that drops such intervals.
abbrev pub decided_on : Case → (Interval → Bool) → List Decision
decided_on case drops = walk drops None case.versions.items

-- What such a judge decides once it is prepared, by its kind and what it meant before.
abbrev pub decided_by : {M : Type 0} → Kind M → M → Case → List Decision
decided_by kind m case = decided_on case (kind.drops (prepared_for case kind m))
