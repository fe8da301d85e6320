-- The judges of the cases: a new list judge and a new oldest judge, by what they mean once they are prepared.
use Rattle.std.specs.Prelude.{None}
use Rattle.stamps.specs.declared.TheConstants.{MOST_STAMPS}
use Rattle.judges.proofs.Prepared.{prepared_lawful}
use Rattle.judges.specs.Kinds.{told_kind, limit_kind, prepared}
use Rattle.judges.specs.Lawful.{told_laws, limit_laws}
use Rattle.judges.specs.Told.{uncleared}
use Rattle.model.specs.Judging.{Judge}

-- The list judge, which has 16 places.
abbrev pub list_judge : Judge
list_judge =
    let kind = told_kind MOST_STAMPS in
    record {
      drops = λ t scan i. kind.drops (prepared kind uncleared t scan) i;
      lawful = prepared_lawful (told_laws MOST_STAMPS) uncleared;
    }

abbrev pub oldest_judge : Judge
oldest_judge =
    record {
      drops = λ t scan i. limit_kind.drops (prepared limit_kind None t scan) i;
      lawful = prepared_lawful limit_laws None;
    }
