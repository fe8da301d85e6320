-- The list judge is thorough, with its 16 places.
use Rattle.std.proofs.Common.{ℕ, ◌≤◌, refl, ◌∙◌, arith}
use Rattle.stamps.specs.declared.TheConstants.{MOST_STAMPS}
use Rattle.judges.specs.Lawful.{told_laws}
use Rattle.judges.specs.Told.{uncleared}
use Rattle.judges.proofs.Prepared.{prepared_exact}
use Rattle.model.specs.Judging.{Thorough}
use Rattle.cases.specs.Judges.{list_judge}

pub list_judge_thorough : (places : ℕ) → places ≤ 16 → Thorough places list_judge
list_judge_thorough places few t scan i t_small scan_small room obsolete =
    prepared_exact (told_laws MOST_STAMPS) uncleared t scan refl (omega arith) i ∙ obsolete
