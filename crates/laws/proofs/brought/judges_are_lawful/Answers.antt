-- By the law of every prepared judge: it drops only obsolete intervals, and a thorough one with room all of them.
-- The prover does not make up the judge that there is to be.
use Rattle.std.proofs.Common.{refl, ◌∙◌}
use Rattle.judges.proofs.Prepared.{prepared_lawful, prepared_exact}
use Rattle.laws.proofs.brought.judges_are_lawful.Goals as goal

pub returns : goal.returns
returns g c m =
    let laws = g.J.Judge.laws in (
      record { drops = _; lawful = prepared_lawful laws m },
      λ t scan i. refl,
      λ th t scan i lt ls room o. prepared_exact laws m t scan th room i ∙ o,
    )
