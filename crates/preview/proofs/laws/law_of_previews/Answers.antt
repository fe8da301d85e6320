-- What any prepared judge drops, put to the walk.
-- The prover does not find which of the lemmas on walks to take at what a prepared judge drops.
use Rattle.judges.specs.Kinds.{prepared}
use Rattle.judges.proofs.Prepared.{prepared_lawful, prepared_exact}
use Rattle.preview.proofs.Reading.{reads_same, obsolete_spares}
use Rattle.preview.proofs.Space.{few_left}
use Rattle.preview.proofs.laws.law_of_previews.Goals as goal

pub returns : goal.returns
returns g c =
    let kind = g.J.Judge.kind in
    let laws = g.J.Judge.laws in
    record {
      reads = λ m t sessions versions session told.
          let drops = kind.drops (prepared kind m t sessions) in
          reads_same drops session (obsolete_spares drops t sessions (prepared_lawful laws m t sessions) session told) versions;
      space = λ m t sessions versions th room f.
          few_left (kind.drops (prepared kind m t sessions)) t sessions (prepared_exact laws m t sessions th room) versions f;
    }
