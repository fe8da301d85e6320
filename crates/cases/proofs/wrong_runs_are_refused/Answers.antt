-- Which lemma of proofs/WrongStores proves which clause: plainer as a table than as one line of paths.
use Rattle.cases.proofs.WrongStores.{drops_needed_refused, skips_slot_refused, reads_head_refused, frees_early_refused}
use Rattle.cases.proofs.wrong_runs_are_refused.Goals as goal

pub returns : goal.returns
returns c =
    record {
      needed = drops_needed_refused;
      early = skips_slot_refused;
      newest = reads_head_refused;
      freed = frees_early_refused;
    }
