-- Which lemma of proofs/Examples proves which clause: plainer as a table than as one line of paths.
use Rattle.cases.proofs.Examples.{abandoned_write_stamped, compaction_done, session_opened_again, write_overtaken, patience_is_sharp, runs_as_written}
use Rattle.cases.proofs.examples_of_runs.Goals as goal

pub returns : goal.returns
returns c =
    record {
      abandoned = abandoned_write_stamped;
      done = compaction_done;
      again = session_opened_again;
      overtaken = write_overtaken;
      patience = patience_is_sharp;
      written = runs_as_written;
    }
