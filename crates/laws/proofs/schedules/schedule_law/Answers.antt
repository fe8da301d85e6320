-- Which law, each of its own file, proves which clause: plainer as a table than as one line of paths.
use Rattle.model.specs.Making.{make}
use Rattle.laws.proofs.Conservation.{conserved_run, offers_take_free, nothing_impossible}
use Rattle.laws.proofs.EveryRun.{one_order}
use Rattle.laws.proofs.Grounding.{choice_is_free}
use Rattle.laws.proofs.Patience.{patient}
use Rattle.laws.proofs.Sizes.{sizes_run}
use Rattle.laws.proofs.Space.{every_finished}
use Rattle.laws.proofs.schedules.schedule_law.Goals as goal

pub returns : goal.returns
returns g c =
    record {
      order = one_order;
      space = every_finished;
      patience = patient;
      nodes = λ cells workers nodes start first calls.
          (conserved_run cells workers nodes start first calls, (sizes_run (make cells workers nodes start first) calls).nodes_same);
      reuse = offers_take_free;
      possible = nothing_impossible;
      choice = choice_is_free;
    }
