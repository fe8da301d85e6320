-- What is still to be noted, noted to the judge as it is, gives what all notes give to the judge at the start.
use Rattle.std.proofs.Common.{◌≡◌, drop}
use Rattle.judges.specs.Kinds.{noted_all}
use Rattle.judges.proofs.judge.note_all.Given as goal

abbrev pub invariant-loop-stamp : goal.invariant-loop-stamp
invariant-loop-stamp g l =
    noted_all g.J.Judge.kind (g.J.Judge.means l.judge) (drop l.stamp-index l.scan)
    ≡ noted_all g.J.Judge.kind (g.J.Judge.means l.initial.judge) l.scan
