-- What is decided, then the walk down the rest, is the whole walk.
use Rattle.std.proofs.Common.{◌≡◌, ◌++◌, drop, None, vec_items}
use Rattle.preview.specs.Walk.{walk}
use Rattle.preview.proofs.decide.Given as goal

abbrev pub invariant-loop-stamp : goal.invariant-loop-stamp
invariant-loop-stamp g l =
    vec_items l.decisions ++ walk (g.J.Judge.kind.drops (g.J.Judge.means l.judge)) l.newer (drop l.stamp-index l.versions)
    ≡ walk (g.J.Judge.kind.drops (g.J.Judge.means l.judge)) None l.versions
