-- What is written so far is the text of the stamps so far.
use Rattle.std.proofs.Common.{take}
use Rattle.std.specs.Fmt.{HasWritten, IsPlainFormatter}
use Rattle.why.specs.Wording.{stamps_text}
use Rattle.why.proofs.wording.StampsDisplay.fmt.Given as goal

abbrev pub invariant-loop-stamp : goal.invariant-loop-stamp
invariant-loop-stamp g l =
    IsPlainFormatter l.initial.f → HasWritten g.W.Write.write_str_gives l.initial.f (stamps_text (take l.stamp-index l.self.0.now)) l.f
