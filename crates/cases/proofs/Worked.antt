-- The worked cases, computed.
use Rattle.std.proofs.Common.{refl}
use Rattle.model.specs.Calls.{step}
use Rattle.cases.specs.Worked.{WorkedCases}

pub worked_cases : WorkedCases
unfolding step
worked_cases = refl
