-- The bytes fit, so the tally made is the tally of that number.
-- The prover does not see by itself that the two proofs of the bound are one.
use Rattle.values.proofs.Tallying.{tally_within}
use Rattle.values.proofs.tally.rules.TallyTryFromU64.try_from.Goals as goal

pub returns : goal.returns
returns c = tally_within c.args.bytes _
