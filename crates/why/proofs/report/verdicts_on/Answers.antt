-- Each decision is given its verdict once, in order.
-- The prover does not try a function that a clause ranges over.
use Rattle.std.proofs.Common.{rules}
use Rattle.std.proofs.lemmas.Iterator.{items_from_collect, YieldsList-from_slice, YieldsList-from_map}
use Rattle.why.proofs.report.verdicts_on.Goals as goal

pub returns : goal.returns
returns g c f is_f =
    items_from_collect _ c.collect.ensures.ran (YieldsList-from_map _ f (YieldsList-from_slice c.args.decisions.now cc) c.map-verdicts.ensures.closure (λ x r q k. search (rules, is_f)))
