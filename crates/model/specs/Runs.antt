-- Runs: one call after the other, from a state on.
use Rattle.std.specs.Prelude.{List, [], ◌∷◌}
use Rattle.model.specs.State.{State}
use Rattle.model.specs.Answers.{Answer}
use Rattle.model.specs.Calls.{Call, step}

-- The state to which a list of calls leads.
unfoldable pub run : {V : Type 0} → State V → List (Call V) → State V
run s [] = s
run s (c ∷ rest) = run (step s c).1 rest

-- Each call with its answer.
unfoldable pub log : {V : Type 0} → State V → List (Call V) → List (Call V × Answer V)
log s [] = []
log s (c ∷ rest) = (c, (step s c).0) ∷ log (step s c).1 rest
