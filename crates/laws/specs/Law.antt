-- The schedule law: what holds of every list of calls from a made store, for every value type, any lawful judges, and
-- every choice of free nodes.
use Rattle.std.specs.Prelude.{◌≡◌, ℕ, List, length}
use Rattle.model.specs.State.{State}
use Rattle.model.specs.Answers.{granted, done}
use Rattle.model.specs.Calls.{Call, ReadBegin, CompactStep}
use Rattle.model.specs.Judging.{Judge}
use Rattle.model.specs.Making.{make}
use Rattle.model.specs.Runs.{run}
use Rattle.laws.specs.Choices.{ChosenAlike}
use Rattle.laws.specs.Conservation.{Conserved, OffersTakeFree, NeverImpossible}
use Rattle.laws.specs.Histories.{history, Was}
use Rattle.laws.specs.OneOrder.{Item, Ordered}
use Rattle.laws.specs.Patience.{GoesOn, Patient}
use Rattle.laws.specs.Space.{Finished}

-- P holds of the first value, the made store and the calls, whatever they are.
abbrev pub InEveryRun : (V : Type 0) → (V → State V → List (Call V) → Type 0) → Type 0
InEveryRun V P =
    (cells workers nodes start : ℕ) (first : V) (calls : List (Call V)) → P first (make cells workers nodes start first) calls

-- The opened sessions and stamped writes have one order that agrees with time and explains every answer.
abbrev pub OneOrder : Type 0 → Type 0
OneOrder V = InEveryRun V (λ first s calls. (o : List (Item V)) × Ordered (history s calls) first o)

-- A compaction that is done answered its cutoff, the full slots it found and the versions it took out; served by thorough
-- judges with a place for each worker, it leaves from the head it took downward at most one version more than it found
-- full slots, of those stamped up to its cutoff.
abbrev pub LittleIsLeft : Type 0 → Type 0
LittleIsLeft V =
    InEveryRun V (λ first s calls. (w k t n r : ℕ) (judge : Judge) → Was (history s calls) k (CompactStep w judge) (done t n r) → Finished (history s calls) w k t n r)

-- A read that is neither answered nor abandoned has had at most one step more than its cell had versions at its begin, and
-- none of them was refused.
abbrev pub ReadsAreShort : Type 0 → Type 0
ReadsAreShort V =
    InEveryRun V (λ first s calls. (w x i : ℕ) → Was (history s calls) i (ReadBegin w x) granted → GoesOn (history s calls) w i → Patient (history s calls) w x i)

-- Every node is accounted for, in a table that stays as long as it was; what an operation can reach is not free; clock and
-- stamps stay in their bounds.
abbrev pub NothingLost : Type 0 → Type 0
NothingLost V = InEveryRun V (λ first s calls. Conserved (run s calls) × (length (run s calls).nodes ≡ length s.nodes))

-- No node is used again while an operation can reach it.
abbrev pub NothingReused : Type 0 → Type 0
NothingReused V = InEveryRun V (λ first s calls. OffersTakeFree (history s calls))

-- What total definitions had to say for situations without meaning is never said in a run.
abbrev pub NothingImpossible : Type 0 → Type 0
NothingImpossible V = InEveryRun V (λ first s calls. NeverImpossible (history s calls))

-- Which free nodes the offers take changes no answer.
abbrev pub ChoiceIsFree : Type 0 → Type 0
ChoiceIsFree V = InEveryRun V (λ first s calls. (others : List (Call V)) → ChosenAlike s calls others)
