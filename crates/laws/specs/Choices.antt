-- Which free node an offer takes does not matter.
use Rattle.std.specs.Prelude.{◌≡◌, List, map}
use Rattle.model.specs.State.{State}
use Rattle.model.specs.Answers.{Answer}
use Rattle.model.specs.Calls.{Call, Note, Publish, Advance, Close, ReadBegin, ReadStep, WriteBegin, WriteLook, WriteOffer, WriteStamp, Abandon, CompactBegin, CompactStep}
use Rattle.model.specs.Making.{counts}
use Rattle.model.specs.Runs.{run, log}

-- A call without the node that an offer is told.
abbrev pub without_node : {V : Type 0} → Call V → Call V
without_node (Note w) = Note w
without_node (Publish w) = Publish w
without_node (Advance w) = Advance w
without_node (Close w) = Close w
without_node (ReadBegin w x) = ReadBegin w x
without_node (ReadStep w) = ReadStep w
without_node (WriteBegin w x) = WriteBegin w x
without_node (WriteLook w) = WriteLook w
without_node (WriteOffer w v n) = WriteOffer w v 0
without_node (WriteStamp w) = WriteStamp w
without_node (Abandon w) = Abandon w
without_node (CompactBegin w x) = CompactBegin w x
without_node (CompactStep w judge) = CompactStep w judge

abbrev pub answers : {V : Type 0} → State V → List (Call V) → List (Answer V)
answers s calls = map (λ entry. entry.1) (log s calls)

-- Two lists of calls that differ only in the nodes that their offers are told: from the same state they are answered
-- alike, and leave as many free, linked and waiting nodes.
abbrev pub ChosenAlike : {V : Type 0} → State V → List (Call V) → List (Call V) → Type 0
ChosenAlike s calls others =
    map without_node calls ≡ map without_node others
    → (answers s calls ≡ answers s others) × (counts (run s calls) ≡ counts (run s others))
