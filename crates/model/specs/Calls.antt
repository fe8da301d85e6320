-- The calls as values, and what a call does.
use Rattle.std.specs.Prelude.{ℕ}
use Rattle.model.specs.State.{State}
use Rattle.model.specs.Answers.{Outcome}
use Rattle.model.specs.Judging.{Judge}
use Rattle.model.specs.Sessions as sessions
use Rattle.model.specs.Reads as reads
use Rattle.model.specs.Writes as writes
use Rattle.model.specs.Compactions as compactions

-- Each call names its worker first. An offer is told a node, which it takes if it can; so a list of calls says also
-- which free node each offer takes, and what holds of every list holds of every way of choosing.
pub data Call (V : Type 0) : Type 0 where
  Note Publish Advance Close : (worker : ℕ) → Call V
  ReadBegin : (worker cell : ℕ) → Call V
  ReadStep : (worker : ℕ) → Call V
  WriteBegin : (worker cell : ℕ) → Call V
  WriteLook : (worker : ℕ) → Call V
  WriteOffer : (worker : ℕ) (value : V) (node : ℕ) → Call V
  WriteStamp : (worker : ℕ) → Call V
  Abandon : (worker : ℕ) → Call V
  CompactBegin : (worker cell : ℕ) → Call V
  CompactStep : (worker : ℕ) (judge : Judge) → Call V

-- One undisturbed step.
unfoldable pub step : {V : Type 0} → State V → Call V → Outcome V
step s (Note w) = sessions.note s w
step s (Publish w) = sessions.publish s w
step s (Advance w) = sessions.advance s w
step s (Close w) = sessions.close s w
step s (ReadBegin w x) = reads.read_begin s w x
step s (ReadStep w) = reads.read_step s w
step s (WriteBegin w x) = writes.write_begin s w x
step s (WriteLook w) = writes.write_look s w
step s (WriteOffer w v n) = writes.write_offer s w v n
step s (WriteStamp w) = writes.write_stamp s w
step s (Abandon w) = writes.abandon s w
step s (CompactBegin w x) = compactions.compact_begin s w x
step s (CompactStep w judge) = compactions.compact_step s w judge.drops
