-- Examples of runs: what the laws speak of does happen, and the bound of patience is attained.
use Rattle.std.specs.Prelude.{◌≡◌, ℕ, ◌+◌, List, [], ◌∷◌, ◌++◌, map, length, drop, Some, None, count_by}
use Rattle.model.specs.Answers.{granted, overtaken, number, value, done}
use Rattle.model.specs.Calls.{Advance, Close, ReadBegin, WriteBegin, WriteLook, WriteOffer, Abandon, CompactBegin, CompactStep}
use Rattle.model.specs.State.{Version, head}
use Rattle.laws.specs.Histories.{Was}
use Rattle.laws.specs.OneOrder.{write, Stamped, Ends}
use Rattle.laws.specs.Patience.{is_own_step, GoesOn}
use Rattle.laws.specs.Space.{Down, ThoroughlyServed}
use Rattle.cases.specs.Judges.{list_judge}
use Rattle.cases.specs.Orders.{session_then_write, write_above_write}
use Rattle.cases.specs.Transcripts.{Case, computed, expected, history_of, ◌answers◌, again_times, links}
use Rattle.cases.specs.Worked.{one_cell, slow_read, compacted}

-- A write is abandoned once its version is linked. The look of another write then gives the version a stamp.
abbrev pub abandoned : Case
abandoned =
    record {
      store = one_cell 2 2 0;
      transcript = links 0 0 0 7 1
          ++ Abandon 0 answers granted
          ++ WriteBegin 1 0 answers granted
          ++ again_times 2 (WriteLook 1)
          ++ WriteLook 1 answers value 7;
    }

-- So the abandoned write stands in the order, though it never ends.
abbrev pub AbandonedWriteStamped : Type 0
AbandonedWriteStamped =
    Was (history_of abandoned) 3 (Abandon 0) granted
    × Stamped (history_of abandoned) 0 0 7
    × ((e : ℕ) → Ends (history_of abandoned) (write 0 0 7) e → ⊥)

-- A compaction is done, and each of its steps brought a thorough judge: the law of space bounds what it leaves.
abbrev pub CompactionDone : Type 0
CompactionDone =
    Was (history_of (compacted list_judge 1)) 23 (CompactBegin 2 0) granted
    × Was (history_of (compacted list_judge 1)) 30 (CompactStep 2 list_judge) (done 3 1 1)
    × ThoroughlyServed (history_of (compacted list_judge 1)) 2 23 30

-- In the same run a worker opens a session, closes it, and opens another.
abbrev pub SessionOpenedAgain : Type 0
SessionOpenedAgain =
    Was (history_of (compacted list_judge 1)) 11 (Advance 2) (number 1)
    × Was (history_of (compacted list_judge 1)) 12 (Close 2) granted
    × Was (history_of (compacted list_judge 1)) 21 (Advance 2) (number 2)

-- Two writes look at the same base; the one that offers later is overtaken.
abbrev pub two_writes : Case
two_writes =
    record {
      store = one_cell 2 3 0;
      transcript = WriteBegin 0 0 answers granted
          ++ WriteLook 0 answers value 0
          ++ links 1 0 0 8 1
          ++ WriteOffer 0 7 2 answers overtaken;
    }

abbrev pub WriteOvertaken : Type 0
WriteOvertaken = Was (history_of two_writes) 5 (WriteOffer 0 7 2) overtaken

-- A read whose cell has two versions at its begin takes three steps and is neither answered nor abandoned.
abbrev pub going_on : Case
going_on = record { store = one_cell 2 2 0; transcript = slow_read }

abbrev pub two_versions : List (Version ℕ)
two_versions = record { value = 7; stamp = None; older = Some 0 } ∷ record { value = 0; stamp = Some 0; older = None } ∷ []

abbrev pub PatienceIsSharp : Type 0
PatienceIsSharp =
    Was (history_of going_on) 6 (ReadBegin 1 0) granted
    × GoesOn (history_of going_on) 1 6
    × Down ((history_of going_on).at 6) (Some (head ((history_of going_on).at 6) 0)) two_versions
    × (count_by (is_own_step 1) (drop 7 (history_of going_on).entries) ≡ length two_versions + 1)

-- The runs of the examples and of the wrong orders are answered as their transcripts say.
abbrev pub runs : List Case
runs = abandoned ∷ two_writes ∷ going_on ∷ session_then_write ∷ write_above_write ∷ []

abbrev pub RunsAsWritten : Type 0
RunsAsWritten = map computed runs ≡ map expected runs
