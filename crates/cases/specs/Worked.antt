-- The worked cases: what the rules say of each, as one table of transcripts.
use Rattle.std.specs.Prelude.{◌≡◌, ℕ, ◌-◌, ◌^◌, true, false, List, [], ◌∷◌, ◌++◌, map}
use Rattle.model.specs.Answers.{granted, again, number, value, done}
use Rattle.model.specs.Calls.{Note, Publish, Advance, Close, ReadBegin, ReadStep, WriteStamp, CompactBegin, CompactStep}
use Rattle.model.specs.Judging.{Judge}
use Rattle.model.specs.Making.{no_store, make}
use Rattle.model.specs.State.{State}
use Rattle.cases.specs.Judges.{list_judge, oldest_judge}
use Rattle.cases.specs.Transcripts.{Case, Transcript, check_sizes, ask, passes, refusal, drops, computed, expected, ◌answers◌, ◌refuses◌, counts_are, again_times, opens, links, writes}

-- A store of one cell, whose first value is 0.
abbrev pub one_cell : (workers nodes start : ℕ) → State ℕ
one_cell workers nodes start = make 1 workers nodes start 0

-- One node more than there are cells is enough; as many as there are cells is refused.
abbrev pub sizes : Case
sizes =
    record {
      store = no_store;
      transcript = (check_sizes 256 16 257 0, passes) ∷ (check_sizes 256 16 256 0, refusal 9) ∷ [];
    }

-- The last session opens one below the clock's end. At the end a Note is refused.
abbrev pub end_of_clock : Case
end_of_clock = record { store = one_cell 2 2 (2 ^ 40 - 1); transcript = opens 0 (2 ^ 40 - 1) ++ Note 1 refuses 8 }

-- A write is linked, and then a session opens at 0. Its read finds the head unstamped, takes the clock reading 1,
-- gives it to the head, and goes on below ..
abbrev pub slow_read : Transcript
slow_read = links 0 0 0 7 1 ++ opens 1 0 ++ ReadBegin 1 0 answers granted ++ again_times 3 (ReadStep 1)

-- .. to the first value: of two versions, in four steps.
abbrev pub reader_stamps : Case
reader_stamps = record { store = one_cell 2 2 0; transcript = slow_read ++ ReadStep 1 answers value 0 }

-- The same, but the writer took its clock reading before the session opened, and gives it after the reader's first
-- step: the stamp is 0, and the reader's second step answers the written value.
abbrev pub writer_stamps : Case
writer_stamps =
    record {
      store = one_cell 2 2 0;
      transcript = links 0 0 0 7 1
          ++ WriteStamp 0 answers again
          ++ opens 1 0
          ++ ReadBegin 1 0 answers granted
          ++ ReadStep 1 answers again
          ++ WriteStamp 0 answers again
          ++ ReadStep 1 answers value 7;
    }

-- Two workers note the same stamp, and one opens its session there. The other has to start again.
abbrev pub one_opens : Case
one_opens =
    record {
      store = one_cell 2 2 0;
      transcript = Note 0 answers number 0
          ++ Note 1 answers number 0
          ++ Publish 0 answers granted
          ++ Advance 0 answers number 0
          ++ Publish 1 answers granted
          ++ Advance 1 answers again;
    }

-- A thorough judge, cleared at 5 and told 3: what it drops, and what it keeps.
abbrev pub dropped : (start end : ℕ) → Transcript
dropped start end = (ask list_judge 5 (3 ∷ []) start end, drops true) ∷ []

abbrev pub kept : (start end : ℕ) → Transcript
kept start end = (ask list_judge 5 (3 ∷ []) start end, drops false) ∷ []

abbrev pub thorough_judge : Case
thorough_judge =
    record { store = no_store; transcript = dropped 2 3 ++ dropped 4 5 ++ dropped 5 5 ++ kept 3 5 ++ kept 3 6 ++ kept 6 6 }

-- Stamps 2, 1 and 0 in a cell, the clock at 3, a session open at 0: nobody needs the version stamped 1. A compaction
-- with the list judge takes it out, one with the oldest judge takes out none.
abbrev pub three_stamps : Transcript
three_stamps =
    opens 0 0
    ++ writes 1 0 0 7 1 1
    ++ opens 2 1
    ++ Close 2 answers granted
    ++ writes 1 0 7 8 2 2
    ++ opens 2 2
    ++ Close 2 answers granted

abbrev pub compacted : (judge : Judge) (taken_out : ℕ) → Case
compacted judge r =
    record {
      store = one_cell 3 4 0;
      transcript = three_stamps
          ++ CompactBegin 2 0 answers granted
          ++ again_times 6 (CompactStep 2 judge)
          ++ CompactStep 2 judge answers done 3 1 r;
    }

-- A read is under way as a compaction takes a version out: the node waits until the read has ended.
abbrev pub node_waits : Case
node_waits =
    record {
      store = one_cell 2 3 0;
      transcript = writes 0 0 0 5 1 0
          ++ opens 0 0
          ++ ReadBegin 0 0 answers granted
          ++ CompactBegin 1 0 answers granted
          ++ again_times 4 (CompactStep 1 list_judge)
          ++ CompactStep 1 list_judge answers done 1 1 1
          ++ counts_are 1 1 1
          ++ ReadStep 0 answers value 5
          ++ counts_are 2 1 0;
    }

abbrev pub cases : List Case
cases =
    sizes
    ∷ end_of_clock
    ∷ reader_stamps
    ∷ writer_stamps
    ∷ one_opens
    ∷ thorough_judge
    ∷ compacted list_judge 1
    ∷ compacted oldest_judge 0
    ∷ node_waits
    ∷ []

-- Every reply of every case is the one expected.
abbrev pub WorkedCases : Type 0
WorkedCases = map computed cases ≡ map expected cases
