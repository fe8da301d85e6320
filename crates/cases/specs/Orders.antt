-- The law of one order tells right orders from wrong ones: an order that it grants, and for each of its clauses one
-- that it refuses.
use Rattle.std.specs.Prelude.{◌≡◌, ℕ, List, [], ◌∷◌, ◌++◌}
use Rattle.model.specs.Answers.{granted, number, value}
use Rattle.model.specs.Calls.{ReadBegin, ReadStep, WriteBegin, WriteLook, WriteOffer, WriteStamp}
use Rattle.laws.specs.OneOrder.{Item, session, write, Ordered, Stamped}
use Rattle.cases.specs.Transcripts.{Case, history_of, ◌answers◌, again_times, opens, links, writes}
use Rattle.cases.specs.Worked.{one_cell, reader_stamps, writer_stamps}

-- A session opens and reads, and then a write begins and ends.
abbrev pub session_then_write : Case
session_then_write =
    record {
      store = one_cell 2 2 0;
      transcript = opens 0 0 ++ ReadBegin 0 0 answers granted ++ ReadStep 0 answers value 0 ++ writes 1 0 0 7 1 1;
    }

-- The law holds of one order, the session opened at place 2 and then the write begun at place 5, and of no other.
abbrev pub OneRightOrder : Type 0
OneRightOrder =
    Ordered (history_of session_then_write) 0 (session 2 ∷ write 5 0 7 ∷ [])
    × ((o : List (Item ℕ)) → Ordered (history_of session_then_write) 0 o → o ≡ session 2 ∷ write 5 0 7 ∷ [])

-- So the write, which has its stamp, cannot be left out ..
abbrev pub LeftOut : Type 0
LeftOut = Stamped (history_of session_then_write) 5 0 7 × (Ordered (history_of session_then_write) 0 (session 2 ∷ []) → ⊥)

-- .. nothing can be added that did not happen, as a session opened at place 10 ..
abbrev pub MadeUp : Type 0
MadeUp = Ordered (history_of session_then_write) 0 (session 2 ∷ write 5 0 7 ∷ session 10 ∷ []) → ⊥

-- .. the write cannot stand in it twice ..
abbrev pub Twice : Type 0
Twice = Ordered (history_of session_then_write) 0 (session 2 ∷ write 5 0 7 ∷ write 5 0 7 ∷ []) → ⊥

-- .. and it cannot come first, since the session opened before it began.
abbrev pub AgainstTime : Type 0
AgainstTime = Ordered (history_of session_then_write) 0 (write 5 0 7 ∷ session 2 ∷ []) → ⊥

-- Where a write and a session overlap, the read decides. It answered the first value, so the write comes later ..
abbrev pub AgainstReadOfFirst : Type 0
AgainstReadOfFirst = Ordered (history_of reader_stamps) 0 (write 0 0 7 ∷ session 5 ∷ []) → ⊥

-- .. and here it answered what was written, so the write comes first.
abbrev pub AgainstReadOfWritten : Type 0
AgainstReadOfWritten = Ordered (history_of writer_stamps) 0 (session 6 ∷ write 0 0 7 ∷ []) → ⊥

-- A write of 7 is linked. Another write looks, for which it first gives 7 a stamp; then it links 8 and gives 8 a stamp.
abbrev pub write_above_write : Case
write_above_write =
    record {
      store = one_cell 2 3 0;
      transcript = links 0 0 0 7 1
          ++ WriteBegin 1 0 answers granted
          ++ again_times 2 (WriteLook 1)
          ++ WriteLook 1 answers value 7
          ++ WriteOffer 1 8 2 answers granted
          ++ again_times 2 (WriteStamp 1)
          ++ WriteStamp 1 answers number 0;
    }

-- Where two writes overlap, the look decides. It answered 7, so 7 comes before 8.
abbrev pub AgainstLook : Type 0
AgainstLook = Ordered (history_of write_above_write) 0 (write 3 0 8 ∷ write 0 0 7 ∷ []) → ⊥
