-- Runs of stores that break a rule once. No order explains what they answer, so the law of one order refuses them.
use Rattle.std.specs.Prelude.{◌≡◌, ℕ, zero, suc, true, false, List, [], ◌∷◌, ◌++◌, map, length, take, slice_set}
use Rattle.model.specs.Answers.{Answer, Outcome, granted, again, value}
use Rattle.model.specs.Calls.{Call, Close, ReadBegin, ReadStep, Abandon, CompactBegin, CompactStep, step}
use Rattle.model.specs.Changes.{with_nodes}
use Rattle.model.specs.Checks.{stamping}
use Rattle.model.specs.Compactions.{scan_slot, compact_step}
use Rattle.model.specs.Making.{make}
use Rattle.model.specs.Reads.{read_version}
use Rattle.model.specs.Runs.{run, log}
use Rattle.model.specs.State.{State, head, free}
use Rattle.laws.specs.Histories.{History}
use Rattle.laws.specs.OneOrder.{Item, Ordered}
use Rattle.cases.specs.Judges.{list_judge}
use Rattle.cases.specs.Transcripts.{Transcript, reply, calls_of, ◌answers◌, again_times, opens, writes}
use Rattle.cases.specs.Worked.{one_cell}

-- A run that goes by the rules but for one step. There the store is asked something, does something else, and answers
-- this; after it the rules hold again.
pub record WrongRun : Type 0 where
  pub store : State ℕ
  pub before : Transcript
  pub asked : Call ℕ
  pub answered : Answer ℕ
  pub does : State ℕ → Outcome ℕ
  pub after : Transcript

-- The answers to calls, and the state after them, where the call that comes after n others is served by `does`.
module _ (does : State ℕ → Outcome ℕ) where
  abbrev pub log_but : State ℕ → ℕ → List (Call ℕ) → List (Call ℕ × Answer ℕ)
  log_but s n [] = []
  log_but s zero (c ∷ rest) = (c, (does s).0) ∷ log (does s).1 rest
  log_but s (suc n) (c ∷ rest) = (c, (step s c).0) ∷ log_but (step s c).1 n rest

  abbrev pub run_but : State ℕ → ℕ → List (Call ℕ) → State ℕ
  run_but s n [] = s
  run_but s zero (c ∷ rest) = run (does s).1 rest
  run_but s (suc n) (c ∷ rest) = run_but (step s c).1 n rest

-- The transcript of the whole run, and its history, made as that of a right run is.
abbrev pub whole : WrongRun → Transcript
whole r = r.before ++ r.asked answers r.answered ++ r.after

abbrev pub wrong_history : WrongRun → History ℕ
wrong_history r =
    record {
      entries = log_but r.does r.store (length (calls_of r.before)) (calls_of (whole r));
      at = λ i. run_but r.does r.store (length (calls_of r.before)) (take i (calls_of (whole r)));
    }

-- The run is answered as its transcript says, and there is no order for it, every cell having the value 0 at the start.
abbrev pub NoOrder : WrongRun → Type 0
NoOrder r =
    (map (λ e. reply e.1) (wrong_history r).entries ≡ map (λ e. e.1) (whole r))
    × ((o : List (Item ℕ)) → Ordered (wrong_history r) 0 o → ⊥)

-- The cell has 9 at 2, 7 at 1, 0 at 0. Worker 1 has a session open at 1 and reads 7.
abbrev pub session_at_1 : Transcript
session_at_1 =
    opens 0 0
    ++ Close 0 answers granted
    ++ writes 0 0 0 7 1 1
    ++ opens 1 1
    ++ writes 0 0 7 9 2 2
    ++ ReadBegin 1 0 answers granted
    ++ ReadStep 1 answers again
    ++ ReadStep 1 answers value 7

-- Worker 0 begins a compaction, reads both slots and takes the head.
abbrev pub compacts_to_head : Transcript
compacts_to_head = CompactBegin 0 0 answers granted ++ again_times 3 (CompactStep 0 list_judge)

-- Worker 1 reads once more. 7 is gone, so the same session now reads 0.
abbrev pub reads_first : Transcript
reads_first = ReadBegin 1 0 answers granted ++ ReadStep 1 answers again ++ ReadStep 1 answers value 0

-- A compaction step drops as an unlawful judge would, every interval: 7 goes, though the session at 1 needs it.
abbrev pub drops_needed : WrongRun
drops_needed =
    record {
      store = one_cell 2 4 0;
      before = session_at_1 ++ compacts_to_head;
      asked = CompactStep 0 list_judge;
      answered = again;
      does = λ s. compact_step s 0 (λ t scan i. true);
      after = reads_first;
    }

-- The compaction takes the head one step early. The slot of worker 1 is not read, and so a lawful judge lets 7 go.
abbrev pub skips_slot : WrongRun
skips_slot =
    record {
      store = one_cell 2 4 0;
      before = session_at_1 ++ CompactBegin 0 0 answers granted ++ CompactStep 0 list_judge answers again;
      asked = CompactStep 0 list_judge;
      answered = again;
      does = λ s. scan_slot s 0 0 2 1 [] false;
      after = CompactStep 0 list_judge answers again ++ reads_first;
    }

-- A read answers the value of the head, whatever its stamp.
abbrev pub reads_head : WrongRun
reads_head =
    record {
      store = one_cell 2 4 0;
      before = session_at_1 ++ ReadBegin 1 0 answers granted;
      asked = ReadStep 1;
      answered = value 9;
      does = λ s. stamping s 1 (head s 0) (λ v t. read_version s 1 0 v true);
      after = [];
    }

-- A node does not wait for a reader. Cell 0 has 8 at 1, 7 at 1, 0 at 0, and cell 1 has 5 at 0. Worker 1 has a session
-- open at 0 and reads 0 in cell 0. It reads there again, and stands on 7, in node 3, as a compaction takes 7 out and
-- the node is free at once. A write takes it for cell 1, and so the read goes on in cell 1 and answers 5.
abbrev pub frees_early : WrongRun
frees_early =
    record {
      store = make 2 2 5 0 0;
      before = writes 0 1 0 5 2 0
          ++ opens 1 0
          ++ writes 0 0 0 7 3 1
          ++ writes 0 0 7 8 4 1
          ++ ReadBegin 1 0 answers granted
          ++ again_times 2 (ReadStep 1)
          ++ ReadStep 1 answers value 0
          ++ ReadBegin 1 0 answers granted
          ++ ReadStep 1 answers again
          ++ compacts_to_head;
      asked = CompactStep 0 list_judge;
      answered = again;
      does = λ s. let after = (compact_step s 0 list_judge.drops).1 in (again, with_nodes after (slice_set after.nodes 3 free));
      after = Abandon 0 answers granted ++ writes 0 1 5 9 3 1 ++ ReadStep 1 answers again ++ ReadStep 1 answers value 5;
    }
