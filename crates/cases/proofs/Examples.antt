-- The examples of runs, computed.
use Rattle.std.proofs.Common.{ℕ, Bool, ◌&&◌, is_some, Some, None, Option, refl, subst, arith, lit≤}
use Rattle.std.proofs.lemmas.List.Elements.{All-from_recursion}
use Rattle.std.proofs.lemmas.Map.Keys.{any_passes_from_place}
use mathlib.Core.Bool.{false≢true}
use Rattle.std.specs.List.{slice_get, range_with_len}
use Rattle.model.specs.Answers.{Answer, granted, number, value, content}
use Rattle.model.specs.Calls.{Call, Note, Publish, Advance, Close, ReadBegin, ReadStep, WriteBegin, WriteLook, WriteOffer, WriteStamp, Abandon, CompactBegin, CompactStep, step}
use Rattle.model.specs.Judging.{Thorough}
use Rattle.model.specs.Runs.{run, log}
use Rattle.laws.specs.Space.{ends, goes_on}
use Rattle.cases.specs.Transcripts.{history_of}
use Rattle.cases.specs.Judges.{list_judge}
use Rattle.cases.specs.Worked.{compacted}
use Rattle.cases.specs.Examples.{abandoned, going_on, AbandonedWriteStamped, CompactionDone, SessionOpenedAgain, WriteOvertaken, PatienceIsSharp, RunsAsWritten}
use Rattle.cases.proofs.Entries.{of_kind, stamped_by}
use Rattle.cases.proofs.Places.{at_each}
use Rattle.cases.proofs.Thorough.{list_judge_thorough}

-- An entry has a call of the same kind as c, and answers a value.
abbrev with_value : Call ℕ → Call ℕ × Answer ℕ → Bool
with_value c entry = of_kind c entry && is_some (content entry.1).carried

pub abandoned_write_stamped : AbandonedWriteStamped
unfolding run log step
abandoned_write_stamped = (
  refl,
  stamped_by (history_of abandoned) 0 1 0 0 2 6 7 refl refl tt tt refl refl refl,
  λ e ends. false≢true (any_passes_from_place (of_kind (WriteStamp 0)) (history_of abandoned).entries e (WriteStamp ends.0, number ends.1) ends.3 refl),
)

-- If an entry is a Compact step, then with a judge that is thorough for three stamps.
abbrev served_by : Call ℕ → Type 0
served_by (Note w) = Unit {0}
served_by (Publish w) = Unit {0}
served_by (Advance w) = Unit {0}
served_by (Close w) = Unit {0}
served_by (ReadBegin w x) = Unit {0}
served_by (ReadStep w) = Unit {0}
served_by (WriteBegin w x) = Unit {0}
served_by (WriteLook w) = Unit {0}
served_by (WriteOffer w v n) = Unit {0}
served_by (WriteStamp w) = Unit {0}
served_by (Abandon w) = Unit {0}
served_by (CompactBegin w x) = Unit {0}
served_by (CompactStep w judge) = Thorough 3 judge

abbrev served : Option (Call ℕ × Answer ℕ) → Type 0
served None = Unit {0}
served (Some entry) = served_by entry.0

pub compaction_done : CompactionDone
unfolding run log step
compaction_done =
    let h = history_of (compacted list_judge 1) in
    let Serves : ℕ → Type 0 = λ k. served (slice_get h.entries k) in
    let yes = list_judge_thorough 3 (lit≤ tt) in (
      refl,
      refl,
      λ j judge a from to was.
          subst served was
          (at_each Serves 24 7 (All-from_recursion Serves (range_with_len 24 7) (yes, (yes, (yes, (yes, (yes, (yes, (yes, tt)))))))) j from (omega arith)),
    )

pub session_opened_again : SessionOpenedAgain
unfolding log step
session_opened_again = (refl, refl, refl)

pub write_overtaken : WriteOvertaken
unfolding log step
write_overtaken = refl

pub patience_is_sharp : PatienceIsSharp
unfolding run log step
patience_is_sharp = (
  refl,
  (
    λ j v from was. false≢true (any_passes_from_place (with_value (ReadStep 1)) (history_of going_on).entries j (ReadStep 1, value v) was refl),
    λ j from was. false≢true (any_passes_from_place (of_kind (Abandon 1)) (history_of going_on).entries j (Abandon 1, granted) was refl),
  ),
  goes_on _ refl (goes_on _ refl ends),
  refl,
)

pub runs_as_written : RunsAsWritten
unfolding step
runs_as_written = refl
