-- Space: what a finished compaction leaves; and what the three numbers that it answers are.
use Rattle.std.specs.Prelude.{◌≡◌, ℕ, suc, ◌+◌, ◌-◌, ◌<◌, ◌≤◌, Bool, false, if◌then◌else◌, List, [], ◌∷◌, length, Some, None, Option, ◌==◌, nat_le}
use Rattle.std.specs.List.{slice_get}
use Rattle.model.specs.State.{Version, State, worker, head, node, version, slot}
use Rattle.model.specs.Judging.{Judge, Thorough}
use Rattle.model.specs.Making.{counts}
use Rattle.model.specs.Answers.{Answer, granted}
use Rattle.model.specs.Calls.{Call, Note, Publish, Advance, Close, ReadBegin, ReadStep, WriteBegin, WriteLook, WriteOffer, WriteStamp, Abandon, CompactBegin, CompactStep}
use Rattle.laws.specs.Histories.{History, Latest, sum_between, Was, CompactBegun}

-- The versions from a node downward. The list ends where nothing older follows, and nowhere before.
pub data Down {V : Type 0} (s : State V) : Option ℕ → List (Version V) → Type 0 where
  ends : Down s None []
  goes_on : {n : ℕ} (v : Version V) {rest : List (Version V)} → version (node s n) ≡ Some v → Down s v.older rest → Down s (Some n) (v ∷ rest)

-- How many versions of a list are stamped up to t.
abbrev pub up_to : ℕ → Option ℕ → ℕ
up_to t None = 0
up_to t (Some a) = if nat_le a t then 1 else 0

abbrev pub stamped_up_to : {V : Type 0} → ℕ → List (Version V) → ℕ
stamped_up_to t [] = 0
stamped_up_to t (v ∷ rest) = up_to t v.stamp + stamped_up_to t rest

-- A call is a Compact step of worker w.
abbrev pub is_compact_step : {V : Type 0} → ℕ → Call V → Bool
is_compact_step w (Note u) = false
is_compact_step w (Publish u) = false
is_compact_step w (Advance u) = false
is_compact_step w (Close u) = false
is_compact_step w (ReadBegin u x) = false
is_compact_step w (ReadStep u) = false
is_compact_step w (WriteBegin u x) = false
is_compact_step w (WriteLook u) = false
is_compact_step w (WriteOffer u v n) = false
is_compact_step w (WriteStamp u) = false
is_compact_step w (Abandon u) = false
is_compact_step w (CompactBegin u x) = false
is_compact_step w (CompactStep u judge) = u == w

-- n where the entry is a Compact step of worker w, and 0 elsewhere.
abbrev pub if_compact_step : {V : Type 0} → ℕ → ℕ → Option (Call V × Answer V) → ℕ
if_compact_step w n None = 0
if_compact_step w n (Some entry) = if is_compact_step w entry.0 then n else 0

-- 1 for a full slot.
abbrev pub full : Option ℕ → ℕ
full None = 0
full (Some c) = 1

module _ {V : Type 0} (h : History V) where
  -- How many steps worker w's compaction begun at i made before place k.
  abbrev pub steps_before : ℕ → ℕ → ℕ → ℕ
  steps_before w i k = sum_between (λ j. if_compact_step w 1 (slice_get h.entries j)) i k

  -- How many full slots these steps found: its first step reads the slot of worker 0, the next that of worker 1, and
  -- so on; past the last worker there is no slot.
  abbrev pub full_slots_found : ℕ → ℕ → ℕ → ℕ
  full_slots_found w i k =
      sum_between (λ j. if_compact_step w (full (slot (worker (h.at j) (steps_before w i j)).session)) (slice_get h.entries j)) i k

  -- How many versions these steps took out: by so many there are fewer linked nodes after such a step than before.
  abbrev pub versions_taken_out : ℕ → ℕ → ℕ → ℕ
  versions_taken_out w i k =
      sum_between (λ j. if_compact_step w ((counts (h.at j)).1 - (counts (h.at (suc j))).1) (slice_get h.entries j)) i k

  -- Every step of the compaction that worker w began at i and ended at k brought a thorough judge with a place for each
  -- worker.
  abbrev pub ThoroughlyServed : ℕ → ℕ → ℕ → Type 0
  ThoroughlyServed w i k =
      (j : ℕ) (judge : Judge) (a : Answer V) → i < j → j ≤ k → Was h j (CompactStep w judge) a → Thorough (length (h.at 0).workers) judge

  -- The compaction of worker w that was done at place k and answered t, n, r.
  pub record Finished (w k t n r : ℕ) : Type 0 where
    pub cell : ℕ
    pub begun_at : ℕ
    pub begins : Was h begun_at (CompactBegin w cell) granted
    pub since : Latest (CompactBegun h w) begun_at k
    -- what it answered: the clock at its begin, the full slots its steps found, the versions its steps took out
    pub cutoff : t ≡ (h.at begun_at).clock
    pub found : n ≡ full_slots_found w begun_at k
    pub took_out : r ≡ versions_taken_out w begun_at k
    -- it took the cell's head at its first step after one for each worker
    pub took_at : ℕ
    pub at_step : if_compact_step w 1 (slice_get h.entries took_at) ≡ 1
    pub after_begin : begun_at < took_at
    pub before_done : took_at < k
    pub all_slots_read : steps_before w begun_at took_at ≡ length (h.at 0).workers
    -- what is left from that head downward when it ends
    pub left : List (Version V)
    pub from_head : Down (h.at (suc k)) (Some (head (h.at took_at) cell)) left
    pub few : ThoroughlyServed w begun_at k → stamped_up_to t left ≤ n + 1
