-- The judge that a compaction step brings, by what it drops.
use Rattle.std.specs.Prelude.{◌≡◌, ℕ, ◌≤◌, Bool, true, List, length, All}
use Rattle.stamps.specs.declared.Interval.{Interval}
use Rattle.stamps.specs.Intervals.{obsolete}
use Rattle.model.specs.State.{last_stamp}

-- What a judge drops once it is cleared at a cutoff and told a scan. It is lawful: these are obsolete intervals only.
-- Each step brings a judge value of its own, so what one and the same judge drops may differ from step to step.
pub record Judge : Type 0 where
  pub drops : (cutoff : ℕ) (scan : List ℕ) → Interval → Bool
  pub lawful : (t : ℕ) (scan : List ℕ) (i : Interval) → drops t scan i ≡ true → obsolete t scan i ≡ true

-- It drops every obsolete interval, as long as it is told no more stamps than it has places for. This is asked only
-- for stamps as a store has them.
abbrev pub Thorough : (places : ℕ) → Judge → Type 0
Thorough places judge =
    (t : ℕ) (scan : List ℕ) (i : Interval) → t ≤ last_stamp → All (λ a. a ≤ last_stamp) scan → length scan ≤ places
    → obsolete t scan i ≡ true → judge.drops t scan i ≡ true
