-- What the definitions on stamps come to, in words that do not repeat them.
use Rattle.std.specs.Prelude.{◌≡◌, ℕ, ◌+◌, ◌≤◌, Bool, true, false, if◌then◌else◌, ◌||◌, List, [], ◌∷◌, Some, None, Option, ◌==◌}
use Rattle.stamps.specs.declared.interval.Interval.{Interval}
use Rattle.stamps.specs.Intervals.{inside, smallest_inside}
use Rattle.stamps.specs.Rising.{sorted, rising}

-- A stamp is in a list.
abbrev pub among : ℕ → List ℕ → Bool
among a [] = false
among a (b ∷ rest) = a == b || among a rest

-- A stamp is the smallest of a list inside an interval; or there is none.
abbrev pub IsSmallestInside : List ℕ → Interval → Option ℕ → Type 0
IsSmallestInside stamps i None = (a : ℕ) → among a stamps ≡ true → inside a i ≡ false
IsSmallestInside stamps i (Some a) =
    (among a stamps ≡ true) × (inside a i ≡ true) × ((b : ℕ) → among b stamps ≡ true → inside b i ≡ true → a ≤ b)

abbrev pub SmallestIsSmallest : Type 0
SmallestIsSmallest = (stamps : List ℕ) (i : Interval) → IsSmallestInside stamps i (smallest_inside stamps i)

-- How often a stamp is in a list.
abbrev pub times : ℕ → List ℕ → ℕ
times a [] = 0
times a (b ∷ rest) = (if a == b then 1 else 0) + times a rest

-- Sorting forgets only the order: a sorted list rises and has each stamp as often.
abbrev pub SortedRises : Type 0
SortedRises = (stamps : List ℕ) → rising (sorted stamps) ≡ true

abbrev pub SortedHasTheSame : Type 0
SortedHasTheSame = (stamps : List ℕ) (a : ℕ) → times a (sorted stamps) ≡ times a stamps
