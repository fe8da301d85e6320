-- Kinds of judges, by what they mean: what clear and note do to a meaning, what it drops, and the laws that bind them.
use Rattle.std.specs.Prelude.{◌≡◌, ℕ, ◌≤◌, min, Bool, true, false, not, ◌&&◌, List, [], ◌∷◌, Some, None, Option}
use Rattle.stamps.specs.declared.Interval.{Interval}
use Rattle.stamps.specs.Intervals.{inside, ordered, ends_by, obsolete}
use Rattle.judges.specs.Told.{Told, uncleared, notes, told_cleared, told_noted, told_drops}

-- A kind of judge whose meanings are those of M.
pub record Kind (M : Type 0) : Type 0 where
  -- How many notes a judge of the kind can take in before it may forget some.
  pub places : ℕ
  -- The meaning after clear(t).
  pub cleared : M → ℕ → M
  -- The meaning after note(a).
  pub noted : M → ℕ → M
  -- The set of intervals that it drops.
  pub drops : M → Interval → Bool
  -- Whether it is thorough: it drops every obsolete interval, as long as it has a place for each note.
  pub thorough : M → Bool
  -- What a thorough judge has been told.
  pub told : M → Told

-- What binds every kind.
pub record JudgeLaws {M : Type 0} (kind : Kind M) : Type 0 where
  -- It never drops an interval whose start is above its end.
  pub ordered : (m : M) (i : Interval) → kind.drops m i ≡ true → i.start ≤ i.end
  -- Cleared at t, it drops only intervals that end at or before t.
  pub cleared_within : (m : M) (t : ℕ) (i : Interval) → kind.drops (kind.cleared m t) i ≡ true → i.end ≤ t
  -- Told a stamp, it drops only what it dropped before, and nothing that the stamp lies in.
  pub noted_less : (m : M) (a : ℕ) (i : Interval) → kind.drops (kind.noted m a) i ≡ true → kind.drops m i ≡ true
  pub noted_spares : (m : M) (a : ℕ) (i : Interval) → kind.drops (kind.noted m a) i ≡ true → inside a i ≡ false
  -- Neither clear nor note changes whether it is thorough.
  pub cleared_thorough : (m : M) (t : ℕ) → kind.thorough (kind.cleared m t) ≡ kind.thorough m
  pub noted_thorough : (m : M) (a : ℕ) → kind.thorough (kind.noted m a) ≡ kind.thorough m
  -- A thorough judge knows its cutoff and, until told more than its places, its notes.
  pub cleared_told : (m : M) (t : ℕ) → kind.thorough m ≡ true → kind.told (kind.cleared m t) ≡ notes t []
  pub noted_told : (m : M) (a : ℕ) → kind.thorough m ≡ true → kind.told (kind.noted m a) ≡ told_noted kind.places (kind.told m) a
  -- As long as it knows them, it drops exactly the obsolete intervals.
  pub exact : (m : M) (t : ℕ) (stamps : List ℕ) (i : Interval) → kind.thorough m ≡ true → kind.told m ≡ notes t stamps → kind.drops m i ≡ obsolete t stamps i

-- A judge by its meaning, told the stamps of a list one after the other.
abbrev pub noted_all : {M : Type 0} → Kind M → M → List ℕ → M
noted_all kind m [] = m
noted_all kind m (a ∷ rest) = noted_all kind (kind.noted m a) rest

-- A judge by its meaning, cleared at t and then told the stamps of a list.
abbrev pub prepared : {M : Type 0} → Kind M → M → ℕ → List ℕ → M
prepared kind m t stamps = noted_all kind (kind.cleared m t) stamps

-- The list judge and the rising judge mean what they were told.
abbrev pub told_kind : ℕ → Kind Told
told_kind n =
    record {
      places = n;
      cleared = told_cleared;
      noted = told_noted n;
      drops = told_drops;
      thorough = λ _. true;
      told = λ m. m;
    }

-- The oldest judge goes by one stamp, its limit: the smallest of the cutoff and the stamps noted since. It has none
-- before the first clear.
abbrev pub limit_cleared : Option ℕ → ℕ → Option ℕ
limit_cleared limit t = Some t

abbrev pub limit_noted : Option ℕ → ℕ → Option ℕ
limit_noted None a = None
limit_noted (Some m) a = Some (min m a)

-- It drops what ends at or before its limit, unless the start is above the end.
abbrev pub limit_drops : Option ℕ → Interval → Bool
limit_drops None i = false
limit_drops (Some m) i = ordered i && ends_by m i

abbrev pub limit_kind : Kind (Option ℕ)
limit_kind =
    record {
      places = 1;
      cleared = limit_cleared;
      noted = limit_noted;
      drops = limit_drops;
      thorough = λ _. false;
      told = λ _. uncleared;
    }

-- A hold means its switch and what the judge below means.
pub record Held (M : Type 0) : Type 0 where
  pub on : Bool
  pub below : M

-- Clear and note are passed down whether the hold is on or off.
abbrev pub passed_down : {M : Type 0} → (M → ℕ → M) → Held M → ℕ → Held M
passed_down change held n = record { on = held.on; below = change held.below n }

-- A test of the judge below, as it shows through the hold: false while the hold is on.
abbrev pub when_off : {M : Type 0} → (M → Bool) → Held M → Bool
when_off test held = not held.on && test held.below

abbrev pub held_kind : {M : Type 0} → Kind M → Kind (Held M)
held_kind below =
    record {
      places = below.places;
      cleared = passed_down below.cleared;
      noted = passed_down below.noted;
      drops = λ m i. when_off (λ b. below.drops b i) m;
      thorough = when_off below.thorough;
      told = λ m. below.told m.below;
    }
