-- The kinds of this crate keep the laws: those that go by what they were told, those that go by a limit, and any of
-- these behind a hold.
use Rattle.std.specs.Prelude.{◌≡◌, ℕ, true, false}
use Rattle.std.proofs.Common.{arith, rules}
use Rattle.std.proofs.lemmas.Bool.Decides.{nat_tests}
use Rattle.stamps.specs.declared.Interval.{Interval}
use Rattle.stamps.specs.Intervals.{inside}
use Rattle.stamps.proofs.Inserting.{none_inside_insert}
use Rattle.judges.specs.Kinds.{Kind, JudgeLaws, told_kind, limit_kind, held_kind}
use Rattle.judges.specs.Told.{Told, uncleared, notes, too_many, told_noted, told_drops}

pub told_noted_less : (places : ℕ) (m : Told) (a : ℕ) (i : Interval) → told_drops (told_noted places m a) i ≡ true → told_drops m i ≡ true
told_noted_less places uncleared a i h = h
told_noted_less places (notes t stamps) a i h = let more = none_inside_insert a stamps i in grind (arith, nat_tests)
told_noted_less places (too_many t) a i h = h

pub told_noted_spares : (places : ℕ) (m : Told) (a : ℕ) (i : Interval) → told_drops (told_noted places m a) i ≡ true → inside a i ≡ false
told_noted_spares places uncleared a i h = grind (arith, nat_tests)
told_noted_spares places (notes t stamps) a i h = let more = none_inside_insert a stamps i in grind (arith, nat_tests)
told_noted_spares places (too_many t) a i h = grind (arith, nat_tests)

pub told_laws : (places : ℕ) → JudgeLaws (told_kind places)
told_laws places = search (rules, told_noted_less, told_noted_spares)

pub limit_laws : JudgeLaws limit_kind
limit_laws = search rules

pub held_laws : {M : Type 0} (kind : Kind M) → JudgeLaws kind → JudgeLaws (held_kind kind)
held_laws kind laws = search rules
