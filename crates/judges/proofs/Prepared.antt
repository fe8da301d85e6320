-- Any judge that was cleared at a cutoff and told some stamps drops only obsolete intervals; a thorough one with
-- a place for each stamp drops exactly these. Over the laws of a kind, whatever a judge means.
use Rattle.std.proofs.Common.{◌≡◌, ℕ, ◌+◌, ◌<◌, ◌≤◌, true, false, ◌&&◌, ltb, List, [], ◌∷◌, length, refl, ap, ◌∙◌, arith}
use Rattle.std.proofs.lemmas.Bool.Decides.{nat_tests}
use Rattle.std.proofs.lemmas.Bool.{lt-ltb, cond-true}
use Rattle.stamps.specs.declared.Interval.{Interval}
use Rattle.stamps.specs.Intervals.{inside, none_inside, obsolete}
use Rattle.judges.specs.Kinds.{Kind, JudgeLaws, noted_all, prepared}
use Rattle.judges.specs.Told.{notes, too_many, told_noted}
use Rattle.stamps.specs.Rising.{insert}
use Rattle.stamps.proofs.Inserting.{length_insert, none_inside_insert}

module _ {M : Type 0} (kind : Kind M) where
  -- What notes do to any judge that keeps two of the laws: it drops no more than before, and nothing that one of them lies
  -- in.
  pub noted_all_spares :
      ((m : M) (a : ℕ) (i : Interval) → kind.drops (kind.noted m a) i ≡ true → kind.drops m i ≡ true)
      → ((m : M) (a : ℕ) (i : Interval) → kind.drops (kind.noted m a) i ≡ true → inside a i ≡ false)
      → (xs : List ℕ) (m : M) (i : Interval) → kind.drops (noted_all kind m xs) i ≡ true → (kind.drops m i ≡ true) × (none_inside xs i ≡ true)
  noted_all_spares less spares [] m i h = (h, refl)
  noted_all_spares less spares (a ∷ rest) m i h =
      let ih = noted_all_spares less spares rest (kind.noted m a) i h in
      let out = spares m a i ih.0 in
      (less m a i ih.0, grind (arith, nat_tests))

  -- What notes do to a thorough judge that has a place for each.
  pub noted_all_exact :
      ((m : M) (a : ℕ) → kind.thorough (kind.noted m a) ≡ kind.thorough m)
      → ((m : M) (a : ℕ) → kind.thorough m ≡ true → kind.told (kind.noted m a) ≡ told_noted kind.places (kind.told m) a)
      → ((m : M) (t : ℕ) (xs : List ℕ) (i : Interval) → kind.thorough m ≡ true → kind.told m ≡ notes t xs → kind.drops m i ≡ obsolete t xs i)
      → (ys : List ℕ) (m : M) (t : ℕ) (xs : List ℕ) → kind.thorough m ≡ true → kind.told m ≡ notes t xs → length xs + length ys ≤ kind.places
      → (i : Interval) → kind.drops (noted_all kind m ys) i ≡ (obsolete t xs i && none_inside ys i)
  noted_all_exact stays tells exact [] m t xs th is room i = let e = exact m t xs i th is in grind (arith, nat_tests)
  noted_all_exact stays tells exact (a ∷ rest) m t xs th is room i =
      let more = length_insert a xs in
      let within : length xs < kind.places = omega arith in
      let told_more : kind.told (kind.noted m a) ≡ notes t (insert a xs) =
      tells m a th ∙ ap (λ x. told_noted kind.places x a) is ∙ cond-true (ltb (length xs) kind.places) (notes t (insert a xs)) (too_many t) (lt-ltb (length xs) kind.places within) in
      let ih = noted_all_exact stays tells exact rest (kind.noted m a) t (insert a xs) (stays m a ∙ th) told_more (omega arith) i in
      let out = none_inside_insert a xs i in
      grind (arith, nat_tests)

  -- A judge that is cleared at t and told a scan, by the four laws on what is dropped ..
  pub prepared_by_four :
      ((m : M) (i : Interval) → kind.drops m i ≡ true → i.start ≤ i.end)
      → ((m : M) (t : ℕ) (i : Interval) → kind.drops (kind.cleared m t) i ≡ true → i.end ≤ t)
      → ((m : M) (a : ℕ) (i : Interval) → kind.drops (kind.noted m a) i ≡ true → kind.drops m i ≡ true)
      → ((m : M) (a : ℕ) (i : Interval) → kind.drops (kind.noted m a) i ≡ true → inside a i ≡ false)
      → (m : M) (t : ℕ) (scan : List ℕ) (i : Interval) → kind.drops (prepared kind m t scan) i ≡ true → obsolete t scan i ≡ true
  prepared_by_four in_order within less spares m t scan i h =
      let kept = noted_all_spares less spares scan (kind.cleared m t) i h in
      let s = in_order (kind.cleared m t) i kept.0 in
      let e = within m t i kept.0 in
      grind (arith, nat_tests)

  -- .. and, with a place for each stamp, by the five laws on thorough ones.
  pub prepared_by_five :
      ((m : M) (t : ℕ) → kind.thorough (kind.cleared m t) ≡ kind.thorough m)
      → ((m : M) (a : ℕ) → kind.thorough (kind.noted m a) ≡ kind.thorough m)
      → ((m : M) (t : ℕ) → kind.thorough m ≡ true → kind.told (kind.cleared m t) ≡ notes t [])
      → ((m : M) (a : ℕ) → kind.thorough m ≡ true → kind.told (kind.noted m a) ≡ told_noted kind.places (kind.told m) a)
      → ((m : M) (t : ℕ) (xs : List ℕ) (i : Interval) → kind.thorough m ≡ true → kind.told m ≡ notes t xs → kind.drops m i ≡ obsolete t xs i)
      → (m : M) (t : ℕ) (scan : List ℕ) → kind.thorough m ≡ true → length scan ≤ kind.places → (i : Interval) → kind.drops (prepared kind m t scan) i ≡ obsolete t scan i
  prepared_by_five cleared_stays stays cleared_tells tells exact m t scan th room i =
      let e = noted_all_exact stays tells exact scan (kind.cleared m t) t [] (cleared_stays m t ∙ th) (cleared_tells m t th) (omega arith) i in
      grind (arith, nat_tests)

-- Of a judge that keeps all nine.
module _ {M : Type 0} {kind : Kind M} (laws : JudgeLaws kind) where
  pub prepared_lawful : (m : M) (t : ℕ) (scan : List ℕ) (i : Interval) → kind.drops (prepared kind m t scan) i ≡ true → obsolete t scan i ≡ true
  prepared_lawful = prepared_by_four kind laws.ordered laws.cleared_within laws.noted_less laws.noted_spares

  pub prepared_exact : (m : M) (t : ℕ) (scan : List ℕ) → kind.thorough m ≡ true → length scan ≤ kind.places → (i : Interval) → kind.drops (prepared kind m t scan) i ≡ obsolete t scan i
  prepared_exact = prepared_by_five kind laws.cleared_thorough laws.noted_thorough laws.cleared_told laws.noted_told laws.exact
