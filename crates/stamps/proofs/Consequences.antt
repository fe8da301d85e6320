-- The laws of stamps.
use Rattle.std.proofs.Common.{◌≡◌, ℕ, ◌+◌, ◌≤◌, min, Bool, true, false, cond, eqb, List, [], ◌∷◌, Some, None, Option, refl, ap, ◌∙◌, ⊎_elim, arith}
use Rattle.std.proofs.lemmas.Bool.{both_ways, cases_lt, eq-eqb, eqb-true, or_cases, or_left, or_right}
use Rattle.std.proofs.lemmas.Bool.Decides.{nat_tests}
use Rattle.stamps.specs.declared.interval.Interval.{Interval}
use Rattle.stamps.specs.Intervals.{inside, smaller, smallest_inside}
use Rattle.stamps.specs.Laws.{among, times, IsSmallestInside, SmallestIsSmallest, SortedRises, SortedHasTheSame}
use Rattle.stamps.specs.Rising.{insert, sorted}
use Rattle.stamps.proofs.Inserting.{rising_insert}

-- One stamp more at the front of a list: it is not inside, or it competes with the smallest of the rest.
one_more : (b : ℕ) (rest : List ℕ) (i : Interval) (in_it : Bool) (o : Option ℕ) → inside b i ≡ in_it → IsSmallestInside rest i o
    → IsSmallestInside (b ∷ rest) i (smaller (cond in_it (Some b) None) o)
one_more b rest i true None e h = (grind (arith, nat_tests), e, λ c m k. let out = h c in grind (arith, nat_tests))
one_more b rest i true (Some a) e h =
    ⊎_elim
    (λ lt. let is : min b a ≡ b = omega arith in (
      ap (λ x. among x (b ∷ rest)) is ∙ or_left (eqb b b) (among b rest) (eq-eqb b b refl),
      ap (λ x. inside x i) is ∙ e,
      least,
    ))
    (λ ge. let is : min b a ≡ a = omega arith in (
      ap (λ x. among x (b ∷ rest)) is ∙ or_right (eqb a b) (among a rest) h.0,
      ap (λ x. inside x i) is ∙ h.1,
      least,
    ))
    (cases_lt b a)
  where
    least : (c : ℕ) → among c (b ∷ rest) ≡ true → inside c i ≡ true → min b a ≤ c
    least c m k = ⊎_elim (λ q. let z = eqb-true c b q in omega arith) (λ n. let le = h.2 c n k in omega arith) (or_cases (eqb c b) (among c rest) m)
one_more b rest i false None e h = λ c m. ⊎_elim (λ q. ap (λ x. inside x i) (eqb-true c b q) ∙ e) (h c) (or_cases (eqb c b) (among c rest) m)
one_more b rest i false (Some a) e h = (
  or_right (eqb a b) (among a rest) h.0,
  h.1,
  λ c m k. ⊎_elim (λ q. absurd (both_ways (inside c i) (ap (λ x. inside x i) (eqb-true c b q) ∙ e) k)) (λ n. h.2 c n k) (or_cases (eqb c b) (among c rest) m),
)

pub smallest_is_smallest : SmallestIsSmallest
smallest_is_smallest [] i = λ a h. grind (arith, nat_tests)
smallest_is_smallest (b ∷ rest) i = one_more b rest i (inside b i) (smallest_inside rest i) refl (smallest_is_smallest rest i)

pub sorted_rises : SortedRises
sorted_rises [] = refl
sorted_rises (a ∷ rest) = rising_insert a (sorted rest) (sorted_rises rest)

times_insert : (a b : ℕ) (stamps : List ℕ) → times a (insert b stamps) ≡ times a (b ∷ stamps)
times_insert a b [] = refl
times_insert a b (c ∷ rest) = let ih = times_insert a b rest in grind (arith, nat_tests)

pub sorted_has_the_same : SortedHasTheSame
sorted_has_the_same [] a = refl
sorted_has_the_same (b ∷ rest) a = let ih = sorted_has_the_same rest a in times_insert a b (sorted rest) ∙ ap (λ n. cond (eqb a b) 1 0 + n) ih
