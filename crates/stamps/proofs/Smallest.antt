-- The smallest stamp inside an interval: found from either end of a list, in any order, and at once in a rising list.
use Rattle.std.proofs.Common.{◌≡◌, ℕ, ◌≤◌, Bool, true, false, cond, not, ◌&&◌, ltb, leb, List, [], ◌∷◌, is_some, Some, None, Option, sym, refl, ap, ap₂, ◌∙◌, arith, min}
use Rattle.std.specs.List.{fold, reduce, filter}
use Rattle.std.proofs.lemmas.Bool.{cond_both, cond-true, cond-false, and_from, and_left, and_parts, ltb-false}
use Rattle.std.proofs.lemmas.Bool.Decides.{nat_tests}
use Rattle.stamps.specs.declared.interval.Interval.{Interval}
use Rattle.stamps.specs.Intervals.{starts_by, inside, none_inside, smaller, if_inside, smallest_inside}
use Rattle.stamps.specs.Rising.{insert, sorted, rising, at_most_first}
use Rattle.stamps.proofs.Inserting.{none_inside_insert}

pub smaller_none : (a : Option ℕ) → smaller a None ≡ a
smaller_none None = refl
smaller_none (Some x) = refl

pub smaller_assoc : (a b c : Option ℕ) → smaller (smaller a b) c ≡ smaller a (smaller b c)
smaller_assoc None b c = refl
smaller_assoc (Some x) None c = refl
smaller_assoc (Some x) (Some y) None = refl
smaller_assoc (Some x) (Some y) (Some z) = ap Some (omega arith)

smaller_comm : (a b : Option ℕ) → smaller a b ≡ smaller b a
smaller_comm None None = refl
smaller_comm None (Some y) = refl
smaller_comm (Some x) None = refl
smaller_comm (Some x) (Some y) = ap Some (omega arith)

smaller_swap : (a b c : Option ℕ) → smaller b (smaller a c) ≡ smaller a (smaller b c)
smaller_swap a b c = sym (smaller_assoc b a c) ∙ ap (λ o. smaller o c) (smaller_comm b a) ∙ smaller_assoc a b c

smallest_insert : (a : ℕ) (xs : List ℕ) (i : Interval) → smallest_inside (insert a xs) i ≡ smaller (if_inside a i) (smallest_inside xs i)
smallest_insert a [] i = refl
smallest_insert a (b ∷ rest) i =
    cond_both (ltb a b) (a ∷ b ∷ rest) (b ∷ insert a rest) (λ ys. smallest_inside ys i ≡ smaller (if_inside a i) (smallest_inside (b ∷ rest) i))
    (λ _. refl)
    (λ _. ap (smaller (if_inside b i)) (smallest_insert a rest i) ∙ smaller_swap (if_inside a i) (if_inside b i) (smallest_inside rest i))

pub smallest_sorted : (xs : List ℕ) (i : Interval) → smallest_inside (sorted xs) i ≡ smallest_inside xs i
smallest_sorted [] i = refl
smallest_sorted (x ∷ xs) i = smallest_insert x (sorted xs) i ∙ ap (smaller (if_inside x i)) (smallest_sorted xs i)

fold_min : (x y : ℕ) (xs : List ℕ) → fold min (min x y) xs ≡ min x (fold min y xs)
fold_min x y [] = refl
fold_min x y (z ∷ zs) = ap (λ n. fold min n zs) (omega arith) ∙ fold_min x (min y z) zs

reduce_more : (x : ℕ) (xs : List ℕ) → reduce min (x ∷ xs) ≡ smaller (Some x) (reduce min xs)
reduce_more x [] = refl
reduce_more x (y ∷ ys) = ap Some (fold_min x y ys)

-- The least of those inside.
least_inside : (xs : List ℕ) (i : Interval) → reduce min (filter (λ a. inside a i) xs) ≡ smallest_inside xs i
least_inside [] i = refl
least_inside (x ∷ xs) i =
    cond_both (inside x i) (x ∷ filter (λ a. inside a i) xs) (filter (λ a. inside a i) xs) (λ ys. reduce min ys ≡ smallest_inside (x ∷ xs) i)
    (λ in_it. reduce_more x (filter (λ a. inside a i) xs) ∙ ap₂ smaller (sym (cond-true (inside x i) (Some x) None in_it)) (least_inside xs i))
    (λ out. least_inside xs i ∙ ap (λ o. smaller o (smallest_inside xs i)) (sym (cond-false (inside x i) (Some x) None out)))

-- In rising order it is the least of those inside, in whatever order they came.
pub smallest_in_any_order : (xs : List ℕ) (i : Interval) → smallest_inside (sorted xs) i ≡ reduce min (filter (λ a. inside a i) xs)
smallest_in_any_order xs i = smallest_sorted xs i ∙ sym (least_inside xs i)

none_sorted : (xs : List ℕ) (i : Interval) → none_inside (sorted xs) i ≡ none_inside xs i
none_sorted [] i = refl
none_sorted (x ∷ xs) i = none_inside_insert x (sorted xs) i ∙ ap (λ b. not (inside x i) && b) (none_sorted xs i)

fold_none : (none : Bool) (xs : List ℕ) (i : Interval) → fold (λ (b : Bool) (a : ℕ). b && not (inside a i)) none xs ≡ (none && none_inside xs i)
fold_none none [] i = grind (arith, nat_tests)
fold_none none (x ∷ xs) i = let ih = fold_none (none && not (inside x i)) xs i in grind (arith, nat_tests)

-- In rising order none lies inside where none does in whatever order they came.
pub none_in_any_order : (xs : List ℕ) (i : Interval) → none_inside (sorted xs) i ≡ fold (λ (b : Bool) (a : ℕ). b && not (inside a i)) true xs
none_in_any_order xs i = none_sorted xs i ∙ sym (fold_none true xs i)

neither : (b : Bool) (x : ℕ) (o : Option ℕ) → (not b && not (is_some o)) ≡ not (is_some (smaller (cond b (Some x) None) o))
neither false x o = refl
neither true x None = refl
neither true x (Some y) = refl

-- A list has no stamp inside exactly where it has no smallest one.
pub none_without_smallest : (xs : List ℕ) (i : Interval) → none_inside xs i ≡ not (is_some (smallest_inside xs i))
none_without_smallest [] i = refl
none_without_smallest (x ∷ xs) i = ap (λ b. not (inside x i) && b) (none_without_smallest xs i) ∙ neither (inside x i) x (smallest_inside xs i)

-- In a rising list, from a stamp at or above the end on, none lies inside.
none_past_end : (a : ℕ) (xs : List ℕ) (i : Interval) → rising (a ∷ xs) ≡ true → i.end ≤ a → smallest_inside (a ∷ xs) i ≡ None
none_past_end a [] i r h = grind (arith, nat_tests)
none_past_end a (b ∷ rest) i r h = let ih = none_past_end b rest i in grind (arith, nat_tests)

smaller_than_later : (a b : ℕ) (t : Bool) → a ≤ b → smaller (Some a) (cond t (Some b) None) ≡ Some a
smaller_than_later a b true h = ap Some (omega arith)
smaller_than_later a b false h = refl

-- In a rising list the first stamp is at most all that lie inside.
first_is_least : (a : ℕ) (xs : List ℕ) (i : Interval) → rising (a ∷ xs) ≡ true → smaller (Some a) (smallest_inside xs i) ≡ Some a
first_is_least a [] i r = refl
first_is_least a (b ∷ rest) i r =
    let le : a ≤ b = grind (arith, nat_tests) in
    let on : rising (a ∷ rest) ≡ true = without_second a b rest r in
    sym (smaller_assoc (Some a) (if_inside b i) (smallest_inside rest i))
    ∙ ap (λ o. smaller o (smallest_inside rest i)) (smaller_than_later a b (inside b i) le)
    ∙ first_is_least a rest i on
  where
    without_second : (a b : ℕ) (xs : List ℕ) → rising (a ∷ b ∷ xs) ≡ true → rising (a ∷ xs) ≡ true
    without_second a b [] r = refl
    without_second a b (c ∷ rest) r = grind (arith, nat_tests)

-- In a rising list the first stamp that is not below the start decides: it is the smallest inside, or none is.
pub first_from_start : (a : ℕ) (xs : List ℕ) (i : Interval) → rising (a ∷ xs) ≡ true → starts_by a i ≡ true → smallest_inside (a ∷ xs) i ≡ cond (ltb a i.end) (Some a) None
first_from_start a xs i r from =
    cond_both (ltb a i.end) (Some a) None (λ o. smallest_inside (a ∷ xs) i ≡ o)
    (λ below. let in_it : inside a i ≡ true = and_from (leb i.start a) (ltb a i.end) from below in
    ap (λ t. smaller (cond t (Some a) None) (smallest_inside xs i)) in_it ∙ first_is_least a xs i r)
    (λ past. none_past_end a xs i r (ltb-false a i.end past))

-- A stamp below the start is passed over.
pub none_below_start : (a : ℕ) (xs : List ℕ) (i : Interval) → starts_by a i ≡ false → smallest_inside (a ∷ xs) i ≡ smallest_inside xs i
none_below_start a xs i h =
    ap (λ t. smaller (cond t (Some a) None) (smallest_inside xs i)) (and_left (leb i.start a) (ltb a i.end) h)

pub rising_rest : (a : ℕ) (xs : List ℕ) → rising (a ∷ xs) ≡ true → rising xs ≡ true
rising_rest a xs r = (and_parts (at_most_first a xs) (rising xs) r).1
