-- Rising lists: what one stamp more does to them, and that sorting a list forgets only its order.
use Rattle.std.proofs.Common.{◌≡◌, ℕ, ◌+◌, true, not, ◌&&◌, List, [], ◌∷◌, ◌++◌, length, refl, ap, ◌∙◌, arith}
use Rattle.std.proofs.lemmas.Bool.Decides.{nat_tests}
use Rattle.stamps.specs.declared.interval.Interval.{Interval}
use Rattle.stamps.specs.Intervals.{inside, none_inside}
use Rattle.stamps.specs.Rising.{insert, sorted, rising}

pub length_insert : (a : ℕ) (xs : List ℕ) → length (insert a xs) ≡ length xs + 1
length_insert a [] = refl
length_insert a (b ∷ rest) = let ih = length_insert a rest in grind (arith, nat_tests)

pub length_sorted : (xs : List ℕ) → length (sorted xs) ≡ length xs
length_sorted [] = refl
length_sorted (x ∷ xs) = let ih = length_sorted xs in let more = length_insert x (sorted xs) in omega arith

pub insert_insert : (a b : ℕ) (xs : List ℕ) → insert a (insert b xs) ≡ insert b (insert a xs)
insert_insert a b [] = grind (arith, nat_tests)
insert_insert a b (c ∷ rest) = let ih = insert_insert a b rest in grind (arith, nat_tests)

-- The last stamp of a list may as well be inserted last.
pub sorted_push : (xs : List ℕ) (a : ℕ) → sorted (xs ++ a ∷ []) ≡ insert a (sorted xs)
sorted_push [] a = refl
sorted_push (x ∷ xs) a = ap (insert x) (sorted_push xs a) ∙ insert_insert x a (sorted xs)

pub none_inside_insert : (a : ℕ) (xs : List ℕ) (i : Interval) → none_inside (insert a xs) i ≡ (not (inside a i) && none_inside xs i)
none_inside_insert a [] i = refl
none_inside_insert a (b ∷ rest) i = let ih = none_inside_insert a rest i in grind (arith, nat_tests)

-- A stamp that is at most all of a rising list goes to its front.
pub insert_first : (a : ℕ) (xs : List ℕ) → rising (a ∷ xs) ≡ true → insert a xs ≡ a ∷ xs
insert_first a [] r = refl
insert_first a (b ∷ rest) r = let ih = insert_first a rest in grind (arith, nat_tests)

pub rising_insert : (a : ℕ) (xs : List ℕ) → rising xs ≡ true → rising (insert a xs) ≡ true
rising_insert a [] r = refl
rising_insert a (b ∷ rest) r = let ih = rising_insert a rest in grind (arith, nat_tests)
