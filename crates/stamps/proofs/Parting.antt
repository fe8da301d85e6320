-- Where a rising row parts by a test that its first stamps pass: there one stamp more goes in, and from there on the
-- first decides what lies inside an interval.
use Rattle.std.proofs.Common.{◌≡◌, ℕ, zero, suc, ◌+◌, ◌<◌, ◌≤◌, Bool, true, false, cond, ltb, leb, List, [], ◌∷◌, Some, length, get_or, refl, sym, ap, ◌∙◌, ⊎_elim, arith}
use Rattle.std.proofs.lemmas.Bool.{cond-true, cond-false, cond_both, cases_lt, lt-ltb, le-leb}
use Rattle.std.proofs.lemmas.Map.Entries.{option_filter}
use Rattle.std.proofs.lemmas.Bool.Decides.{nat_tests}
use Rattle.std.proofs.lemmas.List.Sorted.{IsNonDecreasingBy-from_all_adjacent}
use Rattle.std.specs.List.{find}
use Rattle.std.specs.List as list
use Rattle.std.specs.List.Sorted.{IsNonDecreasingBy, IsPartitionPoint}
use Rattle.stamps.specs.declared.interval.Interval.{Interval}
use Rattle.stamps.specs.Intervals.{starts_by, smallest_inside}
use Rattle.stamps.specs.Rising.{insert, rising}
use Rattle.stamps.proofs.Smallest.{first_from_start, none_below_start, rising_rest}

each_at_most_next : (xs : List ℕ) → rising xs ≡ true → (k j d : ℕ) → j ≡ k + 1 → j < length xs → get_or xs k d ≤ get_or xs j d
each_at_most_next [] r k j d e h = absurd (omega arith)
each_at_most_next (a ∷ []) r k j d e h = absurd (omega arith)
each_at_most_next (a ∷ b ∷ rest) r k zero d e h = absurd (omega arith)
each_at_most_next (a ∷ b ∷ rest) r zero (suc zero) d e h = grind (arith, nat_tests)
each_at_most_next (a ∷ b ∷ rest) r zero (suc (suc j)) d e h = absurd (omega arith)
each_at_most_next (a ∷ b ∷ rest) r (suc k) (suc j) d e h = each_at_most_next (b ∷ rest) (rising_rest a (b ∷ rest) r) k j d (omega arith) (omega arith)

pub never_falls : (xs : List ℕ) → rising xs ≡ true → IsNonDecreasingBy (λ y. y) xs
never_falls xs r = IsNonDecreasingBy-from_all_adjacent (λ y. y) xs (λ k d h. each_at_most_next xs r k (k + 1) d refl h)

-- How many stamps at the front pass a test.
abbrev pub front : (ℕ → Bool) → List ℕ → ℕ
front p [] = 0
front p (x ∷ xs) = cond (p x) (suc (front p xs)) 0

pub parts_behind_front : (p : ℕ → Bool) (xs : List ℕ) (i : ℕ) → i ≤ length xs → IsPartitionPoint (λ y. p y ≡ true) (λ y. p y ≡ false) xs i → i ≡ front p xs
parts_behind_front p [] i within point = omega arith
parts_behind_front p (x ∷ xs) zero within point = sym (cond-false (p x) (suc (front p xs)) 0 (point.1 0 x (omega arith) (omega arith)))
parts_behind_front p (x ∷ xs) (suc i) within point =
    ap suc (parts_behind_front p xs i (omega arith) (λ k d lo hi. point.0 (suc k) d (omega arith) (omega arith), λ k d lo hi. point.1 (suc k) d (omega arith) (omega arith)))
    ∙ sym (cond-true (p x) (suc (front p xs)) 0 (point.0 0 x (omega arith) (omega arith)))

pub insert_behind_front : (a : ℕ) (xs : List ℕ) → list.insert xs (front (λ y. leb y a) xs) a ≡ insert a xs
insert_behind_front a [] = refl
insert_behind_front a (b ∷ rest) =
    ⊎_elim
    (λ lt. ap (λ n. list.insert (b ∷ rest) n a) (cond-false (leb b a) _ _ (grind (arith, nat_tests))) ∙ sym (cond-true (ltb a b) (a ∷ b ∷ rest) (b ∷ insert a rest) (lt-ltb a b lt)))
    (λ ge. ap (λ n. list.insert (b ∷ rest) n a) (cond-true (leb b a) _ _ (le-leb b a ge)) ∙ ap (λ xs. b ∷ xs) (insert_behind_front a rest) ∙ sym (cond-false (ltb a b) (a ∷ b ∷ rest) (b ∷ insert a rest) (grind (arith, nat_tests))))
    (cases_lt a b)

-- In a rising row the first stamp that is not below the start decides.
pub first_from_start_decides : (xs : List ℕ) (i : Interval) → rising xs ≡ true
    → option_filter (λ y. ltb y i.end) (find (λ y. starts_by y i) xs) ≡ smallest_inside xs i
first_from_start_decides [] i r = refl
first_from_start_decides (b ∷ rest) i r =
    cond_both (starts_by b i) (Some b) (find (λ y. starts_by y i) rest) (λ o. option_filter (λ y. ltb y i.end) o ≡ smallest_inside (b ∷ rest) i)
    (λ from. sym (first_from_start b rest i r from))
    (λ below. first_from_start_decides rest i (rising_rest b rest r) ∙ sym (none_below_start b rest i below))
