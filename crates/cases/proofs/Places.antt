-- What a test computes over some places of a list holds at each of them.
use Rattle.std.proofs.Common.{◌≡◌, ℕ, zero, suc, ◌+◌, ◌<◌, ◌≤◌, Bool, true, not, ◌&&◌, List, [], ◌∷◌, Some, refl, ap, ◌∙◌, subst, arith, get_or, ◌-◌}
use Rattle.std.proofs.lemmas.Map.Keys.{any_passes_from_place}
use Rattle.std.proofs.lemmas.List.Sums.{AllPass-from_list_all}
use Rattle.std.proofs.lemmas.List.FromFn.{get_or-range_with_len, length-range_with_len}
use Rattle.std.specs.List.{slice_get, list_any, list_all, All, range_with_len}
use Rattle.std.proofs.lemmas.Bool.{and_parts, not-true, both_ways}

-- What holds of each of the numbers i, i + 1, .. , n of them.
pub at_each : (P : ℕ → Type 0) (i n : ℕ) → All P (range_with_len i n) → (j : ℕ) → i ≤ j → j < i + n → P j
at_each P i n told j from to =
    let at_j : get_or (range_with_len i n) (j - i) 0 ≡ j = get_or-range_with_len i n (j - i) 0 (omega arith) ∙ omega arith in
    subst P at_j (told (j - i) 0 (rw length-range_with_len (omega arith)))

-- A test that passes at each of them.
pub everywhere : (test : ℕ → Bool) (i n : ℕ) → list_all test (range_with_len i n) ≡ true → (j : ℕ) → i ≤ j → j < i + n → test j ≡ true
everywhere test i n h = at_each (λ j. test j ≡ true) i n (AllPass-from_list_all test (range_with_len i n) h)

-- No entry but the one at place k passes, so an entry that passes is at place k.
abbrev pub alone : {A : Type 0} → (A → Bool) → ℕ → List A → Bool
alone test k [] = true
alone test zero (x ∷ xs) = not (list_any test xs)
alone test (suc k) (x ∷ xs) = not (test x) && alone test k xs

pub only_at : {A : Type 0} (test : A → Bool) (k : ℕ) (xs : List A) → alone test k xs ≡ true → (j : ℕ) (a : A) → slice_get xs j ≡ Some a → test a ≡ true → j ≡ k
only_at test k [] h j a e t = absurd (grind arith)
only_at test zero (x ∷ xs) h zero a e t = refl
only_at test zero (x ∷ xs) h (suc j) a e t = absurd (both_ways (list_any test xs) (not-true (list_any test xs) h) (any_passes_from_place test xs j a e t))
only_at test (suc k) (x ∷ xs) h zero a e t = let parts = and_parts (not (test x)) (alone test k xs) h in absurd (grind arith)
only_at test (suc k) (x ∷ xs) h (suc j) a e t =
    let parts = and_parts (not (test x)) (alone test k xs) h in ap suc (only_at test k xs parts.1 j a e t)
