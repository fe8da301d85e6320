-- Intervals and scans. An obsolete interval ends by the cutoff and holds no scanned stamp. A thorough judge keeps an
-- interval up to the cutoff only for a scanned stamp inside; the intervals of a list are disjoint, so each such
-- version that is kept uses up a stamp of its own: going down, no more of them are kept than there are stamps at or
-- above.
use Rattle.std.proofs.Common.{◌≡◌, ℕ, suc, ◌+◌, ◌<◌, ◌≤◌, true, false, cond, leb, List, [], ◌∷◌, length, Some, ⊎_elim, arith, zero}
use Rattle.std.proofs.lemmas.Bool.{cases_lt, cases_Bool}
use Rattle.std.proofs.lemmas.Bool.Decides.{nat_tests}
use Rattle.std.specs.List.{All, Contains}
use Rattle.stamps.specs.Intervals.{none_inside, obsolete}
use Rattle.model.specs.Compactions.{interval}
use Rattle.model.specs.Judging.{Judge, Thorough}
use Rattle.model.specs.State.{last_stamp}
use Rattle.laws.specs.Space.{up_to}

-- an obsolete interval ends by the cutoff ..
pub obsolete_within : (t : ℕ) (q : List ℕ) (a e : ℕ) → obsolete t q (interval a e) ≡ true → e ≤ t
obsolete_within t q a e h = grind (arith, nat_tests)

none_among : (q : List ℕ) (a e d : ℕ) → none_inside q (interval a e) ≡ true → Contains q d → a ≤ d → d < e → ⊥
none_among [] a e d n h l m = let k = h.1 in omega arith
none_among (c ∷ q) a e d n (zero, k, p) l m = grind (arith, nat_tests)
none_among (c ∷ q) a e d n (suc j, k, p) l m = none_among q a e d (grind (arith, nat_tests)) (j, omega arith, p) l m

-- .. and holds no scanned stamp
pub obsolete_empty : (t : ℕ) (q : List ℕ) (a e d : ℕ) → obsolete t q (interval a e) ≡ true → Contains q d → a ≤ d → d < e → ⊥
obsolete_empty t q a e d h = none_among q a e d (grind (arith, nat_tests))

-- how many stamps of a scan are a or more
abbrev pub at_least : List ℕ → ℕ → ℕ
at_least [] a = 0
at_least (c ∷ q) a = cond (leb a c) 1 0 + at_least q a

pub at_least_le : (q : List ℕ) (a : ℕ) → at_least q a ≤ length q
at_least_le [] a = omega arith
at_least_le (c ∷ q) a = let h = at_least_le q a in grind arith

at_least_mono : (q : List ℕ) (a e : ℕ) → a ≤ e → at_least q e ≤ at_least q a
at_least_mono [] a e h = omega arith
at_least_mono (c ∷ q) a e h = let r = at_least_mono q a e h in grind arith

-- a stamp inside [a, e) is one more
one_inside : (q : List ℕ) (a e : ℕ) → a ≤ e → none_inside q (interval a e) ≡ false → at_least q e + 1 ≤ at_least q a
one_inside [] a e h n = grind (arith, nat_tests)
one_inside (c ∷ q) a e h n =
    let m = at_least_mono q a e h in
    ⊎_elim (λ k. grind (arith, nat_tests)) (λ k. let r = one_inside q a e h k in grind (arith, nat_tests)) (cases_Bool (none_inside q (interval a e)))

module _ (J : Judge) (places t : ℕ) (q : List ℕ) (T : Thorough places J) (lt : t ≤ last_stamp) (lq : All (λ a. a ≤ last_stamp) q) (room : length q ≤ places) where
  -- what a thorough judge keeps holds a stamp
  kept_inside : (a e : ℕ) → a ≤ e → e ≤ t → J.drops t q (interval a e) ≡ false → none_inside q (interval a e) ≡ false
  kept_inside a e h k d = grind arith

  -- one step down: one version more up to t, and one stamp more at or above
  pub kept_uses_stamp : (a e n : ℕ) → a ≤ e → J.drops t q (interval a e) ≡ false → n ≤ at_least q e → n + up_to t (Some e) ≤ at_least q a
  kept_uses_stamp a e n h d b = grind (arith, one_inside, kept_inside, at_least_mono, cases_lt)
