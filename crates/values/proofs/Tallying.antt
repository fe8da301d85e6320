-- A number of bytes that is at most 2^40 is a tally, and only one: two proofs of the bound are the same.
use Rattle.std.proofs.Common.{◌≡◌, ℕ, ◌^◌, ◌≤◌, Bool, true, false, leb, Ok, Result, refl, ap, arith}
use native.Mathlib.Bridge.{le_prop}
use Rattle.std.proofs.lemmas.Bool.{leb-true, leb-false}
use Rattle.values.specs.declared.refusal.Refusal.{Refusal}
use Rattle.values.specs.declared.tally.Tally.{Tally}
use Rattle.values.specs.Tallies.{bounded_tally, tally_of}

abbrev granted : (n : ℕ) → n ≤ 2 ^ 40 → Result Tally Refusal
granted n h = Ok (record { bytes = n; bounded = h })

either_way : (n : ℕ) (h : n ≤ 2 ^ 40) (fits : Bool) (e : leb n (2 ^ 40) ≡ fits) → granted n h ≡ bounded_tally n fits e
either_way n h true e = ap (granted n) (le_prop h (leb-true n (2 ^ 40) e))
either_way n h false e = let above = leb-false n (2 ^ 40) e in absurd (omega arith)

pub tally_within : (n : ℕ) (h : n ≤ 2 ^ 40) → granted n h ≡ tally_of n
tally_within n h = either_way n h (leb n (2 ^ 40)) refl
