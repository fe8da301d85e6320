-- Which numbers of bytes are tallies.
use Rattle.std.specs.Prelude.{◌≡◌, ℕ, ◌^◌, Bool, true, false, Ok, Err, Result, nat_le, refl}
use Rattle.std.proofs.lemmas.Bool.{leb-true}
use Rattle.values.specs.declared.refusal.Refusal.{Refusal}
use Rattle.values.specs.declared.refusal.Refusal.TheVariants.{TallyTooLarge}
use Rattle.values.specs.declared.tally.Tally.{Tally}

-- A number of bytes and whether it is at most 2^40.
abbrev pub bounded_tally : (n : ℕ) (fits : Bool) → nat_le n (2 ^ 40) ≡ fits → Result Tally Refusal
bounded_tally n true e = Ok (record { bytes = n; bounded = leb-true n (2 ^ 40) e })
bounded_tally n false e = Err TallyTooLarge

-- The tally of so many bytes.
abbrev pub tally_of : ℕ → Result Tally Refusal
tally_of n = bounded_tally n (nat_le n (2 ^ 40)) refl

-- The bytes that a tally counts.
abbrev pub bytes_of : Tally → ℕ
bytes_of t = t.bytes
