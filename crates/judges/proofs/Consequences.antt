-- The laws of judges.
use Rattle.std.proofs.Common.{◌≡◌, ℕ, min, List, [], ◌∷◌, Some, refl, ap, ◌∙◌, arith}
use Rattle.std.proofs.lemmas.Bool.Decides.{nat_tests}
use Rattle.judges.specs.Kinds.{limit_kind, noted_all}
use Rattle.judges.specs.Told.{uncleared, notes, too_many}
use Rattle.judges.specs.Laws.{KeptForAStamp, NotesUnordered, smallest_of}
use Rattle.stamps.proofs.Inserting.{length_insert, insert_insert}
use Rattle.stamps.proofs.Smallest.{none_without_smallest}

pub kept_for_a_stamp : KeptForAStamp
kept_for_a_stamp t stamps i in_order by_cutoff = let none = none_without_smallest stamps i in grind (arith, nat_tests)

pub notes_unordered : NotesUnordered
notes_unordered places uncleared a b = refl
notes_unordered places (notes t stamps) a b =
    let one = length_insert a stamps in let other = length_insert b stamps in let both = insert_insert a b stamps in grind (arith, nat_tests)
notes_unordered places (too_many t) a b = refl

smallest_of_pull : (t a : ℕ) (stamps : List ℕ) → smallest_of (min t a) stamps ≡ min a (smallest_of t stamps)
smallest_of_pull t a [] = omega arith
smallest_of_pull t a (b ∷ rest) = let ih = smallest_of_pull t a rest in omega arith

pub limit_after : (t : ℕ) (stamps : List ℕ) → noted_all limit_kind (Some t) stamps ≡ Some (smallest_of t stamps)
limit_after t [] = refl
limit_after t (a ∷ rest) = limit_after (min t a) rest ∙ ap Some (smallest_of_pull t a rest)
