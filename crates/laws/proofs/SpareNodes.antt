-- The node that an offer takes lies in the table and is free, whichever it was told.
use Rattle.std.proofs.Common.{◌≡◌, ℕ, zero, suc, ◌<◌, Bool, true, false, ltb, List, [], ◌∷◌, length, get_or, Some, Option, sym, refl, ap, ◌∙◌, subst, arith}
use Rattle.std.proofs.lemmas.Bool.{ltb-true}
use Rattle.model.specs.Changes.{first_free, one_later, told_or_first, node_to_take}
use Rattle.model.specs.State.{Node, State, node, free, linked, waiting}

-- A node of the table that is free.
abbrev pub Spare : {V : Type 0} → State V → ℕ → Type 0
Spare s n = (n < length s.nodes) × (node s n ≡ free)

later_zero : (o : Option ℕ) → one_later o ≡ Some 0 → ⊥
later_zero x e = grind arith

later_suc : (o : Option ℕ) (n : ℕ) → one_later o ≡ Some (suc n) → o ≡ Some n
later_suc x n e = grind arith

first_free_is : {V : Type 0} (N : List (Node V)) (n : ℕ) → first_free N ≡ Some n → (n < length N) × (get_or N n free ≡ free)
first_free_is [] n e = grind arith
first_free_is (free ∷ N) zero e = (omega arith, refl)
first_free_is (free ∷ N) (suc n) e = grind arith
first_free_is (linked v ∷ N) zero e = absurd (later_zero (first_free N) e)
first_free_is (linked v ∷ N) (suc n) e = let r = first_free_is N n (later_suc (first_free N) n e) in (omega arith, r.1)
first_free_is (waiting v ms ∷ N) zero e = absurd (later_zero (first_free N) e)
first_free_is (waiting v ms ∷ N) (suc n) e = let r = first_free_is N n (later_suc (first_free N) n e) in (omega arith, r.1)

-- The node that an offer takes is one.
told_or_first_spare : {V : Type 0} (N : List (Node V)) (m n : ℕ) (b : Bool) (x : Node V) → ltb m (length N) ≡ b → get_or N m free ≡ x
    → told_or_first N m b x ≡ Some n → (n < length N) × (get_or N n free ≡ free)
told_or_first_spare N m n true free l h e =
    let q : m ≡ n = cc in (subst (λ k. k < length N) q (ltb-true m (length N) l), ap (λ k. get_or N k free) (sym q) ∙ h)
told_or_first_spare N m n true (linked v) l h e = first_free_is N n e
told_or_first_spare N m n true (waiting v ms) l h e = first_free_is N n e
told_or_first_spare N m n false x l h e = first_free_is N n e

pub node_to_take_spare : {V : Type 0} (s : State V) (m n : ℕ) → node_to_take s m ≡ Some n → Spare s n
node_to_take_spare s m n e = told_or_first_spare s.nodes m n (ltb m (length s.nodes)) (node s m) refl refl e
