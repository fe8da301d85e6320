-- No two kinds of refusal share a number, where the numbers of one refusal of each kind are apart: this is computed.
use Rattle.std.proofs.Common.{◌≡◌, ℕ, zero, suc, ◌<◌, Bool, true, false, not, ◌&&◌, eqb, List, [], ◌∷◌, map, length, get_or, ◌⊎◌, inl, inr, sym, refl, ap, subst, ◌∙◌, arith}
use Rattle.std.proofs.lemmas.Bool.Decides.{nat_tests}
use Rattle.std.specs.List.{list_any}
use Rattle.values.specs.Laws.{IsBadLine, NumberTellsKind}
use Rattle.values.specs.Refusals.{number_of}
use Rattle.values.specs.declared.refusal.Refusal.{Refusal}
use Rattle.values.specs.declared.refusal.Refusal.TheVariants.{NoSuchWorker, NoSuchCell, SessionStage, OperationStage, NoOpenSession, CellBusy, NoFreeNode, ClockAtEnd, BadSizes, TallyTooLarge, BadLine}

-- No number of a list stands in it twice.
abbrev pub apart : List ℕ → Bool
apart [] = true
apart (n ∷ rest) = not (list_any (eqb n) rest) && apart rest

elsewhere : (n : ℕ) (rest : List ℕ) (j : ℕ) → list_any (eqb n) rest ≡ false → j < length rest → get_or rest j 0 ≡ n → ⊥
elsewhere n [] j out h e = omega arith
elsewhere n (m ∷ rest) zero out h e = grind (arith, nat_tests)
elsewhere n (m ∷ rest) (suc j) out h e = elsewhere n rest j (grind (arith, nat_tests)) (omega arith) e

same_place : (xs : List ℕ) → apart xs ≡ true → (i j : ℕ) → i < length xs → j < length xs → get_or xs i 0 ≡ get_or xs j 0 → i ≡ j
same_place [] a i j hi hj e = absurd (omega arith)
same_place (n ∷ rest) a zero zero hi hj e = refl
same_place (n ∷ rest) a zero (suc j) hi hj e = absurd (elsewhere n rest j (grind (arith, nat_tests)) (omega arith) (sym e))
same_place (n ∷ rest) a (suc i) zero hi hj e = absurd (elsewhere n rest i (grind (arith, nat_tests)) (omega arith) e)
same_place (n ∷ rest) a (suc i) (suc j) hi hj e = ap suc (same_place rest (grind (arith, nat_tests)) i j (omega arith) (omega arith) e)

-- One refusal of each kind, and the place of a refusal's kind among them.
abbrev pub kinds : List Refusal
kinds =
    NoSuchWorker
    ∷ NoSuchCell
    ∷ SessionStage
    ∷ OperationStage
    ∷ NoOpenSession
    ∷ CellBusy
    ∷ NoFreeNode
    ∷ ClockAtEnd
    ∷ BadSizes
    ∷ TallyTooLarge
    ∷ BadLine (record { line = 0; field = 0 })
    ∷ []

place : Refusal → ℕ
place NoSuchWorker = 0
place NoSuchCell = 1
place SessionStage = 2
place OperationStage = 3
place NoOpenSession = 4
place CellBusy = 5
place NoFreeNode = 6
place ClockAtEnd = 7
place BadSizes = 8
place TallyTooLarge = 9
place (BadLine p) = 10

-- Of each refusal: its kind stands at its place, with its number; it is the one of its kind, or a bad line.
record Placed (a : Refusal) : Type 0 where
  within : place a < length (map number_of kinds)
  number : get_or (map number_of kinds) (place a) 0 ≡ number_of a
  of_kind : (get_or kinds (place a) NoSuchWorker ≡ a) ⊎ (IsBadLine a × (place a ≡ 10))

placed : (a : Refusal) → Placed a
unfolding place
placed NoSuchWorker = record { within = omega arith; number = refl; of_kind = inl refl }
placed NoSuchCell = record { within = omega arith; number = refl; of_kind = inl refl }
placed SessionStage = record { within = omega arith; number = refl; of_kind = inl refl }
placed OperationStage = record { within = omega arith; number = refl; of_kind = inl refl }
placed NoOpenSession = record { within = omega arith; number = refl; of_kind = inl refl }
placed CellBusy = record { within = omega arith; number = refl; of_kind = inl refl }
placed NoFreeNode = record { within = omega arith; number = refl; of_kind = inl refl }
placed ClockAtEnd = record { within = omega arith; number = refl; of_kind = inl refl }
placed BadSizes = record { within = omega arith; number = refl; of_kind = inl refl }
placed TallyTooLarge = record { within = omega arith; number = refl; of_kind = inl refl }
placed (BadLine p) = record { within = omega arith; number = refl; of_kind = inr (tt, refl) }

same_kind : (a b : Refusal) → place a ≡ place b → (a ≡ b) ⊎ (IsBadLine a × IsBadLine b)
same_kind a b e = by_kind (placed a).of_kind (placed b).of_kind
  where
    kind_at : ℕ → Refusal
    kind_at n = get_or kinds n NoSuchWorker

    line_at_10 : (n : ℕ) (r : Refusal) → n ≡ 10 → kind_at n ≡ r → IsBadLine r
    line_at_10 n r e k = subst IsBadLine (ap kind_at (sym e) ∙ k) tt

    by_kind :
        (kind_at (place a) ≡ a) ⊎ (IsBadLine a × (place a ≡ 10)) → (kind_at (place b) ≡ b) ⊎ (IsBadLine b × (place b ≡ 10)) → (a ≡ b) ⊎ (IsBadLine a × IsBadLine b)
    by_kind (inl p) (inl q) = inl (sym p ∙ ap kind_at e ∙ q)
    by_kind (inl p) (inr q) = inr (line_at_10 (place a) a (e ∙ q.1) p, q.0)
    by_kind (inr p) (inl q) = inr (p.0, line_at_10 (place b) b (sym e ∙ p.1) q)
    by_kind (inr p) (inr q) = inr (p.0, q.0)

pub number_tells_kind : apart (map number_of kinds) ≡ true → NumberTellsKind
number_tells_kind all a b e =
    let p = placed a in
    let q = placed b in
    same_kind a b (same_place (map number_of kinds) all (place a) (place b) p.within q.within (p.number ∙ e ∙ sym q.number))
