-- What is found in a list after one element was changed, and in a table that was made.
use Rattle.std.proofs.Common.{◌≡◌, ℕ, zero, suc, ◌<◌, cond, eqb, ◌⊎◌, List, [], ◌∷◌, ◌++◌, map, length, get_or, set, replicate, sym, refl, ap, subst, inl, inr, ⊎_elim, ◌∙◌}
use Rattle.std.proofs.Math.ListN.{get_or-map}
use Rattle.std.proofs.lemmas.Grind.{get_or-set_at}
use Rattle.std.proofs.lemmas.List.{get_or-set_other}
use Rattle.std.proofs.lemmas.Bool.{cases_eq, cond-true, cond-false, eq-eqb, ne_eqb}

-- What a change of one place leaves, as transfers of any predicate
module _ {A : Type 0} where
  -- either the new element or the old one
  pub set_either : (l : List A) (i j : ℕ) (a d : A) (P : A → Type 0) → (j ≡ i → P a) → P (get_or l j d) → P (get_or (set l i a) j d)
  set_either [] i j a d P p q = q
  set_either (x ∷ l) zero zero a d P p q = p refl
  set_either (x ∷ l) zero (suc j) a d P p q = q
  set_either (x ∷ l) (suc i) zero a d P p q = q
  set_either (x ∷ l) (suc i) (suc j) a d P p q = set_either l i j a d P (λ e. p (ap suc e)) q

  pub set_both :
      (l : List A) (i j : ℕ) (a d : A) (P : A → Type 0) → i < length l → (j ≡ i → P a) → ((j ≡ i → ⊥) → P (get_or l j d)) → P (get_or (set l i a) j d)
  set_both l i j a d P h p q =
      ⊎_elim (λ e. subst P (sym (get_or-set_at l i j a d e h)) (p e))
      (λ ne. subst P (sym (get_or-set_other l i j a d ne)) (q ne)) (cases_eq j i)

  pub map_get_or : (f : A → A) (l : List A) (j : ℕ) (d : A) → f d ≡ d → get_or (map f l) j d ≡ f (get_or l j d)
  map_get_or f l j d e = ap (get_or (map f l) j) (sym e) ∙ get_or-map f l j d

  pub map_each : (f : A → A) (l : List A) (j : ℕ) (d : A) (P : A → Type 0) → P (f (get_or l j d)) → P (get_or (map f l) j (f d))
  map_each f l j d P p = subst P (sym (get_or-map f l j d)) p

  pub append_each :
      (l r : List A) (d : A) (P : A → Type 0) → ((n : ℕ) → P (get_or l n d)) → ((n : ℕ) → P (get_or r n d)) → (n : ℕ) → P (get_or (l ++ r) n d)
  append_each [] r d P f g n = g n
  append_each (x ∷ l) r d P f g zero = f zero
  append_each (x ∷ l) r d P f g (suc n) = append_each l r d P (λ m. f (suc m)) g n

  pub replicate_each : (k : ℕ) (a d : A) (P : A → Type 0) → P a → P d → (n : ℕ) → P (get_or (replicate k a) n d)
  replicate_each zero a d P p q n = q
  replicate_each (suc k) a d P p q zero = p
  replicate_each (suc k) a d P p q (suc n) = replicate_each k a d P p q n

  -- k places with a, and past them the default
  pub table_each : (k r : ℕ) (a d : A) (P : A → Type 0) → P a → P d → (n : ℕ) → P (get_or (replicate k a ++ replicate r d) n d)
  table_each k r a d P p q = append_each (replicate k a) (replicate r d) d P (replicate_each k a d P p q) (replicate_each r d d P q q)

  pub set_split :
      (l : List A) (i j : ℕ) (a d : A) → i < length l
      → ((j ≡ i) × (get_or (set l i a) j d ≡ a)) ⊎ ((j ≡ i → ⊥) × (get_or (set l i a) j d ≡ get_or l j d))
  set_split l i j a d h =
      ⊎_elim (λ e. inl (e, get_or-set_at l i j a d e h)) (λ ne. inr (ne, get_or-set_other l i j a d ne)) (cases_eq j i)

  abbrev pub updated : (ℕ → A) → ℕ → A → ℕ → A
  updated f n y k = cond (eqb k n) y (f k)

  pub updated_same : (f : ℕ → A) (n : ℕ) (y : A) (k : ℕ) → k ≡ n → updated f n y k ≡ y
  updated_same f n y k e = cond-true (eqb k n) y (f k) (eq-eqb k n e)

  pub updated_other : (f : ℕ → A) (n : ℕ) (y : A) (k : ℕ) → (k ≡ n → ⊥) → updated f n y k ≡ f k
  updated_other f n y k e = cond-false (eqb k n) y (f k) (ne_eqb k n e)
