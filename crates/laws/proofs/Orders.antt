-- Orders by key, without a store: inserting, feeding, what a session or a write sees.
use Rattle.std.proofs.Common.{◌≡◌, ℕ, suc, ◌+◌, ◌<◌, ◌≤◌, Bool, true, false, cond, eqb, ltb, leb, ◌⊎◌, List, [], ◌∷◌, ◌++◌, map, sym, refl, ap, ◌∙◌, inl, inr, ⊎_elim, arith}
use Rattle.std.proofs.lemmas.Bool.{cond-true, cond-false, lt-leb, le-leb}
use Rattle.laws.specs.OneOrder.{Item, session, write, place, put, fed}

-- what stands in the order, with all that is known of it.
-- a session: place of its opening, stamp. a write: place, cell, stamp, value, what was seen in the cell before, time of the stamping
pub data Event (V : Type 0) : Type 0 where
  opening : ℕ → ℕ → Event V
  giving : ℕ → ℕ → ℕ → V → V → ℕ → Event V

module _ {V : Type 0} where
  abbrev pub key : Event V → ℕ
  key (opening i c) = suc (c + c)
  key (giving i x t v u m) = t + t

  abbrev pub time : Event V → ℕ
  time (opening i c) = i
  time (giving i x t v u m) = m

  abbrev pub item : Event V → Item V
  item (opening i c) = session i
  item (giving i x t v u m) = write i x v

  abbrev pub event_place : Event V → ℕ
  event_place e = place (item e)

  abbrev pub items : List (Event V) → List (Item V)
  items o = map item o

  abbrev pub In : Event V → List (Event V) → Type 0
  In e [] = ⊥
  In e (b ∷ o) = (b ≡ e) ⊎ In e o

  -- a goes after all that have no greater key
  abbrev pub insert : Event V → List (Event V) → List (Event V)
  insert a [] = a ∷ []
  insert a (b ∷ o) = cond (ltb (key a) (key b)) (a ∷ b ∷ o) (b ∷ insert a o)

  insert_case :
      (a b : Event V) (o : List (Event V)) (P : List (Event V) → Type 0) → (key a < key b → P (a ∷ b ∷ o)) → (key b ≤ key a → P (b ∷ insert a o))
      → P (insert a (b ∷ o))
  insert_case a b o x f g = grind arith

  pub in_insert : (a e : Event V) (o : List (Event V)) → In e (insert a o) → (a ≡ e) ⊎ In e o
  in_insert a e [] h = h
  in_insert a e (b ∷ o) h =
      insert_case a b o (λ l. In e l → (a ≡ e) ⊎ In e (b ∷ o)) (λ k h. h)
      (λ k h. ⊎_elim (λ p. inr (inl p)) (λ q. ⊎_elim (λ r. inl r) (λ r. inr (inr r)) (in_insert a e o q)) h) h

  pub insert_new : (a : Event V) (o : List (Event V)) → In a (insert a o)
  insert_new a [] = inl refl
  insert_new a (b ∷ o) = insert_case a b o (λ l. In a l) (λ k. inl refl) (λ k. inr (insert_new a o))

  pub insert_old : (a e : Event V) (o : List (Event V)) → In e o → In e (insert a o)
  insert_old a e [] h = inr h
  insert_old a e (b ∷ o) h = insert_case a b o (λ l. In e l) (λ k. inr h) (λ k. ⊎_elim (λ p. inl p) (λ q. inr (insert_old a e o q)) h)

  -- keys rise, and with equal keys times do
  abbrev pub After : Event V → List (Event V) → Type 0
  After b o = (e : Event V) → In e o → (key b ≤ key e) × (key e ≤ key b → time b < time e)

  abbrev pub Sorted : List (Event V) → Type 0
  Sorted [] = Unit {0}
  Sorted (b ∷ o) = After b o × Sorted o

  pub sorted_insert : (a : Event V) (o : List (Event V)) → ((e : Event V) → In e o → time e < time a) → Sorted o → Sorted (insert a o)
  sorted_insert a [] n s = (λ e h. absurd h, tt)
  sorted_insert a (b ∷ o) n s =
      insert_case a b o Sorted
      (λ k. (
        λ e h. ⊎_elim
            (λ p. let q : key b ≡ key e = ap key p in (omega arith, λ l. absurd (omega arith)))
            (λ q. let r = s.0 e q in (omega arith, λ l. absurd (omega arith))) h,
        s,
      ))
      (λ k. (
        λ e h. ⊎_elim
            (λ p. let q : key a ≡ key e = ap key p in let r : time a ≡ time e = ap time p in let m = n b (inl refl) in (omega arith, λ l. omega arith))
            (λ q. s.0 e q) (in_insert a e o h),
        sorted_insert a o (λ e h. n e (inr h)) s.1,
      ))

  -- p ++ a ∷ q
  pub in_split : (e : Event V) (o : List (Event V)) → In e o → (p q : List (Event V)) × (o ≡ p ++ e ∷ q)
  in_split e [] h = absurd h
  in_split e (b ∷ o) (inl p) = ([], o, ap (λ y. y ∷ o) p)
  in_split e (b ∷ o) (inr h) = let r = in_split e o h in (b ∷ r.0, r.1, ap (λ l. b ∷ l) r.2)

  pub in_mid : (p : List (Event V)) (e : Event V) (q : List (Event V)) → In e (p ++ e ∷ q)
  in_mid [] e q = inl refl
  in_mid (b ∷ p) e q = inr (in_mid p e q)

  -- a stands before b
  abbrev pub Precedes : Event V → Event V → List (Event V) → Type 0
  Precedes a b o = (p q r : List (Event V)) × (o ≡ p ++ a ∷ (q ++ b ∷ r))

  pub precedes : (a b : Event V) (o : List (Event V)) → Sorted o → In a o → In b o → key a ≤ key b → time a < time b → Precedes a b o
  precedes a b [] s h k l m = absurd h
  precedes a b (c ∷ o) s (inl h) (inl k) l m =
      absurd (let e : time c ≡ time a = ap time h in let f : time c ≡ time b = ap time k in omega arith)
  precedes a b (c ∷ o) s (inl h) (inr k) l m =
      let r = in_split b o k in ([], r.0, r.1, ap (λ y. y ∷ o) h ∙ ap (λ y. a ∷ y) r.2)
  precedes a b (c ∷ o) s (inr h) (inl k) l m =
      absurd
      (let e : key c ≡ key b = ap key k in let f : time c ≡ time b = ap time k in let g = s.0 a h in
      let n : time c < time a = g.1 (omega arith) in omega arith)
  precedes a b (c ∷ o) s (inr h) (inr k) l m =
      let r = precedes a b o s.1 h k l m in (c ∷ r.0, r.1, r.2, ap (λ y. c ∷ y) r.3)

  -- no two with one place
  abbrev pub Distinct : List (Event V) → Type 0
  Distinct [] = Unit {0}
  Distinct (b ∷ o) = ((e : Event V) → In e o → event_place b ≡ event_place e → ⊥) × Distinct o

  pub distinct_insert : (a : Event V) (o : List (Event V)) → ((e : Event V) → In e o → event_place e ≡ event_place a → ⊥) → Distinct o → Distinct (insert a o)
  distinct_insert a [] n d = (λ e h. absurd h, tt)
  distinct_insert a (b ∷ o) n d =
      insert_case a b o Distinct (λ k. (λ e h q. n e h (sym q), d))
      (λ k. (
        λ e h. ⊎_elim (λ p q. n b (inl refl) (q ∙ sym (ap event_place p))) (λ q. d.0 e q) (in_insert a e o h),
        distinct_insert a o (λ e h. n e (inr h)) d.1,
      ))

  pub distinct_one : (a b : Event V) (o : List (Event V)) → Distinct o → In a o → In b o → event_place a ≡ event_place b → a ≡ b
  distinct_one a b [] d h k e = absurd h
  distinct_one a b (c ∷ o) d (inl h) (inl k) e = sym h ∙ k
  distinct_one a b (c ∷ o) d (inl h) (inr k) e = absurd (d.0 b k (ap event_place h ∙ e))
  distinct_one a b (c ∷ o) d (inr h) (inl k) e = absurd (d.0 a h (ap event_place k ∙ sym e))
  distinct_one a b (c ∷ o) d (inr h) (inr k) e = distinct_one a b o d.1 h k e

  pub distinct_two : (p q r : List (Event V)) (a b : Event V) → Distinct (p ++ a ∷ (q ++ b ∷ r)) → event_place a ≡ event_place b → ⊥
  distinct_two [] q r a b d e = d.0 b (in_mid q b r) e
  distinct_two (c ∷ p) q r a b d e = distinct_two p q r a b d.1 e

  -- the value of cell x after the writes stamped up to c, in their order
  abbrev pub fed_up_to : ℕ → (ℕ → V) → List (Event V) → ℕ → V
  fed_up_to c f [] = f
  fed_up_to c f (opening i d ∷ o) = fed_up_to c f o
  fed_up_to c f (giving i x t v u m ∷ o) = fed_up_to c (cond (leb t c) (put f x v) f) o

  fed_above : (c : ℕ) (f : ℕ → V) (o : List (Event V)) (x : ℕ) → ((e : Event V) → In e o → suc (c + c) ≤ key e) → f x ≡ fed_up_to c f o x
  fed_above c f [] x n = refl
  fed_above c f (opening i d ∷ o) x n = fed_above c f o x (λ e h. n e (inr h))
  fed_above c f (giving i y t v u m ∷ o) x n =
      let l = n (giving i y t v u m) (inl refl) in
      fed_above c f o x (λ e h. n e (inr h)) ∙ sym (ap (λ g. fed_up_to c g o x) (cond-false (leb t c) (put f y v) f (lt-leb t c (omega arith))))

  -- what a session at c sees is what stands before it
  pub session_sees :
      (c i : ℕ) (f : ℕ → V) (p q : List (Event V)) (x : ℕ) → Sorted (p ++ opening i c ∷ q) → fed f (items p) x ≡ fed_up_to c f (p ++ opening i c ∷ q) x
  session_sees c i f [] q x s = fed_above c f q x (λ e h. (s.0 e h).0)
  session_sees c i f (opening j d ∷ p) q x s = session_sees c i f p q x s.1
  session_sees c i f (giving j y t v u m ∷ p) q x s =
      let l = (s.0 (opening i c) (in_mid p (opening i c) q)).0 in
      session_sees c i (put f y v) p q x s.1
      ∙ sym (ap (λ g. fed_up_to c g (p ++ opening i c ∷ q) x) (cond-true (leb t c) (put f y v) f (le-leb t c (omega arith))))

  -- a write sees what it saw
  abbrev pub LooksHold : (ℕ → V) → List (Event V) → Type 0
  LooksHold f [] = Unit {0}
  LooksHold f (opening i d ∷ o) = LooksHold f o
  LooksHold f (giving i x t v u m ∷ o) = (f x ≡ u) × LooksHold (put f x v) o

  pub write_sees :
      (f : ℕ → V) (p q : List (Event V)) (i x t : ℕ) (v u : V) (m : ℕ) → LooksHold f (p ++ giving i x t v u m ∷ q) → fed f (items p) x ≡ u
  write_sees f [] q i x t v u m h = h.0
  write_sees f (opening j d ∷ p) q i x t v u m h = write_sees f p q i x t v u m h
  write_sees f (giving j y t' v' u' m' ∷ p) q i x t v u m h = write_sees (put f y v') p q i x t v u m h.1

  pub looks_hold_opening : (f : ℕ → V) (o : List (Event V)) (i c : ℕ) → LooksHold f o → LooksHold f (insert (opening i c) o)
  looks_hold_opening f [] i c h = tt
  looks_hold_opening f (opening j d ∷ o) i c h = insert_case (opening i c) (opening j d) o (LooksHold f) (λ k. h) (λ k. looks_hold_opening f o i c h)
  looks_hold_opening f (giving j y t v u m ∷ o) i c h =
      insert_case (opening i c) (giving j y t v u m) o (LooksHold f) (λ k. h) (λ k. (h.0, looks_hold_opening (put f y v) o i c h.1))

  pub fed_opens : (c : ℕ) (f : ℕ → V) (o : List (Event V)) (i d x : ℕ) → fed_up_to c f (insert (opening i d) o) x ≡ fed_up_to c f o x
  fed_opens c f [] i d x = refl
  fed_opens c f (opening j b ∷ o) i d x =
      insert_case (opening i d) (opening j b) o (λ l. fed_up_to c f l x ≡ fed_up_to c f o x) (λ k. refl) (λ k. fed_opens c f o i d x)
  fed_opens c f (giving j y t v u m ∷ o) i d x =
      insert_case (opening i d) (giving j y t v u m) o (λ l. fed_up_to c f l x ≡ fed_up_to c f (giving j y t v u m ∷ o) x) (λ k. refl)
      (λ k. fed_opens c (cond (leb t c) (put f y v) f) o i d x)

  -- nothing of o writes x
  abbrev pub NoWrite : ℕ → List (Event V) → Type 0
  NoWrite x o = (j t : ℕ) (v u : V) (m : ℕ) → In (giving j x t v u m) o → ⊥

  put_other : (b : Bool) (f : ℕ → V) (y x : ℕ) (v : V) → (y ≡ x → ⊥) → cond b (put f y v) f x ≡ f x
  put_other o f y x v n = grind arith

  no_write_at : (x j y t : ℕ) (v u : V) (m : ℕ) (o : List (Event V)) → NoWrite x (giving j y t v u m ∷ o) → y ≡ x → ⊥
  no_write_at x j y t v u m o n e = n j t v u m (inl (ap (λ z. giving j z t v u m) e))

  pub fed_no_write : (c : ℕ) (f : ℕ → V) (o : List (Event V)) (x : ℕ) → NoWrite x o → fed_up_to c f o x ≡ f x
  fed_no_write c f [] x n = refl
  fed_no_write c f (opening j b ∷ o) x n = fed_no_write c f o x (λ j t v u m h. n j t v u m (inr h))
  fed_no_write c f (giving j y t v u m ∷ o) x n =
      fed_no_write c (cond (leb t c) (put f y v) f) o x (λ j t v u m h. n j t v u m (inr h)) ∙ put_other (leb t c) f y x v (no_write_at x j y t v u m o n)

  -- two starts that differ at x only
  looks_hold_agree : (f g : ℕ → V) (o : List (Event V)) (x : ℕ) → NoWrite x o → ((z : ℕ) → (z ≡ x → ⊥) → f z ≡ g z) → LooksHold f o → LooksHold g o
  looks_hold_agree f g [] x n a h = tt
  looks_hold_agree f g (opening j b ∷ o) x n a h = looks_hold_agree f g o x (λ j t v u m h. n j t v u m (inr h)) a h
  looks_hold_agree f g (giving j y t v u m ∷ o) x n a h = (
    sym (a y (no_write_at x j y t v u m o n)) ∙ h.0,
    looks_hold_agree (put f y v) (put g y v) o x (λ j t v u m h. n j t v u m (inr h)) (λ z ne. ap (cond (eqb y z) v) (a z ne)) h.1,
  )

  fed_agree : (c : ℕ) (f g : ℕ → V) (o : List (Event V)) (z : ℕ) → f z ≡ g z → fed_up_to c f o z ≡ fed_up_to c g o z
  fed_agree c f g [] z e = e
  fed_agree c f g (opening j b ∷ o) z e = fed_agree c f g o z e
  fed_agree c f g (giving j y t v u m ∷ o) z e = fed_agree c (cond (leb t c) (put f y v) f) (cond (leb t c) (put g y v) g) o z (both (leb t c))
    where
      both : (b : Bool) → cond b (put f y v) f z ≡ cond b (put g y v) g z
      both true = ap (cond (eqb y z) v) e
      both false = e

  -- a write gets a stamp that is not below those given in its cell
  module _ (i x t : ℕ) (v u : V) (m : ℕ) where
    abbrev pub new_event : Event V
    new_event = giving i x t v u m

    abbrev pub Under : List (Event V) → Type 0
    Under o = (j d : ℕ) (w s : V) (k : ℕ) → In (giving j x d w s k) o → d ≤ t

    no_write_above : (b : Event V) (o : List (Event V)) → Under (b ∷ o) → Sorted (b ∷ o) → key new_event < key b → NoWrite x (b ∷ o)
    no_write_above b o n s l j d w z k h = grind arith

    pub looks_hold_giving : (f : ℕ → V) (o : List (Event V)) → Under o → Sorted o → fed_up_to t f o x ≡ u → LooksHold f o → LooksHold f (insert new_event o)
    looks_hold_giving f [] n s e h = (e, tt)
    looks_hold_giving f (opening j b ∷ o) n s e h =
        insert_case new_event (opening j b) o (LooksHold f)
        (λ k. let y = no_write_above (opening j b) o n s k in
        (sym (fed_no_write t f (opening j b ∷ o) x y) ∙ e, looks_hold_agree f (put f x v) (opening j b ∷ o) x y (λ z ne. sym (put_other true f x z v (λ q. ne (sym q)))) h))
        (λ k. looks_hold_giving f o (λ j d w z r h. n j d w z r (inr h)) s.1 e h)
    looks_hold_giving f (giving j y d w z r ∷ o) n s e h =
        insert_case new_event (giving j y d w z r) o (LooksHold f)
        (λ k. let y' = no_write_above (giving j y d w z r) o n s k in (
          sym (fed_no_write t f (giving j y d w z r ∷ o) x y') ∙ e,
          looks_hold_agree f (put f x v) (giving j y d w z r ∷ o) x y' (λ z ne. sym (put_other true f x z v (λ q. ne (sym q)))) h,
        ))
        (λ k. (
          h.0,
          looks_hold_giving (put f y w) o (λ j d w z r h. n j d w z r (inr h)) s.1
              (sym (ap (λ g. fed_up_to t g o x) (cond-true (leb d t) (put f y w) f (le-leb d t (omega arith)))) ∙ e) h.1,
        ))

    at_new : (c : ℕ) (f : ℕ → V) → t ≤ c → cond (leb t c) (put f x v) f x ≡ v
    at_new c f l = grind arith

    -- what is seen after it
    pub fed_hit : (c : ℕ) (f : ℕ → V) (o : List (Event V)) → t ≤ c → Under o → Sorted o → fed_up_to c f (insert new_event o) x ≡ v
    fed_hit c f [] l n s = at_new c f l
    fed_hit c f (opening j b ∷ o) l n s =
        insert_case new_event (opening j b) o (λ k. fed_up_to c f k x ≡ v)
        (λ k. fed_no_write c _ (opening j b ∷ o) x (no_write_above (opening j b) o n s k) ∙ at_new c f l)
        (λ k. fed_hit c f o l (λ j d w z r h. n j d w z r (inr h)) s.1)
    fed_hit c f (giving j y d w z r ∷ o) l n s =
        insert_case new_event (giving j y d w z r) o (λ k. fed_up_to c f k x ≡ v)
        (λ k. fed_no_write c _ (giving j y d w z r ∷ o) x (no_write_above (giving j y d w z r) o n s k) ∙ at_new c f l)
        (λ k. fed_hit c (cond (leb d c) (put f y w) f) o l (λ j d w z r h. n j d w z r (inr h)) s.1)

    pub fed_miss : (c : ℕ) (f : ℕ → V) (o : List (Event V)) (y : ℕ) → ((x ≡ y → ⊥) ⊎ (c < t)) → fed_up_to c f (insert new_event o) y ≡ fed_up_to c f o y
    fed_miss c f o y h = go f o
      where
        same : (f : ℕ → V) → cond (leb t c) (put f x v) f y ≡ f y
        same f = ⊎_elim (λ ne. put_other (leb t c) f x y v ne) (λ l. ap (λ g. g y) (cond-false (leb t c) (put f x v) f (lt-leb t c l))) h

        go : (f : ℕ → V) (o : List (Event V)) → fed_up_to c f (insert new_event o) y ≡ fed_up_to c f o y
        go f [] = same f
        go f (opening j b ∷ o) =
            insert_case new_event (opening j b) o (λ k. fed_up_to c f k y ≡ fed_up_to c f o y) (λ k. fed_agree c _ f o y (same f)) (λ k. go f o)
        go f (giving j z d w s r ∷ o) =
            insert_case new_event (giving j z d w s r) o (λ k. fed_up_to c f k y ≡ fed_up_to c f (giving j z d w s r ∷ o) y)
            (λ k. fed_agree c _ f (giving j z d w s r ∷ o) y (same f)) (λ k. go (cond (leb d c) (put f z w) f) o)

  -- from the order of items back to events
  pub split_mapped : (o : List (Event V)) (p q : List (Item V)) (a : Item V) → items o ≡ p ++ a ∷ q
      → (l : List (Event V)) × (r : List (Event V)) × (e : Event V) × (o ≡ l ++ e ∷ r) × (item e ≡ a) × (items l ≡ p) × (items r ≡ q)
  split_mapped [] [] q a h = grind arith
  split_mapped [] (b ∷ p) q a h = grind arith
  split_mapped (e ∷ o) [] q a h = ([], o, e, refl, (let z : item e ≡ a = cc in z), refl, (let z : items o ≡ q = cc in z))
  split_mapped (e ∷ o) (b ∷ p) q a h =
      let f : items o ≡ p ++ a ∷ q = cc in
      let g : item e ≡ b = cc in
      let r = split_mapped o p q a f in
      (e ∷ r.0, r.1, r.2, ap (λ y. e ∷ y) r.3, r.4, (let z : item e ∷ items r.0 ≡ b ∷ p = cc (g, r.5) in z), r.6)
