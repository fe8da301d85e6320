-- Which write linked what, and what stands in the order after a step.
use Rattle.std.proofs.Common.{◌≡◌, ℕ, suc, ◌<◌, ◌≤◌, Bool, true, false, ◌⊎◌, List, length, Some, None, Option, sym, refl, ap, ◌∙◌, subst, inl, inr, ⊎_elim, arith}
use Rattle.std.proofs.lemmas.Option.{none-some}
use Rattle.std.proofs.lemmas.Bool.{cases_lt, both_ways}
use Rattle.model.specs.Answers.{Answer, granted, number, value}
use Rattle.model.specs.Calls.{Call, Advance, ReadBegin, ReadStep, WriteBegin, WriteLook, WriteOffer, WriteStamp}
use Rattle.model.specs.State.{Version, Operation, State, node, worker, version, idle, reading, write_begun, write_looked, write_linked, scanning, walking, head}
use Rattle.laws.specs.Histories.{history, Latest, Was, WriteBegun}
use Rattle.laws.specs.OneOrder.{Unstamped, Stamped}
use Rattle.laws.proofs.Answering.{now_as, LinksNow}
use Rattle.laws.proofs.CellLists.{Ages, kept_used}
use Rattle.laws.proofs.Clock.{clock_rises}
use Rattle.laws.proofs.Effects.{Kind, kind_of, plain, begins_write, begins_read, opens_at, stamps_at, looks_at, offers, answers, writes, refers, Chronicle, Effect, refers_kept}
use Rattle.laws.proofs.Orders.{Event, opening, giving, In, event_place, time, in_insert, insert_new, insert_old}
use Rattle.laws.proofs.Places.{was_within, state_at}
use Rattle.laws.proofs.References.{Anchored, anchor_at}
use Rattle.laws.proofs.Ways.{AwaitsStamp, CameFrom, old, now, Becomes, stays, is_given, WaitingStamped, actor, awaits_back, awaits_on, OperationWay, o_same, o_begins, o_looks, o_links, o_none, operation_way, ReadingWay, h_same, h_clock, h_none, OrderWay, w_same, w_opens, w_gives, order_way}

pub next_latest : (P : ℕ → Type 0) (i k : ℕ) → Latest P i k → (P k → ⊥) → Latest P i (suc k)
next_latest x i k h n = grind arith

pub now_latest : (P : ℕ → Type 0) (k : ℕ) → P k → Latest P k (suc k)
now_latest P k p = (omega arith, p, λ j l m q. omega arith)

abbrev pub early : Operation → Bool
early idle = false
early (reading x p) = false
early (write_begun x b) = true
early (write_looked x b) = true
early (write_linked x n) = false
early (scanning x t i q) = false
early (walking x t q p r) = false

pub early_cell : (o : Operation) → early o ≡ true → (x : ℕ) × (writes o ≡ Some x)
early_cell idle e = absurd (both_ways false refl e)
early_cell (reading x p) e = absurd (both_ways false refl e)
early_cell (write_begun x b) e = (x, refl)
early_cell (write_looked x b) e = (x, refl)
early_cell (write_linked x n) e = absurd (both_ways false refl e)
early_cell (scanning x t i q) e = absurd (both_ways false refl e)
early_cell (walking x t q p r) e = absurd (both_ways false refl e)

early_writes : (o : Operation) → early o ≡ true → writes o ≡ None → ⊥
early_writes o e f = let r = early_cell o e in none-some r.0 (sym f ∙ r.1)

-- what is in the order after a step
pub data NewIn {V : Type 0} (k : ℕ) (s : State V) (T : Chronicle V) (K : Kind V) (s' : State V) (e : Event V) : Type 0 where
  e_old : In e T.order → NewIn k s T K s' e
  e_opens : (w d : ℕ) → K ≡ opens_at w d → e ≡ opening k d → NewIn k s T K s' e
  e_gives : (u n t : ℕ) (v : V) → u < length s.workers → refers (worker s u).operation ≡ Some n → AwaitsStamp s n v → (worker s u).clock_reading ≡ Some t → K ≡ plain
      → e ≡ giving (T.place n) (T.seen.cell n) t v (T.seen.base n) k → ((y : V) → AwaitsStamp s' n y → ⊥)
      → (z : Version V) → version (node s' n) ≡ Some z → z.stamp ≡ Some t → NewIn k s T K s' e

pub in_back : {V : Type 0} {k : ℕ} {s : State V} {T : Chronicle V} {K : Kind V} {s' : State V} {T' : Chronicle V} (e : Event V) → OrderWay k s T K s' T' → In e T'.order → NewIn k s T K s' e
in_back e (w_same p q r f) h = e_old (subst (In e) p h)
in_back {k} {T} e (w_opens w d f g p q) h = ⊎_elim (λ r. e_opens w d f (sym r)) (λ r. e_old r) (in_insert (opening k d) e T.order (subst (In e) p h))
in_back {k} {T} e (w_gives u n t v l r b he f p q gone z y st) h =
    ⊎_elim (λ i. e_gives u n t v l r b he f (sym i) gone z y st) (λ i. e_old i)
    (in_insert (giving (T.place n) (T.seen.cell n) t v (T.seen.base n) k) e T.order (subst (In e) p h))

pub in_on : {V : Type 0} {k : ℕ} {s : State V} {T : Chronicle V} {K : Kind V} {s' : State V} {T' : Chronicle V} (e : Event V) → OrderWay k s T K s' T' → In e T.order → In e T'.order
in_on e x h = grind (arith, insert_old)

module _ {V : Type 0} (s₀ : State V) (cs : List (Call V)) where
  -- what the log has at k
  abbrev pub Tells : ℕ → Kind V → Type 0
  Tells k plain = Unit {0}
  Tells k (begins_write w x) = Was (history s₀ cs) k (WriteBegin w x) granted
  Tells k (begins_read w x) = Was (history s₀ cs) k (ReadBegin w x) granted
  Tells k (opens_at w d) = Was (history s₀ cs) k (Advance w) (number d)
  Tells k (stamps_at w t) = Was (history s₀ cs) k (WriteStamp w) (number t)
  Tells k (looks_at w v) = Was (history s₀ cs) k (WriteLook w) (value v)
  Tells k (offers w v) = (n : ℕ) × Was (history s₀ cs) k (WriteOffer w v n) granted
  Tells k (answers w v) = Was (history s₀ cs) k (ReadStep w) (value v)

  tells : (k : ℕ) (c : Call V) (a : Answer V) → Was (history s₀ cs) k c a → Tells k (kind_of c a)
  tells k x a h = grind arith

  pub record Here (k : ℕ) (K : Kind V) : Type 0 where
    pub told : Tells k K
    pub only : (d : Call V) (b : Answer V) → Was (history s₀ cs) k d b → kind_of d b ≡ K

  pub here_at : (k : ℕ) (c : Call V) (a : Answer V) → Was (history s₀ cs) k c a → Here k (kind_of c a)
  here_at k c a h = grind arith

  -- where a worker's write began
  abbrev pub Writing : ℕ → State V → Chronicle V → Type 0
  Writing k s T = (w x : ℕ) → writes (worker s w).operation ≡ Some x → Latest (WriteBegun (history s₀ cs) w) (T.since w) k × Was (history s₀ cs) (T.since w) (WriteBegin w x) granted

  pub not_begun : (k : ℕ) (K : Kind V) (w : ℕ) → Here k K → ((x : ℕ) → K ≡ begins_write w x → ⊥) → WriteBegun (history s₀ cs) w k → ⊥
  not_begun k K w H n h = n h.0 (sym (H.only (WriteBegin w h.0) granted h.1))

  pub writing_next :
      (k : ℕ) (s : State V) (T : Chronicle V) (K : Kind V) (i w x : ℕ) (o : Operation) → Here k K → Writing k s T → OperationWay k s T K i w o → writes o ≡ Some x
      → Latest (WriteBegun (history s₀ cs) w) i (suc k) × Was (history s₀ cs) i (WriteBegin w x) granted
  writing_next k s T K i w x o H A (o_same p n) e =
      let r = A w x e in
      subst (λ i. Latest (WriteBegun (history s₀ cs) w) i (suc k) × Was (history s₀ cs) i (WriteBegin w x) granted) (sym p)
      (next_latest (WriteBegun (history s₀ cs) w) (T.since w) k r.0 (not_begun k K w H (λ y f. n (ap actor f))), r.1)
  writing_next k s T K i w x o H A (o_begins {x = y} f p) e =
      let q : y ≡ x = cc in
      let g : Was (history s₀ cs) k (WriteBegin w x) granted = subst (λ z. Was (history s₀ cs) k (WriteBegin w z) granted) q (subst (Tells k) f H.told) in
      subst (λ i. Latest (WriteBegun (history s₀ cs) w) i (suc k) × Was (history s₀ cs) i (WriteBegin w x) granted) (sym p) (now_latest (WriteBegun (history s₀ cs) w) k (x, g), g)
  writing_next k s T K i w x o H A (o_looks f p h st) e =
      let r = A w x (ap writes h ∙ e) in
      subst (λ i. Latest (WriteBegun (history s₀ cs) w) i (suc k) × Was (history s₀ cs) i (WriteBegin w x) granted) (sym p)
      (next_latest (WriteBegun (history s₀ cs) w) (T.since w) k r.0 (not_begun k K w H (λ y g. grind arith)), r.1)
  writing_next k s T K i w x o H A (o_links f p h) e =
      let r = A w x (ap writes h ∙ e) in
      subst (λ i. Latest (WriteBegun (history s₀ cs) w) i (suc k) × Was (history s₀ cs) i (WriteBegin w x) granted) (sym p)
      (next_latest (WriteBegun (history s₀ cs) w) (T.since w) k r.0 (not_begun k K w H (λ y g. grind arith)), r.1)
  writing_next k s T K i w x o H A (o_none f) e = grind arith

  -- which write linked an unstamped node
  pub record LinkedBy (k i x n : ℕ) (v : V) : Type 0 where
    pub by : ℕ
    pub told : ℕ
    pub linked_at : ℕ
    pub begins : Was (history s₀ cs) i (WriteBegin by x) granted
    pub of_write : Latest (WriteBegun (history s₀ cs) by) i linked_at
    pub links : Was (history s₀ cs) linked_at (WriteOffer by v told) granted
    pub is_head : head (state_at s₀ cs (suc linked_at)) x ≡ n
    pub later : linked_at < k
    pub waits : (m : ℕ) → linked_at < m → m ≤ k → Unstamped (version (node (state_at s₀ cs m) n))

  abbrev pub LinkedByAll : ℕ → State V → Chronicle V → Type 0
  LinkedByAll k s T = (n : ℕ) (v : V) → AwaitsStamp s n v → LinkedBy k (T.place n) (T.seen.cell n) n v

  pub awaits_unstamped : (s : State V) (n : ℕ) (v : V) → AwaitsStamp s n v → Unstamped (version (node s n))
  awaits_unstamped s n v b = subst Unstamped (sym b.here) b.bare

  linked_by_next : (k i x n : ℕ) (v : V) → Unstamped (version (node (state_at s₀ cs (suc k)) n)) → LinkedBy k i x n v → LinkedBy (suc k) i x n v
  linked_by_next k i x n v b h =
      record {
        by = h.by;
        told = h.told;
        linked_at = h.linked_at;
        begins = h.begins;
        of_write = h.of_write;
        links = h.links;
        is_head = h.is_head;
        later = omega arith;
        waits = λ m l g. ⊎_elim (λ q. h.waits m l (omega arith)) (λ q. let e : m ≡ suc k = omega arith in subst (λ y. Unstamped (version (node (state_at s₀ cs y) n))) (sym e) b)
            (cases_lt m (suc k));
      }

  pub linked_by_back :
      (k : ℕ) (s : State V) (T : Chronicle V) (c : Call V) (a : Answer V) (s' : State V) (T' : Chronicle V) (n : ℕ) (v : V) (g : Ages) → Anchored s g → Was (history s₀ cs) k c a → state_at s₀ cs (suc k) ≡ s' → Writing k s T → LinkedByAll k s T
      → AwaitsStamp s' n v → CameFrom s T c a s' T' n v → LinkedBy (suc k) (T'.place n) (T'.seen.cell n) n v
  linked_by_back k s T c a s' T' n v gh I W E A H b (old d p q r) =
      subst (λ i. LinkedBy (suc k) i (T'.seen.cell n) n v) (sym p)
      (subst (λ x. LinkedBy (suc k) (T.place n) x n v) (sym q)
      (linked_by_next k (T.place n) (T.seen.cell n) n v (subst (λ s. Unstamped (version (node s n))) (sym E) (awaits_unstamped s' n v b)) (H n v d)))
  linked_by_back k s T c a s' T' n v gh I W E A H b (now u x d {m} e f g h p q r o own) =
      let y = A u x (ap writes g) in
      subst (λ i. LinkedBy (suc k) i (T'.seen.cell n) n v) (sym p)
      (subst (λ x. LinkedBy (suc k) (T.since u) x n v) (sym q)
      (record {
        by = u;
        told = m;
        linked_at = k;
        begins = y.1;
        of_write = y.0;
        links = subst (λ z. Was (history s₀ cs) k z granted) e (subst (λ z. Was (history s₀ cs) k c z) f W);
        is_head = ap (λ s. head s x) E ∙ own.1 (anchor_at u (write_looked x d) g I).2;
        later = omega arith;
        waits = λ m l g. let e : m ≡ suc k = omega arith in subst (λ y. Unstamped (version (node (state_at s₀ cs y) n))) (sym e)
            (subst (λ s. Unstamped (version (node s n))) (sym E) (awaits_unstamped s' n v b));
      }))

  -- what is known of an event in the order
  abbrev pub Dated : ℕ → Event V → Type 0
  Dated k (opening i d) = (w : ℕ) × Was (history s₀ cs) i (Advance w) (number d) × (i < k)
  Dated k (giving i x t v u m) = Stamped (history s₀ cs) i x v × (i < m) × (m < k) × ((state_at s₀ cs i).clock ≤ t) × (t ≤ (state_at s₀ cs m).clock)

  abbrev pub DatedAll : ℕ → Chronicle V → Type 0
  DatedAll k T = (e : Event V) → In e T.order → Dated k e

  pub dated_place : (k : ℕ) (e : Event V) → Dated k e → event_place e < k
  dated_place k x h = grind arith

  pub dated_time : (k : ℕ) (e : Event V) → Dated k e → time e < k
  dated_time k x h = grind arith

  pub dated_more : (k : ℕ) (e : Event V) → Dated k e → Dated (suc k) e
  dated_more k x h = grind arith

  pub linked_by_early : (k i x n : ℕ) (v : V) → LinkedBy k i x n v → i < k
  linked_by_early k i x n v h = let z = h.of_write.0 in let y = h.later in omega arith

  -- the place of a write that has not linked is not taken
  abbrev pub FreeAt : State V → Chronicle V → ℕ → Type 0
  FreeAt s T i = ((n : ℕ) (v : V) → AwaitsStamp s n v → T.place n ≡ i → ⊥) × ((e : Event V) → In e T.order → event_place e ≡ i → ⊥)

  abbrev pub Early : State V → Chronicle V → Type 0
  Early s T = (w : ℕ) → early (worker s w).operation ≡ true → FreeAt s T (T.since w)

  abbrev pub Apart : State V → Chronicle V → Type 0
  Apart s T = (n m : ℕ) (v y : V) → AwaitsStamp s n v → AwaitsStamp s m y → T.place n ≡ T.place m → n ≡ m

  abbrev pub Unused : State V → Chronicle V → Type 0
  Unused s T = (n : ℕ) (v : V) (e : Event V) → AwaitsStamp s n v → In e T.order → event_place e ≡ T.place n → ⊥

  abbrev pub Owning : State V → Chronicle V → Type 0
  Owning s T =
      (w x n : ℕ) → (worker s w).operation ≡ write_linked x n
      → ((v : V) × AwaitsStamp s n v × (T.place n ≡ T.since w)) ⊎ ((e : Event V) × In e T.order × (event_place e ≡ T.since w))

  abbrev pub ReadingsAbove : State V → Chronicle V → Type 0
  ReadingsAbove s T = (u n t : ℕ) (v : V) → refers (worker s u).operation ≡ Some n → AwaitsStamp s n v → (worker s u).clock_reading ≡ Some t → (state_at s₀ cs (T.place n)).clock ≤ t

  module _ (k : ℕ) (s : State V) (T : Chronicle V) (c : Call V) (a : Answer V) (s' : State V) (T' : Chronicle V) (W : Was (history s₀ cs) k c a) (tn : Effect k s T c a s' T') where
    pub offers_kind : (u : ℕ) (v : V) {m : ℕ} → c ≡ WriteOffer u v m → a ≡ granted → kind_of c a ≡ offers u v
    offers_kind u v {m} e f = ap (λ y. kind_of y a) e ∙ ap (kind_of (WriteOffer u v m)) f

    free_awaits : (i n : ℕ) (v : V) → FreeAt s T i → ((u : ℕ) (v : V) → kind_of c a ≡ offers u v → (x : ℕ) → writes (worker s u).operation ≡ Some x → T.since u ≡ i → ⊥)
        → CameFrom s T c a s' T' n v → T'.place n ≡ i → ⊥
    free_awaits i n v F g (old d p q r) e = F.0 n v d (sym p ∙ e)
    free_awaits i n v F g (now u x b e f h j p q r o own) y = g u v (offers_kind u v e f) x (ap writes h) (sym p ∙ y)

    free_event : (i : ℕ) (e : Event V) → i < k → FreeAt s T i → NewIn k s T (kind_of c a) s' e → event_place e ≡ i → ⊥
    free_event i e l F (e_old h) q = F.1 e h q
    free_event i e l F (e_opens w d f g) q = let z : k ≡ i = sym (ap event_place g) ∙ q in omega arith
    free_event i e l F (e_gives u n t v y r b he f g gone z vz st) q = F.0 n v b (sym (ap event_place g) ∙ q)

    free_next : (i : ℕ) → i < k → FreeAt s T i → ((u : ℕ) (v : V) → kind_of c a ≡ offers u v → (x : ℕ) → writes (worker s u).operation ≡ Some x → T.since u ≡ i → ⊥) → FreeAt s' T' i
    free_next i l F g =
        (λ n v b. free_awaits i n v F g (awaits_back tn n v b), λ e h. free_event i e l F (in_back e (order_way k s T tn) h))

    fresh_awaits : (n w x : ℕ) (v : V) → kind_of c a ≡ begins_write w x → LinkedByAll k s T → CameFrom s T c a s' T' n v → T'.place n ≡ k → ⊥
    fresh_awaits n w x v K H (old d p q r) e = let z = linked_by_early k _ _ n v (H n v d) in let y : T.place n ≡ k = sym p ∙ e in omega arith
    fresh_awaits n w x v K H (now u y b e f h j p q r o own) g = let i = offers_kind u v e f in grind arith

    fresh_event : (e : Event V) (w x : ℕ) → kind_of c a ≡ begins_write w x → DatedAll k T → NewIn k s T (kind_of c a) s' e → event_place e ≡ k → ⊥
    fresh_event e w x K D (e_old h) q = let z = dated_place k e (D e h) in omega arith
    fresh_event e w x K D (e_opens u d f g) q = grind arith
    fresh_event e w x K D (e_gives u n t v y r b he f g gone i vz st) q = grind arith

    pub same_begin : (u w x y : ℕ) → Writing k s T → writes (worker s u).operation ≡ Some x → writes (worker s w).operation ≡ Some y → T.since u ≡ T.since w → u ≡ w
    same_begin u w x y o e f p = grind arith

    early_at : (w i : ℕ) (o : Operation) → Writing k s T → LinkedByAll k s T → DatedAll k T → Early s T → OperationWay k s T (kind_of c a) i w o → early o ≡ true → FreeAt s' T' i
    early_at w i o A H D E (o_same p n) e =
        let r = early_cell (worker s w).operation e in
        subst (FreeAt s' T') (sym p)
        (free_next (T.since w) (A w r.0 r.1).0.0 (E w e)
        (λ u v K x h q. n (ap actor K ∙ ap Some (same_begin u w x r.0 A h r.1 q))))
    early_at w i o A H D E (o_begins {x = x} f p) e =
        subst (FreeAt s' T') (sym p)
        (λ n v b. fresh_awaits n w x v f H (awaits_back tn n v b), λ y h. fresh_event y w x f D (in_back y (order_way k s T tn) h))
    early_at w i o A H D E (o_looks {x = x} f p g st) e =
        subst (FreeAt s' T') (sym p)
        (free_next (T.since w) (A w x (ap writes g)).0.0 (E w (ap early g))
        (λ u v K y h q. grind arith))
    early_at w i o A H D E (o_links f p g) e = absurd (both_ways false refl e)
    early_at w i o A H D E (o_none f) e = absurd (early_writes o e f)

    pub early_next : Writing k s T → LinkedByAll k s T → DatedAll k T → Early s T → Early s' T'
    early_next A H D E w e = early_at w (T'.since w) (worker s' w).operation A H D E (operation_way k s T tn w) e

    pub apart_next : (n m : ℕ) (v y : V) → Early s T → Apart s T → CameFrom s T c a s' T' n v → CameFrom s T c a s' T' m y → T'.place n ≡ T'.place m → n ≡ m
    apart_next n m v y E A (old d p q r) (old d' p' q' r') e = A n m v y d d' (sym p ∙ e ∙ p')
    apart_next n m v y E A (old d p q r) (now u x b f g h j p' q' r' o own) e = absurd ((E u (ap early h)).0 n v d (sym p ∙ e ∙ p'))
    apart_next n m v y E A (now u x b f g h j p q r o own) (old d' p' q' r') e = absurd ((E u (ap early h)).0 m y d' (sym p' ∙ sym e ∙ p))
    apart_next n m v y E A (now u x b f g h j p q r o own) (now u' x' b' f' g' h' j' p' q' r' o' own') e =
        let i : u' ≡ u = cc in
        let l = ap (λ z. (worker s' z).operation) (sym i) ∙ own'.0 in
        cc

    pub unused_next : (n : ℕ) (v : V) (e : Event V) → LinkedByAll k s T → Early s T → Apart s T → Unused s T → AwaitsStamp s' n v → CameFrom s T c a s' T' n v → NewIn k s T (kind_of c a) s' e
        → event_place e ≡ T'.place n → ⊥
    unused_next n v e H E A U b (old d p q r) (e_old h) i = U n v e d h (i ∙ p)
    unused_next n v e H E A U b (old d p q r) (e_opens w f g j) i =
        let z = linked_by_early k _ _ n v (H n v d) in let y : k ≡ T.place n = sym (ap event_place j) ∙ i ∙ p in omega arith
    unused_next n v e H E A U b (old d p q r) (e_gives u m t y l rf bm he f g gone z vz st) i =
        let j = A m n y v bm d (sym (ap event_place g) ∙ i ∙ p) in gone v (subst (λ h. AwaitsStamp s' h v) (sym j) b)
    unused_next n v e H E A U b (now u x d f g h j p q r o own) (e_old l) i = (E u (ap early h)).1 e l (i ∙ p)
    unused_next n v e H E A U b (now u x d f g h j p q r o own) (e_opens w y l m) i = let z = offers_kind u v f g in grind arith
    unused_next n v e H E A U b (now u x d f g h j p q r o own) (e_gives u' m t y l rf bm he f' g' gone z' vz st) i =
        let z = offers_kind u v f g in grind arith

    owned : (w n : ℕ) (v : V) → T.place n ≡ T.since w → T'.since w ≡ T.since w → Becomes k T s' T' n v
        → ((v : V) × AwaitsStamp s' n v × (T'.place n ≡ T'.since w)) ⊎ ((e : Event V) × In e T'.order × (event_place e ≡ T'.since w))
    owned w n v q p (stays b r) = inl (v, b, r ∙ q ∙ sym p)
    owned w n v q p (is_given t r) =
        inr (giving (T.place n) (T.seen.cell n) t v (T.seen.base n) k, subst (In _) (sym r) (insert_new _ T.order), q ∙ sym p)

    pub owning_next : (w x n : ℕ) (o : Operation) → WaitingStamped s → Owning s T → OperationWay k s T (kind_of c a) (T'.since w) w o → o ≡ write_linked x n → (worker s' w).operation ≡ write_linked x n
        → ((v : V) × AwaitsStamp s' n v × (T'.place n ≡ T'.since w)) ⊎ ((e : Event V) × In e T'.order × (event_place e ≡ T'.since w))
    owning_next w x n o S O (o_same p f) e g =
        ⊎_elim (λ h. owned w n h.0 h.2 p (awaits_on S tn n h.0 h.1))
        (λ h. inr (h.0, in_on h.0 (order_way k s T tn) h.1, h.2 ∙ sym p)) (O w x n e)
    owning_next w x n o S O (o_begins f p) e g = grind arith
    owning_next w x n o S O (o_looks f p h st) e g = grind arith
    owning_next w x n o S O (o_links {v = v} f p h) e g =
        let L : LinksNow s T s' T' w v = now_as tn f in
        let i = L.owns in
        let q : L.n ≡ n = cc in
        inl (v, subst (λ y. AwaitsStamp s' y v) q L.there, ap T'.place (sym q) ∙ L.place_is ∙ sym p)
    owning_next w x n o S O (o_none f) e g = absurd (let h = ap writes e in grind arith)

    pub readings_above_next : (u n t : ℕ) (v : V) (o : Operation) (h : Option ℕ) → state_at s₀ cs k ≡ s → (g : Ages) → Anchored s g → Writing k s T → LinkedByAll k s T → ReadingsAbove s T → ReadingWay s u o h → CameFrom s T c a s' T' n v
        → refers o ≡ Some n → h ≡ Some t → (state_at s₀ cs (T'.place n)).clock ≤ t
    readings_above_next u n t v o h E g I A H D h_same (old d p q r) e f = subst (λ i. (state_at s₀ cs i).clock ≤ t) (sym p) (D u n t v e d f)
    readings_above_next u n t v o h E g I A H D h_same (now w x b y z i j p q r o' own) e f =
        absurd (kept_used u (node s n) (refers_kept s.heads s.nodes g u n (worker s u).operation e (I.anchors u)) j)
    readings_above_next u n t v o h E g I A H D h_clock (old d p q r) e f =
        let z = linked_by_early k _ _ n v (H n v d) in
        let y = clock_rises s₀ cs (T.place n) k (omega arith) (let w = was_within s₀ cs k c a W in omega arith) in
        let x : s.clock ≡ t = cc in
        let w : (state_at s₀ cs k).clock ≡ s.clock = ap (λ s. s.clock) E in
        subst (λ i. (state_at s₀ cs i).clock ≤ t) (sym p) (omega arith)
    readings_above_next u n t v o h E g I A H D h_clock (now m x b y z i j p q r o' own) e f =
        let z = (A m x (ap writes i)).0.0 in
        let y = clock_rises s₀ cs (T.since m) k (omega arith) (let w = was_within s₀ cs k c a W in omega arith) in
        let x : s.clock ≡ t = cc in
        let w : (state_at s₀ cs k).clock ≡ s.clock = ap (λ s. s.clock) E in
        subst (λ i. (state_at s₀ cs i).clock ≤ t) (sym p) (omega arith)
    readings_above_next u n t v o h E g I A H D h_none bk e f = grind arith
