-- What reads and looks answered is explained by the order: what the store owes for that, and what it gives.
use Rattle.std.proofs.Common.{◌≡◌, ℕ, suc, ◌<◌, ◌≤◌, true, leb, List, length, get_or, Some, None, Option, sym, refl, ap, ◌∙◌, subst, ⊎_elim, arith}
use Rattle.std.proofs.lemmas.Bool.{cases_lt, both_ways}
use Rattle.model.specs.Answers.{Answer, granted, number, value}
use Rattle.model.specs.Calls.{Call, Advance, ReadBegin, WriteLook, WriteOffer, WriteStamp, WriteBegin}
use Rattle.model.specs.Changes.{ended}
use Rattle.model.specs.State.{Version, Session, Operation, State, node, worker, version, is_reading, free, opened, reading, write_begun, write_looked, head}
use Rattle.laws.specs.Histories.{history, Latest, Was, Opens, ReadBegun, WriteBegun}
use Rattle.laws.specs.OneOrder.{Unstamped, HasStamp, Looks, Stamped}
use Rattle.laws.proofs.Answering.{now_as, LooksNow, LinksNow, StampsNow, worth_on, SessionWay, q_less, q_open, ReadWay, r_same, r_walks, r_starts, r_off}
use Rattle.laws.proofs.CellLists.{Ages}
use Rattle.laws.proofs.Clock.{WithinClock, StampWithin}
use Rattle.laws.proofs.Effects.{Kind, kind_of, begins_read, opens_at, stamps_at, looks_at, offers, writes, refers, Seen, value_or, Chronicle, Effect, value_at, after}
use Rattle.laws.proofs.Orders.{Event, opening, giving, In, event_place, time, insert_new, Sorted, Distinct, LooksHold, fed_up_to}
use Rattle.laws.proofs.Origins.{next_latest, now_latest, early, NewIn, e_old, e_opens, e_gives, in_on, Here, here_at, Tells, Writing, LinkedByAll, Dated, DatedAll, dated_time, dated_more, linked_by_early, Early, Owning, ReadingsAbove, offers_kind, same_begin}
use Rattle.laws.proofs.Places.{was_one, state_at, latest_one}
use Rattle.laws.proofs.References.{Anchored, Anchor, anchor_at}
use Rattle.laws.proofs.Transitions.{StampedAt, Transition}
use Rattle.laws.proofs.Ways.{AwaitsStamp, CameFrom, old, now, Becomes, stays, is_given, WaitingStamped, actor, awaits_back, awaits_on, OperationWay, o_same, o_begins, o_looks, o_links, o_none, OrderWay, order_way}

-- what is owed by the store: a lawful ghost `Good`, kept by every move as `after` says; `Closed s g x d`: every stamp that cell x still gets is above d
pub record StoreShows {V : Type 0} (first : V) (s₀ : State V) : Type 1 where
  pub Good : State V → Seen V → Type 0
  pub Settled : State V → Seen V → ℕ → ℕ → Type 0
  pub at_first : Good s₀ (record { cell = λ n. n; base = λ n. first; last = λ x. 0; sees = λ x c. first })
  pub goes_on : (s : State V) (c : Call V) (a : Answer V) (s' : State V) (g : Seen V) (m : Transition s c a s') → Good s g → Good s' (after m g)
  pub gives_over :
      (s : State V) (g : Seen V) → Good s g → (w n t : ℕ) (v : V) → w < length s.workers → refers (worker s w).operation ≡ Some n → AwaitsStamp s n v → (worker s w).clock_reading ≡ Some t
      → (g.last (g.cell n) ≤ t) × (g.sees (g.cell n) t ≡ g.base n)
  pub reads_seen :
      (s : State V) (g : Seen V) → Good s g → (w x p d t : ℕ) (v : Version V) → w < length s.workers → (worker s w).operation ≡ reading x p → (worker s w).session ≡ opened d
      → StampedAt s p v t → leb t d ≡ true → (g.sees x d ≡ v.value) × Settled (ended s w) g x d
  pub settled_on :
      (s : State V) (c : Call V) (a : Answer V) (s' : State V) (g : Seen V) (m : Transition s c a s') → Good s g → (x d : ℕ) → Settled s g x d → Settled s' (after m g) x d
  pub settled_over :
      (s : State V) (g : Seen V) → Good s g → (x d : ℕ) → Settled s g x d → (w n t : ℕ) (v : V) → w < length s.workers → refers (worker s w).operation ≡ Some n → AwaitsStamp s n v
      → (worker s w).clock_reading ≡ Some t → g.cell n ≡ x → d < t

module _ {V : Type 0} (s₀ : State V) (cs : List (Call V)) where
  -- what a look answered is what stands below
  abbrev pub Looked : ℕ → State V → Chronicle V → Type 0
  Looked k s T = (w x b i : ℕ) (u : V) → (worker s w).operation ≡ write_looked x b → T.since w ≡ i → (L : Looks (history s₀ cs) i u) → L.answered_at < k → (d : V) → value_or d (node s b) ≡ u

  abbrev pub Unlooked : ℕ → State V → Chronicle V → Type 0
  Unlooked k s T = (w x b i : ℕ) (u : V) → (worker s w).operation ≡ write_begun x b → T.since w ≡ i → (L : Looks (history s₀ cs) i u) → L.answered_at < k → ⊥

  abbrev pub Based : ℕ → State V → Chronicle V → Type 0
  Based k s T = (n i : ℕ) (v u : V) → AwaitsStamp s n v → T.place n ≡ i → (L : Looks (history s₀ cs) i u) → L.answered_at < k → T.seen.base n ≡ u

  abbrev pub Saw : ℕ → Chronicle V → Type 0
  Saw k T = (i x t : ℕ) (v y : V) (m : ℕ) (u : V) → In (giving i x t v y m) T.order → (L : Looks (history s₀ cs) i u) → L.answered_at < k → y ≡ u

  pub record LookHere (s : State V) (T : Chronicle V) (K : Kind V) (i : ℕ) (u : V) : Type 0 where
    pub w : ℕ
    pub x : ℕ
    pub b : ℕ
    pub kind_is : K ≡ looks_at w u
    pub since_is : i ≡ T.since w
    pub was_begun : (worker s w).operation ≡ write_begun x b
    pub worth : (d : V) → value_or d (node s b) ≡ u

  -- where an open session was opened; the read that is under way
  abbrev pub Open : ℕ → State V → Type 0
  Open k s = (w d : ℕ) → (worker s w).session ≡ opened d → (i : ℕ) × Latest (Opens (history s₀ cs) w) i k × Was (history s₀ cs) i (Advance w) (number d)

  pub record ReadAt (k : ℕ) (s : State V) (w x : ℕ) : Type 0 where
    pub began : ℕ
    pub i : ℕ
    pub d : ℕ
    pub of_read : Latest (ReadBegun (history s₀ cs) w) began k
    pub begins : Was (history s₀ cs) began (ReadBegin w x) granted
    pub is_open : (worker s w).session ≡ opened d
    pub in_session : Latest (Opens (history s₀ cs) w) i began
    pub opened_at : Was (history s₀ cs) i (Advance w) (number d)

  abbrev pub ReadingAll : ℕ → State V → Type 0
  ReadingAll k s = (w x p : ℕ) → (worker s w).operation ≡ reading x p → ReadAt k s w x

  -- a write that will be stamped, while it waits; and once it is
  abbrev pub Linking : ℕ → State V → Chronicle V → Type 0
  Linking k s T =
      (i x : ℕ) (v : V) (R : Stamped (history s₀ cs) i x v) → R.linked_at < k → k ≤ R.given_at
      → (T.place R.own ≡ i) × (T.seen.cell R.own ≡ x) × AwaitsStamp s R.own v

  abbrev pub StampedAll : ℕ → Chronicle V → Type 0
  StampedAll k T =
      (i x : ℕ) (v : V) (R : Stamped (history s₀ cs) i x v) → R.given_at < k → (t : ℕ) × (u : V) × (m : ℕ) × In (giving i x t v u m) T.order

  abbrev pub OpenedAll : ℕ → Chronicle V → Type 0
  OpenedAll k T = (w i d : ℕ) → Was (history s₀ cs) i (Advance w) (number d) → i < k → In (opening i d) T.order

  abbrev pub EndedAll : ℕ → Chronicle V → Type 0
  EndedAll k T =
      (w t i e : ℕ) → e < k → Latest (WriteBegun (history s₀ cs) w) i e → Was (history s₀ cs) e (WriteStamp w) (number t)
      → (z : Event V) × In z T.order × (event_place z ≡ i) × (time z < e)

  -- the order itself
  pub record OrderHolds (first : V) (T : Chronicle V) : Type 0 where
    pub sorted : Sorted T.order
    pub distinct : Distinct T.order
    pub looks_hold : LooksHold (λ y. first) T.order
    pub seen_is : (x d : ℕ) → T.seen.sees x d ≡ fed_up_to d (λ y. first) T.order x
    pub last_over : (j x t : ℕ) (v u : V) (m : ℕ) → In (giving j x t v u m) T.order → t ≤ T.seen.last x

  module _ (k : ℕ) (s : State V) (T : Chronicle V) (c : Call V) (a : Answer V) (s' : State V) (T' : Chronicle V) (W : Was (history s₀ cs) k c a) (tn : Effect k s T c a s' T') where
    H : Here s₀ cs k (kind_of c a)
    H = here_at s₀ cs k c a W

    same_nodes_looked : (w : ℕ) (v : V) → kind_of c a ≡ looks_at w v → s'.nodes ≡ s.nodes
    same_nodes_looked w v e = let r : LooksNow s s' w v = now_as tn e in r.same_nodes

    look_here : (i : ℕ) (u : V) → Writing s₀ cs k s T → (L : Looks (history s₀ cs) i u) → L.answered_at ≡ k → LookHere s T (kind_of c a) i u
    look_here i u A L e =
        let w = L.by in
        let K : kind_of c a ≡ looks_at w u = sym (H.only (WriteLook w) (value u) (subst (λ j. Was (history s₀ cs) j (WriteLook w) (value u)) e L.answers)) in
        let r : LooksNow s s' w u = now_as tn K in
        record {
          w = w;
          x = r.x;
          b = r.b;
          kind_is = K;
          since_is = latest_one (WriteBegun (history s₀ cs) w) i (T.since w) k (subst (λ j. Latest (WriteBegun (history s₀ cs) w) i j) e L.of_write) (A w r.x (ap writes r.was_begun)).0;
          was_begun = r.was_begun;
          worth = λ d. value_at (node s r.b) r.ver d r.stands.here ∙ r.answered;
        }

    pub when : (j : ℕ) (P : Type 0) → j < suc k → (j < k → P) → (j ≡ k → P) → P
    when j P l f g = ⊎_elim f (λ q. g (omega arith)) (cases_lt j k)

    pub saw_next : (i x t : ℕ) (v y : V) (m : ℕ) (u : V) → Writing s₀ cs k s T → Early s₀ cs s T → Based k s T → Saw k T → (L : Looks (history s₀ cs) i u) → L.answered_at < suc k
        → NewIn k s T (kind_of c a) s' (giving i x t v y m) → y ≡ u
    saw_next i x t v y m u A E B S L l (e_old h) =
        when L.answered_at (y ≡ u) l (λ q. S i x t v y m u h L q)
        (λ q. let r = look_here i u A L q in absurd ((E r.w (ap early r.was_begun)).1 (giving i x t v y m) h r.since_is))
    saw_next i x t v y m u A E B S L l (e_opens w d f g) = grind arith
    saw_next i x t v y m u A E B S L l (e_gives j n t' v' lu rf b he f g gone z vz st) =
        let p : i ≡ T.place n = cc in
        let q : y ≡ T.seen.base n = cc in
        when L.answered_at (y ≡ u) l (λ o. q ∙ B n i v' u b (sym p) L o)
        (λ o. let r = look_here i u A L o in let h = r.kind_is in grind arith)

    pub based_next : (n i : ℕ) (v u : V) → Writing s₀ cs k s T → Early s₀ cs s T → Looked k s T → Based k s T → (L : Looks (history s₀ cs) i u) → L.answered_at < suc k
        → CameFrom s T c a s' T' n v → T'.place n ≡ i → T'.seen.base n ≡ u
    based_next n i v u A E D B L l (old d p q r) e =
        when L.answered_at (T'.seen.base n ≡ u) l (λ o. r ∙ B n i v u d (sym p ∙ e) L o)
        (λ o. let h = look_here i u A L o in absurd ((E h.w (ap early h.was_begun)).0 n v d (sym p ∙ e ∙ h.since_is)))
    based_next n i v u A E D B L l (now w x b f g h j p q r o own) e =
        when L.answered_at (T'.seen.base n ≡ u) l (λ y. r ∙ D w x b i u h (sym p ∙ e) L y v)
        (λ y. let z = look_here i u A L y in let k1 = z.kind_is in let k2 = offers_kind s₀ cs k s T c a s' T' W tn w v f g in
        grind arith)

    pub looked_next : (w x b i : ℕ) (u : V) (o : Operation) → (g : Ages) → Anchored s g → Writing s₀ cs k s T → Unlooked k s T → Looked k s T → (L : Looks (history s₀ cs) i u) → L.answered_at < suc k
        → OperationWay k s T (kind_of c a) (T'.since w) w o → o ≡ write_looked x b → (worker s' w).operation ≡ write_looked x b → T'.since w ≡ i → (d : V) → value_or d (node s' b) ≡ u
    looked_next w x b i u o g I A N D L l (o_same p n) e f q d =
        when L.answered_at (value_or d (node s' b) ≡ u) l
        (λ y. worth_on tn w x (ap writes f) b (subst (Anchor s.heads s.nodes g w) e (I.anchors w)).0 d ∙ D w x b i u e (sym p ∙ q) L y d)
        (λ y. let h = look_here i u A L y in
        absurd (n (ap actor h.kind_is ∙ ap Some (same_begin s₀ cs k s T c a s' T' W tn h.w w h.x x A (ap writes h.was_begun) (ap writes e) (sym h.since_is ∙ sym q ∙ p)))))
    looked_next w x b i u o g I A N D L l (o_begins f p) e h q d = grind arith
    looked_next w x b i u o g I A N D L l (o_looks {x = x'} {b = b'} {v = v} f p h st) e j q d =
        when L.answered_at (value_or d (node s' b) ≡ u) l
        (λ y. absurd (N w x' b' i u h (sym p ∙ q) L y))
        (λ y. let r = look_here i u A L y in
        let k1 = r.kind_is in
        let v1 : v.value ≡ u = cc in
        let b1 : b' ≡ b = cc in
        ap (λ N. value_or d (get_or N b free)) (same_nodes_looked w v.value f) ∙ ap (λ y. value_or d (node s y)) (sym b1) ∙ value_at (node s b') v d st.here ∙ v1)
    looked_next w x b i u o g I A N D L l (o_links f p h) e j q d = grind arith
    looked_next w x b i u o g I A N D L l (o_none f) e j q d = absurd (let y = ap writes e in grind arith)

    pub unlooked_next : (w x b i : ℕ) (u : V) (o : Operation) → Writing s₀ cs k s T → Unlooked k s T → (L : Looks (history s₀ cs) i u) → L.answered_at < suc k
        → OperationWay k s T (kind_of c a) (T'.since w) w o → o ≡ write_begun x b → T'.since w ≡ i → ⊥
    unlooked_next w x b i u o A N L l (o_same p n) e q =
        when L.answered_at ⊥ l (λ y. N w x b i u e (sym p ∙ q) L y)
        (λ y. let h = look_here i u A L y in
        n (ap actor h.kind_is ∙ ap Some (same_begin s₀ cs k s T c a s' T' W tn h.w w h.x x A (ap writes h.was_begun) (ap writes e) (sym h.since_is ∙ sym q ∙ p))))
    unlooked_next w x b i u o A N L l (o_begins f p) e q = let z = L.of_write.0 in let y : i ≡ k = sym q ∙ p in omega arith
    unlooked_next w x b i u o A N L l (o_looks f p h st) e q = grind arith
    unlooked_next w x b i u o A N L l (o_links f p h) e q = grind arith
    unlooked_next w x b i u o A N L l (o_none f) e q = let y = ap writes e in grind arith

    pub open_next : (w d : ℕ) (q : Session) → Open k s → SessionWay s (kind_of c a) w q → q ≡ opened d → (i : ℕ) × Latest (Opens (history s₀ cs) w) i (suc k) × Was (history s₀ cs) i (Advance w) (number d)
    open_next w d q O (q_less f n) e =
        let r = O w d (f d e) in
        (r.0, next_latest (Opens (history s₀ cs) w) r.0 k r.1 (λ h. n h.0 (sym (H.only (Advance w) (number h.0) h.1))), r.2)
    open_next w d q O (q_open b f g) e =
        let p : b ≡ d = cc in
        let h : Was (history s₀ cs) k (Advance w) (number d) = subst (λ y. Was (history s₀ cs) k (Advance w) (number y)) p (subst (Tells s₀ cs k) f H.told) in
        (k, now_latest (Opens (history s₀ cs) w) k (d, h), h)

    no_read : (w : ℕ) → ((y : ℕ) → kind_of c a ≡ begins_read w y → ⊥) → ReadBegun (history s₀ cs) w k → ⊥
    no_read w n h = n h.0 (sym (H.only (ReadBegin w h.0) granted h.1))

    pub reading_next : (w x p : ℕ) → Open k s → ReadingAll k s → ReadWay s (kind_of c a) w (worker s' w) → (worker s' w).operation ≡ reading x p → ReadAt (suc k) s' w x
    reading_next w x p O R (r_same f g n) e =
        let r = R w x p (sym f ∙ e) in
        record {
          began = r.began;
          i = r.i;
          d = r.d;
          of_read = next_latest (ReadBegun (history s₀ cs) w) r.began k r.of_read (no_read w n);
          begins = r.begins;
          is_open = g r.d (ap is_reading (sym f ∙ e)) r.is_open;
          in_session = r.in_session;
          opened_at = r.opened_at;
        }
    reading_next w x p O R (r_walks y p' q dd tt' vv f g h n ss st ll oo) e =
        let z : y ≡ x = cc in
        let r = R w x p' (f ∙ ap (λ j. reading j p') z) in
        record {
          began = r.began;
          i = r.i;
          d = r.d;
          of_read = next_latest (ReadBegun (history s₀ cs) w) r.began k r.of_read (no_read w n);
          begins = r.begins;
          is_open = h ∙ r.is_open;
          in_session = r.in_session;
          opened_at = r.opened_at;
        }
    reading_next w x p O R (r_starts y p' d f g h j hd lx) e =
        let z : y ≡ x = cc in
        let o = O w d h in
        let b : Was (history s₀ cs) k (ReadBegin w x) granted = subst (λ y. Was (history s₀ cs) k (ReadBegin w y) granted) z (subst (Tells s₀ cs k) f H.told) in
        record {
          began = k;
          i = o.0;
          d = d;
          of_read = now_latest (ReadBegun (history s₀ cs) w) k (x, b);
          begins = b;
          is_open = j;
          in_session = o.1;
          opened_at = o.2;
        }
    reading_next w x p O R (r_off f) e = absurd (both_ways (is_reading (worker s' w).operation) f (ap is_reading e))

    awaits_same : (n : ℕ) (v y : V) → AwaitsStamp s n v → AwaitsStamp s n y → v ≡ y
    awaits_same n v y b d = grind arith

    unstamped_awaits : (n : ℕ) (o : Option (Version V)) → version (node s' n) ≡ o → Unstamped o → (v : V) × AwaitsStamp s' n v
    unstamped_awaits n None e h = absurd h
    unstamped_awaits n (Some z) e h = (z.value, record { ver = z; here = e; bare = h; holds = refl })

    linking_back : (i x n : ℕ) (v y : V) → T.place n ≡ i → T.seen.cell n ≡ x → AwaitsStamp s n v → AwaitsStamp s' n y → CameFrom s T c a s' T' n y
        → (T'.place n ≡ i) × (T'.seen.cell n ≡ x) × AwaitsStamp s' n v
    linking_back i x n v y p q b b' (old d p' q' r) =
        (p' ∙ p, q' ∙ q, subst (AwaitsStamp s' n) (awaits_same n y v d b) b')
    linking_back i x n v y p q b b' (now u x' b'' e f g h p' q' r o own) =
        absurd (let z = b.here in let y = ap version h in grind arith)

    pub linking_next : (gh : Ages) → Anchored s gh → state_at s₀ cs (suc k) ≡ s' → Writing s₀ cs k s T → Linking k s T → Linking (suc k) s' T'
    linking_next gh I E A N i x v R l g =
        when R.linked_at ((T'.place R.own ≡ i) × (T'.seen.cell R.own ≡ x) × AwaitsStamp s' R.own v) l
        (λ q. let r = N i x v R q (omega arith) in
        let h = R.waits (suc k) l g in
        let b = unstamped_awaits R.own _ refl (subst (λ s. Unstamped (version (node s R.own))) E h) in
        linking_back i x R.own v b.0 r.0 r.1 r.2 b.1 (awaits_back tn R.own b.0 b.1))
        (λ q. let w = R.by in
        let K : kind_of c a ≡ offers w v = sym (H.only (WriteOffer w v R.told) granted (subst (λ j. Was (history s₀ cs) j (WriteOffer w v R.told) granted) q R.links)) in
        let L : LinksNow s T s' T' w v = now_as tn K in
        let y = A w L.x (ap writes L.was_looked) in
        let i1 : T.since w ≡ i = latest_one (WriteBegun (history s₀ cs) w) (T.since w) i k y.0 (subst (λ j. Latest (WriteBegun (history s₀ cs) w) i j) q R.of_write) in
        let z = (was_one s₀ cs i (WriteBegin w L.x) (WriteBegin w x) granted granted (subst (λ j. Was (history s₀ cs) j (WriteBegin w L.x) granted) i1 y.1) R.begins).0 in
        let x1 : L.x ≡ x = cc in
        let n1 : L.n ≡ R.own =
        sym (L.is_top (anchor_at w (write_looked L.x L.b) L.was_looked I).2) ∙ ap (head s') x1
        ∙ ap (λ s. head s x) (sym E) ∙ ap (λ j. head (state_at s₀ cs (suc j)) x) (sym q) ∙ R.is_head in
        (ap T'.place (sym n1) ∙ L.place_is ∙ i1, ap T'.seen.cell (sym n1) ∙ L.cell_is ∙ x1, subst (λ y. AwaitsStamp s' y v) n1 L.there))

    has_not : (n : ℕ) (v : V) → AwaitsStamp s' n v → HasStamp (version (node s' n)) → ⊥
    has_not n v b h = subst HasStamp b.here h b.bare

    stamped_forth : (i x n : ℕ) (v : V) → T.place n ≡ i → T.seen.cell n ≡ x → HasStamp (version (node s' n)) → Becomes k T s' T' n v
        → (t : ℕ) × (u : V) × (m : ℕ) × In (giving i x t v u m) T'.order
    stamped_forth i x n v p q h (stays b r) = absurd (has_not n v b h)
    stamped_forth i x n v p q h (is_given t r) = (
      t,
      T.seen.base n,
      k,
      subst (λ j. In (giving j x t v (T.seen.base n) k) T'.order) p
          (subst (λ j. In (giving (T.place n) j t v (T.seen.base n) k) T'.order) q
          (subst (In (giving (T.place n) (T.seen.cell n) t v (T.seen.base n) k)) (sym r) (insert_new _ T.order))),
    )

    pub stamped_next : state_at s₀ cs (suc k) ≡ s' → WaitingStamped s → Linking k s T → StampedAll k T → StampedAll (suc k) T'
    stamped_next E S N A i x v R l =
        when R.given_at ((t : ℕ) × (u : V) × (m : ℕ) × In (giving i x t v u m) T'.order) l
        (λ q. let r = A i x v R q in (r.0, r.1, r.2, in_on _ (order_way k s T tn) r.3))
        (λ q. let r = N i x v R (let z = R.later in omega arith) (omega arith) in
        stamped_forth i x R.own v r.0 r.1
        (subst (λ s. HasStamp (version (node s R.own))) E (subst (λ j. HasStamp (version (node (state_at s₀ cs (suc j)) R.own))) q R.gets))
        (awaits_on S tn R.own v r.2))

    opened_go : (w d : ℕ) → kind_of c a ≡ opens_at w d → OrderWay k s T (kind_of c a) s' T' → In (opening k d) T'.order
    opened_go w d e x = grind (arith, insert_new)

    pub opened_next : OpenedAll k T → OpenedAll (suc k) T'
    opened_next O w i d h l =
        when i (In (opening i d) T'.order) l (λ q. in_on _ (order_way k s T tn) (O w i d h q))
        (λ q. subst (λ j. In (opening j d) T'.order) (sym q)
        (opened_go w d (sym (H.only (Advance w) (number d) (subst (λ j. Was (history s₀ cs) j (Advance w) (number d)) q h))) (order_way k s T tn)))

    pub ended_next : Writing s₀ cs k s T → Owning s₀ cs s T → DatedAll s₀ cs k T → EndedAll k T → EndedAll (suc k) T'
    ended_next A O D N w t i e l h g =
        when e ((z : Event V) × In z T'.order × (event_place z ≡ i) × (time z < e)) l
        (λ q. let r = N w t i e q h g in (r.0, in_on r.0 (order_way k s T tn) r.1, r.2, r.3))
        (λ q. let K : kind_of c a ≡ stamps_at w t = sym (H.only (WriteStamp w) (number t) (subst (λ j. Was (history s₀ cs) j (WriteStamp w) (number t)) q g)) in
        let r : StampsNow s w t = now_as tn K in
        let y = A w r.x (ap writes r.is_owning) in
        let i1 : T.since w ≡ i = latest_one (WriteBegun (history s₀ cs) w) (T.since w) i k y.0 (subst (λ j. Latest (WriteBegun (history s₀ cs) w) i j) q h) in
        ⊎_elim
        (λ b. absurd (let h1 = b.1.here in let h2 = b.1.bare in let h3 = r.stands.here in let h4 = r.stands.has in
        let v1 : b.1.ver ≡ r.ver = cc in let v2 = ap (λ z. z.stamp) v1 in grind arith))
        (λ z. (z.0, in_on z.0 (order_way k s T tn) z.1, z.2 ∙ i1, (let y = dated_time s₀ cs k z.0 (D z.0 z.1) in omega arith)))
        (O w r.x r.n r.is_owning))

    pub dated_next : (e : Event V) → state_at s₀ cs k ≡ s → state_at s₀ cs (suc k) ≡ s' → WithinClock s → LinkedByAll s₀ cs k s T → ReadingsAbove s₀ cs s T → DatedAll s₀ cs k T → NewIn k s T (kind_of c a) s' e → Dated s₀ cs (suc k) e
    dated_next e E F B M D A (e_old h) = dated_more s₀ cs k e (A e h)
    dated_next e E F B M D A (e_opens w d f g) =
        subst (Dated s₀ cs (suc k)) (sym g) (w, subst (Tells s₀ cs k) f H.told, omega arith)
    dated_next e E F B M D A (e_gives u n t v l r b he f g gone z vz st) =
        let h = M n v b in
        let q = (B.workers_within u).reading_within in
        let q1 : t ≤ s.clock = subst (StampWithin s.clock) he q in
        let q2 : (state_at s₀ cs k).clock ≡ s.clock = ap (λ s. s.clock) E in
        subst (Dated s₀ cs (suc k)) (sym g) (
          record {
            by = h.by;
            told = h.told;
            linked_at = h.linked_at;
            given_at = k;
            own = n;
            begins = h.begins;
            of_write = h.of_write;
            links = h.links;
            is_head = h.is_head;
            later = h.later;
            waits = h.waits;
            gets = subst (λ s. HasStamp (version (node s n))) (sym F) (subst HasStamp (sym vz) (λ y. grind arith));
          },
          linked_by_early s₀ cs k _ _ n v h,
          omega arith,
          D u n t v r b he,
          omega arith,
        )
