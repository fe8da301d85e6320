-- What a step does, seen from an unstamped node, from a worker, and from the order.
use Rattle.std.proofs.Common.{◌≡◌, ℕ, ◌<◌, Bool, ◌⊎◌, List, length, get_or, set, Some, None, Option, sym, refl, ap, ◌∙◌, subst, inl, inr, ⊎_elim, arith}
use Rattle.std.proofs.lemmas.Grind.{get_or-set_at}
use Rattle.std.proofs.lemmas.List.{get_or-set_same, get_or-set_other}
use Rattle.std.proofs.lemmas.Bool.{cases_eq}
use Rattle.model.specs.Answers.{Answer, granted, again}
use Rattle.model.specs.Calls.{Call, WriteOffer}
use Rattle.model.specs.Changes.{with_operation, with_nodes, stamped, on_version}
use Rattle.model.specs.State.{Version, Node, Operation, Worker, State, fresh, node, worker, head, version, free, linked, waiting, opened, idle, write_begun, write_looked, write_linked}
use Rattle.laws.proofs.CellLists.{Present, version_in_table, on_version_at}
use Rattle.laws.proofs.Effects.{Kind, kind_of, kind_silent, plain, begins_write, begins_read, opens_at, stamps_at, looks_at, offers, answers, writes, refers, value_or, seen_given, Chronicle, ValueKept, Reading, Effect, does_nothing, does_record, does_open, does_operation, does_begin, does_look, does_read, does_stamp, does_leave, does_give, does_link}
use Rattle.laws.proofs.Frames.{set_both, updated, updated_same, updated_other}
use Rattle.laws.proofs.Orders.{opening, giving, insert}
use Rattle.laws.proofs.Transitions.{StampedAt}

-- node n waits for its stamp, and holds v
pub record AwaitsStamp {V : Type 0} (s : State V) (n : ℕ) (v : V) : Type 0 where
  pub ver : Version V
  pub here : version (node s n) ≡ Some ver
  pub bare : ver.stamp ≡ None
  pub holds : ver.value ≡ v

-- the worker whose write a kind tells of
abbrev pub actor : {V : Type 0} → Kind V → Option ℕ
actor plain = None
actor (begins_write w x) = Some w
actor (begins_read w x) = None
actor (opens_at w d) = None
actor (stamps_at w t) = Some w
actor (looks_at w v) = Some w
actor (offers w v) = Some w
actor (answers w v) = None

-- where an unstamped node comes from
pub data CameFrom {V : Type 0} (s : State V) (T : Chronicle V) (c : Call V) (a : Answer V) (s' : State V) (T' : Chronicle V) (n : ℕ) (v : V) : Type 0 where
  old : AwaitsStamp s n v → T'.place n ≡ T.place n → T'.seen.cell n ≡ T.seen.cell n → T'.seen.base n ≡ T.seen.base n → CameFrom s T c a s' T' n v
  now : (u x b : ℕ) {m : ℕ} → c ≡ WriteOffer u v m → a ≡ granted → (worker s u).operation ≡ write_looked x b → node s n ≡ free → T'.place n ≡ T.since u
      → T'.seen.cell n ≡ x → T'.seen.base n ≡ value_or v (node s b) → T'.order ≡ T.order
      → ((worker s' u).operation ≡ write_linked x n) × (x < length s.heads → head s' x ≡ n) → CameFrom s T c a s' T' n v

-- what becomes of one
pub data Becomes {V : Type 0} (k : ℕ) (T : Chronicle V) (s' : State V) (T' : Chronicle V) (n : ℕ) (v : V) : Type 0 where
  stays : AwaitsStamp s' n v → T'.place n ≡ T.place n → Becomes k T s' T' n v
  is_given : (t : ℕ) → T'.order ≡ insert (giving (T.place n) (T.seen.cell n) t v (T.seen.base n) k) T.order → Becomes k T s' T' n v

abbrev pub WaitingStamped : {V : Type 0} → State V → Type 0
WaitingStamped s = (n : ℕ) (v : Version _) (ms : List Bool) → node s n ≡ waiting v ms → Present v.stamp

given_not : {V : Type 0} (x : Node V) (t : ℕ) (z : Version V) → version (on_version (λ v. stamped v t) x) ≡ Some z → z.stamp ≡ None → ⊥
given_not x t z e f = grind arith

module _ {V : Type 0} (s : State V) where
  pub given_back : (n t : ℕ) (v : Version V) → version (node s n) ≡ Some v → (j : ℕ) (z : Version V)
      → version (get_or (set s.nodes n (on_version (λ v. stamped v t) (node s n))) j free) ≡ Some z → z.stamp ≡ None → (j ≡ n → ⊥) × (version (node s j) ≡ Some z)
  given_back n t v h j z =
      set_both s.nodes n j (on_version (λ v. stamped v t) (node s n)) free
      (λ y. version y ≡ Some z → z.stamp ≡ None → (j ≡ n → ⊥) × (version (node s j) ≡ Some z)) (version_in_table s.nodes n v h)
      (λ e f g. absurd (given_not (node s n) t z f g)) (λ ne f g. (ne, f))

awaits_linked : {V : Type 0} (s : State V) (n : ℕ) (v : V) → WaitingStamped s → AwaitsStamp s n v → (z : Version V) × (node s n ≡ linked z) × (z.stamp ≡ None) × (z.value ≡ v)
awaits_linked {V} s n v S b = go (node s n) refl b.here
  where
    go : (x : Node V) → node s n ≡ x → version x ≡ Some b.ver → (z : Version V) × (node s n ≡ linked z) × (z.stamp ≡ None) × (z.value ≡ v)
    go free e f = grind arith
    go (linked z) e f = let q : z ≡ b.ver = cc in (z, e, ap (λ y. y.stamp) q ∙ b.bare, ap (λ y. y.value) q ∙ b.holds)
    go (waiting z ms) e f = absurd (let q : z ≡ b.ver = cc in let g = S n z ms e in subst Present (ap (λ y. y.stamp) q ∙ b.bare) g)

module _ {V : Type 0} (s : State V) where
  value_kept_back : (u n : ℕ) (v : V) (y : Node V) → ValueKept u (node s n) y → (z : Version V) → version y ≡ Some z → z.stamp ≡ None → z.value ≡ v → AwaitsStamp s n v
  value_kept_back u n v y M z e f g = let r = M.back z e f in record { ver = r.0; here = r.1; bare = r.2; holds = r.3 ∙ g }

  value_kept_on : (u n : ℕ) (v : V) (N : List (Node V)) (o : Operation) → WaitingStamped s → ValueKept u (node s n) (get_or N n free) → AwaitsStamp s n v → AwaitsStamp (with_operation (with_nodes s N) u o) n v
  value_kept_on u n v N o S M b =
      let r = awaits_linked s n v S b in
      let q = M.on r.0 r.1 r.2 in
      record { ver = q.0; here = ap version q.1; bare = q.2; holds = q.3 ∙ r.3 }

module _ {V : Type 0} {k : ℕ} {s : State V} {T : Chronicle V} where
  pub awaits_back : {c : Call V} {a : Answer V} {s' : State V} {T' : Chronicle V} → Effect k s T c a s' T' → (n : ℕ) (v : V) → AwaitsStamp s' n v → CameFrom s T c a s' T' n v
  awaits_back (does_nothing p) n v b = old b refl refl refl
  awaits_back (does_record l p o h q r) n v b = old (record { ver = b.ver; here = b.here; bare = b.bare; holds = b.holds }) refl refl refl
  awaits_back (does_open l e f) n v b = old (record { ver = b.ver; here = b.here; bare = b.bare; holds = b.holds }) refl refl refl
  awaits_back (does_operation l o r) n v b = old (record { ver = b.ver; here = b.here; bare = b.bare; holds = b.holds }) refl refl refl
  awaits_back (does_begin l) n v b = old (record { ver = b.ver; here = b.here; bare = b.bare; holds = b.holds }) refl refl refl
  awaits_back (does_look l e st) n v b = old (record { ver = b.ver; here = b.here; bare = b.bare; holds = b.holds }) refl refl refl
  awaits_back (does_read {u = u} l e f st g M) n v b = old (value_kept_back s u n v _ (M n) b.ver b.here b.bare b.holds) refl refl refl
  awaits_back (does_stamp {u = u} l e st M) n v b = old (value_kept_back s u n v _ (M n) b.ver b.here b.bare b.holds) refl refl refl
  awaits_back (does_leave u o N l p q r M) n v b = old (value_kept_back s u n v _ (M n) b.ver b.here b.bare b.holds) refl refl refl
  awaits_back (does_give {n = j} {t = t} {v = z} l r h st he) n v b =
      let q = given_back s j t z h n b.ver b.here b.bare in old (record { ver = b.ver; here = q.1; bare = b.bare; holds = b.holds }) refl refl refl
  awaits_back (does_link {u = u} {x = x} {b = d} {n = j} {m = m} {a = y} l e h f) n v b =
      let ff = f in
      let L : Node V = linked (record { value = y; stamp = None; older = Some d }) in
      ⊎_elim
      (λ p. let q : version L ≡ Some b.ver = sym (ap version (get_or-set_at s.nodes j n L free p ff.0)) ∙ b.here in
      let g : ◌≡◌ {A = Version V} (record { value = y; stamp = None; older = Some d }) b.ver = cc in
      let yv : y ≡ v = ap (λ w. w.value) g ∙ b.holds in
      now u x d (ap (λ y. WriteOffer u y m) yv) refl e (ap (node s) p ∙ ff.1) (updated_same T.place j (T.since u) n p) (updated_same T.seen.cell j x n p)
      (updated_same T.seen.base j (value_or y (node s d)) n p ∙ ap (λ w. value_or w (node s d)) yv) refl (
        ap (λ r. r.operation) (get_or-set_same s.workers u (record { session = (worker s u).session; operation = write_linked x j; clock_reading = None }) fresh l) ∙ ap (write_linked x) (sym p),
        λ lx. get_or-set_same s.heads x j 0 lx ∙ sym p,
      ))
      (λ ne. let q : version (node s n) ≡ Some b.ver = sym (ap version (get_or-set_other s.nodes j n L free ne)) ∙ b.here in
      old (record { ver = b.ver; here = q; bare = b.bare; holds = b.holds }) (updated_other T.place j (T.since u) n ne)
      (updated_other T.seen.cell j x n ne) (updated_other T.seen.base j (value_or y (node s d)) n ne))
      (cases_eq n j)

  pub awaits_on : {c : Call V} {a : Answer V} {s' : State V} {T' : Chronicle V} → WaitingStamped s → Effect k s T c a s' T' → (n : ℕ) (v : V) → AwaitsStamp s n v → Becomes k T s' T' n v
  awaits_on S (does_nothing p) n v b = stays b refl
  awaits_on S (does_record l p o h q r) n v b = stays (record { ver = b.ver; here = b.here; bare = b.bare; holds = b.holds }) refl
  awaits_on S (does_open l e f) n v b = stays (record { ver = b.ver; here = b.here; bare = b.bare; holds = b.holds }) refl
  awaits_on S (does_operation l o r) n v b = stays (record { ver = b.ver; here = b.here; bare = b.bare; holds = b.holds }) refl
  awaits_on S (does_begin l) n v b = stays (record { ver = b.ver; here = b.here; bare = b.bare; holds = b.holds }) refl
  awaits_on S (does_look l e st) n v b = stays (record { ver = b.ver; here = b.here; bare = b.bare; holds = b.holds }) refl
  awaits_on S (does_read {u = u} l e f st g M) n v b = stays (value_kept_on s u n v _ idle S (M n) b) refl
  awaits_on S (does_stamp {u = u} l e st M) n v b = stays (value_kept_on s u n v _ idle S (M n) b) refl
  awaits_on S (does_leave u o N l p q r M) n v b = stays (value_kept_on s u n v N o S (M n) b) refl
  awaits_on S (does_give {n = j} {t = t} {v = z} l r h st he) n v b =
      ⊎_elim
      (λ e. is_given t
      (let f : version (node s j) ≡ Some b.ver = ap (λ i. version (node s i)) (sym e) ∙ b.here in
      let g : z ≡ b.ver = cc in
      let q : z.value ≡ v = ap (λ y. y.value) g ∙ b.holds in
      ap (λ i. insert (giving (T.place i) (T.seen.cell i) t z.value (T.seen.base i) k) T.order) (sym e)
      ∙ ap (λ y. insert (giving (T.place n) (T.seen.cell n) t y (T.seen.base n) k) T.order) q))
      (λ ne. stays (record { ver = b.ver; here = ap version (get_or-set_other s.nodes j n _ free ne) ∙ b.here; bare = b.bare; holds = b.holds }) refl)
      (cases_eq n j)
  awaits_on S (does_link {u = u} {x = x} {b = d} {n = j} {a = y} l e h f) n v b =
      let ff = f in
      let ne : n ≡ j → ⊥ = λ p. let q = ap version (ap (node s) p ∙ ff.1) in let g = b.here in grind arith in
      stays (record { ver = b.ver; here = ap version (get_or-set_other s.nodes j n _ free ne) ∙ b.here; bare = b.bare; holds = b.holds })
      (updated_other T.place j (T.since u) n ne)

  pub waiting_stamped_next : {c : Call V} {a : Answer V} {s' : State V} {T' : Chronicle V} → Effect k s T c a s' T' → WaitingStamped s → WaitingStamped s'
  waiting_stamped_next (does_nothing p) S n v ms e = S n v ms e
  waiting_stamped_next (does_record l p o h q r) S n v ms e = S n v ms e
  waiting_stamped_next (does_open l e' f) S n v ms e = S n v ms e
  waiting_stamped_next (does_operation l o r) S n v ms e = S n v ms e
  waiting_stamped_next (does_begin l) S n v ms e = S n v ms e
  waiting_stamped_next (does_look l e' st) S n v ms e = S n v ms e
  waiting_stamped_next (does_read l e' f st g M) S n v ms e = (M n).waiting_stamped v ms e (S n)
  waiting_stamped_next (does_stamp l e' st M) S n v ms e = (M n).waiting_stamped v ms e (S n)
  waiting_stamped_next (does_leave u o N l p q r M) S n v ms e = (M n).waiting_stamped v ms e (S n)
  waiting_stamped_next (does_give {n = j} {t = t} {v = z} l r h st he) S n v ms e =
      set_both s.nodes j n (on_version (λ v. stamped v t) (node s j)) free (λ y. y ≡ waiting v ms → Present v.stamp) (version_in_table s.nodes j z h)
      (λ p q. stamped_given (node s j) q) (λ ne q. S n v ms q) e
    where
      stamped_given : (x : Node V) → on_version (λ v. stamped v t) x ≡ waiting v ms → Present v.stamp
      stamped_given free q = grind arith
      stamped_given (linked y) q = grind arith
      stamped_given (waiting y ns) q = let z : stamped y t ≡ v = cc in subst Present (ap (λ y. y.stamp) z) tt
  waiting_stamped_next (does_link {u = u} {x = x} {b = d} {n = j} {a = y} l e' h f) S n v ms e =
      set_both s.nodes j n (linked (record { value = y; stamp = None; older = Some d })) free (λ y. y ≡ waiting v ms → Present v.stamp) f.0
      (λ p q. grind arith) (λ ne q. S n v ms q) e

-- what w's operation becomes; K tells of the call, i is the place where w's latest write then began
pub data OperationWay {V : Type 0} (k : ℕ) (s : State V) (T : Chronicle V) (K : Kind V) (i w : ℕ) : Operation → Type 0 where
  o_same : i ≡ T.since w → (actor K ≡ Some w → ⊥) → OperationWay k s T K i w (worker s w).operation
  o_begins : {x b : ℕ} → K ≡ begins_write w x → i ≡ k → OperationWay k s T K i w (write_begun x b)
  o_looks : {x b t : ℕ} {v : Version V} → K ≡ looks_at w v.value → i ≡ T.since w → (worker s w).operation ≡ write_begun x b → StampedAt s b v t → OperationWay k s T K i w (write_looked x b)
  o_links : {x b n : ℕ} {v : V} → K ≡ offers w v → i ≡ T.since w → (worker s w).operation ≡ write_looked x b → OperationWay k s T K i w (write_linked x n)
  o_none : {o : Operation} → writes o ≡ None → OperationWay k s T K i w o

-- what w holds
pub data ReadingWay {V : Type 0} (s : State V) (w : ℕ) : Operation → Option ℕ → Type 0 where
  h_same : ReadingWay s w (worker s w).operation (worker s w).clock_reading
  h_clock : ReadingWay s w (worker s w).operation (Some s.clock)
  h_none : {o : Operation} → ReadingWay s w o None

-- what becomes of the order
pub data OrderWay {V : Type 0} (k : ℕ) (s : State V) (T : Chronicle V) (K : Kind V) (s' : State V) (T' : Chronicle V) : Type 0 where
  w_same : T'.order ≡ T.order → T'.seen.sees ≡ T.seen.sees → T'.seen.last ≡ T.seen.last → ((w d : ℕ) → K ≡ opens_at w d → ⊥) → OrderWay k s T K s' T'
  w_opens : (w d : ℕ) → K ≡ opens_at w d → s.clock ≡ d → T'.order ≡ insert (opening k d) T.order → T'.seen ≡ T.seen → OrderWay k s T K s' T'
  w_gives : (u n t : ℕ) (v : V) → u < length s.workers → refers (worker s u).operation ≡ Some n → AwaitsStamp s n v → (worker s u).clock_reading ≡ Some t → K ≡ plain
      → T'.order ≡ insert (giving (T.place n) (T.seen.cell n) t v (T.seen.base n) k) T.order → T'.seen ≡ seen_given n t v T.seen
      → ((y : V) → AwaitsStamp s' n y → ⊥) → (z : Version V) → version (node s' n) ≡ Some z → z.stamp ≡ Some t → OrderWay k s T K s' T'

pub goes_kind : {V : Type 0} {s : State V} {u : ℕ} {c : Call V} {a : Answer V} {o : Operation} → Reading s u c a o
    → (kind_of c a ≡ plain) ⊎ ((x : ℕ) × (kind_of c a ≡ begins_read u x))
goes_kind x = grind arith

module _ {V : Type 0} (k : ℕ) (s : State V) (T : Chronicle V) where
  way_set : (u w : ℕ) (r : Worker) (K : Kind V) (i : ℕ) → u < length s.workers → (w ≡ u → OperationWay k s T K i w r.operation) → ((w ≡ u → ⊥) → i ≡ T.since w)
      → (actor K ≡ Some w → w ≡ u) → OperationWay k s T K i w (get_or (set s.workers u r) w fresh).operation
  way_set u w r K i l f g h = set_both s.workers u w r fresh (λ z. OperationWay k s T K i w z.operation) l f (λ ne. o_same (g ne) (λ e. ne (h e)))

  way_same : (u w : ℕ) (r : Worker) (K : Kind V) (i : ℕ) → u < length s.workers → r.operation ≡ (worker s u).operation → i ≡ T.since w → actor K ≡ None
      → OperationWay k s T K i w (get_or (set s.workers u r) w fresh).operation
  way_same u w r x i l e q n = grind (arith, way_set, o_same)

  pub operation_way : {c : Call V} {a : Answer V} {s' : State V} {T' : Chronicle V} → Effect k s T c a s' T' → (w : ℕ) → OperationWay k s T (kind_of c a) (T'.since w) w (worker s' w).operation
  operation_way {c} {a} (does_nothing p) w = o_same refl (λ e. let q = ap actor p in grind arith)
  operation_way {c} {a} (does_record {u = u} {r = r} l p e h q g) w = way_same u w r (kind_of c a) (T.since w) l e refl (ap actor p)
  operation_way {c} {a} (does_open {u = u} {c = d} l e f) w = way_same u w _ (opens_at u d) (T.since w) l refl refl refl
  operation_way {c} {a} (does_operation {u = u} {o = o} l e r) w =
      way_set u w (record { session = (worker s u).session; operation = o; clock_reading = None }) (kind_of c a) (T.since w) l (λ p. o_none e) (λ ne. refl)
      (λ h. absurd (⊎_elim (λ p. let q = ap actor p in grind arith)
      (λ p. let q = ap actor p.1 in grind arith) (goes_kind r)))
  operation_way (does_begin {u = u} {x = x} l) w =
      way_set u w (record { session = (worker s u).session; operation = write_begun x (head s x); clock_reading = None }) (begins_write u x) (updated T.since u k w) l
      (λ p. o_begins (ap (λ y. begins_write y x) (sym p)) (updated_same T.since u k w p)) (λ ne. updated_other T.since u k w ne) (λ h. cc)
  operation_way (does_look {u = u} {x = x} {b = b} {v = v} l e st) w =
      way_set u w (record { session = (worker s u).session; operation = write_looked x b; clock_reading = None }) (looks_at u v.value) (T.since w) l
      (λ p. o_looks (ap (λ y. looks_at y v.value) (sym p)) refl (ap (λ y. (worker s y).operation) p ∙ e) st) (λ ne. refl) (λ h. cc)
  operation_way (does_read {u = u} {v = v} l e f st g M) w =
      way_set u w (record { session = (worker s u).session; operation = idle; clock_reading = None }) (answers u v.value) (T.since w) l (λ p. o_none refl) (λ ne. refl)
      (λ h. grind arith)
  operation_way (does_stamp {u = u} {t = t} l e st M) w =
      way_set u w (record { session = (worker s u).session; operation = idle; clock_reading = None }) (stamps_at u t) (T.since w) l (λ p. o_none refl) (λ ne. refl) (λ h. cc)
  operation_way {c} {a} (does_leave u o N l p q r M) w =
      way_set u w (record { session = (worker s u).session; operation = o; clock_reading = None }) (kind_of c a) (T.since w) l (λ p. o_none q) (λ ne. refl)
      (λ h. absurd (let q = ap actor p in grind arith))
  operation_way {c} {a} (does_give {u = u} l r h st he) w = way_same u w _ (kind_of c a) (T.since w) l refl refl (ap actor (kind_silent c again refl))
  operation_way (does_link {u = u} {x = x} {b = b} {n = n} {a = a} l e h f) w =
      way_set u w (record { session = (worker s u).session; operation = write_linked x n; clock_reading = None }) (offers u a) (T.since w) l
      (λ p. o_links (ap (λ y. offers y a) (sym p)) refl (ap (λ y. (worker s y).operation) p ∙ e)) (λ ne. refl) (λ h. cc)

  reading_set : (u w : ℕ) (r : Worker) → u < length s.workers → (w ≡ u → ReadingWay s w r.operation r.clock_reading) → ReadingWay s w (get_or (set s.workers u r) w fresh).operation (get_or (set s.workers u r) w fresh).clock_reading
  reading_set u w r l f = set_both s.workers u w r fresh (λ z. ReadingWay s w z.operation z.clock_reading) l f (λ ne. h_same)

  reading_still : (u w : ℕ) (o : Operation) (h : Option ℕ) → w ≡ u → o ≡ (worker s u).operation → (h ≡ (worker s u).clock_reading) ⊎ (h ≡ Some s.clock) → ReadingWay s w o h
  reading_still u w o h p e (inl q) =
      subst (λ y. ReadingWay s w y h) (ap (λ y. (worker s y).operation) p ∙ sym e) (subst (λ y. ReadingWay s w (worker s w).operation y) (ap (λ y. (worker s y).clock_reading) p ∙ sym q) h_same)
  reading_still u w o h p e (inr q) =
      subst (λ y. ReadingWay s w y h) (ap (λ y. (worker s y).operation) p ∙ sym e) (subst (λ y. ReadingWay s w (worker s w).operation y) (sym q) h_clock)

  pub reading_way : {c : Call V} {a : Answer V} {s' : State V} {T' : Chronicle V} → Effect k s T c a s' T' → (w : ℕ) → ReadingWay s w (worker s' w).operation (worker s' w).clock_reading
  reading_way (does_nothing p) w = h_same
  reading_way (does_record {u = u} {r = r} l p e h q g) w = reading_set u w r l (λ y. reading_still u w r.operation r.clock_reading y e h)
  reading_way (does_open {u = u} {c = d} l e f) w =
      reading_set u w (record { session = opened d; operation = (worker s u).operation; clock_reading = (worker s u).clock_reading }) l (λ y. reading_still u w _ _ y refl (inl refl))
  reading_way (does_operation {u = u} {o = o} l e r) w = reading_set u w (record { session = (worker s u).session; operation = o; clock_reading = None }) l (λ y. h_none)
  reading_way (does_begin {u = u} {x = x} l) w = reading_set u w (record { session = (worker s u).session; operation = write_begun x (head s x); clock_reading = None }) l (λ y. h_none)
  reading_way (does_look {u = u} {x = x} {b = b} l e st) w = reading_set u w (record { session = (worker s u).session; operation = write_looked x b; clock_reading = None }) l (λ y. h_none)
  reading_way (does_read {u = u} l e f st g M) w = reading_set u w (record { session = (worker s u).session; operation = idle; clock_reading = None }) l (λ y. h_none)
  reading_way (does_stamp {u = u} l e st M) w = reading_set u w (record { session = (worker s u).session; operation = idle; clock_reading = None }) l (λ y. h_none)
  reading_way (does_leave u o N l p q r M) w = reading_set u w (record { session = (worker s u).session; operation = o; clock_reading = None }) l (λ y. h_none)
  reading_way (does_give {u = u} l r h st he) w = reading_set u w (record { session = (worker s u).session; operation = (worker s u).operation; clock_reading = None }) l (λ y. h_none)
  reading_way (does_link {u = u} {x = x} {n = n} l e h f) w = reading_set u w (record { session = (worker s u).session; operation = write_linked x n; clock_reading = None }) l (λ y. h_none)

  pub order_way : {c : Call V} {a : Answer V} {s' : State V} {T' : Chronicle V} → Effect k s T c a s' T' → OrderWay k s T (kind_of c a) s' T'
  order_way (does_nothing p) = w_same refl refl refl (λ w d e. grind arith)
  order_way (does_record l p o h q g) = w_same refl refl refl (λ w d e. grind arith)
  order_way (does_open {u = u} {c = d} l e f) = w_opens u d refl f refl refl
  order_way (does_operation l e r) =
      w_same refl refl refl
      (λ w d f. ⊎_elim (λ p. grind arith)
      (λ p. let q = p.1 in grind arith) (goes_kind r))
  order_way (does_begin l) = w_same refl refl refl (λ w d e. grind arith)
  order_way (does_look l e st) = w_same refl refl refl (λ w d e. grind arith)
  order_way (does_read l e f st g M) = w_same refl refl refl (λ w d e. grind arith)
  order_way (does_stamp l e st M) = w_same refl refl refl (λ w d e. grind arith)
  order_way (does_leave u o N l p q r M) = w_same refl refl refl (λ w d e. grind arith)
  order_way (does_give {c = c} {u = u} {n = n} {t = t} {v = v} l r h st he) =
      w_gives u n t v.value l r (record { ver = v; here = h; bare = st; holds = refl }) he (kind_silent c again refl) refl refl
      (λ y b. (given_back s n t v h n b.ver b.here b.bare).0 refl) (stamped v t)
      (on_version_at (λ v. stamped v t) s.nodes n v h) refl
  order_way (does_link l e h f) = w_same refl refl refl (λ w d e. grind arith)
