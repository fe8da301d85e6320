-- The law of one order.
use Rattle.std.proofs.Common.{◌≡◌, ℕ, suc, ◌+◌, ◌-◌, ◌<◌, ◌≤◌, List, [], ◌∷◌, ◌++◌, length, take, sym, refl, ap, ◌∙◌, subst, ⊎_elim, arith}
use Rattle.std.proofs.lemmas.Option.{none-some}
use Rattle.std.proofs.lemmas.List.{map-append, take_all}
use Rattle.std.proofs.lemmas.Bool.{cases_lt, both_ways}
use Rattle.model.specs.Answers.{Answer, number, again}
use Rattle.model.specs.Calls.{Call, Advance}
use Rattle.model.specs.Making.{make, sizes_allowed}
use Rattle.model.specs.Runs.{run}
use Rattle.model.specs.State.{State, fresh, worker, version}
use Rattle.laws.specs.Histories.{history, Was}
use Rattle.laws.specs.OneOrder.{Item, session, write, place, fed, Reads, Looks, Stamped, Happened, Begins, Ends, Ordered}
use Rattle.laws.proofs.Answering.{session_way, read_way}
use Rattle.laws.proofs.CellLists.{Ages, Present}
use Rattle.laws.proofs.Clock.{WithinClock, within_clock, clock_rises}
use Rattle.laws.proofs.Effects.{kind_of, kind_silent, opens_at, writes, Chronicle, Effect, after, does_nothing, does_record, does_open, does_operation, does_begin, does_look, does_read, does_stamp, does_leave, does_give, does_link, effect}
use Rattle.laws.proofs.Explaining.{StoreShows, Looked, Unlooked, Based, Saw, Open, ReadingAll, Linking, StampedAll, OpenedAll, EndedAll, OrderHolds, saw_next, based_next, looked_next, unlooked_next, open_next, reading_next, linking_next, stamped_next, opened_next, ended_next, dated_next}
use Rattle.laws.proofs.FirstState.{make_fresh, anchored, as_made}
use Rattle.laws.proofs.Inserting.{order_holds_next, ReadsAll, reads_on}
use Rattle.laws.proofs.Orders.{Event, opening, giving, In, key, time, item, items, Sorted, Distinct, LooksHold, fed_up_to, split_mapped, precedes, Precedes, in_split, in_mid, distinct_one, distinct_two, session_sees, write_sees}
use Rattle.laws.proofs.Origins.{early, in_back, here_at, Writing, writing_next, LinkedByAll, linked_by_back, Dated, DatedAll, dated_time, Early, Apart, Unused, Owning, ReadingsAbove, early_next, apart_next, unused_next, owning_next, readings_above_next}
use Rattle.laws.proofs.Places.{was_one, was_within, by_places, was_transition, state_at}
use Rattle.laws.proofs.References.{Anchored}
use Rattle.laws.proofs.Transitions.{Transition}
use Rattle.laws.proofs.Ways.{AwaitsStamp, WaitingStamped, awaits_back, waiting_stamped_next, goes_kind, operation_way, reading_way, order_way}

module _ {V : Type 0} (first : V) (s₀ : State V) (S : StoreShows first s₀) (cs : List (Call V)) where
  -- all that is known at place k
  pub record All (k : ℕ) (s : State V) (T : Chronicle V) : Type 0 where
    pub good : S.Good s T.seen
    pub waiting_stamped : WaitingStamped s
    pub writing : Writing s₀ cs k s T
    pub linked_by : LinkedByAll s₀ cs k s T
    pub dated : DatedAll s₀ cs k T
    pub free_early : Early s₀ cs s T
    pub apart : Apart s₀ cs s T
    pub unused : Unused s₀ cs s T
    pub owns : Owning s₀ cs s T
    pub readings_above : ReadingsAbove s₀ cs s T
    pub look_done : Looked s₀ cs k s T
    pub unlooked : Unlooked s₀ cs k s T
    pub based : Based s₀ cs k s T
    pub saw : Saw s₀ cs k T
    pub sessions : Open s₀ cs k s
    pub readings : ReadingAll s₀ cs k s
    pub linking : Linking s₀ cs k s T
    pub stamped_all : StampedAll s₀ cs k T
    pub opened_all : OpenedAll s₀ cs k T
    pub ended_all : EndedAll s₀ cs k T
    pub order_holds : OrderHolds s₀ cs first T
    pub reads_all : ReadsAll first s₀ S cs k s T

  pub chronicle₀ : Chronicle V
  chronicle₀ = record { since = λ w. 0; place = λ n. 0; seen = record { cell = λ n. n; base = λ n. first; last = λ x. 0; sees = λ x c. first }; order = [] }

  all_start : ((w : ℕ) → worker s₀ w ≡ fresh) → ((n : ℕ) (v : V) → AwaitsStamp s₀ n v → ⊥) → WaitingStamped s₀ → All 0 s₀ chronicle₀
  unfolding chronicle₀
  all_start fr nb sd =
      record {
        good = S.at_first;
        waiting_stamped = sd;
        writing = λ w x e. absurd (none-some x (sym (ap (λ r. writes r.operation) (fr w)) ∙ e));
        linked_by = λ n v b. absurd (nb n v b);
        dated = λ e h. absurd h;
        free_early = λ w e. absurd (both_ways _ (ap (λ r. early r.operation) (fr w)) e);
        apart = λ n m v y b d e. absurd (nb n v b);
        unused = λ n v e b h p. nb n v b;
        owns = λ w x n e. absurd (none-some x (sym (ap (λ r. writes r.operation) (fr w)) ∙ ap writes e));
        readings_above = λ u n t v e b h. absurd (nb n v b);
        look_done = λ w x b i u e p L l. absurd (none-some x (sym (ap (λ r. writes r.operation) (fr w)) ∙ ap writes e));
        unlooked = λ w x b i u e p L l. none-some x (sym (ap (λ r. writes r.operation) (fr w)) ∙ ap writes e);
        based = λ n i v u b p L l. absurd (nb n v b);
        saw = λ i x t v y m u h L l. absurd h;
        sessions = λ w d e. absurd (let f = ap (λ r. r.session) (fr w) in grind arith);
        readings = λ w x p e. absurd (let f = ap (λ r. r.operation) (fr w) in grind arith);
        linking = λ i x v R l g. absurd (omega arith);
        stamped_all = λ i x v R l. absurd (omega arith);
        opened_all = λ w i d h l. absurd (omega arith);
        ended_all = λ w t i e l h g. absurd (omega arith);
        order_holds = record { sorted = tt; distinct = tt; looks_hold = tt; seen_is = λ x d. refl; last_over = λ j x t v u m h. absurd h };
        reads_all = λ i x d v R l h. absurd (omega arith);
      }

  all_next :
      (k : ℕ) (s : State V) (c : Call V) (a : Answer V) (s' : State V) → state_at s₀ cs k ≡ s → state_at s₀ cs (suc k) ≡ s' → Was (history s₀ cs) k c a → (m : Transition s c a s') → (g : Ages) → Anchored s g → WithinClock s
      → (T T' : Chronicle V) → Effect k s T c a s' T' → T'.seen ≡ after m T.seen → All k s T → All (suc k) s' T'
  all_next k s c a s' E F W m g I B T T' tn e A =
      record {
        good = subst (S.Good s') (sym e) (S.goes_on s c a s' T.seen m A.good);
        waiting_stamped = waiting_stamped_next tn A.waiting_stamped;
        writing = λ w x f. writing_next s₀ cs k s T (kind_of c a) (T'.since w) w x (worker s' w).operation (here_at s₀ cs k c a W) A.writing (operation_way k s T tn w) f;
        linked_by = λ n v b. linked_by_back s₀ cs k s T c a s' T' n v g I W F A.writing A.linked_by b (awaits_back tn n v b);
        dated = λ z h. dated_next s₀ cs k s T c a s' T' W tn z E F B A.linked_by A.readings_above A.dated (in_back z (order_way k s T tn) h);
        free_early = early_next s₀ cs k s T c a s' T' W tn A.writing A.linked_by A.dated A.free_early;
        apart = λ n n' v y b d. apart_next s₀ cs k s T c a s' T' W tn n n' v y A.free_early A.apart (awaits_back tn n v b) (awaits_back tn n' y d);
        unused = λ n v z b h. unused_next s₀ cs k s T c a s' T' W tn n v z A.linked_by A.free_early A.apart A.unused b (awaits_back tn n v b) (in_back z (order_way k s T tn) h);
        owns = λ w x n f. owning_next s₀ cs k s T c a s' T' W tn w x n (worker s' w).operation A.waiting_stamped A.owns (operation_way k s T tn w) f f;
        readings_above = λ u n t v r b h. readings_above_next s₀ cs k s T c a s' T' W tn u n t v (worker s' u).operation (worker s' u).clock_reading E g I A.writing A.linked_by A.readings_above (reading_way k s T tn u) (awaits_back tn n v b) r h;
        look_done = λ w x b i u f p L l. looked_next s₀ cs k s T c a s' T' W tn w x b i u (worker s' w).operation g I A.writing A.unlooked A.look_done L l (operation_way k s T tn w) f f p;
        unlooked = λ w x b i u f p L l. unlooked_next s₀ cs k s T c a s' T' W tn w x b i u (worker s' w).operation A.writing A.unlooked L l (operation_way k s T tn w) f p;
        based = λ n i v u b p L l. based_next s₀ cs k s T c a s' T' W tn n i v u A.writing A.free_early A.look_done A.based L l (awaits_back tn n v b) p;
        saw = λ i x t v y n u h L l. saw_next s₀ cs k s T c a s' T' W tn i x t v y n u A.writing A.free_early A.based A.saw L l (in_back (giving i x t v y n) (order_way k s T tn) h);
        sessions = λ w d f. open_next s₀ cs k s T c a s' T' W tn w d (worker s' w).session A.sessions (session_way k s T tn w) f;
        readings = λ w x p f. reading_next s₀ cs k s T c a s' T' W tn w x p A.sessions A.readings (read_way k s T tn w) f;
        linking = linking_next s₀ cs k s T c a s' T' W tn g I F A.writing A.linking;
        stamped_all = stamped_next s₀ cs k s T c a s' T' W tn F A.waiting_stamped A.linking A.stamped_all;
        opened_all = opened_next s₀ cs k s T c a s' T' W tn A.opened_all;
        ended_all = ended_next s₀ cs k s T c a s' T' W tn A.writing A.owns A.dated A.ended_all;
        order_holds = order_holds_next first s₀ S cs k s T (kind_of c a) s' T' A.good A.dated A.unused A.order_holds (order_way k s T tn);
        reads_all = reads_on first s₀ S cs k s T c a s' T' W tn m e A.good A.readings A.reads_all;
      }

  pub all_at :
      ((w : ℕ) → worker s₀ w ≡ fresh) → ((n : ℕ) (v : V) → AwaitsStamp s₀ n v → ⊥) → WaitingStamped s₀ → ((k : ℕ) → (g : Ages) × Anchored (state_at s₀ cs k) g) → ((k : ℕ) → WithinClock (state_at s₀ cs k))
      → (k : ℕ) → k ≤ length cs → (T : Chronicle V) × All k (state_at s₀ cs k) T
  unfolding run
  all_at fr nb sd I B k l =
      by_places s₀ cs (λ k. (T : Chronicle V) × All k (state_at s₀ cs k) T) (chronicle₀, all_start fr nb sd)
      (λ k c a W m A. let t = effect k (state_at s₀ cs k) A.0 m in
      (t.0, all_next k (state_at s₀ cs k) c a (state_at s₀ cs (suc k)) refl refl W m (I k).0 (I k).1 (B k) A.0 t.0 t.1 t.2 A.1)) k l

-- the clock at an opening
pub opens_clock : {V : Type 0} {k : ℕ} {s : State V} {T : Chronicle V} {c : Call V} {a : Answer V} {s' : State V} {T' : Chronicle V} → Effect k s T c a s' T' → (w d : ℕ) → kind_of c a ≡ opens_at w d
    → (s.clock ≡ d) × (s'.clock ≡ d + 1)
opens_clock (does_nothing p) w d e = grind arith
opens_clock (does_record l p o h q r) w d e = grind arith
opens_clock (does_open {c = b} l f g) w d e = let p : b ≡ d = cc in (g ∙ p, ap (λ y. y + 1) p)
opens_clock (does_operation l o r) w d e =
    absurd (⊎_elim (λ p. grind arith) (λ p. let q = p.1 in grind arith) (goes_kind r))
opens_clock (does_begin l) w d e = grind arith
opens_clock (does_look l f st) w d e = grind arith
opens_clock (does_read l f g st h M) w d e = grind arith
opens_clock (does_stamp l f st M) w d e = grind arith
opens_clock (does_leave u o N l p q r M) w d e = grind arith
opens_clock (does_give {c = c} l r h st he) w d e = absurd (let f = kind_silent c again refl in grind arith)
opens_clock (does_link l f h g) w d e = grind arith

module _ {V : Type 0} (first : V) (s₀ : State V) (S : StoreShows first s₀) (cs : List (Call V)) (T : Chronicle V) (A : All first s₀ S cs (length cs) (state_at s₀ cs (length cs)) T) where
  -- an event with its item's place in the order
  split_items : (e : Event V) → In e T.order → (p q : List (Item V)) × (items T.order ≡ p ++ item e ∷ q)
  split_items e h = let r = in_split e T.order h in (items r.0, items r.1, ap items r.2 ∙ map-append item r.0 (e ∷ r.1))

  precedes_items : (a b : Event V) → Precedes a b T.order → (p q r : List (Item V)) × (items T.order ≡ p ++ item a ∷ (q ++ item b ∷ r))
  precedes_items a b h = (
    items h.0,
    items h.1,
    items h.2,
    ap items h.3 ∙ map-append item h.0 (a ∷ (h.1 ++ b ∷ h.2)) ∙ ap (λ l. items h.0 ++ item a ∷ l) (map-append item h.1 (b ∷ h.2)),
  )

  given_within : (i x : ℕ) (v : V) (R : Stamped (history s₀ cs) i x v) → R.given_at < length cs
  given_within i x v o = grind (arith, take_all, cases_lt)

  event_of : (a : Item V) → Happened (history s₀ cs) a → (e : Event V) × In e T.order × (item e ≡ a)
  event_of (session i) h = (opening i h.1.0, A.opened_all h.0 i h.1.0 h.1.1 (was_within s₀ cs i _ _ h.1.1), refl)
  event_of (write i x v) R = let r = A.stamped_all i x v R (given_within i x v R) in (giving i x r.0 v r.1 r.2, r.3, refl)

  happened_of : (e : Event V) → Dated s₀ cs (length cs) e → Happened (history s₀ cs) (item e)
  happened_of x h = grind arith

  clock_opening : (i d w : ℕ) → Was (history s₀ cs) i (Advance w) (number d) → ((state_at s₀ cs i).clock ≡ d) × ((state_at s₀ cs (suc i)).clock ≡ d + 1)
  clock_opening i d w h = opens_clock (effect i (state_at s₀ cs i) T (was_transition s₀ cs i (Advance w) (number d) h)).1 w d refl

  -- an event that ended at e
  ended_event : (a : Item V) (z : Event V) (e : ℕ) → In z T.order → item z ≡ a → Ends (history s₀ cs) a e → suc e ≤ length cs → (time z ≤ e) × (key z ≤ (state_at s₀ cs (suc e)).clock + (state_at s₀ cs (suc e)).clock)
  ended_event (session j) (opening i d) e h p E l =
      let D = A.dated (opening i d) h in
      let q : i ≡ j = cc in
      let c = (clock_opening i d D.0 D.1).1 in
      let c2 : (state_at s₀ cs (suc e)).clock ≡ d + 1 = ap (λ y. (state_at s₀ cs (suc y)).clock) (E ∙ sym q) ∙ c in
      (omega arith, omega arith)
  ended_event (write j y u) (opening i d) e h p E l = grind arith
  ended_event (session j) (giving i x t v u m) e h p E l = grind arith
  ended_event (write j y w) (giving i x t v u m) e h p E l =
      let D = A.dated (giving i x t v u m) h in
      let q : i ≡ j = cc in
      let r = A.ended_all E.0 E.1 j e l E.2 E.3 in
      let o : r.0 ≡ giving i x t v u m = distinct_one r.0 (giving i x t v u m) T.order A.order_holds.distinct r.1 h (r.2 ∙ sym q) in
      let m1 : time r.0 ≡ m = ap time o in
      let m2 = r.3 in
      let c = clock_rises s₀ cs m (suc e) (omega arith) l in
      let d = D.4 in
      (omega arith, omega arith)

  begun_event : (b : Item V) (z : Event V) (f : ℕ) → In z T.order → item z ≡ b → Begins (history s₀ cs) b f → (f < time z) × ((state_at s₀ cs f).clock + (state_at s₀ cs f).clock ≤ key z)
  begun_event (session j) (opening i d) f h p B =
      let D = A.dated (opening i d) h in
      let q : i ≡ j = cc in
      let c = (clock_opening i d D.0 D.1).0 in
      let l : f < j = B.2.0 in
      let k = D.2 in
      let g = clock_rises s₀ cs f i (omega arith) (omega arith) in
      (omega arith, omega arith)
  begun_event (write j y u) (opening i d) f h p B = grind arith
  begun_event (session j) (giving i x t v u m) f h p B = grind arith
  begun_event (write j y w) (giving i x t v u m) f h p B =
      let D = A.dated (giving i x t v u m) h in
      let q : i ≡ j = cc in
      let c : (state_at s₀ cs f).clock ≡ (state_at s₀ cs i).clock = ap (λ y. (state_at s₀ cs y).clock) (B ∙ sym q) in
      let l = D.1 in
      let g = D.3 in
      (omega arith, omega arith)

  reads_at : (l r : List (Event V)) (e : Event V) (i x : ℕ) (v : V) → T.order ≡ l ++ e ∷ r → item e ≡ session i → Reads (history s₀ cs) i x v → fed (λ y. first) (items l) x ≡ v
  reads_at l r (opening j d) i x v p q R =
      let h : In (opening j d) T.order = subst (In (opening j d)) (sym p) (in_mid l (opening j d) r) in
      let D = A.dated (opening j d) h in
      let j1 : j ≡ i = cc in
      let o = R.in_session.1 in
      let y = was_one s₀ cs i (Advance D.0) (Advance R.by) (number d) (number o.0) (subst (λ k. Was (history s₀ cs) k (Advance D.0) (number d)) j1 D.1) o.1 in
      let y1 = y.1 in
      let d1 : o.0 ≡ d = cc in
      let z = A.reads_all i x d v R (was_within s₀ cs R.answered_at _ _ R.answers) (subst (λ k. Was (history s₀ cs) i (Advance R.by) (number k)) d1 o.1) in
      session_sees d j (λ y. first) l r x (subst Sorted p A.order_holds.sorted) ∙ sym (ap (λ o. fed_up_to d (λ y. first) o x) p) ∙ sym (A.order_holds.seen_is x d) ∙ z.0
  reads_at l r (giving j y t w u m) i x v p q R = grind arith

  looks_at_item : (l r : List (Event V)) (e : Event V) (i x : ℕ) (u v : V) → T.order ≡ l ++ e ∷ r → item e ≡ write i x u → Looks (history s₀ cs) i v → fed (λ y. first) (items l) x ≡ v
  looks_at_item l r (opening j d) i x u v p q L = grind arith
  looks_at_item l r (giving j y t w o m) i x u v p q L =
      let h : In (giving j y t w o m) T.order = subst (In (giving j y t w o m)) (sym p) (in_mid l (giving j y t w o m) r) in
      let j1 : j ≡ i = cc in
      let y1 : y ≡ x = cc in
      ap (fed (λ y. first) (items l)) (sym y1)
      ∙ write_sees (λ y. first) l r j y t w o m (subst (LooksHold (λ y. first)) p A.order_holds.looks_hold)
      ∙ A.saw i y t w o m v (subst (λ k. In (giving k y t w o m) T.order) j1 h) L (was_within s₀ cs L.answered_at _ _ L.answers)

  pub ordered : Ordered (history s₀ cs) first (items T.order)
  ordered =
      record {
        all = λ a h. let r = event_of a h in
            let q = split_items r.0 r.1 in (q.0, q.1, q.2 ∙ ap (λ y. q.0 ++ y ∷ q.1) r.2);
        only = λ p q a h. let r = split_mapped T.order p q a h in
            subst (Happened (history s₀ cs)) r.4 (happened_of r.2 (A.dated r.2 (subst (In r.2) (sym r.3) (in_mid r.0 r.2 r.1))));
        once = λ a b h e. let y = split_mapped T.order h.0 (h.1 ++ b ∷ h.2) a h.3 in
            let z = split_mapped y.1 h.1 h.2 b y.6 in
            distinct_two y.0 z.0 z.1 y.2 z.2 (subst Distinct (y.3 ∙ ap (λ l. y.0 ++ y.2 ∷ l) z.3) A.order_holds.distinct) (ap place y.4 ∙ e ∙ sym (ap place z.4));
        in_time = λ a b e f h g E B l. let y = event_of a h in
            let z = event_of b g in
            let w = begun_event b z.0 f z.1 z.2 B in
            let t = dated_time s₀ cs (length cs) z.0 (A.dated z.0 z.1) in
            let w0 = w.0 in
            let v = ended_event a y.0 e y.1 y.2 E (omega arith) in
            let c = clock_rises s₀ cs (suc e) f (omega arith) (omega arith) in
            let st = precedes_items y.0 z.0 (precedes y.0 z.0 T.order A.order_holds.sorted y.1 z.1 (omega arith) (omega arith)) in
            (st.0, st.1, st.2, st.3 ∙ ap (λ i. st.0 ++ i ∷ (st.1 ++ item z.0 ∷ st.2)) y.2 ∙ ap (λ i. st.0 ++ a ∷ (st.1 ++ i ∷ st.2)) z.2);
        reads = λ p q i h x v R. let r = split_mapped T.order p q (session i) h in
            ap (λ l. fed (λ y. first) l x) (sym r.5) ∙ reads_at r.0 r.1 r.2 i x v r.3 r.4 R;
        looks = λ p q i x u h v L. let r = split_mapped T.order p q (write i x u) h in
            ap (λ l. fed (λ y. first) l x) (sym r.5) ∙ looks_at_item r.0 r.1 r.2 i x u v r.3 r.4 L;
      }

-- a new store: workers rest, all is stamped, nothing waits
module _ {V : Type 0} where
  -- (a), from the store's side
  pub order_law : (cells workers nodes start : ℕ) (first : V) → StoreShows first (make cells workers nodes start first) → (cs : List (Call V))
      → (o : List (Item V)) × Ordered (history (make cells workers nodes start first) cs) first o
  order_law cells workers nodes start first S cs =
      let s₀ = make cells workers nodes start first in
      let b = sizes_allowed cells workers nodes start in
      let F = as_made b cells workers (nodes - cells) start first in
      let r = all_at first s₀ S cs (make_fresh cells workers nodes start first)
      (λ n v y. none-some start (sym y.bare ∙ ((F n).all_so y.ver y.here).0)) (λ n v ms e. subst Present (sym ((F n).all_so v (ap version e)).0) tt)
      (λ k. anchored cells workers nodes start first (take k cs)) (λ k. within_clock cells workers nodes start first (take k cs)) (length cs) (omega arith) in
      (items r.0.order, ordered first s₀ S cs r.0 r.1)
