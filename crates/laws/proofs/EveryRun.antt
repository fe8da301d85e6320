-- What other files show of one step holds after every list of calls.
use Rattle.std.proofs.Common.{◌≡◌, ℕ, ◌-◌, ◌≤◌, true, leb, ◌⊎◌, List, [], Some, sym, refl, ap, ◌∙◌, subst, inl, inr, ⊎_elim, arith}
use Rattle.std.proofs.lemmas.Bool.{leb-true}
use Rattle.model.specs.Answers.{Answer}
use Rattle.model.specs.Calls.{Call}
use Rattle.model.specs.Making.{make, sizes_allowed}
use Rattle.model.specs.Runs.{run}
use Rattle.model.specs.State.{Version, Node, State, fresh, node, worker, head, version, free, linked, waiting, opened, reading}
use Rattle.laws.specs.Histories.{history}
use Rattle.laws.specs.OneOrder.{Item, Ordered}
use Rattle.laws.proofs.Answering.{read_way}
use Rattle.laws.proofs.CellLists.{older_of, Ages, linked_version, stamp_at, older_at}
use Rattle.laws.proofs.Clock.{WithinClock, within_clock_next, within_clock, clock_next}
use Rattle.laws.proofs.Effects.{kind_of, refers, Seen, Chronicle, after, effect, refers_stands}
use Rattle.laws.proofs.Explaining.{StoreShows}
use Rattle.laws.proofs.Faithful.{SettledBut, Settled, Faithful, tops_next, heads_next, finds_next_state, settled_next, reads_next}
use Rattle.laws.proofs.FallingStamps.{stamps_fall_next}
use Rattle.laws.proofs.Finding.{Finds, finds_hit, ScanOk}
use Rattle.laws.proofs.FirstState.{make_fresh, anchored, AsMade, as_made}
use Rattle.laws.proofs.NodeWays.{open_before, scan_move, node_way, HeadSeen, seen_stamped, seen_unstamped}
use Rattle.laws.proofs.OneOrder.{order_law}
use Rattle.laws.proofs.Places.{by_calls, run_one_more}
use Rattle.laws.proofs.References.{Anchored, anchored_next}
use Rattle.laws.proofs.Transitions.{StampedAt, Transition, transition}
use Rattle.laws.proofs.Ways.{AwaitsStamp, CameFrom, awaits_back, ReadingWay, reading_way}

abbrev chronicle : {V : Type 0} → Seen V → Chronicle V
chronicle g = record { since = λ w. 0; place = λ n. 0; seen = g; order = [] }

back_cell : {V : Type 0} {s : State V} {g : Seen V} {c : Call V} {a : Answer V} {s' : State V} {T' : Chronicle V} (g' : Seen V) (n : ℕ) (v : V) → T'.seen ≡ g' → CameFrom s (chronicle g) c a s' T' n v
    → (AwaitsStamp s n v × (g'.cell n ≡ g.cell n)) ⊎ (node s n ≡ free)
back_cell g' n v e x = grind arith

module _ {V : Type 0} {s : State V} {c : Call V} {a : Answer V} {s' : State V} (g : Seen V) (m : Transition s c a s') where
  before : (n : ℕ) (v : V) → AwaitsStamp s' n v → (AwaitsStamp s n v × ((after m g).cell n ≡ g.cell n)) ⊎ (node s n ≡ free)
  before n v b = let t = effect 0 s (chronicle g) m in back_cell (after m g) n v t.2 (awaits_back t.1 n v b)

  holding : (u : ℕ) → ReadingWay s u (worker s' u).operation (worker s' u).clock_reading
  holding u = reading_way 0 s (chronicle g) (effect 0 s (chronicle g) m).1 u

  pub faithful_next : Faithful s g → Faithful s' (after m g)
  faithful_next G =
      record {
        ages = (anchored_next G.anchored m).0;
        anchored = (anchored_next G.anchored m).1;
        stamps_within = within_clock_next G.stamps_within m;
        stamps_fall = stamps_fall_next G.anchored G.stamps_within G.stamps_fall m;
        scan = scan_move g m (clock_next m) G.scan;
        tops = λ n v b. tops_next s g G s' n v (after m g) (node_way g m) b (before n v b);
        heads_seen = λ x l. heads_next s g G s' x l (after m g) (node_way g m);
        sessions_find = λ u d x e l. finds_next_state s g G s' x d (⊎_elim (λ h. inl (u, h)) (λ h. inr h) (open_before g m u d e)) l (after m g) (node_way g m);
        reads_find = λ u x p e. reads_next s g G s' (after m g) before holding (clock_next m) u x p (kind_of c a) (node_way g m) (read_way 0 s (chronicle g) (effect 0 s (chronicle g) m).1 u) e;
      }

  settled_step : (x d : ℕ) → Faithful s g → Settled s g x d → Settled s' (after m g) x d
  settled_step x d G h = settled_next s g G s' (after m g) before holding (clock_next m) x d h

module _ {V : Type 0} (s : State V) (g : Seen V) (G : Faithful s g) where
  gives_ok : (w n t : ℕ) (v : V) (x : ℕ) → refers (worker s w).operation ≡ Some n → AwaitsStamp s n v → (worker s w).clock_reading ≡ Some t → HeadSeen s.nodes g n x → (g.last x ≤ t) × (g.sees x t ≡ g.base n)
  gives_ok w n t v x r b he (seen_stamped z k e st l f) =
      absurd (let h = b.here in let i = b.bare in let q : z ≡ b.ver = cc in let p = ap (λ y. y.stamp) q in grind arith)
  gives_ok w n t v x r b he (seen_unstamped z y m a e st o ey sy l f bb) =
      let k : a ≤ t = G.stamps_fall.readings w n t (refers_stands (worker s w).operation n r) he m a (older_at (node s n) z m e o) (stamp_at (node s m) y ey ∙ sy) in
      (omega arith, f t k)

  reads_settled : (w x p d t : ℕ) (v : Version V) → (worker s w).operation ≡ reading x p → (worker s w).session ≡ opened d → StampedAt s p v t → leb t d ≡ true
      → (g.sees x d ≡ v.value) × Settled s g x d
  reads_settled w x p d t v o so st le =
      let r = G.reads_find w x p o in
      let ro = r.is_open in
      let d1 : r.d ≡ d = cc in
      let F : Finds s.nodes d p (g.sees x d) = subst (λ i. Finds s.nodes i p (g.sees x i)) d1 r.finds in
      let SH : SettledBut s g x d p = subst (λ i. SettledBut s g x i p) d1 r.settled_but in (
        sym (finds_hit s.nodes d p t (g.sees x d) v st.here st.has (leb-true t d le) F),
        record {
          below = SH.below;
          all_of = λ n z b c. SH.all_but n z b c (λ i. let b1 : version (node s p) ≡ Some b.ver = ap (λ k. version (node s k)) (sym i) ∙ b.here in
              let b2 = b.bare in let b3 = st.here in let b4 = st.has in let w : v ≡ b.ver = cc in let w2 = ap (λ y. y.stamp) w in
              grind arith);
        },
      )

older_none : {V : Type 0} (start : ℕ) (first : V) (x : Node V) → AsMade start first x → (m : ℕ) → older_of x ≡ Some m → ⊥
older_none start first free p m e = grind arith
older_none start first (linked v) p m e = let q = (p.all_so v refl).2 in grind arith
older_none start first (waiting v ms) p m e = let q = (p.all_so v refl).2 in grind arith

abbrev blank : {V : Type 0} → V → Seen V
blank first = record { cell = λ n. n; base = λ n. first; last = λ x. 0; sees = λ x c. first }

faithful_start : {V : Type 0} (s : State V) (start : ℕ) (first : V) → ((n : ℕ) → AsMade start first (node s n)) → ((w : ℕ) → worker s w ≡ fresh) → (h : Ages) → Anchored s h → WithinClock s → Faithful s (blank first)
faithful_start s start first P fr h I B =
    record {
      ages = h;
      anchored = I;
      stamps_within = B;
      stamps_fall =
          record {
            falling = λ u n e k st m a o. absurd (older_none start first (node s n) (P n) m o);
            readings = λ u n r e he. absurd (let q = ap (λ r. r.clock_reading) (fr u) in grind arith);
          };
      scan = λ w. subst (ScanOk s) (sym (ap (λ r. r.operation) (fr w))) tt;
      tops = λ n v b. absurd (let q = ((P n).all_so b.ver b.here).0 in let i = b.bare in grind arith);
      heads_seen = λ x l. let y = linked_version (node s (head s x)) (I.well_linked.head_linked x l) in
          let q = (P (head s x)).all_so y.0 y.1 in seen_stamped y.0 start y.1 q.0 (omega arith) (λ c k. sym q.1);
      sessions_find = λ u d x e l. absurd (let q = ap (λ r. r.session) (fr u) in grind arith);
      reads_find = λ u x p e. absurd (let q = ap (λ r. r.operation) (fr u) in grind arith);
    }

faithful_made : {V : Type 0} (cells workers nodes start : ℕ) (first : V) → Faithful (make cells workers nodes start first) (blank first)
unfolding run
faithful_made cells workers nodes start first =
    let i = anchored cells workers nodes start first [] in
    faithful_start (make cells workers nodes start first) start first (as_made (sizes_allowed cells workers nodes start) cells workers (nodes - cells) start first)
    (make_fresh cells workers nodes start first) i.0 i.1 (within_clock cells workers nodes start first [])

-- the store's side, entire
pub store_shows : {V : Type 0} (cells workers nodes start : ℕ) (first : V) → StoreShows first (make cells workers nodes start first)
store_shows cells workers nodes start first =
    record {
      Good = Faithful;
      Settled = Settled;
      at_first = faithful_made cells workers nodes start first;
      goes_on = λ s c a s' g m G. faithful_next g m G;
      gives_over = λ s g G w n t v l r b he. let k = G.tops n v b in
          gives_ok s g G w n t v (g.cell n) r b he (subst (λ j. HeadSeen s.nodes g j (g.cell n)) k.1 (G.heads_seen (g.cell n) k.0));
      reads_seen = λ s g G w x p d t v l o so st le. let r = reads_settled s g G w x p d t v o so st le in
          (r.0, settled_step g (Transition.reads l o so st le) x d G r.1);
      settled_on = λ s c a s' g m G x d h. settled_step g m x d G h;
      settled_over = λ s g G x d h w n t v l r b he e. h.all_of n v b e w t r he;
    }

-- (a), for every list
pub one_order : {V : Type 0} (cells workers nodes start : ℕ) (first : V) (cs : List (Call V)) → (o : List (Item V)) × Ordered (history (make cells workers nodes start first) cs) first o
one_order cells workers nodes start first cs = order_law cells workers nodes start first (store_shows cells workers nodes start first) cs

-- in every state that a run leads to
pub faithful_run : {V : Type 0} (cells workers nodes start : ℕ) (first : V) (cs : List (Call V)) → (g : Seen V) × Faithful (run (make cells workers nodes start first) cs) g
unfolding run
faithful_run {V} cells workers nodes start first =
    by_calls (λ cs. (g : Seen V) × Faithful (run (make cells workers nodes start first) cs) g) (blank first, faithful_made cells workers nodes start first)
    (λ cs c G. let m = transition (run (make cells workers nodes start first) cs) c in
    (after m G.0, subst (λ s. Faithful s (after m G.0)) (sym (run_one_more (make cells workers nodes start first) cs c)) (faithful_next G.0 m G.1)))
