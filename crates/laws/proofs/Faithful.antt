-- A read finds, from where it stands, what its session sees; and every step leaves that so.
use Rattle.std.proofs.Common.{◌≡◌, ℕ, suc, ◌<◌, ◌≤◌, Bool, true, eqb, ◌⊎◌, List, map, length, get_or, set, Some, None, Option, sym, refl, ap, ◌∙◌, subst, inl, inr, ⊎_elim, arith}
use Rattle.std.proofs.lemmas.Grind.{get_or-set_at}
use Rattle.std.proofs.lemmas.Option.{same_Some}
use Rattle.std.proofs.lemmas.List.{length-set, get_or-set_same, get_or-set_other}
use Rattle.std.proofs.lemmas.Bool.{leb-false, cases_eq, cases_lt, cond-false, ne_eqb, both_ways}
use Rattle.stamps.specs.Intervals.{obsolete}
use Rattle.model.specs.Changes.{stamped, above, on_version, unmark}
use Rattle.model.specs.Compactions.{interval}
use Rattle.model.specs.State.{Version, Node, Operation, State, node, worker, head, version, is_reading, free, linked, waiting, opened, reading, write_looked, walking}
use Rattle.laws.proofs.Answering.{ReadWay, r_same, r_walks, r_starts, r_off}
use Rattle.laws.proofs.CellLists.{IsLinked, WithStamp, KeptFor, Ages, WellLinked, unstamped_not, stamp_at, older_at, on_version_at, on_version_is}
use Rattle.laws.proofs.Clock.{WithinClock, StampWithin, version_within, SessionWithin}
use Rattle.laws.proofs.Effects.{Kind, refers, Seen, value_or, seen_linked, seen_given, value_at, refers_kept}
use Rattle.laws.proofs.FallingStamps.{StampsFall}
use Rattle.laws.proofs.Finding.{Finds, skips, finds_on, finds_dropped, ScanOk}
use Rattle.laws.proofs.Frames.{updated, updated_same, updated_other, set_either, map_get_or}
use Rattle.laws.proofs.Intervals.{obsolete_within, obsolete_empty}
use Rattle.laws.proofs.NodeWays.{Scan, NodeWay, n_same, n_ended, n_given, n_linked, n_dropped, HeadSeen, seen_stamped, seen_unstamped, head_seen_finds, ended_same, given_same, awaits_not_stamped, down_ended, down_given, down_linked, self_given}
use Rattle.laws.proofs.References.{Anchored, anchor_at}
use Rattle.laws.proofs.Transitions.{StampedAt}
use Rattle.laws.proofs.Ways.{AwaitsStamp, ReadingWay, h_same, h_clock, h_none}

-- every reading held for n is above d
abbrev pub ReadingsAt : {V : Type 0} → State V → ℕ → ℕ → Type 0
ReadingsAt s d n = (u t : ℕ) → refers (worker s u).operation ≡ Some n → (worker s u).clock_reading ≡ Some t → d < t

pub record SettledBut {V : Type 0} (s : State V) (g : Seen V) (x d p : ℕ) : Type 0 where
  pub below : d < s.clock
  pub all_but : (n : ℕ) (v : V) → AwaitsStamp s n v → g.cell n ≡ x → (n ≡ p → ⊥) → ReadingsAt s d n

pub record Settled {V : Type 0} (s : State V) (g : Seen V) (x d : ℕ) : Type 0 where
  pub below : d < s.clock
  pub all_of : (n : ℕ) (v : V) → AwaitsStamp s n v → g.cell n ≡ x → ReadingsAt s d n

pub record ReadFinds {V : Type 0} (s : State V) (g : Seen V) (u x p : ℕ) : Type 0 where
  pub d : ℕ
  pub is_open : (worker s u).session ≡ opened d
  pub finds : Finds s.nodes d p (g.sees x d)
  pub settled_but : SettledBut s g x d p
  pub own_cell : (v : V) → AwaitsStamp s p v → g.cell p ≡ x

pub record Faithful {V : Type 0} (s : State V) (g : Seen V) : Type 0 where
  pub ages : Ages
  pub anchored : Anchored s ages
  pub stamps_within : WithinClock s
  pub stamps_fall : StampsFall s
  pub scan : Scan s
  pub tops : (n : ℕ) (v : V) → AwaitsStamp s n v → (g.cell n < length s.heads) × (head s (g.cell n) ≡ n)
  pub heads_seen : (x : ℕ) → x < length s.heads → HeadSeen s.nodes g (head s x) x
  pub sessions_find : (u d x : ℕ) → (worker s u).session ≡ opened d → x < length s.heads → Finds s.nodes d (head s x) (g.sees x d)
  pub reads_find : (u x p : ℕ) → (worker s u).operation ≡ reading x p → ReadFinds s g u x p

abbrev pub InUse : {V : Type 0} → State V → ℕ → Type 0
InUse s d = ((u : ℕ) × ((worker s u).session ≡ opened d)) ⊎ (s.clock ≡ d)

awaits_from : {V : Type 0} {s : State V} (n : ℕ) (v : Version V) → version (node s n) ≡ Some v → v.stamp ≡ None → AwaitsStamp s n v.value
awaits_from n v e f = record { ver = v; here = e; bare = f; holds = refl }

pub with_stamp_version : {V : Type 0} (x : Node V) (z : Version V) → version x ≡ Some z → WithStamp x → z.stamp ≡ None → ⊥
with_stamp_version x z e f s = unstamped_not x (stamp_at x z e ∙ s) f

module _ {V : Type 0} (s : State V) (g : Seen V) (G : Faithful s g) where
  S : WellLinked s.heads s.nodes G.ages
  S = G.anchored.well_linked

  top_of : (n x : ℕ) (v : V) → AwaitsStamp s n v → x < length s.heads → head s x ≡ n → g.cell n ≡ x
  top_of n x v b l e =
      let t = G.tops n v b in
      let a = S.head_cell (g.cell n) t.0 in
      let c = S.head_cell x l in
      let p : G.ages.cell n ≡ g.cell n = ap G.ages.cell (sym t.1) ∙ a in
      let q : G.ages.cell n ≡ x = ap G.ages.cell (sym e) ∙ c in
      sym p ∙ q

  in_use_finds : (d x : ℕ) → InUse s d → x < length s.heads → Finds s.nodes d (head s x) (g.sees x d)
  in_use_finds d x (inl h) l = G.sessions_find h.0 d x h.1 l
  in_use_finds d x (inr e) l =
      head_seen_finds s.nodes g (head s x) x d
      (λ n t z f st. let k = subst (StampWithin s.clock) st (version_within s.clock (node s n) z f (G.stamps_within.nodes_within n)) in subst (λ y. t ≤ y) e k) (G.heads_seen x l)

  out_of : (d w x t : ℕ) (q : List ℕ) (p r a e : ℕ) → InUse s d → (worker s w).operation ≡ walking x t q p r → obsolete t q (interval a e) ≡ true → a ≤ d → d < e → ⊥
  out_of d w x t q p r a e L o ob l m =
      let k = subst (ScanOk s) o (G.scan w) in
      let k0 = k.0 in
      let within = obsolete_within t q a e ob in
      ⊎_elim (λ h. obsolete_empty t q a e d ob (k.1 (suc h.0) h.0 d (omega arith) h.1 (omega arith)) l m) (λ h. omega arith) L

  -- what is needed of the step
  module _ (s' : State V) where
    wrap : (M : List (Node V)) → s'.nodes ≡ M → s'.heads ≡ s.heads → (x d : ℕ) (v : V) → Finds M d (head s x) v → Finds s'.nodes d (head s' x) v
    wrap M en eh x d v f = subst (λ N. Finds N d (head s' x) v) (sym en) (subst (λ H. Finds M d (get_or H x 0) v) (sym eh) f)

    seen_miss : (n t : ℕ) (v : V) (x d : ℕ) → ((g.cell n ≡ x → ⊥) ⊎ (d < t)) → (seen_given n t v g).sees x d ≡ g.sees x d
    seen_miss n t v x d h = grind arith

    seen_hit : (n t : ℕ) (v : V) (x d : ℕ) → g.cell n ≡ x → t ≤ d → (seen_given n t v g).sees x d ≡ v
    seen_hit n t v x d e l = grind arith

    -- from one kept node, over a stamp given
    over_given : (u n t p x d : ℕ) (v : Version V) → version (node s n) ≡ Some v → v.stamp ≡ None → KeptFor u (node s p) → (p ≡ n → g.cell n ≡ x)
        → ((p ≡ n → ⊥) → (g.cell n ≡ x → ⊥) ⊎ (d < t)) → Finds s.nodes d p (g.sees x d)
        → Finds (set s.nodes n (on_version (λ v. stamped v t) (node s n))) d p ((seen_given n t v.value g).sees x d)
    over_given u n t p x d v h st k own away f =
        ⊎_elim
        (λ e. let r = self_given s.nodes n t u d (g.sees x d) v S h st (subst (λ j. KeptFor u (node s j)) e k) (subst (λ j. Finds s.nodes d j (g.sees x d)) e f) in
        let M : List (Node V) = set s.nodes n (on_version (λ v. stamped v t) (node s n)) in
        subst (λ j. Finds M d j ((seen_given n t v.value g).sees x d)) (sym e)
        (⊎_elim (λ l. subst (Finds M d n) (sym (seen_miss n t v.value x d (inr l))) (r.1 l))
        (λ l. subst (Finds M d n) (sym (seen_hit n t v.value x d (own e) l)) (r.0 l)) (cases_lt d t)))
        (λ ne. subst (Finds (set s.nodes n (on_version (λ v. stamped v t) (node s n))) d p) (sym (seen_miss n t v.value x d (away ne)))
        (down_given s.nodes n t u d p (g.sees x d) v S h st ne k f))
        (cases_eq p n)

    drop_apart : (w x t : ℕ) (q : List ℕ) (p r n : ℕ) (v : Version V) (e : ℕ) → (worker s w).operation ≡ walking x t q p r → StampedAt s p v e → v.older ≡ Some n → p ≡ n → ⊥
    drop_apart w x t q p r n v e o st od i =
        let y = anchor_at w (walking x t q p r) o G.anchored in
        let z = (S.rank_down 0 p n (inl y.0) (older_at (node s p) v n st.here od)).0 in
        let j = ap G.ages.rank i in omega arith

    pub finds_next_state : (x d : ℕ) → InUse s d → x < length s'.heads → (g' : Seen V) → NodeWay s g s' g' → Finds s'.nodes d (head s' x) (g'.sees x d)
    finds_next_state x d L lx g' (n_same en eh) = wrap s.nodes en eh x d (g.sees x d) (in_use_finds d x L (subst (λ H. x < length H) eh lx))
    finds_next_state x d L lx g' (n_ended w en eh id) =
        let l = subst (λ H. x < length H) eh lx in
        wrap (map (unmark w) s.nodes) en eh x d (g.sees x d)
        (down_ended s.nodes w (suc w) d (head s x) (g.sees x d) S (λ e. omega arith) (inl (S.head_linked x l)) (in_use_finds d x L l))
    finds_next_state x d L lx g' (n_given w n t v rf h st he en eh) =
        let l = subst (λ H. x < length H) eh lx in
        let b = awaits_from {s = s} n v h st in
        wrap _ en eh x d _
        (over_given 0 n t (head s x) x d v h st (inl (S.head_linked x l)) (λ e. top_of n x v.value b l e)
        (λ ne. inl (λ e. ne (ap (head s) (sym e) ∙ (G.tops n v.value b).1))) (in_use_finds d x L l))
    finds_next_state x d L lx g' (n_linked w y b n a o hb f en eh) =
        let ff = f in
        let M : List (Node V) = set s.nodes n (linked (record { value = a; stamp = None; older = Some b })) in
        let l : x < length s.heads = rw (length-set) at (subst (λ H. x < length H) eh lx) in
        subst (λ N. Finds N d (head s' x) (g.sees x d)) (sym en)
        (subst (λ H. Finds M d (get_or H x 0) (g.sees x d)) (sym eh)
        (⊎_elim
        (λ e. let fb : Finds s.nodes d b (g.sees x d) = subst (λ j. Finds s.nodes d j (g.sees x d)) (ap (head s) e ∙ hb) (in_use_finds d x L l) in
        let kb : IsLinked (node s b) = subst (λ j. IsLinked (node s j)) (ap (head s) e ∙ hb) (S.head_linked x l) in
        subst (λ j. Finds M d j (g.sees x d)) (sym (get_or-set_at s.heads y x n 0 e (subst (λ j. j < length s.heads) e l)))
        (skips (record { value = a; stamp = None; older = Some b }) b
        (ap version (get_or-set_same s.nodes n (linked (record { value = a; stamp = None; older = Some b })) free ff.0)) refl refl
        (down_linked s.nodes n 0 d b (g.sees x d) _ S ff.1 (inl kb) fb)))
        (λ ne. subst (λ j. Finds M d j (g.sees x d)) (sym (get_or-set_other s.heads y x n 0 ne))
        (down_linked s.nodes n 0 d (head s x) (g.sees x d) _ S ff.1 (inl (S.head_linked x l)) (in_use_finds d x L l)))
        (cases_eq x y)))
    finds_next_state x d L lx g' (n_dropped w y t q p r n v u a e B o st od su ob en eh) =
        wrap _ en eh x d _
        (finds_dropped s.nodes p n v u a e B st.here st.has od su.here su.has (drop_apart w y t q p r n v e o st od) d
        (out_of d w y t q p r a e L o ob) (head s x) (g.sees x d) (in_use_finds d x L (subst (λ H. x < length H) eh lx)))

    free_awaits : (n : ℕ) (v : V) → node s' n ≡ free → AwaitsStamp s' n v → ⊥
    free_awaits n v e b = let f = ap version e in let h = b.here in grind arith

    keep_top : (n i : ℕ) (v : V) → s'.heads ≡ s.heads → i ≡ g.cell n → AwaitsStamp s n v → (i < length s'.heads) × (head s' i ≡ n)
    keep_top n i v eh e b =
        let t = G.tops n v b in
        (subst (λ H. i < length H) (sym eh) (subst (λ j. j < length s.heads) (sym e) t.0), ap (λ H. get_or H i 0) eh ∙ ap (head s) e ∙ t.1)

    pub tops_next : (n : ℕ) (v : V) (g' : Seen V) → NodeWay s g s' g' → AwaitsStamp s' n v → (AwaitsStamp s n v × (g'.cell n ≡ g.cell n)) ⊎ (node s n ≡ free)
        → (g'.cell n < length s'.heads) × (head s' (g'.cell n) ≡ n)
    tops_next n v g' (n_same en eh) b (inl k) = keep_top n _ v eh k.1 k.0
    tops_next n v g' (n_same en eh) b (inr fr) = absurd (free_awaits n v (ap (λ N. get_or N n free) en ∙ fr) b)
    tops_next n v g' (n_ended w en eh id) b (inl k) = keep_top n _ v eh k.1 k.0
    tops_next n v g' (n_ended w en eh id) b (inr fr) =
        absurd (free_awaits n v (ap (λ N. get_or N n free) en ∙ map_get_or (unmark w) s.nodes n free refl ∙ ap (unmark w) fr) b)
    tops_next n v g' (n_given w j t y rf h st he en eh) b (inl k) = keep_top n _ v eh k.1 k.0
    tops_next n v g' (n_given w j t y rf h st he en eh) b (inr fr) =
        absurd (free_awaits n v (ap (λ N. get_or N n free) en
        ∙ get_or-set_other s.nodes j n _ free (λ i. let e = ap version (ap (node s) (sym i) ∙ fr) in grind arith) ∙ fr) b)
    tops_next n v g' (n_dropped w y t q p r j z u a e B o st od su ob en eh) b (inl k) = keep_top n _ v eh k.1 k.0
    tops_next n v g' (n_dropped w y t q p r j z u a e B o st od su ob en eh) b (inr fr) =
        absurd (free_awaits n v (ap (λ N. get_or N n free) en
        ∙ get_or-set_other (set s.nodes p _) j n _ free (λ i. let e = ap version (ap (node s) (sym i) ∙ fr) in let f = su.here in grind arith)
        ∙ get_or-set_other s.nodes p n _ free (λ i. let e = ap version (ap (node s) (sym i) ∙ fr) in let f = st.here in grind arith) ∙ fr) b)
    tops_next n v g' (n_linked w x d j a o hb f en eh) b k =
        let y = anchor_at w (write_looked x d) o G.anchored in
        ⊎_elim
        (λ i. let c : updated g.cell j x n ≡ x = updated_same g.cell j x n i in (
          subst (λ H. updated g.cell j x n < length H) (sym eh) (subst (λ l. l < length (set s.heads x j)) (sym c) (rw length-set y.2)),
          ap (λ H. get_or H (updated g.cell j x n) 0) eh ∙ get_or-set_at s.heads x _ j 0 c y.2 ∙ sym i,
        ))
        (λ ne. ⊎_elim
        (λ h. let t = G.tops n v h.0 in
        let c : updated g.cell j x n ≡ g.cell n = updated_other g.cell j x n ne in
        let nx : g.cell n ≡ x → ⊥ = λ e. let p : d ≡ n = sym hb ∙ ap (head s) (sym e) ∙ t.1 in
        with_stamp_version (node s n) h.0.ver h.0.here (subst (λ j. WithStamp (node s j)) p y.1) h.0.bare in (
          subst (λ H. updated g.cell j x n < length H) (sym eh) (subst (λ l. l < length (set s.heads x j)) (sym c) (rw length-set t.0)),
          ap (λ H. get_or H (updated g.cell j x n) 0) eh ∙ ap (λ l. get_or (set s.heads x j) l 0) c ∙ get_or-set_other s.heads x (g.cell n) j 0 nx ∙ t.1,
        ))
        (λ fr. absurd (free_awaits n v (ap (λ N. get_or N n free) en ∙ get_or-set_other s.nodes j n _ free ne ∙ fr) b)) k)
        (cases_eq n j)

    seen_head_on : (M : List (Node V)) (g' : Seen V) → s'.nodes ≡ M → s'.heads ≡ s.heads → (x : ℕ) → HeadSeen M g' (head s x) x → HeadSeen s'.nodes g' (head s' x) x
    seen_head_on M g' en eh x k = subst (λ N. HeadSeen N g' (head s' x) x) (sym en) (subst (λ H. HeadSeen M g' (get_or H x 0) x) (sym eh) k)

    seen_head_same : (M : List (Node V)) (g' : Seen V) (h x : ℕ) → version (get_or M h free) ≡ version (node s h)
        → ((m : ℕ) (z : Version V) → version (node s h) ≡ Some z → z.older ≡ Some m → version (get_or M m free) ≡ version (node s m))
        → g'.last x ≡ g.last x → ((c : ℕ) → g'.sees x c ≡ g.sees x c) → g'.base h ≡ g.base h → HeadSeen s.nodes g h x → HeadSeen M g' h x
    seen_head_same M g' h x vh vm la se ba (seen_stamped z t e st l f) = seen_stamped z t (vh ∙ e) st (subst (λ y. y ≤ t) (sym la) l) (λ c k. se c ∙ f c k)
    seen_head_same M g' h x vh vm la se ba (seen_unstamped z y m a e st o ey sy l f b) =
        seen_unstamped z y m a (vh ∙ e) st o (vm m z e o ∙ ey) sy (subst (λ y. y ≤ a) (sym la) l) (λ c k. se c ∙ f c k ∙ sym ba) (b ∙ sym ba)

    given_seen_head : (n t h : ℕ) (v : Version V) (x : ℕ) → version (node s n) ≡ Some v → h ≡ n → g.cell n ≡ x
        → HeadSeen (set s.nodes n (on_version (λ v. stamped v t) (node s n))) (seen_given n t v.value g) h x
    given_seen_head n t h v x e p c =
        seen_stamped (stamped v t) t
        (ap (λ j. version (get_or (set s.nodes n (on_version (λ v. stamped v t) (node s n))) j free)) p
        ∙ on_version_at (λ v. stamped v t) s.nodes n v e) refl
        (let q = updated_same g.last (g.cell n) t x (sym c) in omega arith) (λ d k. seen_hit n t v.value x d c k)

    linked_seen_head : (x n b : ℕ) (a : V) → n < length s.nodes → node s n ≡ free → WithStamp (node s b) → HeadSeen s.nodes g b x
        → HeadSeen (set s.nodes n (linked (record { value = a; stamp = None; older = Some b }))) (seen_linked s x n b a g) n x
    linked_seen_head x n b a ln fr fb (seen_stamped z t e st l f) =
        let be : value_or a (node s b) ≡ z.value = value_at (node s b) z a e in
        let bn : updated g.base n (value_or a (node s b)) n ≡ z.value = updated_same g.base n (value_or a (node s b)) n refl ∙ be in
        let nb : b ≡ n → ⊥ = λ i. let y = ap version (ap (node s) i ∙ fr) in grind arith in
        seen_unstamped (record { value = a; stamp = None; older = Some b }) z b t
        (ap version (get_or-set_same s.nodes n (linked (record { value = a; stamp = None; older = Some b })) free ln)) refl refl
        (ap version (get_or-set_other s.nodes n b _ free nb) ∙ e) st l (λ c k. f c k ∙ sym bn) (sym bn)
    linked_seen_head x n b a ln fr fb (seen_unstamped z y m c e st o ey sy l f bb) = absurd (with_stamp_version (node s b) z e fb st)

    dropped_version : (p q : ℕ) (v u : Version V) (B : List Bool) → version (node s p) ≡ Some v → version (node s q) ≡ Some u → (j : ℕ) (z : Version V) → version (node s j) ≡ Some z
        → (y : Version V) × (version (get_or (set (set s.nodes p (on_version (λ v. above v u.older) (node s p))) q (waiting u B)) j free) ≡ Some y) × (y.stamp ≡ z.stamp) × (y.value ≡ z.value)
        × ((j ≡ p → ⊥) → y.older ≡ z.older)
    dropped_version p q v u B hp hq j z hj =
        set_either (set s.nodes p (on_version (λ v. above v u.older) (node s p))) q j (waiting u B) free Like
        (λ i. let e : u ≡ z = same_Some u z (sym hq ∙ ap (λ k. version (node s k)) (sym i) ∙ hj) in
        (u, refl, ap (λ y. y.stamp) e, ap (λ y. y.value) e, λ n. ap (λ y. y.older) e))
        (set_either s.nodes p j (on_version (λ v. above v u.older) (node s p)) free Like
        (λ i. let e : v ≡ z = same_Some v z (sym hp ∙ ap (λ k. version (node s k)) (sym i) ∙ hj) in
        (above v u.older, on_version_is (λ v. above v u.older) (node s p) v hp, ap (λ y. y.stamp) e, ap (λ y. y.value) e, λ n. absurd (n i)))
        (z, hj, refl, refl, λ n. refl))
      where
        Like : Node V → Type 0
        Like x = (y : Version V) × (version x ≡ Some y) × (y.stamp ≡ z.stamp) × (y.value ≡ z.value) × ((j ≡ p → ⊥) → y.older ≡ z.older)

    taken_out_seen_head : (p q : ℕ) (v u : Version V) (e : ℕ) (B : List Bool) → version (node s p) ≡ Some v → v.stamp ≡ Some e → version (node s q) ≡ Some u → (h x : ℕ) → HeadSeen s.nodes g h x
        → HeadSeen (set (set s.nodes p (on_version (λ v. above v u.older) (node s p))) q (waiting u B)) g h x
    taken_out_seen_head p q v u e B hp sp hq h x (seen_stamped z t eh st l f) =
        let r = dropped_version p q v u B hp hq h z eh in
        seen_stamped r.0 t r.1 (r.2 ∙ st) l (λ c k. f c k ∙ sym r.3)
    taken_out_seen_head p q v u e B hp sp hq h x (seen_unstamped z y m a eh st o ey sy l f b) =
        let r = dropped_version p q v u B hp hq h z eh in
        let k = dropped_version p q v u B hp hq m y ey in
        let np : h ≡ p → ⊥ = λ i. let j : version (node s p) ≡ Some z = ap (λ k. version (node s k)) (sym i) ∙ eh in let w : v ≡ z = cc in let w2 = ap (λ y. y.stamp) w in
        grind arith in
        seen_unstamped r.0 k.0 m a r.1 (r.2 ∙ st) (r.4 np ∙ o) k.1 (k.2 ∙ sy) l f (k.3 ∙ b)

    linked_down : (h m : ℕ) (z : Version V) → IsLinked (node s h) → version (node s h) ≡ Some z → z.older ≡ Some m → IsLinked (node s m)
    linked_down h m z l e o = S.down_linked h m l (older_at (node s h) z m e o)

    not_free : (n j : ℕ) → node s n ≡ free → IsLinked (node s j) → j ≡ n → ⊥
    not_free n j fr l i = subst IsLinked (ap (node s) i ∙ fr) l

    pub heads_next : (x : ℕ) → x < length s'.heads → (g' : Seen V) → NodeWay s g s' g' → HeadSeen s'.nodes g' (head s' x) x
    heads_next x lx g' (n_same en eh) = seen_head_on s.nodes g en eh x (G.heads_seen x (subst (λ H. x < length H) eh lx))
    heads_next x lx g' (n_ended w en eh id) =
        let l = subst (λ H. x < length H) eh lx in
        let k = S.head_linked x l in
        let nw : suc w ≡ w → ⊥ = λ e. omega arith in
        seen_head_on (map (unmark w) s.nodes) g en eh x
        (seen_head_same (map (unmark w) s.nodes) g (head s x) x (ended_same s.nodes w (suc w) (head s x) nw (inl k))
        (λ m z e o. ended_same s.nodes w (suc w) m nw (inl (linked_down (head s x) m z k e o))) refl (λ c. refl) refl (G.heads_seen x l))
    heads_next x lx g' (n_given w n t v rf h st he en eh) =
        let l = subst (λ H. x < length H) eh lx in
        let b = awaits_from {s = s} n v h st in
        let k = S.head_linked x l in
        seen_head_on _ _ en eh x
        (⊎_elim (λ e. given_seen_head n t (head s x) v x h e (top_of n x v.value b l e))
        (λ ne. let nx : g.cell n ≡ x → ⊥ = λ e. ne (ap (head s) (sym e) ∙ (G.tops n v.value b).1) in
        seen_head_same _ (seen_given n t v.value g) (head s x) x (given_same s.nodes n t (head s x) ne)
        (λ m z e o. given_same s.nodes n t m (awaits_not_stamped s.nodes n m v h st (S.stamped_down 0 (head s x) m (inl k) (older_at (node s (head s x)) z m e o))))
        (updated_other g.last (g.cell n) t x (λ i. nx (sym i))) (λ c. seen_miss n t v.value x c (inl nx)) refl (G.heads_seen x l))
        (cases_eq (head s x) n))
    heads_next x lx g' (n_linked w y b n a o hb f en eh) =
        let ff = f in
        let r = anchor_at w (write_looked y b) o G.anchored in
        let l : x < length s.heads = rw (length-set) at (subst (λ H. x < length H) eh lx) in
        subst (λ N. HeadSeen N (seen_linked s y n b a g) (head s' x) x) (sym en)
        (subst (λ H. HeadSeen (set s.nodes n (linked (record { value = a; stamp = None; older = Some b }))) (seen_linked s y n b a g) (get_or H x 0) x) (sym eh)
        (⊎_elim
        (λ e. subst (λ j. HeadSeen (set s.nodes n (linked (record { value = a; stamp = None; older = Some b }))) (seen_linked s y n b a g) j x)
        (sym (get_or-set_at s.heads y _ n 0 e r.2))
        (subst (λ j. HeadSeen (set s.nodes n (linked (record { value = a; stamp = None; older = Some b }))) (seen_linked s y n b a g) n j) (sym e)
        (linked_seen_head y n b a ff.0 ff.1 r.1 (subst (λ j. HeadSeen s.nodes g j y) hb (G.heads_seen y r.2)))))
        (λ ne. let k = S.head_linked x l in
        subst (λ j. HeadSeen (set s.nodes n (linked (record { value = a; stamp = None; older = Some b }))) (seen_linked s y n b a g) j x)
        (sym (get_or-set_other s.heads y x n 0 ne))
        (seen_head_same (set s.nodes n (linked (record { value = a; stamp = None; older = Some b }))) (seen_linked s y n b a g) (head s x) x
        (ap version (get_or-set_other s.nodes n (head s x) _ free (not_free n (head s x) ff.1 k)))
        (λ m z e o. ap version (get_or-set_other s.nodes n m _ free (not_free n m ff.1 (linked_down (head s x) m z k e o)))) refl (λ c. refl)
        (cond-false (eqb (head s x) n) (value_or a (node s b)) (g.base (head s x)) (ne_eqb (head s x) n (not_free n (head s x) ff.1 k))) (G.heads_seen x l)))
        (cases_eq x y)))
    heads_next x lx g' (n_dropped w y t q p r n v u a e B o st od su ob en eh) =
        seen_head_on _ g en eh x
        (taken_out_seen_head p n v u e B st.here st.has su.here (head s x) x (G.heads_seen x (subst (λ H. x < length H) eh lx)))

    finds_kept : (u x p d : ℕ) → InUse s d → KeptFor u (node s p) → ((v : V) → AwaitsStamp s p v → g.cell p ≡ x) → SettledBut s g x d p → (worker s' u).operation ≡ reading x p → Finds s.nodes d p (g.sees x d)
        → (g' : Seen V) → NodeWay s g s' g' → Finds s'.nodes d p (g'.sees x d)
    finds_kept u x p d L k own sh rd f g' (n_same en eh) = subst (λ N. Finds N d p (g.sees x d)) (sym en) f
    finds_kept u x p d L k own sh rd f g' (n_ended w en eh id) =
        subst (λ N. Finds N d p (g.sees x d)) (sym en)
        (down_ended s.nodes w u d p (g.sees x d) S (λ e. let i = ap (λ y. (worker s' y).operation) e in grind arith) k f)
    finds_kept u x p d L k own sh rd f g' (n_given w n t v rf h st he en eh) =
        let b = awaits_from {s = s} n v h st in
        subst (λ N. Finds N d p ((seen_given n t v.value g).sees x d)) (sym en)
        (over_given u n t p x d v h st k (λ e. ap g.cell (sym e) ∙ own v.value (subst (λ j. AwaitsStamp s j v.value) (sym e) b))
        (λ ne. ⊎_elim (λ e. inr (sh.all_but n v.value b e (λ i. ne (sym i)) w t rf he)) (λ n. inl n) (cases_eq (g.cell n) x)) f)
    finds_kept u x p d L k own sh rd f g' (n_linked w y b n a o hb ff en eh) =
        subst (λ N. Finds N d p (g.sees x d)) (sym en) (down_linked s.nodes n u d p (g.sees x d) _ S ff.1 k f)
    finds_kept u x p d L k own sh rd f g' (n_dropped w y t q j r n v z a e B o st od su ob en eh) =
        subst (λ N. Finds N d p (g.sees x d)) (sym en)
        (finds_dropped s.nodes j n v z a e B st.here st.has od su.here su.has (drop_apart w y t q j r n v e o st od) d
        (out_of d w y t q j r a e L o ob) p (g.sees x d) f)

    reading_next_state : (d u t n : ℕ) (o : Operation) (h : Option ℕ) → d < s.clock → (refers (worker s u).operation ≡ Some n → (worker s u).clock_reading ≡ Some t → d < t) → ReadingWay s u o h → refers o ≡ Some n → h ≡ Some t → d < t
    reading_next_state d u t n o h l P h_same e f = P e f
    reading_next_state d u t n o h l P h_clock e f = let q : s.clock ≡ t = cc in omega arith
    reading_next_state d u t n o h l P h_none e f = grind arith

    -- what a step brings: where unstamped nodes come from, what is held, how time goes
    module _ (g' : Seen V) (BB : (n : ℕ) (v : V) → AwaitsStamp s' n v → (AwaitsStamp s n v × (g'.cell n ≡ g.cell n)) ⊎ (node s n ≡ free))
        (HW : (u : ℕ) → ReadingWay s u (worker s' u).operation (worker s' u).clock_reading) (cl : s.clock ≤ s'.clock) where
      readings_at : (d n : ℕ) (v : V) → d < s.clock → AwaitsStamp s' n v → ((v : V) → AwaitsStamp s n v → g'.cell n ≡ g.cell n → ReadingsAt s d n) → ReadingsAt s' d n
      readings_at d n v l b P u t e f =
          reading_next_state d u t n (worker s' u).operation (worker s' u).clock_reading l
          (λ r h. ⊎_elim (λ k. P v k.0 k.1 u t r h)
          (λ fr. absurd (⊎_elim (λ z. z) (λ z. z) (subst (KeptFor u) fr (refers_kept s.heads s.nodes G.ages u n (worker s u).operation r (G.anchored.anchors u))))) (BB n v b))
          (HW u) e f

      settled_but_next : (x d p : ℕ) → SettledBut s g x d p → SettledBut s' g' x d p
      settled_but_next x d p h =
          record {
            below = omega arith;
            all_but = λ n v b e ne. readings_at d n v h.below b (λ y c i. h.all_but n y c (sym i ∙ e) ne);
          }

      pub settled_next : (x d : ℕ) → Settled s g x d → Settled s' g' x d
      settled_next x d h =
          record { below = omega arith; all_of = λ n v b e. readings_at d n v h.below b (λ y c i. h.all_of n y c (sym i ∙ e)) }

      pass_read : (u x p d : ℕ) → NodeWay s g s' g' → (worker s u).session ≡ opened d → (worker s' u).session ≡ opened d → KeptFor u (node s p) → ((v : V) → AwaitsStamp s p v → g.cell p ≡ x) → SettledBut s g x d p
          → (worker s' u).operation ≡ reading x p → Finds s.nodes d p (g.sees x d) → ReadFinds s' g' u x p
      pass_read u x p d nw so so' k own sh rd f =
          record {
            d = d;
            is_open = so';
            finds = finds_kept u x p d (inl (u, so)) k own sh rd f g' nw;
            settled_but = settled_but_next x d p sh;
            own_cell = λ v b. ⊎_elim (λ y. y.1 ∙ own v y.0) (λ fr. absurd (⊎_elim (λ z. z) (λ z. z) (subst (KeptFor u) fr k))) (BB p v b);
          }

      pub reads_next : (u x p : ℕ) (K : Kind V) → NodeWay s g s' g' → ReadWay s K u (worker s' u) → (worker s' u).operation ≡ reading x p → ReadFinds s' g' u x p
      reads_next u x p K nw (r_same f gg n) e =
          let r = G.reads_find u x p (sym f ∙ e) in
          pass_read u x p r.d nw r.is_open (gg r.d (ap is_reading (sym f ∙ e)) r.is_open) (anchor_at u (reading x p) (sym f ∙ e) G.anchored) r.own_cell r.settled_but e r.finds
      reads_next u x p K nw (r_walks y j q d t v f gg h n ss st ll oo) e =
          let y1 : y ≡ x = cc in
          let q1 : q ≡ p = cc in
          let operation : (worker s u).operation ≡ reading x j = f ∙ ap (λ i. reading i j) y1 in
          let r = G.reads_find u x j operation in
          let ro = r.is_open in
          let d1 : r.d ≡ d = cc in
          let oo1 : v.older ≡ Some p = oo ∙ ap Some q1 in
          let kj = anchor_at u (reading x j) operation G.anchored in
          let od = older_at (node s j) v p st.here oo1 in
          let F : Finds s.nodes d j (g.sees x d) = subst (λ i. Finds s.nodes i j (g.sees x i)) d1 r.finds in
          let SH : SettledBut s g x d j = subst (λ i. SettledBut s g x i j) d1 r.settled_but in
          pass_read u x p d nw ss (h ∙ ss) (S.kept_down u j p kj od)
          (λ z b. absurd (with_stamp_version (node s p) b.ver b.here (S.stamped_down u j p kj od) b.bare))
          (record {
            below = SH.below;
            all_but = λ n z b c ne. SH.all_but n z b c (λ i. let b1 : version (node s j) ≡ Some b.ver = ap (λ k. version (node s k)) (sym i) ∙ b.here in
                let b2 = b.bare in let b3 = st.here in let b4 = st.has in let w : v ≡ b.ver = cc in let w2 = ap (λ y. y.stamp) w in
                grind arith);
          }) e
          (finds_on s.nodes d j t p (g.sees x d) v st.here st.has (leb-false t d ll) oo1 F)
      reads_next u x p K nw (r_starts y j d f gg h so hd lx) e =
          let y1 : y ≡ x = cc in
          let j1 : j ≡ p = cc in
          let l : x < length s.heads = subst (λ i. i < length s.heads) y1 lx in
          let hp : head s x ≡ p = ap (head s) (sym y1) ∙ sym hd ∙ j1 in
          let bd = (G.stamps_within.workers_within u).session_within in
          let dl : d < s.clock = subst (SessionWithin s.clock) h bd in
          pass_read u x p d nw h so (subst (λ i. KeptFor u (node s i)) hp (inl (S.head_linked x l))) (λ v b. top_of p x v b l hp)
          (record { below = dl; all_but = λ n v b c ne. absurd (ne (sym (G.tops n v b).1 ∙ ap (head s) c ∙ hp)) }) e
          (subst (λ i. Finds s.nodes d i (g.sees x d)) hp (G.sessions_find u d x h l))
      reads_next u x p K nw (r_off f) e = absurd (both_ways (is_reading (worker s' u).operation) f (ap is_reading e))
