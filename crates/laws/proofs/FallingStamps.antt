-- Stamps never rise going down a list, and a reading that is held is not below the stamp under its version.
use Rattle.std.proofs.Common.{◌≡◌, ℕ, ◌<◌, ◌≤◌, Bool, true, false, List, map, length, get_or, set, Some, None, sym, refl, ap, ◌∙◌, subst, inl, ⊎_elim, arith}
use Rattle.laws.proofs.Effects.{refers_stands, works_refers}
use Rattle.std.proofs.lemmas.Option.{none-some}
use Rattle.std.proofs.lemmas.List.{get_or-set_other}
use Rattle.std.proofs.lemmas.Bool.{cases_eq}
use Rattle.model.specs.Answers.{Answer}
use Rattle.model.specs.Calls.{Call}
use Rattle.model.specs.Changes.{stamped, above, on_version, ended, unmark}
use Rattle.model.specs.State.{Version, Node, Session, Worker, State, fresh, node, worker, busy, free, linked, waiting, write_looked, walking}
use Rattle.laws.specs.Conservation.{stands_at}
use Rattle.laws.proofs.CellLists.{IsLinked, Marked, WithStamp, older_of, stamp_of, KeptFor, node_in, Ages, WellLinked, SameLinks, same_links_set, same_links_given, MarkTakenOff, unmark_takes_off, stamp_at, linked_is, unstamped_not, kept_back, kept_before_end}
use Rattle.laws.proofs.Clock.{WithinClock, NodeWithin}
use Rattle.laws.proofs.Frames.{set_both, set_split, set_either, map_get_or}
use Rattle.laws.proofs.Linking.{node_linked}
use Rattle.laws.proofs.References.{Anchored, anchor_at, marks_of_busy, stands_kept}
use Rattle.laws.proofs.TakingOut.{older_other, older_p, stamp_dropped, back_dropped}
use Rattle.laws.proofs.Transitions.{refuses, notes, publishes, opens, starts_again, closes, read_begins, write_begins, compaction_begins, takes_reading, gives_stamp, reads, reads_on, looks, links, overtakes, stamps, abandons, scans, takes_head, keeps, takes_out, finishes, Transition, loses}

-- r is not below the stamp of what is next older than n
abbrev pub NotBelow : {V : Type 0} → List (Node V) → ℕ → ℕ → Type 0
NotBelow N n r = (m a : ℕ) → older_of (node_in N n) ≡ Some m → stamp_of (node_in N m) ≡ Some a → a ≤ r

-- stamps do not rise going down
abbrev pub Falling : {V : Type 0} → List (Node V) → Type 0
Falling N = (u n e : ℕ) → KeptFor u (node_in N n) → stamp_of (node_in N n) ≡ Some e → NotBelow N n e

-- a node gets a stamp that is over what is below
module _ {V : Type 0} {H : List ℕ} {N : List (Node V)} {g : Ages} (S : WellLinked H N g) (n t : ℕ) (bare : stamp_of (node_in N n) ≡ None) where
  abbrev M : List (Node V)
  M = set N n (on_version (λ v. stamped v t) (node_in N n))

  A : (j : ℕ) → SameLinks (node_in N j) (node_in M j)
  A = same_links_set N n _ (same_links_given t (node_in N n))

  -- at another place the slot is as it was
  rest : (j : ℕ) → (j ≡ n → ⊥) → node_in M j ≡ node_in N j
  rest j ne = get_or-set_other N n j _ free ne

  pub not_below_given : (u j r : ℕ) → KeptFor u (node_in N j) → NotBelow N j r → NotBelow M j r
  not_below_given u j r k o m a e f =
      let e' = sym (A j).older_same ∙ e in
      let ne : m ≡ n → ⊥ = λ i. unstamped_not (node_in N n) bare (subst (λ y. WithStamp (node_in N y)) i (S.stamped_down u j m k e')) in
      o m a e' (sym (ap stamp_of (rest m ne)) ∙ f)

  stamp_y : (x : Node V) (e : ℕ) → stamp_of (on_version (λ v. stamped v t) x) ≡ Some e → t ≡ e
  stamp_y x e h = grind arith

  pub falling_given : NotBelow N n t → Falling N → Falling M
  falling_given o F u j e k h =
      let k' = kept_back (A j) u k in
      set_either N n j _ free (λ z. stamp_of z ≡ Some e → NotBelow M j e)
      (λ i f. subst (λ r. NotBelow M j r) (stamp_y (node_in N n) e f) (not_below_given u j t k' (subst (λ y. NotBelow N y t) (sym i) o)))
      (λ f. not_below_given u j e k' (F u j e k' f)) h

-- the end of an operation
unmark_stamp : {V : Type 0} (w : ℕ) (x : Node V) (a : ℕ) → stamp_of (unmark w x) ≡ Some a → stamp_of x ≡ Some a
unmark_stamp w x a e = grind arith

module _ {V : Type 0} (N : List (Node V)) (w : ℕ) where
  F : (j : ℕ) → MarkTakenOff w (node_in N j) (node_in (map (unmark w) N) j)
  F j = subst (λ y. MarkTakenOff w (node_in N j) y) (sym (map_get_or (unmark w) N j free refl)) (unmark_takes_off w (node_in N j))

  back : (j a : ℕ) → stamp_of (node_in (map (unmark w) N) j) ≡ Some a → stamp_of (node_in N j) ≡ Some a
  back j a e = unmark_stamp w (node_in N j) a (sym (ap stamp_of (map_get_or (unmark w) N j free refl)) ∙ e)

  pub not_below_ended : (j r : ℕ) → NotBelow N j r → NotBelow (map (unmark w) N) j r
  not_below_ended j r o m a e f = o m a ((F j).older_back m e) (back m a f)

  pub falling_ended : Falling N → Falling (map (unmark w) N)
  falling_ended G u j e k h = not_below_ended j e (G u j e (kept_before_end (F j) u k) (back j e h))

-- a new head
module _ {V : Type 0} (H : List ℕ) (N : List (Node V)) (g : Ages) (S : WellLinked H N g) (x n b : ℕ) (a : V) (lx : x < length H) (hb : get_or H x 0 ≡ b)
    (fb : WithStamp (node_in N b)) (ln : n < length N) (fn : node_in N n ≡ free) where
  abbrev L : List (Node V)
  L = set N n (linked (record { value = a; stamp = None; older = Some b }))

  pub not_below_linked : (u j r : ℕ) → KeptFor u (node_in N j) → NotBelow N j r → NotBelow L j r
  not_below_linked u j r k o m c e f =
      let e' = sym (ap older_of (node_linked H N g S x n b a lx hb fb ln fn u j k)) ∙ e in
      o m c e' (sym (ap stamp_of (node_linked H N g S x n b a lx hb fb ln fn u m (S.kept_down u j m k e'))) ∙ f)

  pub falling_linked : Falling N → Falling L
  falling_linked G u j e k h =
      ⊎_elim (λ i. absurd (let f = sym (ap stamp_of i.1) ∙ h in grind arith))
      (λ i. let k' = subst (KeptFor u) i.1 k in not_below_linked u j e k' (G u j e k' (sym (ap stamp_of i.1) ∙ h)))
      (set_split N n j (linked (record { value = a; stamp = None; older = Some b })) free ln)

-- a version leaves
module _ {V : Type 0} (H : List ℕ) (N : List (Node V)) (g : Ages) (S : WellLinked H N g) (p q : ℕ) (v u : Version V) (B : List Bool)
    (sp : node_in N p ≡ linked v) (operation : v.older ≡ Some q) (sq : node_in N q ≡ linked u)
    (mb : (w j : ℕ) → Marked w (node_in N j) → get_or B w false ≡ true) (c : ℕ) (uc : u.stamp ≡ Some c) (G : Falling N) where
  pub not_below_taken_out : (j r : ℕ) → NotBelow N j r → NotBelow (set (set N p (on_version (λ v. above v u.older) (node_in N p))) q (waiting u B)) j r
  not_below_taken_out j r o m a e f =
      let f' = sym (stamp_dropped H N g S p q v u B sp operation sq mb m) ∙ f in
      ⊎_elim
      (λ i. let o1 = o q c (ap (λ y. older_of (node_in N y)) i ∙ ap older_of sp ∙ operation) (ap stamp_of sq ∙ uc) in
      let e1 = sym (ap (λ y. older_of (node_in (set (set N p (on_version (λ v. above v u.older) (node_in N p))) q (waiting u B)) y)) i ∙ older_p H N g S p q v u B sp operation sq mb) ∙ e in
      let o2 = G 0 q c (inl (subst IsLinked (sym sq) tt)) (ap stamp_of sq ∙ uc) m a (ap older_of sq ∙ e1) f' in
      omega arith)
      (λ ne. o m a (sym (older_other H N g S p q v u B sp operation sq mb j ne) ∙ e) f') (cases_eq j p)

  pub falling_taken_out : Falling (set (set N p (on_version (λ v. above v u.older) (node_in N p))) q (waiting u B))
  falling_taken_out w j e k h =
      not_below_taken_out j e (G w j e (back_dropped H N g S p q v u B sp operation sq mb w j k) (sym (stamp_dropped H N g S p q v u B sp operation sq mb j) ∙ h))

pub record StampsFall {V : Type 0} (s : State V) : Type 0 where
  pub falling : Falling s.nodes
  pub readings : (u n r : ℕ) → stands_at (worker s u).operation ≡ Some n → (worker s u).clock_reading ≡ Some r → NotBelow s.nodes n r

module _ {V : Type 0} {s : State V} {g : Ages} (I : Anchored s g) (Mo : StampsFall s) where
  -- w's record and the nodes change
  by : (s' : State V) (w : ℕ) (R : Worker) → w < length s.workers → s'.workers ≡ set s.workers w R → Falling s'.nodes
      → ((u n r : ℕ) → KeptFor u (node s n) → (u ≡ w → ⊥) → NotBelow s.nodes n r → NotBelow s'.nodes n r)
      → ((n r : ℕ) → stands_at R.operation ≡ Some n → R.clock_reading ≡ Some r → NotBelow s'.nodes n r) → StampsFall s'
  by s' w R l e f t o =
      record {
        falling = f;
        readings = λ u. subst (λ W. (n r : ℕ) → stands_at (get_or W u fresh).operation ≡ Some n → (get_or W u fresh).clock_reading ≡ Some r → NotBelow s'.nodes n r) (sym e)
            (set_both s.workers w u R fresh (λ z. (n r : ℕ) → stands_at z.operation ≡ Some n → z.clock_reading ≡ Some r → NotBelow s'.nodes n r) l (λ i. o)
            (λ ne n r a b. t u n r (stands_kept s.heads s.nodes g u n (worker s u).operation (I.anchors u) a) ne (Mo.readings u n r a b)));
      }

  -- only w's record changes, and it holds no reading
  let_go : (s' : State V) (w : ℕ) (R : Worker) → w < length s.workers → s'.workers ≡ set s.workers w R → s'.nodes ≡ s.nodes → R.clock_reading ≡ None → StampsFall s'
  let_go s' w R l e n h =
      by s' w R l e (subst Falling (sym n) Mo.falling) (λ u m r k ne. subst (λ N. NotBelow s.nodes m r → NotBelow N m r) (sym n) (λ o. o))
      (λ m r a b. absurd (none-some r (sym h ∙ b)))

  -- only its session
  same : (s' : State V) (w : ℕ) (q : Session) → w < length s.workers
      → s'.workers ≡ set s.workers w (record { session = q; operation = (worker s w).operation; clock_reading = (worker s w).clock_reading }) → s'.nodes ≡ s.nodes → StampsFall s'
  same s' w q l e n =
      by s' w _ l e (subst Falling (sym n) Mo.falling) (λ u m r k ne. subst (λ N. NotBelow s.nodes m r → NotBelow N m r) (sym n) (λ o. o))
      (λ m r a b. subst (λ N. NotBelow N m r) (sym n) (Mo.readings w m r a b))

  over_end : (w : ℕ) → w < length s.workers → StampsFall (ended s w)
  over_end w l = by (ended s w) w _ l refl (falling_ended s.nodes w Mo.falling) (λ u n r k ne. not_below_ended s.nodes w n r) (λ n r a b. absurd (none-some r b))

stamp_bound : {V : Type 0} (k : ℕ) (x : Node V) (a : ℕ) → NodeWithin k x → stamp_of x ≡ Some a → a ≤ k
stamp_bound k x a h e = grind arith

pub stamps_fall_next : {V : Type 0} {s : State V} {g : Ages} {c : Call V} {a : Answer V} {s' : State V} → Anchored s g → WithinClock s → StampsFall s → Transition s c a s' → StampsFall s'
stamps_fall_next I B Mo (refuses nc) = Mo
stamps_fall_next I B Mo (loses lo) = Mo
stamps_fall_next I B Mo (notes {w} i e f) = same I Mo _ w _ i refl refl
stamps_fall_next I B Mo (publishes {w} i e) = same I Mo _ w _ i refl refl
stamps_fall_next I B Mo (opens {w} i e f) = same I Mo _ w _ i refl refl
stamps_fall_next I B Mo (starts_again {w} i e f) = same I Mo _ w _ i refl refl
stamps_fall_next I B Mo (closes {w} i e f) = same I Mo _ w _ i refl refl
stamps_fall_next I B Mo (read_begins {w} i l b e) = let_go I Mo _ w _ i refl refl refl
stamps_fall_next I B Mo (write_begins {w} i l b) = let_go I Mo _ w _ i refl refl refl
stamps_fall_next I B Mo (compaction_begins {w} i l b e) = let_go I Mo _ w _ i refl refl refl
stamps_fall_next {s} I B Mo (takes_reading {w} {n} i pt th st he) =
    by I Mo _ w _ i refl Mo.falling (λ u n r k ne o. o)
    (λ n r a b m c o f. let q : s.clock ≡ r = cc in let d = stamp_bound s.clock (node s m) c (B.nodes_within m) f in omega arith)
stamps_fall_next {s} I B Mo (gives_stamp {w} {n} {t} {v = v} i pt th st he) =
    let bare = stamp_at (node s n) v th ∙ st in
    by I Mo _ w _ i refl (falling_given I.well_linked n t bare (Mo.readings w n t (refers_stands (worker s w).operation n (works_refers pt)) he) Mo.falling)
    (λ u j r k ne. not_below_kept u j r k bare) (λ j r a b. grind arith)
  where
    not_below_kept : (u j r : ℕ) → KeptFor u (node s j) → stamp_of (node s n) ≡ None → NotBelow s.nodes j r → NotBelow (set s.nodes n (on_version (λ v. stamped v t) (node s n))) j r
    not_below_kept u j r k bare = not_below_given I.well_linked n t bare u j r k
stamps_fall_next I B Mo (reads {w} i e f st l) = over_end I Mo w i
stamps_fall_next I B Mo (reads_on {w} i e f st l o) = let_go I Mo _ w _ i refl refl refl
stamps_fall_next I B Mo (looks {w} i e st) = let_go I Mo _ w _ i refl refl refl
stamps_fall_next {s} {g} I B Mo (links {w} {x} {b} {n} {a} i e h f) =
    let y = anchor_at w (write_looked x b) e I in
    let ff = f in
    by I Mo _ w _ i refl (falling_linked s.heads s.nodes g I.well_linked x n b a y.2 h y.1 ff.0 ff.1 Mo.falling)
    (λ u j r k ne. not_below_linked s.heads s.nodes g I.well_linked x n b a y.2 h y.1 ff.0 ff.1 u j r k)
    (λ j r a b. grind arith)
stamps_fall_next I B Mo (overtakes {w} i e h) = over_end I Mo w i
stamps_fall_next I B Mo (stamps {w} i e st) = over_end I Mo w i
stamps_fall_next I B Mo (abandons {w} i e) = over_end I Mo w i
stamps_fall_next I B Mo (scans {w} i e l) = let_go I Mo _ w _ i refl refl refl
stamps_fall_next I B Mo (takes_head {w} i e l) = let_go I Mo _ w _ i refl refl refl
stamps_fall_next I B Mo (keeps {w} i e st o su d) = let_go I Mo _ w _ i refl refl refl
stamps_fall_next {s} {g} I B Mo (takes_out {w} {x} {t} {p} {r} {n} {a = c} {q = q} {v = v} {u = y} i e st o su d) =
    let z = anchor_at w (walking x t q p r) e I in
    let sp = linked_is (node s p) v z.0 st.here in
    let nl = I.well_linked.down_linked p n z.0 (ap older_of sp ∙ o) in
    let sn = linked_is (node s n) y nl su.here in
    let W : List Bool = map (λ (m : Worker). busy m.operation) s.workers in
    let mb : (k j : ℕ) → Marked k (node s j) → get_or W k false ≡ true = λ k j h. marks_of_busy s.workers k ∙ I.marks k j h in
    by I Mo _ w _ i refl
    (falling_taken_out s.heads s.nodes g I.well_linked p n v y W sp o sn mb c su.has Mo.falling)
    (λ k j r h ne. not_below_taken_out s.heads s.nodes g I.well_linked p n v y W sp o sn mb c su.has Mo.falling j r)
    (λ j r a b. grind arith)
stamps_fall_next I B Mo (finishes {w} i e st o) = over_end I Mo w i
