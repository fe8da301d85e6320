-- A walk of a compaction: each step keeps what is known of it, or ends it. What happens in other cells, or below its
-- position, does not change the versions above.
use Rattle.std.proofs.Common.{◌≡◌, ℕ, suc, ◌+◌, ◌<◌, ◌≤◌, Bool, true, false, ◌⊎◌, List, map, length, get_or, set, Some, None, sym, refl, ap, ◌∙◌, subst, inl, inr, ⊎_elim, arith}
use Rattle.std.proofs.lemmas.Grind.{get_or-set_at}
use Rattle.std.proofs.lemmas.Option.{none-some}
use Rattle.std.proofs.lemmas.List.{get_or-set_other}
use Rattle.std.proofs.lemmas.Bool.{cases_eq, both_ways, eq-eqb}
use Rattle.std.specs.List.{All}
use Rattle.model.specs.Answers.{Answer}
use Rattle.model.specs.Calls.{Call, CompactStep}
use Rattle.model.specs.Changes.{with_operation, stamped, above, on_version, ended, taken_out, linked_above, unmark}
use Rattle.model.specs.Compactions.{interval}
use Rattle.model.specs.Judging.{Judge, Thorough}
use Rattle.model.specs.State.{Version, Node, Operation, Worker, State, fresh, node, worker, head, version, busy, compacts, free, waiting, reading, write_begun, write_looked, write_linked, scanning, walking, last_stamp}
use Rattle.laws.specs.Space.{up_to, stamped_up_to, Down}
use Rattle.laws.proofs.CellLists.{IsLinked, Marked, WithStamp, older_of, stamp_of, node_in, Ages, WellLinked, SameLinks, same_links_set, same_links_given, stamp_at, linked_is, older_at, unstamped_not}
use Rattle.laws.proofs.FallingStamps.{StampsFall}
use Rattle.laws.proofs.Frames.{set_both, map_get_or}
use Rattle.laws.proofs.Intervals.{at_least, at_least_le, kept_uses_stamp}
use Rattle.laws.proofs.Linking.{node_linked}
use Rattle.laws.proofs.References.{Anchored, anchor_at, marks_of_busy}
use Rattle.laws.proofs.Segments.{Segment, starts_here, goes_below, SameVersion, segment_kept, segment_down, last_down}
use Rattle.laws.proofs.SpareNodes.{Spare}
use Rattle.laws.proofs.TakingOut.{stamp_dropped}
use Rattle.laws.proofs.Transitions.{Transition, StampedAt, refuses, notes, publishes, opens, starts_again, closes, read_begins, write_begins, compaction_begins, takes_reading, gives_stamp, reads, reads_on, looks, links, overtakes, stamps, abandons, scans, takes_head, keeps, takes_out, finishes, loses, is_compacting}

-- the cutoff and the scan are as a store has them, and the scan has no more stamps than there are places
pub record Bounds (t : ℕ) (q : List ℕ) (places : ℕ) : Type 0 where
  pub cutoff_ok : t ≤ last_stamp
  pub scan_ok : All (λ a. a ≤ last_stamp) q
  pub room : length q ≤ places

-- a compaction of w in cell x since it took the head h; where it was served thoroughly, as P says, there are no more
-- versions up to the cutoff above its position than scanned stamps at or above it
pub record Walk {V : Type 0} (s : State V) (w h x t : ℕ) (q : List ℕ) (P : Type 0) : Type 0 where
  pub position : ℕ
  pub out : ℕ
  pub above : ℕ
  pub op_is : (worker s w).operation ≡ walking x t q position out
  pub segment : Segment s.nodes t h position above
  pub stamps_enough : P → (e : ℕ) → stamp_of (node s position) ≡ Some e → above ≤ at_least q e

-- a change of the nodes that leaves cell x above p, and p's stamp
pub record KeptAbove {V : Type 0} (N M : List (Node V)) (g : Ages) (x p : ℕ) : Type 0 where
  pub above_kept : (j : ℕ) → IsLinked (node_in N j) → g.cell j ≡ x → g.rank p < g.rank j → SameVersion N M j
  pub stamp_back : (e : ℕ) → WithStamp (node_in N p) → stamp_of (node_in M p) ≡ Some e → stamp_of (node_in N p) ≡ Some e

same_version : {V : Type 0} (N M : List (Node V)) (j : ℕ) → node_in M j ≡ node_in N j → IsLinked (node_in N j) → SameVersion N M j
same_version N M j e l = record { still = subst IsLinked (sym e) l; older = ap older_of e; stamp = λ k h. ap stamp_of e ∙ h }

-- where the slots of cell x are as they were
kept_above_same :
    {V : Type 0} (N M : List (Node V)) (g : Ages) (x p : ℕ) → IsLinked (node_in N p) → g.cell p ≡ x
    → ((j : ℕ) → IsLinked (node_in N j) → g.cell j ≡ x → node_in M j ≡ node_in N j) → KeptAbove N M g x p
kept_above_same o y g x p l c f = grind arith

unmark_linked : {V : Type 0} (w : ℕ) (y : Node V) → IsLinked y → unmark w y ≡ y
unmark_linked w x l = grind arith

ended_same : {V : Type 0} (N : List (Node V)) (w j : ℕ) → IsLinked (node_in N j) → node_in (map (unmark w) N) j ≡ node_in N j
ended_same N w j l = map_get_or (unmark w) N j free refl ∙ unmark_linked w (node_in N j) l

kept_above_given :
    {V : Type 0} (N : List (Node V)) (g : Ages) (x p n t : ℕ) → stamp_of (node_in N n) ≡ None → KeptAbove N (set N n (on_version (λ v. stamped v t) (node_in N n))) g x p
kept_above_given {V} N g x p n t bare =
    record {
      above_kept = λ j l c r. record { still = (A j).on l; older = (A j).older_same; stamp = λ e h. ap stamp_of (rest j (λ i. none-some e (sym (ap (λ k. stamp_of (node_in N k)) i ∙ bare) ∙ h))) ∙ h };
      stamp_back = λ e f h. sym (ap stamp_of (rest p (λ i. unstamped_not (node_in N p) (ap (λ k. stamp_of (node_in N k)) i ∙ bare) f))) ∙ h;
    }
  where
    A : (j : ℕ) → SameLinks (node_in N j) (node_in (set N n (on_version (λ v. stamped v t) (node_in N n))) j)
    A = same_links_set N n _ (same_links_given t (node_in N n))

    rest : (j : ℕ) → (j ≡ n → ⊥) → node_in (set N n (on_version (λ v. stamped v t) (node_in N n))) j ≡ node_in N j
    rest j ne = get_or-set_other N n j _ free ne

-- at the head taken nothing is counted; below it there is a stamp
segment_stamped : {V : Type 0} {H : List ℕ} {N : List (Node V)} {g : Ages} (t h : ℕ) → WellLinked H N g → (p a : ℕ) → Segment N t h p a → (a ≡ 0) ⊎ WithStamp (node_in N p)
segment_stamped t h S p a starts_here = inl refl
segment_stamped t h S p a (goes_below {p = b} s l o k) = inr (S.stamped_down 0 b p (inl l) o)

module _ {V : Type 0} {s : State V} {g : Ages} {w h x t : ℕ} {q : List ℕ} {P : Type 0} (I : Anchored s g) (C : Walk s w h x t q P) where
  pub position_linked : IsLinked (node s C.position)
  position_linked = (anchor_at w (walking x t q C.position C.out) C.op_is I).0

  pub position_cell : g.cell C.position ≡ x
  position_cell = (anchor_at w (walking x t q C.position C.out) C.op_is I).1

  -- w stands where it stood, over calm nodes
  pub frame : (s' : State V) (r : ℕ) → (worker s' w).operation ≡ walking x t q C.position r → KeptAbove s.nodes s'.nodes g x C.position → Walk s' w h x t q P
  frame s' r e K =
      record {
        position = C.position;
        out = r;
        above = C.above;
        op_is = e;
        segment = segment_kept s'.nodes t h x C.position I.well_linked K.above_kept C.position C.above position_cell (omega arith) C.segment;
        stamps_enough = λ served k j. ⊎_elim (λ z. omega arith) (λ f. C.stamps_enough served k (K.stamp_back k f j)) (segment_stamped t h I.well_linked C.position C.above C.segment);
      }

  same_nodes : KeptAbove s.nodes s.nodes g x C.position
  same_nodes = kept_above_same s.nodes s.nodes g x C.position position_linked position_cell (λ j l c. refl)

  -- the record of another changes
  beside : (s' : State V) (u : ℕ) (R : Worker) → (w ≡ u → ⊥) → s'.workers ≡ set s.workers u R → KeptAbove s.nodes s'.nodes g x C.position → Walk s' w h x t q P
  beside s' u x ne e o = grind (arith, frame, get_or-set_other)

  -- a record changes, maybe w's, and what it does is kept
  aside : (s' : State V) (u : ℕ) (R : Worker) → u < length s.workers → s'.workers ≡ set s.workers u R → R.operation ≡ (worker s u).operation
      → KeptAbove s.nodes s'.nodes g x C.position → Walk s' w h x t q P
  aside s' u R l e k K =
      frame s' C.out
      (ap (λ W. (get_or W w fresh).operation) e
      ∙ set_both s.workers u w R fresh (λ z. z.operation ≡ (worker s w).operation) l (λ i. k ∙ ap (λ j. (worker s j).operation) (sym i)) (λ ne. refl) ∙ C.op_is) K

  -- another operation than a walk is not w's
  not_w : (u : ℕ) (o : Operation) → (worker s u).operation ≡ o → (walking x t q C.position C.out ≡ o → ⊥) → w ≡ u → ⊥
  not_w u o e f i = f (sym C.op_is ∙ ap (λ j. (worker s j).operation) i ∙ e)

  not_idle : (u : ℕ) → busy (worker s u).operation ≡ false → w ≡ u → ⊥
  not_idle u b i = both_ways true (sym (ap busy (ap (λ j. (worker s j).operation) (sym i) ∙ C.op_is)) ∙ b) refl

  kept_above_ended : (u : ℕ) → KeptAbove s.nodes (map (unmark u) s.nodes) g x C.position
  kept_above_ended u = kept_above_same s.nodes _ g x C.position position_linked position_cell (λ j l c. ended_same s.nodes u j l)

  -- an operation of another ends
  other_ends : (u : ℕ) → (w ≡ u → ⊥) → Walk (ended s u) w h x t q P
  other_ends u ne = beside (ended s u) u _ ne refl (kept_above_ended u)

  links_beside : (u y b n : ℕ) (a : V) → (worker s u).operation ≡ write_looked y b → head s y ≡ b → Spare s n
      → Walk (with_operation (linked_above s y n b a) u (write_linked y n)) w h x t q P
  links_beside u y b n a e hb f =
      let r = anchor_at u (write_looked y b) e I in
      let ff = f in
      beside (with_operation (linked_above s y n b a) u (write_linked y n)) u _ (not_w u (write_looked y b) e (λ k. grind arith)) refl
      (kept_above_same s.nodes _ g x C.position position_linked position_cell
      (λ j l c. node_linked s.heads s.nodes g I.well_linked y n b a r.2 hb r.1 ff.0 ff.1 0 j (inl l)))

  -- another compaction drops in another cell
  drops_beside : (u y d : ℕ) (k : List ℕ) (p r n : ℕ) (v z : Version V) → (w ≡ u → ⊥) → (worker s u).operation ≡ walking y d k p r → version (node s p) ≡ Some v → v.older ≡ Some n
      → Walk (with_operation (taken_out s p n z) u (walking y d k p (suc r))) w h x t q P
  drops_beside u y d k p r n v z ne e hp o =
      let f = anchor_at u (walking y d k p r) e I in
      let low = I.well_linked.rank_down 0 p n (inl f.0) (older_at (node s p) v n hp o) in
      let apart : x ≡ y → ⊥ = λ i. ne (I.alone w u x (subst (λ a. compacts x a ≡ true) (sym C.op_is) (eq-eqb x x refl)) (subst (λ a. compacts x a ≡ true) (sym e) (eq-eqb y x (sym i)))) in
      beside (with_operation (taken_out s p n z) u (walking y d k p (suc r))) u _ ne refl
      (kept_above_same s.nodes _ g x C.position position_linked position_cell
      (λ j l c.
      get_or-set_other (set s.nodes p (on_version (λ v. above v z.older) (node s p))) n j _ free (λ i. apart (sym c ∙ ap g.cell i ∙ low.1 ∙ f.1))
      ∙ get_or-set_other s.nodes p j _ free (λ i. apart (sym c ∙ ap g.cell i ∙ f.1))))

  -- what u does, who is w
  op_u : (u : ℕ) (o : Operation) → w ≡ u → (worker s u).operation ≡ o → walking x t q C.position C.out ≡ o
  op_u u o i e = sym C.op_is ∙ ap (λ j. (worker s j).operation) i ∙ e

  -- w's operation ends
  own_ends : (u : ℕ) → w ≡ u → u < length s.workers → is_compacting (worker (ended s u) w).operation ≡ false
  own_ends u i l = grind (arith, get_or-set_at)

  keeps_own : (u y d : ℕ) (k : List ℕ) (p r n a e places : ℕ) (J : Judge) (v z : Version V) → w ≡ u → u < length s.workers → (worker s u).operation ≡ walking y d k p r
      → StampedAt s p v e → v.older ≡ Some n → StampedAt s n z a → J.drops d k (interval a e) ≡ false → StampsFall s → Bounds t q places → (P → Thorough places J)
      → Walk (with_operation s u (walking y d k n r)) w h x t q P
  keeps_own u y d k p r n a e places J v z i l walks st o su dr Mo B T =
      let E = op_u u (walking y d k p r) i walks in
      let ex : y ≡ x = cc in
      let et : d ≡ t = cc in
      let eq : k ≡ q = cc in
      let ep : p ≡ C.position = cc in
      let dr' : J.drops t q (interval a e) ≡ false = cc in
      let o_p = older_at (node s p) v n st.here o in
      let s_p : stamp_of (node s p) ≡ Some e = stamp_at (node s p) v st.here ∙ st.has in
      let s_n : stamp_of (node s n) ≡ Some a = stamp_at (node s n) z su.here ∙ su.has in
      let o_s = subst (λ j. older_of (node s j) ≡ Some n) ep o_p in
      let s_s = subst (λ j. stamp_of (node s j) ≡ Some e) ep s_p in
      let le : a ≤ e = Mo.falling 0 C.position e (inl position_linked) s_s n a o_s s_n in
      let uses : P → C.above + up_to t (Some e) ≤ at_least q a =
      λ served. kept_uses_stamp J places t q (T served) B.cutoff_ok B.scan_ok B.room a e C.above le dr' (C.stamps_enough served e s_s) in
      record {
        position = n;
        out = r;
        above = C.above + up_to t (Some e);
        op_is = ap (λ y. y.operation) (get_or-set_at s.workers u w (record { session = (worker s u).session; operation = walking y d k n r; clock_reading = None }) fresh i l) ∙ same y d k n r ex et eq;
        segment = goes_below C.segment position_linked o_s s_s;
        stamps_enough = λ served f j. let ef : a ≡ f = cc in subst (λ m. C.above + up_to t (Some e) ≤ at_least q m) ef (uses served);
      }
    where
      same : (y d : ℕ) (k : List ℕ) (n r : ℕ) → y ≡ x → d ≡ t → k ≡ q → walking y d k n r ≡ walking x t q n r
      same y d k n r ex et eq = cc

  drops_own : (u y d : ℕ) (k : List ℕ) (p r n : ℕ) (v z : Version V) → w ≡ u → u < length s.workers → (worker s u).operation ≡ walking y d k p r
      → version (node s p) ≡ Some v → v.older ≡ Some n → version (node s n) ≡ Some z
      → Walk (with_operation (taken_out s p n z) u (walking y d k p (suc r))) w h x t q P
  drops_own u y d k p r n v z i l operation hp o hn =
      let E = op_u u (walking y d k p r) i operation in
      let same : walking y d k p (suc r) ≡ walking x t q C.position (suc r) = cc in
      let ep : p ≡ C.position = cc in
      let lk : IsLinked (node s p) = subst (λ j. IsLinked (node s j)) (sym ep) position_linked in
      let sp = linked_is (node s p) v lk hp in
      let op' = ap older_of sp ∙ o in
      let nl = I.well_linked.down_linked p n lk op' in
      let sn = linked_is (node s n) z nl hn in
      let low = I.well_linked.rank_down 0 p n (inl lk) op' in
      let W : List Bool = map (λ (m : Worker). busy m.operation) s.workers in
      let mb : (k j : ℕ) → Marked k (node s j) → get_or W k false ≡ true = λ k j h. marks_of_busy s.workers k ∙ I.marks k j h in
      let M : List (Node V) = set (set s.nodes p (on_version (λ v. above v z.older) (node s p))) n (waiting z W) in
      let K : KeptAbove s.nodes M g x p =
      record {
        above_kept = λ j k c m. same_version s.nodes M j
            (get_or-set_other (set s.nodes p (on_version (λ v. above v z.older) (node s p))) n j _ free (λ i. let f = ap g.rank i in let b = low.0 in omega arith)
            ∙ get_or-set_other s.nodes p j _ free (λ i. let f = ap g.rank i in omega arith)) k;
        stamp_back = λ e k f. sym (stamp_dropped s.heads s.nodes g I.well_linked p n v z W sp o sn mb p) ∙ f;
      } in
      frame (with_operation (taken_out s p n z) u (walking y d k p (suc r))) (suc r)
      (ap (λ y. y.operation) (get_or-set_at s.workers u w (record { session = (worker s u).session; operation = walking y d k p (suc r); clock_reading = None }) fresh i l) ∙ same)
      (subst (λ j. KeptAbove s.nodes M g x j) ep K)

  -- what is left where it is done
  pub finished : (u y d : ℕ) (k : List ℕ) (p r e : ℕ) (v : Version V) → w ≡ u → (worker s u).operation ≡ walking y d k p r → StampedAt s p v e → v.older ≡ None
      → (vs : List (Version V)) × Down (ended s u) (Some h) vs × (P → stamped_up_to t vs ≤ length k + 1)
  finished u y d k p r e v i walks st o =
      let E = op_u u (walking y d k p r) i walks in
      let ep : p ≡ C.position = cc in
      let eq : q ≡ k = cc in
      let s_p : stamp_of (node s p) ≡ Some e = stamp_at (node s p) v st.here ∙ st.has in
      let s_s = subst (λ j. stamp_of (node s j) ≡ Some e) ep s_p in
      let lk : IsLinked (node s p) = subst (λ j. IsLinked (node s j)) (sym ep) position_linked in
      let o_s = subst (λ j. older_of (node s j) ≡ None) ep (ap older_of (linked_is (node s p) v lk st.here) ∙ o) in
      let same = ended_same s.nodes u C.position position_linked in
      let d = last_down {s = ended s u} t C.position (subst IsLinked (sym same) position_linked) (ap older_of same ∙ o_s) in
      let f = segment_down {s = ended s u} t h C.position C.above
      (segment_kept (map (unmark u) s.nodes) t h x C.position I.well_linked (kept_above_ended u).above_kept C.position C.above position_cell (omega arith) C.segment) d.0 d.1 in
      (f.0, f.1, λ served. let b = C.stamps_enough served e s_s in let n = at_least_le q e in let l = ap length eq in let z = d.2 in let m = f.2 in omega arith)

pub walk_next :
    {V : Type 0} {s : State V} {g : Ages} {w h x t : ℕ} {q : List ℕ} {P : Type 0} {c : Call V} {a : Answer V} {s' : State V} (places : ℕ) → Anchored s g → StampsFall s → Bounds t q places
    → (P → (J : Judge) → c ≡ CompactStep w J → Thorough places J) → Walk s w h x t q P → Transition s c a s' → Walk s' w h x t q P ⊎ (is_compacting (worker s' w).operation ≡ false)
walk_next n I Mo l T C (refuses nc) = inl C
walk_next n I Mo l T C (loses lo) = inl C
walk_next n I Mo l T C (notes {w = u} i e f) = inl (aside I C _ u _ i refl refl (same_nodes I C))
walk_next n I Mo l T C (publishes {w = u} i e) = inl (aside I C _ u _ i refl refl (same_nodes I C))
walk_next n I Mo l T C (opens {w = u} i e f) = inl (aside I C _ u _ i refl refl (same_nodes I C))
walk_next n I Mo l T C (starts_again {w = u} i e f) = inl (aside I C _ u _ i refl refl (same_nodes I C))
walk_next n I Mo l T C (closes {w = u} i e f) = inl (aside I C _ u _ i refl refl (same_nodes I C))
walk_next n I Mo l T C (read_begins {w = u} i k b e) = inl (beside I C _ u _ (not_idle I C u b) refl (same_nodes I C))
walk_next n I Mo l T C (write_begins {w = u} i k b) = inl (beside I C _ u _ (not_idle I C u b) refl (same_nodes I C))
walk_next n I Mo l T C (compaction_begins {w = u} i k b e) = inl (beside I C _ u _ (not_idle I C u b) refl (same_nodes I C))
walk_next n I Mo l T C (takes_reading {w = u} i pt th st he) = inl (aside I C _ u _ i refl refl (same_nodes I C))
walk_next {s} {g} {x = x} n I Mo l T C (gives_stamp {w = u} {n = m} {t = d} {v = v} i pt th st he) =
    inl (aside I C _ u _ i refl refl (kept_above_given s.nodes g x C.position m d (stamp_at (node s m) v th ∙ st)))
walk_next n I Mo l T C (reads {w = u} {x} {p} i e f st k) = inl (other_ends I C u (not_w I C u (reading x p) e (λ k. grind arith)))
walk_next n I Mo l T C (reads_on {w = u} {x} {p} i e f st k o) =
    inl (beside I C _ u _ (not_w I C u (reading x p) e (λ k. grind arith)) refl (same_nodes I C))
walk_next n I Mo l T C (looks {w = u} {x} {b} i e st) =
    inl (beside I C _ u _ (not_w I C u (write_begun x b) e (λ k. grind arith)) refl (same_nodes I C))
walk_next n I Mo l T C (links {w = u} {x} {b} {n = m} {a} i e k f) = inl (links_beside I C u x b m a e k f)
walk_next n I Mo l T C (overtakes {w = u} {x} {b} i e k) = inl (other_ends I C u (not_w I C u (write_looked x b) e (λ k. grind arith)))
walk_next n I Mo l T C (stamps {w = u} {x} {o} i e st) = inl (other_ends I C u (not_w I C u (write_linked x o) e (λ k. grind arith)))
walk_next {w = w} n I Mo l T C (abandons {w = u} i e) = ⊎_elim (λ k. inr (own_ends I C u k i)) (λ ne. inl (other_ends I C u ne)) (cases_eq w u)
walk_next n I Mo l T C (scans {w = u} {x} {t} {i = j} {q} i e k) =
    inl (beside I C _ u _ (not_w I C u (scanning x t j q) e (λ k. grind arith)) refl (same_nodes I C))
walk_next n I Mo l T C (takes_head {w = u} {x} {t} {i = j} {q} i e k) =
    inl (beside I C _ u _ (not_w I C u (scanning x t j q) e (λ k. grind arith)) refl (same_nodes I C))
walk_next {w = w} n I Mo l T C (keeps {w = u} {x = y} {t = d} {p} {r} {n = m} {a = b} {e = f} {q = k} {J = J} {v = v} {u = z} i e st o su dr) =
    inl (⊎_elim (λ j. keeps_own I C u y d k p r m b f n J v z j i e st o su dr Mo l (λ served. T served J (ap (λ y. CompactStep y J) (sym j))))
    (λ ne. beside I C _ u _ ne refl (same_nodes I C)) (cases_eq w u))
walk_next {w = w} n I Mo l T C (takes_out {w = u} {x = y} {t = d} {p} {r} {n = m} {q = k} {v = v} {u = z} i e st o su dr) =
    inl (⊎_elim (λ j. drops_own I C u y d k p r m v z j i e st.here o su.here)
    (λ ne. drops_beside I C u y d k p r m v z ne e st.here o) (cases_eq w u))
walk_next {w = w} n I Mo l T C (finishes {w = u} i e st o) = ⊎_elim (λ k. inr (own_ends I C u k i)) (λ ne. inl (other_ends I C u ne)) (cases_eq w u)
