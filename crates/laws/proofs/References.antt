-- What an operation refers to is kept for its worker.
use Rattle.std.proofs.Common.{◌≡◌, ℕ, zero, suc, ◌<◌, Bool, true, false, List, [], ◌∷◌, map, length, get_or, set, Some, sym, refl, ap, ◌∙◌, subst, inl, arith}
use Rattle.std.proofs.Math.ListN.{get_or-map}
use Rattle.std.proofs.lemmas.List.{length-set}
use Rattle.std.proofs.lemmas.Bool.{eqb-true, both_ways, or_parts, eq-eqb}
use Rattle.model.specs.Answers.{Answer}
use Rattle.model.specs.Calls.{Call}
use Rattle.model.specs.Changes.{with_worker, with_operation, with_nodes, stamped, on_version, ended, taken_out, linked_above, unmark}
use Rattle.model.specs.State.{Version, Node, Operation, Worker, State, fresh, node, worker, head, version, busy, compacts, any, free, linked, opened, idle, reading, write_begun, write_looked, write_linked, scanning, walking}
use Rattle.laws.specs.Conservation.{stands_at}
use Rattle.laws.proofs.CellLists.{IsLinked, Marked, WithStamp, older_of, KeptFor, node_in, Ages, WellLinked, SameLinks, same_links_given, same_links_set, well_linked_same, MarkTakenOff, unmark_takes_off, well_linked_unmarked, with_newest, older_at, with_stamp_at, linked_is, kept_forth, kept_after_end}
use Rattle.laws.proofs.Frames.{set_both, map_each}
use Rattle.laws.proofs.Linking.{well_linked_above, kept_linked, stamp_linked, on_linked, cell_linked, marked_linked, new_linked}
use Rattle.laws.proofs.SpareNodes.{Spare}
use Rattle.laws.proofs.TakingOut.{well_linked_without, kept_dropped, stamp_left, on_dropped, marked_dropped}
use Rattle.laws.proofs.Transitions.{Transition, refuses, notes, publishes, opens, starts_again, closes, read_begins, write_begins, compaction_begins, takes_reading, gives_stamp, reads, reads_on, looks, links, overtakes, stamps, abandons, scans, takes_head, keeps, takes_out, finishes, loses}

-- what an operation of u refers to is there
abbrev pub Anchor : {V : Type 0} → List ℕ → List (Node V) → Ages → ℕ → Operation → Type 0
Anchor H N g u idle = Unit {0}
Anchor H N g u (reading x p) = KeptFor u (node_in N p)
Anchor H N g u (write_begun x b) = KeptFor u (node_in N b) × (x < length H)
Anchor H N g u (write_looked x b) = KeptFor u (node_in N b) × WithStamp (node_in N b) × (x < length H)
Anchor H N g u (write_linked x o) = KeptFor u (node_in N o)
Anchor H N g u (scanning x t i q) = x < length H
Anchor H N g u (walking x t q p r) = IsLinked (node_in N p) × (g.cell p ≡ x)

-- all but w
pub record AllBut {V : Type 0} (s : State V) (w : ℕ) (g : Ages) : Type 0 where
  pub well_linked : WellLinked s.heads s.nodes g
  pub marks : (u j : ℕ) → (u ≡ w → ⊥) → Marked u (node s j) → busy (worker s u).operation ≡ true
  pub anchors : (u : ℕ) → (u ≡ w → ⊥) → Anchor s.heads s.nodes g u (worker s u).operation
  pub alone :
      (u k x : ℕ) → (u ≡ w → ⊥) → (k ≡ w → ⊥) → compacts x (worker s u).operation ≡ true → compacts x (worker s k).operation ≡ true → u ≡ k

pub record Anchored {V : Type 0} (s : State V) (g : Ages) : Type 0 where
  pub well_linked : WellLinked s.heads s.nodes g
  pub marks : (u j : ℕ) → Marked u (node s j) → busy (worker s u).operation ≡ true
  pub anchors : (u : ℕ) → Anchor s.heads s.nodes g u (worker s u).operation
  pub alone : (u k x : ℕ) → compacts x (worker s u).operation ≡ true → compacts x (worker s k).operation ≡ true → u ≡ k

pub all_others : {V : Type 0} {s : State V} {g : Ages} (w : ℕ) → Anchored s g → AllBut s w g
all_others w x = grind arith

-- w's part joined to the others'
pub join_worker :
    {V : Type 0} {s : State V} {g : Ages} (w : ℕ) (r : Worker) → AllBut s w g → w < length s.workers → Anchor s.heads s.nodes g w r.operation
    → ((j : ℕ) → Marked w (node s j) → busy r.operation ≡ true)
    → ((u x : ℕ) → (u ≡ w → ⊥) → compacts x r.operation ≡ true → compacts x (worker s u).operation ≡ true → ⊥) → Anchored (with_worker s w r) g
join_worker {s} {g} w r O l rf mk al =
    record {
      well_linked = O.well_linked;
      marks = λ u j m. set_both s.workers w u r fresh (λ z. busy z.operation ≡ true) l (λ e. mk j (subst (λ k. Marked k (node s j)) e m)) (λ n. O.marks u j n m);
      anchors = λ u. set_both s.workers w u r fresh (λ z. Anchor s.heads s.nodes g u z.operation) l
          (λ e. subst (λ k. Anchor s.heads s.nodes g k r.operation) (sym e) rf) (O.anchors u);
      alone = λ u k x. set_both s.workers w u r fresh (λ z. compacts x z.operation ≡ true → compacts x (get_or (set s.workers w r) k fresh).operation ≡ true → u ≡ k) l
          (λ e a. set_both s.workers w k r fresh (λ z. compacts x z.operation ≡ true → u ≡ k) l (λ f b. e ∙ sym f) (λ n b. absurd (al k x n a b)))
          (λ n a. set_both s.workers w k r fresh (λ z. compacts x z.operation ≡ true → u ≡ k) l (λ f b. absurd (al u x n b a)) (λ m b. O.alone u k x n m a b));
    }

-- references outlive a change of the nodes that keeps what u keeps
anchor_kept :
    {V : Type 0} (H K : List ℕ) (N M : List (Node V)) (g h : Ages) (u : ℕ) (o : Operation) → (busy o ≡ true → (j : ℕ) → KeptFor u (node_in N j) → KeptFor u (node_in M j))
    → ((j : ℕ) → KeptFor u (node_in N j) → WithStamp (node_in N j) → WithStamp (node_in M j))
    → ((x p : ℕ) → compacts x o ≡ true → IsLinked (node_in N p) → g.cell p ≡ x → IsLinked (node_in M p) × (h.cell p ≡ x))
    → ((z : ℕ) → z < length H → z < length K) → Anchor H N g u o → Anchor K M h u o
anchor_kept x o y p g h u q k f l z r = grind arith

pub marks_of_busy : (W : List Worker) (u : ℕ) → get_or (map (λ (r : Worker). busy r.operation) W) u false ≡ busy (get_or W u fresh).operation
marks_of_busy W u = get_or-map (λ (r : Worker). busy r.operation) W u fresh

no_other : (x : ℕ) (W : List Worker) → any (λ r. compacts x r.operation) W ≡ false → (u : ℕ) → compacts x (get_or W u fresh).operation ≡ true → ⊥
no_other x [] e u h = both_ways false refl h
no_other x (r ∷ W) e zero h = both_ways (compacts x r.operation) (or_parts (compacts x r.operation) (any (λ r. compacts x r.operation) W) e).0 h
no_other x (r ∷ W) e (suc u) h = no_other x W (or_parts (compacts x r.operation) (any (λ r. compacts x r.operation) W) e).1 u h

unmarked_none : {V : Type 0} (N : List (Node V)) (w j : ℕ) → Marked w (node_in (map (unmark w) N) j) → ⊥
unmarked_none N w j m = map_each (unmark w) N j free (λ y. Marked w y → ⊥) (λ h. ((unmark_takes_off w (node_in N j)).marked_back w h).1 refl) m

module _ {V : Type 0} {s : State V} {g : Ages} where
  anchored_given : (n t : ℕ) → Anchored s g → Anchored (with_nodes s (set s.nodes n (on_version (λ v. stamped v t) (node s n)))) g
  anchored_given n t I =
      record {
        well_linked = well_linked_same A I.well_linked;
        marks = λ u j m. I.marks u j ((A j).marked_back u m);
        anchors = λ u. anchor_kept _ _ s.nodes _ g g u (worker s u).operation (λ b j. kept_forth (A j) u) (λ j k f. (A j).stamp_on f) (λ x p c h e. ((A p).on h, e)) (λ z l. l) (I.anchors u);
        alone = I.alone;
      }
    where
      A : (j : ℕ) → SameLinks (node s j) (get_or (set s.nodes n (on_version (λ v. stamped v t) (node s n))) j free)
      A = same_links_set s.nodes n _ (same_links_given t (node s n))

  all_others_ended : (w : ℕ) → AllBut s w g → AllBut (with_nodes s (map (unmark w) s.nodes)) w g
  all_others_ended w O =
      record {
        well_linked = well_linked_unmarked w A O.well_linked;
        marks = λ u j ne m. O.marks u j ne ((A j).marked_back u m).0;
        anchors = λ u ne. anchor_kept _ _ s.nodes _ g g u (worker s u).operation (λ b j. kept_after_end (A j) u ne) (λ j k f. (A j).stamp_on u (kept_after_end (A j) u ne k) f) (λ x p c h e. ((A p).on h, e)) (λ z l. l) (O.anchors u ne);
        alone = O.alone;
      }
    where
      A : (j : ℕ) → MarkTakenOff w (node s j) (get_or (map (unmark w) s.nodes) j free)
      A j = map_each (unmark w) s.nodes j free (λ y. MarkTakenOff w (node s j) y) (unmark_takes_off w (node s j))

  anchored_ended : (w : ℕ) → Anchored s g → w < length s.workers → Anchored (ended s w) g
  anchored_ended w I l =
      join_worker w _ (all_others_ended w (all_others w I)) l tt (λ j m. absurd (unmarked_none s.nodes w j m)) (λ u x n a b. both_ways false refl a)

  -- only w's record changes, and what it does stays
  anchored_same : (w : ℕ) (r : Worker) → r.operation ≡ (worker s w).operation → Anchored s g → w < length s.workers → Anchored (with_worker s w r) g
  anchored_same w r e I l =
      join_worker w r (all_others w I) l (subst (Anchor s.heads s.nodes g w) (sym e) (I.anchors w))
      (λ j m. subst (λ o. busy o ≡ true) (sym e) (I.marks w j m))
      (λ u x n a b. n (I.alone u w x b (subst (λ o. compacts x o ≡ true) e a)))

  -- w goes on to o, in the same cell if it compacts
  anchored_operation : (w : ℕ) (o : Operation) → Anchored s g → w < length s.workers → Anchor s.heads s.nodes g w o → busy o ≡ true
      → ((x : ℕ) → compacts x o ≡ true → compacts x (worker s w).operation ≡ true) → Anchored (with_operation s w o) g
  anchored_operation w o I l rf b c = join_worker w _ (all_others w I) l rf (λ j m. b) (λ u x n a d. n (I.alone u w x d (c x a)))

  pub anchor_at : (w : ℕ) (o : Operation) → (worker s w).operation ≡ o → Anchored s g → Anchor s.heads s.nodes g w o
  anchor_at w o e I = subst (Anchor s.heads s.nodes g w) e (I.anchors w)

  anchored_linked : (w x b n : ℕ) (a : V) → Anchored s g → w < length s.workers → (worker s w).operation ≡ write_looked x b → head s x ≡ b → Spare s n
      → Anchored (with_operation (linked_above s x n b a) w (write_linked x n)) (with_newest g x n)
  anchored_linked w x b n a I l e hb fr =
      join_worker w _
      (record {
        well_linked = well_linked_above s.heads s.nodes g I.well_linked x n b a lx hb fb ff.0 ff.1;
        marks = λ u j ne m. I.marks u j (marked_linked s.heads s.nodes g I.well_linked x n b a lx hb fb ff.0 ff.1 u j m);
        anchors = λ u ne. anchor_kept s.heads (set s.heads x n) s.nodes _ g (with_newest g x n) u (worker s u).operation (λ d. kept_linked s.heads s.nodes g I.well_linked x n b a lx hb fb ff.0 ff.1 u)
            (stamp_linked s.heads s.nodes g I.well_linked x n b a lx hb fb ff.0 ff.1 u)
            (λ z p c h q. (
              on_linked s.heads s.nodes g I.well_linked x n b a lx hb fb ff.0 ff.1 p h,
              cell_linked s.heads s.nodes g I.well_linked x n b a lx hb fb ff.0 ff.1 p h ∙ q,
            ))
            (λ z k. rw length-set k) (I.anchors u);
        alone = λ u k z p q. I.alone u k z;
      })
      l (inl (new_linked s.heads s.nodes g I.well_linked x n b a lx hb fb ff.0 ff.1)) (λ j m. refl) (λ u z p q r. both_ways false refl q)
    where
      at_b : Anchor s.heads s.nodes g w (write_looked x b)
      at_b = anchor_at w (write_looked x b) e I

      fb : WithStamp (node s b)
      fb = at_b.1

      lx : x < length s.heads
      lx = at_b.2

      ff : (n < length s.nodes) × (node s n ≡ free)
      ff = fr

  anchored_taken_out : (w x t : ℕ) (q : List ℕ) (p r n : ℕ) (v u : Version V) → Anchored s g → w < length s.workers → (worker s w).operation ≡ walking x t q p r
      → version (node s p) ≡ Some v → v.older ≡ Some n → version (node s n) ≡ Some u → Anchored (with_operation (taken_out s p n u) w (walking x t q p (suc r))) g
  anchored_taken_out w x t q p r n v u I l e hp o hn =
      join_worker w _
      (record {
        well_linked = well_linked_without s.heads s.nodes g I.well_linked p n v u B sp o sn mb;
        marks = λ k j ne m. sym (marks_of_busy s.workers k) ∙ marked_dropped s.heads s.nodes g I.well_linked p n v u B sp o sn mb k j m;
        anchors = λ k ne. anchor_kept _ _ s.nodes _ g g k (worker s k).operation
            (λ d j. kept_dropped s.heads s.nodes g I.well_linked p n v u B sp o sn mb k j (marks_of_busy s.workers k ∙ d))
            (λ j h. stamp_left s.heads s.nodes g I.well_linked p n v u B sp o sn mb j)
            (λ z j c h f. (
              on_dropped s.heads s.nodes g I.well_linked p n v u B sp o sn mb j h
                  (λ d. ne (I.alone k w z c (subst (λ y. compacts z y ≡ true) (sym e) (eq-eqb x z (sym at_p.1 ∙ sym low.1 ∙ sym (ap g.cell d) ∙ f))))),
              f,
            ))
            (λ z h. h) (I.anchors k);
        alone = λ k j z a b. I.alone k j z;
      })
      l (on_dropped s.heads s.nodes g I.well_linked p n v u B sp o sn mb p at_p.0 (λ d. let f = ap g.rank d in let y = low in omega arith), at_p.1)
      (λ j m. refl) (λ k z ne a b. ne (I.alone k w z b (subst (λ y. compacts z y ≡ true) (sym e) a)))
    where
      at_p : Anchor s.heads s.nodes g w (walking x t q p r)
      at_p = anchor_at w (walking x t q p r) e I

      B : List Bool
      B = map (λ (y : Worker). busy y.operation) s.workers

      sp : node s p ≡ linked v
      sp = linked_is (node s p) v at_p.0 hp

      n_linked : IsLinked (node s n)
      n_linked = I.well_linked.down_linked p n at_p.0 (ap older_of sp ∙ o)

      sn : node s n ≡ linked u
      sn = linked_is (node s n) u n_linked hn

      mb : (k j : ℕ) → Marked k (node s j) → get_or B k false ≡ true
      mb k j m = marks_of_busy s.workers k ∙ I.marks k j m

      low : (g.rank n < g.rank p) × (g.cell n ≡ g.cell p)
      low = I.well_linked.rank_down 0 p n (inl at_p.0) (ap older_of sp ∙ o)

pub anchored_next : {V : Type 0} {s : State V} {g : Ages} {c : Call V} {a : Answer V} {s' : State V} → Anchored s g → Transition s c a s' → (h : Ages) × Anchored s' h
anchored_next {g} I (refuses nc) = (g, I)
anchored_next {g} I (loses lo) = (g, I)
anchored_next {s} {g} I (notes {w} i e f) = (g, anchored_same w _ refl I i)
anchored_next {s} {g} I (publishes {w} {c} i e) = (g, anchored_same w _ refl I i)
anchored_next {s} {g} I (opens {w} {c} i e f) =
    let J = anchored_same w (record { session = opened c; operation = (worker s w).operation; clock_reading = (worker s w).clock_reading }) refl I i in
    (g, record { well_linked = J.well_linked; marks = J.marks; anchors = J.anchors; alone = J.alone })
anchored_next {s} {g} I (starts_again {w} i e f) = (g, anchored_same w _ refl I i)
anchored_next {s} {g} I (closes {w} i e f) = (g, anchored_same w _ refl I i)
anchored_next {s} {g} I (read_begins {w} {x} i l b e) = (g, anchored_operation w _ I i (inl (I.well_linked.head_linked x l)) refl (λ y h. absurd (both_ways false refl h)))
anchored_next {s} {g} I (write_begins {w} {x} i l b) = (g, anchored_operation w _ I i (inl (I.well_linked.head_linked x l), l) refl (λ y h. absurd (both_ways false refl h)))
anchored_next {s} {g} I (compaction_begins {w} {x} i l b e) =
    (g, join_worker w _ (all_others w I) i l (λ j m. refl) (λ u y n a d. no_other x s.workers e u (subst (λ z. compacts z (worker s u).operation ≡ true) (sym (eqb-true x y a)) d)))
anchored_next {s} {g} I (takes_reading {w} i pt th st he) = (g, anchored_same w _ refl I i)
anchored_next {s} {g} I (gives_stamp {w} {n} {t} i pt th st he) = (g, anchored_same w _ refl (anchored_given n t I) i)
anchored_next {s} {g} I (reads {w} i e f st l) = (g, anchored_ended w I i)
anchored_next {s} {g} I (reads_on {w} {x} {p} {q = q} {v = v} i e f st l h) =
    (g, anchored_operation w (reading x q) I i (I.well_linked.kept_down w p q (anchor_at w (reading x p) e I) (older_at (node s p) v q st.here h)) refl (λ y k. absurd (both_ways false refl k)))
anchored_next {s} {g} I (looks {w} {x} {b} {t} {v} i e st) =
    let r = anchor_at w (write_begun x b) e I in
    (g, anchored_operation w (write_looked x b) I i (r.0, with_stamp_at (node s b) v t st.here st.has, r.1) refl (λ y k. absurd (both_ways false refl k)))
anchored_next {s} {g} I (links {w} {x} {b} {n} {a} i e h f) = (with_newest g x n, anchored_linked w x b n a I i e h f)
anchored_next {s} {g} I (overtakes {w} i e h) = (g, anchored_ended w I i)
anchored_next {s} {g} I (stamps {w} i e st) = (g, anchored_ended w I i)
anchored_next {s} {g} I (abandons {w} i e) = (g, anchored_ended w I i)
anchored_next {s} {g} I (scans {w} {x} {t} {i = j} {q} i e l) =
    (g, anchored_operation w _ I i (anchor_at w (scanning x t j q) e I) refl (λ y k. subst (λ o. compacts y o ≡ true) (sym e) k))
anchored_next {s} {g} I (takes_head {w} {x} {t} {i = j} {q} i e l) =
    let l' = anchor_at w (scanning x t j q) e I in
    (g, anchored_operation w (walking x t q (head s x) 0) I i (I.well_linked.head_linked x l', I.well_linked.head_cell x l') refl (λ y k. subst (λ o. compacts y o ≡ true) (sym e) k))
anchored_next {s} {g} I (keeps {w} {x} {t} {p} {r} {n} {q = q} {v = v} i e st o su d) =
    let y = anchor_at w (walking x t q p r) e I in
    let z = older_at (node s p) v n st.here o in (
      g,
      anchored_operation w (walking x t q n r) I i (I.well_linked.down_linked p n y.0 z, (I.well_linked.rank_down 0 p n (inl y.0) z).1 ∙ y.1) refl
          (λ y k. subst (λ o. compacts y o ≡ true) (sym e) k),
    )
anchored_next {s} {g} I (takes_out {w} {x} {t} {p} {r} {n} {q = q} {v = v} {u = u} i e st o su d) = (g, anchored_taken_out w x t q p r n v u I i e st.here o su.here)
anchored_next {s} {g} I (finishes {w} i e st o) = (g, anchored_ended w I i)

-- what an operation stands at is kept for its worker
pub stands_kept : {V : Type 0} (H : List ℕ) (N : List (Node V)) (g : Ages) (u n : ℕ) (o : Operation) → Anchor H N g u o → stands_at o ≡ Some n → KeptFor u (node_in N n)
stands_kept x o g u n y r e = grind arith
