-- Each step of a reader does a part of what it has to do, and no other step adds to it.
use Rattle.std.proofs.Common.{◌≡◌, ℕ, suc, ◌+◌, ◌<◌, ◌≤◌, true, false, cond, ◌⊎◌, List, map, length, get_or, set, Some, None, Option, sym, refl, ap, ◌∙◌, subst, inl, inr, ⊎_elim, arith}
use Rattle.laws.proofs.Frames.{set_either}
use Rattle.std.proofs.lemmas.Grind.{get_or-set_at}
use Rattle.std.proofs.lemmas.List.{get_or-set_other}
use Rattle.std.proofs.lemmas.Bool.{cases_eq, both_ways, eq-eqb, ne_eqb}
use Rattle.values.specs.declared.Refusal.{Refusal}
use Rattle.model.specs.Answers.{Answer, refused, again, granted, value}
use Rattle.model.specs.Calls.{Call, ReadStep, WriteOffer, Abandon, CompactStep}
use Rattle.model.specs.Changes.{with_operation, with_reading, stamped, on_version, stamp_given, taken_out, linked_above}
use Rattle.model.specs.Judging.{Judge}
use Rattle.model.specs.State.{Version, Node, Session, Operation, Worker, State, fresh, node, worker, head, version, busy, reading, write_begun, write_looked, write_linked, scanning, walking}
use Rattle.laws.specs.Patience.{is_own_step}
use Rattle.laws.proofs.CellLists.{WithStamp, older_of, stamp_of, KeptFor, node_in, Ages, older_at, stamp_at, linked_is, on_version_at}
use Rattle.laws.proofs.Depth.{Depth, last, more, steps_to_stamp, NoDeeper, no_deeper_refl, no_deeper_ended, no_deeper_given, no_deeper_linked, no_deeper_taken_out}
use Rattle.laws.proofs.References.{Anchored, anchor_at, marks_of_busy}
use Rattle.laws.proofs.SpareNodes.{Spare}
use Rattle.laws.proofs.Transitions.{Transition, WorksAt, by_read, by_look, by_stamp, by_compact, refuses, notes, publishes, opens, starts_again, closes, read_begins, write_begins, compaction_begins, takes_reading, gives_stamp, reads, reads_on, looks, links, overtakes, stamps, abandons, scans, takes_head, keeps, takes_out, finishes, Lost, loses}

-- w reads, and has at most k to do
pub record ToDo {V : Type 0} (s : State V) (w k : ℕ) : Type 0 where
  pub cell : ℕ
  pub position : ℕ
  pub depth : ℕ
  pub op_is : (worker s w).operation ≡ reading cell position
  pub depth_is : Depth s.nodes position depth
  pub all : depth + steps_to_stamp (stamp_of (node s position)) (worker s w).clock_reading ≤ k

abbrev pub ReadOver : {V : Type 0} → ℕ → Call V → Answer V → Type 0
ReadOver {V} w c a = ((v : V) × (c ≡ ReadStep w) × (a ≡ value v)) ⊎ ((c ≡ Abandon w) × (a ≡ granted))

-- 1 for a step of w's own, 0 for any other
abbrev pub own : {V : Type 0} → ℕ → Call V → Answer V → ℕ
own w c a = cond (is_own_step w (c, a)) 1 0

own_refused : {V : Type 0} (w : ℕ) (c : Call V) (r : Refusal) → own w c (refused r) ≡ 0
own_refused w c r = grind arith

pub record StillReading {V : Type 0} (s : State V) (w : ℕ) (c : Call V) (a : Answer V) (k : ℕ) : Type 0 where
  pub left : ℕ
  pub to_do : ToDo s w left
  pub pays : own w c a + left ≤ k

not_own : {V : Type 0} (w u : ℕ) (a : Answer V) → (w ≡ u → ⊥) → own w (ReadStep u) a ≡ 0
not_own w u a ne = let e = ne_eqb u w (λ e. ne (sym e)) in grind arith

works_other : {V : Type 0} {w u n : ℕ} {o : Operation} {c : Call V} → (w ≡ u → ⊥) → WorksAt u n o c → own w c again ≡ 0
works_other {V} {w} {u} ne by_read = not_own {V = V} w u again ne
works_other ne by_look = refl
works_other ne by_stamp = refl
works_other ne by_compact = refl

works_own : {V : Type 0} {u n x p : ℕ} {o : Operation} {c : Call V} → WorksAt u n o c → o ≡ reading x p → (n ≡ p) × (own u c again ≡ 1)
works_own {u} by_read e = (cc, let e = eq-eqb u u refl in grind arith)
works_own by_look e = grind arith
works_own by_stamp e = grind arith
works_own by_compact e = grind arith

module _ {V : Type 0} {s : State V} {g : Ages} {w k : ℕ} (I : Anchored s g) (P : ToDo s w k) where
  kept : KeptFor w (node s P.position)
  kept = anchor_at w (reading P.cell P.position) P.op_is I

  -- w does as before, over nodes that are softer
  frame : (s' : State V) → (worker s' w).operation ≡ (worker s w).operation → (worker s' w).clock_reading ≡ (worker s w).clock_reading → NoDeeper w s.nodes s'.nodes → ToDo s' w k
  frame s' e f x = grind arith

  -- the record of another changes, and the nodes get softer
  beside : (s' : State V) (u : ℕ) (r : Worker) (c : Call V) (a : Answer V) → (w ≡ u → ⊥) → worker s' w ≡ get_or (set s.workers u r) w fresh → own w c a ≡ 0
      → NoDeeper w s.nodes s'.nodes → StillReading s' w c a k
  beside s' u r c a ne e z S =
      let h = e ∙ get_or-set_other s.workers u w r fresh ne in
      record { left = k; to_do = frame s' (ap (λ y. y.operation) h) (ap (λ y. y.clock_reading) h) S; pays = omega arith }

  -- a record changes, maybe w's, in its session alone
  aside : (s' : State V) (u : ℕ) (q : Session) (c : Call V) (a : Answer V) → u < length s.workers
      → worker s' w ≡ get_or (set s.workers u (record { session = q; operation = (worker s u).operation; clock_reading = (worker s u).clock_reading })) w fresh → own w c a ≡ 0
      → s'.nodes ≡ s.nodes → StillReading s' w c a k
  aside s' u q c a l e z n =
      let R : Worker = record { session = q; operation = (worker s u).operation; clock_reading = (worker s u).clock_reading } in
      record {
        left = k;
        to_do =
            frame s'
            (ap (λ y. y.operation) e ∙ set_either s.workers u w R fresh (λ z. z.operation ≡ (worker s w).operation) (λ i. ap (λ j. (worker s j).operation) (sym i)) refl)
            (ap (λ y. y.clock_reading) e ∙ set_either s.workers u w R fresh (λ z. z.clock_reading ≡ (worker s w).clock_reading) (λ i. ap (λ j. (worker s j).clock_reading) (sym i)) refl)
            (subst (λ M. NoDeeper w s.nodes M) (sym n) (no_deeper_refl w s.nodes));
        pays = omega arith;
      }

  -- another operation than a read is not w's
  not_w : (u : ℕ) (o : Operation) → (worker s u).operation ≡ o → ((x p : ℕ) → o ≡ reading x p → ⊥) → w ≡ u → ⊥
  not_w u o e f i = f P.cell P.position (sym e ∙ ap (λ j. (worker s j).operation) (sym i) ∙ P.op_is)

  not_idle : (u : ℕ) → busy (worker s u).operation ≡ false → w ≡ u → ⊥
  not_idle u b i = both_ways true (sym (ap busy (ap (λ j. (worker s j).operation) (sym i) ∙ P.op_is)) ∙ b) refl

  -- w goes to another spot
  goes : (s' : State V) (c : Call V) (a : Answer V) (p d : ℕ) (h : Option ℕ) → (worker s' w).operation ≡ reading P.cell p → (worker s' w).clock_reading ≡ h
      → Depth s'.nodes p d → own w c a ≡ 1 → suc (d + steps_to_stamp (stamp_of (node s' p)) h) ≤ k → StillReading s' w c a k
  goes s' c a p d h e f D o l =
      record { left = d + steps_to_stamp (stamp_of (node s' p)) h; to_do = record { cell = P.cell; position = p; depth = d; op_is = e; depth_is = D; all = subst (λ y. d + steps_to_stamp (stamp_of (node s' p)) y ≤ d + steps_to_stamp (stamp_of (node s' p)) h) (sym f) (omega arith) }; pays = omega arith }

depth_below : {V : Type 0} {N : List (Node V)} {p d q : ℕ} → Depth N p d → older_of (node_in N p) ≡ Some q → (e : ℕ) × (suc e ≡ d) × Depth N q e
depth_below (last o) h = grind arith
depth_below {N} {q = q} (more {m = m} {d = e} o D) h = (e, refl, let i : m ≡ q = cc in subst (λ y. Depth N y e) i D)

none_to_stamp : {V : Type 0} (x : Node V) (h : Option ℕ) → WithStamp x → steps_to_stamp (stamp_of x) h ≡ 0
none_to_stamp x h f = grind arith

module _ {V : Type 0} {s : State V} {g : Ages} {w k : ℕ} (I : Anchored s g) (P : ToDo s w k) where
  -- w is the u whose record changes
  op_u : (u : ℕ) → w ≡ u → (worker s u).operation ≡ reading P.cell P.position
  op_u u i = ap (λ j. (worker s j).operation) (sym i) ∙ P.op_is

  takes_own :
      (u n : ℕ) (c : Call V) (v : Version V) → w ≡ u → u < length s.workers → WorksAt u n (worker s u).operation c → version (node s n) ≡ Some v → v.stamp ≡ None
      → (worker s u).clock_reading ≡ None → StillReading (with_reading s u s.clock) w c again k
  takes_own u n c v i l pt th st he =
      let q = works_own pt (op_u u i) in
      let h = get_or-set_at s.workers u w (record { session = (worker s u).session; operation = (worker s u).operation; clock_reading = Some s.clock }) fresh i l in
      let no_stamp : stamp_of (node s P.position) ≡ None = ap (λ j. stamp_of (node s j)) (sym q.0) ∙ stamp_at (node s n) v th ∙ st in
      let z1 = ap (λ y. steps_to_stamp y (worker s w).clock_reading) no_stamp in
      let z2 = ap (steps_to_stamp None) (ap (λ j. (worker s j).clock_reading) i ∙ he) in
      let z3 = ap (λ y. steps_to_stamp y (Some s.clock)) no_stamp in
      let a = P.all in
      goes I P _ c again P.position P.depth (Some s.clock) (ap (λ y. y.operation) h ∙ op_u u i) (ap (λ y. y.clock_reading) h) P.depth_is
      (subst (λ j. own j c again ≡ 1) (sym i) q.1) (omega arith)

  gives_own :
      (u n t : ℕ) (c : Call V) (v : Version V) → w ≡ u → u < length s.workers → WorksAt u n (worker s u).operation c → version (node s n) ≡ Some v → v.stamp ≡ None
      → (worker s u).clock_reading ≡ Some t → StillReading (stamp_given s u n t) w c again k
  gives_own u n t c v i l pt th st he =
      let q = works_own pt (op_u u i) in
      let M : List (Node V) = set s.nodes n (on_version (λ v. stamped v t) (node s n)) in
      let h = get_or-set_at s.workers u w (record { session = (worker s u).session; operation = (worker s u).operation; clock_reading = None }) fresh i l in
      let no_stamp : stamp_of (node s P.position) ≡ None = ap (λ j. stamp_of (node s j)) (sym q.0) ∙ stamp_at (node s n) v th ∙ st in
      let z1 = ap (λ y. steps_to_stamp y (worker s w).clock_reading) no_stamp in
      let z2 = ap (steps_to_stamp None) (ap (λ j. (worker s j).clock_reading) i ∙ he) in
      let now : stamp_of (node_in M P.position) ≡ Some t =
      ap (λ j. stamp_of (node_in M j)) (sym q.0) ∙ stamp_at (node_in M n) (stamped v t) (on_version_at (λ v. stamped v t) s.nodes n v th) in
      let z3 = ap (λ y. steps_to_stamp y None) now in
      let r = (no_deeper_given n t w I.well_linked).depth_is P.position P.depth (kept I P) P.depth_is in
      let a = P.all in
      goes I P _ c again P.position r.0 None (ap (λ y. y.operation) h ∙ op_u u i) (ap (λ y. y.clock_reading) h) r.2
      (subst (λ j. own j c again ≡ 1) (sym i) q.1) (omega arith)

  down_own :
      (u x p q : ℕ) (v : Version V) → w ≡ u → u < length s.workers → (worker s u).operation ≡ reading x p → version (node s p) ≡ Some v → v.older ≡ Some q
      → StillReading (with_operation s u (reading x q)) w (ReadStep u) again k
  down_own u x p q v i l e th o =
      let f = op_u u i in
      let ex : x ≡ P.cell = cc in
      let ep : p ≡ P.position = cc in
      let h = get_or-set_at s.workers u w (record { session = (worker s u).session; operation = reading x q; clock_reading = None }) fresh i l in
      let ol : older_of (node s P.position) ≡ Some q = ap (λ j. older_of (node s j)) (sym ep) ∙ older_at (node s p) v q th o in
      let r = depth_below P.depth_is ol in
      let z = none_to_stamp (node s q) None (I.well_linked.stamped_down w P.position q (kept I P) ol) in
      let a = P.all in
      goes I P _ (ReadStep u) again q r.0 None (ap (λ y. y.operation) h ∙ ap (λ y. reading y q) ex) (ap (λ y. y.clock_reading) h) r.2
      (let y = eq-eqb u w (sym i) in grind arith) (omega arith)

  links_beside : (u x b n m : ℕ) (a : V) → u < length s.workers → (worker s u).operation ≡ write_looked x b → head s x ≡ b → Spare s n
      → StillReading (with_operation (linked_above s x n b a) u (write_linked x n)) w (WriteOffer u a m) granted k
  links_beside u x b n m a l e hb fr =
      let y = anchor_at u (write_looked x b) e I in
      let ff = fr in
      beside I P _ u _ _ _ (not_w I P u (write_looked x b) e (λ x p h. grind arith)) refl refl
      (no_deeper_linked s.heads s.nodes g I.well_linked x n b a y.2 hb y.1 ff.0 ff.1 w)

  drops_beside : (u x t : ℕ) (q : List ℕ) (p r n : ℕ) (v y : Version V) (J : Judge) → u < length s.workers → (worker s u).operation ≡ walking x t q p r
      → version (node s p) ≡ Some v → v.older ≡ Some n → version (node s n) ≡ Some y
      → StillReading (with_operation (taken_out s p n y) u (walking x t q p (suc r))) w (CompactStep u J) again k
  drops_beside u x t q p r n v y J l e hp o hn =
      let z = anchor_at u (walking x t q p r) e I in
      let sp = linked_is (node s p) v z.0 hp in
      let nl = I.well_linked.down_linked p n z.0 (ap older_of sp ∙ o) in
      beside I P _ u _ _ _ (not_w I P u (walking x t q p r) e (λ x p h. grind arith)) refl refl
      (no_deeper_taken_out s.heads s.nodes g I.well_linked p n v y (map (λ (m : Worker). busy m.operation) s.workers) sp o (linked_is (node s n) y nl hn)
      (λ m j h. marks_of_busy s.workers m ∙ I.marks m j h) w)

pub does_its_part : {V : Type 0} {s : State V} {g : Ages} {w k : ℕ} {c : Call V} {a : Answer V} {s' : State V} → (Lost s → ⊥) → Anchored s g → ToDo s w k → Transition s c a s' → ReadOver w c a ⊎ StillReading s' w c a k
does_its_part {w} {k} nl I P (refuses {c} {r} nc) = inr (record { left = k; to_do = P; pays = omega (arith, own_refused w c r) })
does_its_part nl I P (loses lo) = absurd (nl lo)
does_its_part nl I P (notes {w = u} i e f) = inr (aside I P _ u _ _ _ i refl refl refl)
does_its_part nl I P (publishes {w = u} i e) = inr (aside I P _ u _ _ _ i refl refl refl)
does_its_part nl I P (opens {w = u} i e f) = inr (aside I P _ u _ _ _ i refl refl refl)
does_its_part nl I P (starts_again {w = u} i e f) = inr (aside I P _ u _ _ _ i refl refl refl)
does_its_part nl I P (closes {w = u} i e f) = inr (aside I P _ u _ _ _ i refl refl refl)
does_its_part {s} {w = w} nl I P (read_begins {w = u} i l b e) = inr (beside I P _ u _ _ _ (not_idle I P u b) refl refl (no_deeper_refl w s.nodes))
does_its_part {s} {w = w} nl I P (write_begins {w = u} i l b) = inr (beside I P _ u _ _ _ (not_idle I P u b) refl refl (no_deeper_refl w s.nodes))
does_its_part {s} {w = w} nl I P (compaction_begins {w = u} i l b e) = inr (beside I P _ u _ _ _ (not_idle I P u b) refl refl (no_deeper_refl w s.nodes))
does_its_part {s} {w = w} nl I P (takes_reading {w = u} {n} {c} {v} i pt th st he) =
    inr (⊎_elim (λ e. takes_own I P u n c v e i pt th st he) (λ ne. beside I P _ u _ _ _ ne refl (works_other ne pt) (no_deeper_refl w s.nodes)) (cases_eq w u))
does_its_part {s} {w = w} nl I P (gives_stamp {w = u} {n} {t} {c} {v} i pt th st he) =
    inr (⊎_elim (λ e. gives_own I P u n t c v e i pt th st he) (λ ne. beside I P _ u _ _ _ ne refl (works_other ne pt) (no_deeper_given n t w I.well_linked)) (cases_eq w u))
does_its_part {w = w} nl I P (reads {w = u} {v = v} i e f st l) =
    ⊎_elim (λ h. inl (inl (v.value, ap ReadStep (sym h), refl))) (λ ne. inr (beside I P _ u _ _ _ ne refl (not_own w u (value v.value) ne) (no_deeper_ended u w I.well_linked ne))) (cases_eq w u)
does_its_part {V} {s} {w = w} nl I P (reads_on {w = u} {x} {p} {q = q} {v = v} i e f st l o) =
    inr (⊎_elim (λ h. down_own I P u x p q v h i e st.here o) (λ ne. beside I P _ u _ _ _ ne refl (not_own {V = V} w u again ne) (no_deeper_refl w s.nodes)) (cases_eq w u))
does_its_part {s} {w = w} nl I P (looks {w = u} {x} {b} i e st) =
    inr (beside I P _ u _ _ _ (not_w I P u (write_begun x b) e (λ x p h. grind arith)) refl refl (no_deeper_refl w s.nodes))
does_its_part nl I P (links {w = u} {x} {b} {n} {m} {a} i e h f) = inr (links_beside I P u x b n m a i e h f)
does_its_part {w = w} nl I P (overtakes {w = u} {x} {b} i e h) =
    let ne = not_w I P u (write_looked x b) e (λ x p h. grind arith) in
    inr (beside I P _ u _ _ _ ne refl refl (no_deeper_ended u w I.well_linked ne))
does_its_part {w = w} nl I P (stamps {w = u} {x} {o} i e st) =
    let ne = not_w I P u (write_linked x o) e (λ x p h. grind arith) in
    inr (beside I P _ u _ _ _ ne refl refl (no_deeper_ended u w I.well_linked ne))
does_its_part {w = w} nl I P (abandons {w = u} i e) =
    ⊎_elim (λ h. inl (inr (ap Abandon (sym h), refl))) (λ ne. inr (beside I P _ u _ _ _ ne refl refl (no_deeper_ended u w I.well_linked ne))) (cases_eq w u)
does_its_part {s} {w = w} nl I P (scans {w = u} {x} {t} {i = j} {q} i e l) =
    inr (beside I P _ u _ _ _ (not_w I P u (scanning x t j q) e (λ x p h. grind arith)) refl refl (no_deeper_refl w s.nodes))
does_its_part {s} {w = w} nl I P (takes_head {w = u} {x} {t} {i = j} {q} i e l) =
    inr (beside I P _ u _ _ _ (not_w I P u (scanning x t j q) e (λ x p h. grind arith)) refl refl (no_deeper_refl w s.nodes))
does_its_part {s} {w = w} nl I P (keeps {w = u} {x} {t} {p} {r} {q = q} i e st o su d) =
    inr (beside I P _ u _ _ _ (not_w I P u (walking x t q p r) e (λ x p h. grind arith)) refl refl (no_deeper_refl w s.nodes))
does_its_part nl I P (takes_out {w = u} {x} {t} {p} {r} {n} {q = q} {J = J} {v = v} {u = y} i e st o su d) =
    inr (drops_beside I P u x t q p r n v y J i e st.here o su.here)
does_its_part {w = w} nl I P (finishes {w = u} {x} {t} {p} {r} {q = q} i e st o) =
    let ne = not_w I P u (walking x t q p r) e (λ x p h. grind arith) in
    inr (beside I P _ u _ _ _ ne refl refl (no_deeper_ended u w I.well_linked ne))
