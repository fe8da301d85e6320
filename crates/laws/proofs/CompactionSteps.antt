-- What a step makes of worker w's compaction: it begins, one of its own steps goes on with it, it is over, or the step
-- is none of its own. By each own step the linked nodes become fewer by as many as it took out.
use Rattle.std.proofs.Common.{◌≡◌, ℕ, suc, ◌+◌, ◌<◌, ◌≤◌, Bool, false, ◌⊎◌, List, [], length, get_or, set, Some, count_by, sym, refl, ap, ◌∙◌, subst, inl, ⊎_elim, arith}
use Rattle.std.proofs.lemmas.List.{length-set, get_or-set_other}
use Rattle.std.proofs.lemmas.List.Sums.{sum_by-set}
use Rattle.std.proofs.lemmas.Bool.{ne_eqb}
use Rattle.model.specs.Answers.{Answer, granted}
use Rattle.model.specs.Calls.{Call, CompactBegin, CompactStep}
use Rattle.model.specs.Changes.{stamped, above, on_version}
use Rattle.model.specs.Compactions.{scanned}
use Rattle.model.specs.Judging.{Judge}
use Rattle.model.specs.Making.{is_linked}
use Rattle.model.specs.State.{Version, Node, Operation, Worker, State, fresh, node, worker, head, version, slot, free, linked, waiting, scanning, walking}
use Rattle.laws.specs.Space.{is_compact_step}
use Rattle.laws.proofs.CellLists.{Ages, linked_is, linked_in, older_at, version_in_table}
use Rattle.laws.proofs.Frames.{set_both}
use Rattle.laws.proofs.References.{Anchored, anchor_at}
use Rattle.laws.proofs.Transitions.{in_course, Transition, WorksAt, Lost, is_compacting, by_read, by_look, by_stamp, by_compact, refuses, loses, notes, publishes, opens, starts_again, closes, read_begins, write_begins, compaction_begins, takes_reading, gives_stamp, reads, reads_on, looks, links, overtakes, stamps, abandons, scans, takes_head, keeps, takes_out, finishes}

abbrev pub linked_nodes : {V : Type 0} → State V → ℕ
linked_nodes s = count_by is_linked s.nodes

-- the call is no begin of w that was granted
abbrev pub NoBegin : {V : Type 0} → ℕ → Call V → Answer V → Type 0
NoBegin w c a = (y : ℕ) → c ≡ CompactBegin w y → a ≡ granted → ⊥

pub data CompactionStep {V : Type 0} (s : State V) (w : ℕ) (c : Call V) (a : Answer V) (s' : State V) : Operation → Type 0 where
  -- w does not compact afterwards
  is_over : {o : Operation} → is_compacting o ≡ false → CompactionStep s w c a s' o
  begins : {x : ℕ} → c ≡ CompactBegin w x → a ≡ granted → CompactionStep s w c a s' (scanning x s.clock 0 [])
  not_own : is_compact_step w c ≡ false → NoBegin w c a → CompactionStep s w c a s' (worker s w).operation
  reads_slot :
      {x t i : ℕ} {q : List ℕ} {J : Judge} → c ≡ CompactStep w J → (worker s w).operation ≡ scanning x t i q → i < length s.workers → s'.nodes ≡ s.nodes
      → CompactionStep s w c a s' (scanning x t (suc i) (scanned (slot (worker s i).session) q))
  took_head :
      {x t i : ℕ} {q : List ℕ} {J : Judge} → c ≡ CompactStep w J → (worker s w).operation ≡ scanning x t i q → length s.workers ≤ i → s'.nodes ≡ s.nodes
      → CompactionStep s w c a s' (walking x t q (head s x) 0)
  walks :
      {x t p r n m : ℕ} {q : List ℕ} {J : Judge} (out : ℕ) → c ≡ CompactStep w J → (worker s w).operation ≡ walking x t q p r
      → linked_nodes s ≡ linked_nodes s' + out → m ≡ r + out → CompactionStep s w c a s' (walking x t q n m)

-- a node replaced by one that is linked if it was
linked_same : {V : Type 0} (N : List (Node V)) (n : ℕ) (y : Node V) → n < length N → is_linked y ≡ is_linked (get_or N n free) → count_by is_linked N ≡ count_by is_linked (set N n y)
linked_same x n y l e = grind (arith, sum_by-set)

given_linked : {V : Type 0} (f : Version V → Version V) (x : Node V) → is_linked (on_version f x) ≡ is_linked x
given_linked f x = grind arith

-- a linked node that waits: one linked node less
one_less : {V : Type 0} (N : List (Node V)) (n : ℕ) (u v : Version V) (ms : List Bool) → n < length N → get_or N n free ≡ linked u
    → count_by is_linked N ≡ count_by is_linked (set N n (waiting v ms)) + 1
one_less x n u v ms l e = grind (arith, sum_by-set)

module _ {V : Type 0} {s : State V} (w u : ℕ) (c : Call V) (a : Answer V) (s' : State V) (R : Worker) (l : u < length s.workers) where
  -- u's record changes
  step_by : ((w ≡ u → ⊥) → is_compact_step w c ≡ false) → ((w ≡ u → ⊥) → NoBegin w c a) → (w ≡ u → CompactionStep s w c a s' R.operation)
      → CompactionStep s w c a s' (get_or (set s.workers u R) w fresh).operation
  step_by n b f = set_both s.workers u w R fresh (λ z. CompactionStep s w c a s' z.operation) l f (λ ne. not_own (n ne) (b ne))

  -- .. and not its operation
  step_same : is_compact_step w c ≡ false → NoBegin w c a → R.operation ≡ (worker s u).operation → CompactionStep s w c a s' (get_or (set s.workers u R) w fresh).operation
  step_same n b e =
      step_by (λ ne. n) (λ ne. b) (λ i. subst (CompactionStep s w c a s') (ap (λ j. (worker s j).operation) i ∙ sym e) (not_own n b))

-- the stamping rule in a step of u
module _ {V : Type 0} {s : State V} (w u : ℕ) (s' : State V) (R : Worker) (l : u < length s.workers) where
  step_stamping : {n : ℕ} {c : Call V} {a : Answer V} {o : Operation} → WorksAt u n o c → (worker s u).operation ≡ o → (a ≡ granted → ⊥) → R.operation ≡ o → linked_nodes s ≡ linked_nodes s'
      → CompactionStep s w c a s' (get_or (set s.workers u R) w fresh).operation
  step_stamping {c = c} {a = a} by_read e n f k = step_same w u c a s' R l refl (λ y p q. n q) (f ∙ sym e)
  step_stamping {c = c} {a = a} by_look e n f k = step_same w u c a s' R l refl (λ y p q. n q) (f ∙ sym e)
  step_stamping {c = c} {a = a} by_stamp e n f k = step_same w u c a s' R l refl (λ y p q. n q) (f ∙ sym e)
  step_stamping {n = n} {c = c} {a = a} (by_compact {x} {t} {r} {q} {J}) e ng f k =
      step_by w u c a s' R l (λ ne. ne_eqb u w (λ i. ne (sym i))) (λ ne y p. grind arith)
      (λ i. subst (CompactionStep s w c a s') (sym f)
      (walks {p = n} {r = r} 0 (ap (λ y. CompactStep y J) (sym i)) (ap (λ j. (worker s j).operation) i ∙ e) (omega arith) (omega arith)))

-- a refused step of w's own: w does not compact
refused_step : {V : Type 0} (s : State V) (w : ℕ) (c : Call V) → in_course s c ≡ false → (is_compact_step w c ≡ false) ⊎ (is_compacting (worker s w).operation ≡ false)
refused_step s w x e = grind arith

-- a version is taken out
out_fewer :
    {V : Type 0} {s : State V} {g : Ages} → Anchored s g → (u x t : ℕ) (q : List ℕ) (p r n : ℕ) (v z : Version V) (ms : List Bool) → (worker s u).operation ≡ walking x t q p r
    → version (node s p) ≡ Some v → v.older ≡ Some n → version (node s n) ≡ Some z
    → linked_nodes s ≡ count_by is_linked (set (set s.nodes p (on_version (λ v. above v z.older) (node s p))) n (waiting z ms)) + 1
out_fewer {V} {s} {g} I u x t q p r n v z ms e hp o hn =
    let on_p = (anchor_at u (walking x t q p r) e I).0 in
    let below_p = older_at (node s p) v n hp o in
    let on_n = I.well_linked.down_linked p n on_p below_p in
    let low = (I.well_linked.rank_down 0 p n (inl on_p) below_p).0 in
    let N : List (Node V) = set s.nodes p (on_version (λ v. above v z.older) (node s p)) in
    let a = linked_same s.nodes p _ (linked_in s.nodes p on_p) (given_linked (λ v. above v z.older) (node s p)) in
    let same : get_or N n free ≡ linked z =
    get_or-set_other s.nodes p n _ free (λ i. let k = ap g.rank i in omega arith) ∙ linked_is (node s n) z on_n hn in
    let b = one_less N n z z ms (rw length-set (linked_in s.nodes n on_n)) same in
    omega arith

pub compaction_step :
    {V : Type 0} {s : State V} {g : Ages} {c : Call V} {a : Answer V} {s' : State V} (w : ℕ) → Anchored s g → (Lost s → ⊥) → Transition s c a s'
    → CompactionStep s w c a s' (worker s' w).operation
compaction_step {s} {c = c} w I nl (refuses nc) = ⊎_elim (λ n. not_own n (λ y p q. grind arith)) (λ o. is_over o) (refused_step s w c nc)
compaction_step w I nl (loses lo) = absurd (nl lo)
compaction_step w I nl (notes {w = u} i e f) = step_same w u _ _ _ _ i refl (λ y p q. grind arith) refl
compaction_step w I nl (publishes {w = u} i e) = step_same w u _ _ _ _ i refl (λ y p q. grind arith) refl
compaction_step w I nl (opens {w = u} i e f) = step_same w u _ _ _ _ i refl (λ y p q. grind arith) refl
compaction_step w I nl (starts_again {w = u} i e f) = step_same w u _ _ _ _ i refl (λ y p q. grind arith) refl
compaction_step w I nl (closes {w = u} i e f) = step_same w u _ _ _ _ i refl (λ y p q. grind arith) refl
compaction_step w I nl (read_begins {w = u} i l b e) = step_by w u _ _ _ _ i (λ ne. refl) (λ ne y p q. grind arith) (λ j. is_over refl)
compaction_step w I nl (write_begins {w = u} i l b) = step_by w u _ _ _ _ i (λ ne. refl) (λ ne y p q. grind arith) (λ j. is_over refl)
compaction_step w I nl (compaction_begins {w = u} {x} i l b e) =
    step_by w u _ _ _ _ i (λ ne. refl) (λ ne y p q. grind arith) (λ j. begins (ap (λ k. CompactBegin k x) (sym j)) refl)
compaction_step w I nl (takes_reading {w = u} i pt th st he) = step_stamping w u _ _ i pt refl (λ h. grind arith) refl refl
compaction_step {s} w I nl (gives_stamp {w = u} {n} {t} {v = v} i pt th st he) =
    step_stamping w u _ _ i pt refl (λ h. grind arith) refl (linked_same s.nodes n _ (version_in_table s.nodes n v th) (given_linked (λ v. stamped v t) (node s n)))
compaction_step w I nl (reads {w = u} i e f st l) = step_by w u _ _ _ _ i (λ ne. refl) (λ ne y p q. grind arith) (λ j. is_over refl)
compaction_step w I nl (reads_on {w = u} i e f st l o) = step_by w u _ _ _ _ i (λ ne. refl) (λ ne y p q. grind arith) (λ j. is_over refl)
compaction_step w I nl (looks {w = u} i e st) = step_by w u _ _ _ _ i (λ ne. refl) (λ ne y p q. grind arith) (λ j. is_over refl)
compaction_step w I nl (links {w = u} i e h f) = step_by w u _ _ _ _ i (λ ne. refl) (λ ne y p q. grind arith) (λ j. is_over refl)
compaction_step w I nl (overtakes {w = u} i e h) = step_by w u _ _ _ _ i (λ ne. refl) (λ ne y p q. grind arith) (λ j. is_over refl)
compaction_step w I nl (stamps {w = u} i e st) = step_by w u _ _ _ _ i (λ ne. refl) (λ ne y p q. grind arith) (λ j. is_over refl)
compaction_step w I nl (abandons {w = u} i e) = step_by w u _ _ _ _ i (λ ne. refl) (λ ne y p q. grind arith) (λ j. is_over refl)
compaction_step {s} w I nl (scans {w = u} {J = J} i e l) =
    step_by w u _ _ _ _ i (λ ne. ne_eqb u w (λ j. ne (sym j))) (λ ne y p q. grind arith)
    (λ j. reads_slot (ap (λ y. CompactStep y J) (sym j)) (ap (λ k. (worker s k).operation) j ∙ e) l refl)
compaction_step {s} w I nl (takes_head {w = u} {J = J} i e l) =
    step_by w u _ _ _ _ i (λ ne. ne_eqb u w (λ j. ne (sym j))) (λ ne y p q. grind arith)
    (λ j. took_head (ap (λ y. CompactStep y J) (sym j)) (ap (λ k. (worker s k).operation) j ∙ e) l refl)
compaction_step {s} w I nl (keeps {w = u} {r = r} {J = J} i e st o su d) =
    step_by w u _ _ _ _ i (λ ne. ne_eqb u w (λ j. ne (sym j))) (λ ne y p q. grind arith)
    (λ j. walks 0 (ap (λ y. CompactStep y J) (sym j)) (ap (λ k. (worker s k).operation) j ∙ e) (omega arith) (omega arith))
compaction_step {s} w I nl (takes_out {w = u} {x} {t} {p} {r} {n} {q = q} {J = J} {v = v} {u = z} i e st o su d) =
    step_by w u _ _ _ _ i (λ ne. ne_eqb u w (λ j. ne (sym j))) (λ ne y p q. grind arith)
    (λ j. walks 1 (ap (λ y. CompactStep y J) (sym j)) (ap (λ k. (worker s k).operation) j ∙ e) (out_fewer I u x t q p r n v z _ e st.here o su.here) (omega arith))
compaction_step w I nl (finishes {w = u} i e st o) = step_by w u _ _ _ _ i (λ ne. ne_eqb u w (λ j. ne (sym j))) (λ ne y p q. grind arith) (λ j. is_over refl)
