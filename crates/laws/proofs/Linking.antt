-- A new head leaves the lists of the cells in shape.
use Rattle.std.proofs.Common.{◌≡◌, ℕ, suc, ◌<◌, ◌≤◌, ◌⊎◌, List, length, get_or, set, Some, None, sym, refl, ap, ◌∙◌, subst, inl, inr, ⊎_elim, arith}
use Rattle.std.proofs.lemmas.List.{length-set}
use Rattle.model.specs.State.{Node, free, linked}
use Rattle.laws.proofs.CellLists.{IsLinked, Marked, WithStamp, older_of, KeptFor, node_in, Ages, WellLinked, with_newest, kept_used}
use Rattle.laws.proofs.Frames.{set_split}

-- a free node n becomes the head of x, above its head b
module _ {V : Type 0} (H : List ℕ) (N : List (Node V)) (g : Ages) (S : WellLinked H N g) (x n b : ℕ) (a : V) (lx : x < length H) (hb : get_or H x 0 ≡ b)
    (fb : WithStamp (node_in N b)) (ln : n < length N) (fn : node_in N n ≡ free) where
  abbrev y : Node V
  y = linked (record { value = a; stamp = None; older = Some b })

  abbrev M : List (Node V)
  M = set N n y

  abbrev g' : Ages
  g' = with_newest g x n

  record New (j : ℕ) : Type 0 where
    is : j ≡ n
    older : older_of (node_in M j) ≡ Some b
    linked_now : IsLinked (node_in M j)
    in_cell : g'.cell j ≡ x
    ranked : g'.rank j ≡ g.next

  record Old (j : ℕ) : Type 0 where
    isn't : j ≡ n → ⊥
    same_node : node_in M j ≡ node_in N j
    same_cell : g'.cell j ≡ g.cell j
    same_rank : g'.rank j ≡ g.rank j

  newly : (j : ℕ) → j ≡ n → node_in M j ≡ y → New j
  newly j e f = grind arith

  oldly : (j : ℕ) → (j ≡ n → ⊥) → node_in M j ≡ node_in N j → Old j
  oldly j ne f = grind arith

  view : (j : ℕ) → New j ⊎ Old j
  view j = ⊎_elim (λ h. inl (newly j h.0 h.1)) (λ h. inr (oldly j h.0 h.1)) (set_split N n j y free ln)

  -- what was kept is old
  old : (u j : ℕ) → KeptFor u (node_in N j) → Old j
  old u j k = ⊎_elim (λ v. absurd (kept_used u (node_in N j) k (ap (node_in N) v.is ∙ fn))) (λ o. o) (view j)

  back : {j : ℕ} → Old j → IsLinked (node_in M j) → IsLinked (node_in N j)
  back o h = subst IsLinked o.same_node h

  pub on_linked : (j : ℕ) → IsLinked (node_in N j) → IsLinked (node_in M j)
  on_linked j h = subst IsLinked (sym (old 0 j (inl h)).same_node) h

  kept_back : (u : ℕ) {j : ℕ} → Old j → KeptFor u (node_in M j) → KeptFor u (node_in N j)
  kept_back u o h = subst (KeptFor u) o.same_node h

  pub kept_linked : (u j : ℕ) → KeptFor u (node_in N j) → KeptFor u (node_in M j)
  kept_linked u j h = subst (KeptFor u) (sym (old u j h).same_node) h

  older_back : {j m : ℕ} → Old j → older_of (node_in M j) ≡ Some m → older_of (node_in N j) ≡ Some m
  older_back o h = sym (ap older_of o.same_node) ∙ h

  b_linked : IsLinked (node_in N b)
  b_linked = subst (λ k. IsLinked (node_in N k)) hb (S.head_linked x lx)

  b_old : Old b
  b_old = old 0 b (inl b_linked)

  is_b : {j m : ℕ} → New j → older_of (node_in M j) ≡ Some m → b ≡ m
  is_b v o = let p = v.older in cc

  -- a head after the step
  Heads : ℕ → Type 0
  Heads z = ((z ≡ x) × (get_or (set H x n) z 0 ≡ n)) ⊎ ((z ≡ x → ⊥) × (get_or (set H x n) z 0 ≡ get_or H z 0))

  heads : (z : ℕ) → Heads z
  unfolding Heads
  heads z = set_split H x z n 0 lx

  n_new : New n
  n_new = ⊎_elim (λ v. v) (λ o. absurd (o.isn't refl)) (view n)

  was_there : (z : ℕ) → z < length (set H x n) → z < length H
  was_there z l = rw length-set at l

  most : (z j : ℕ) → z < length H → IsLinked (node_in M j) → g'.cell j ≡ z → Heads z → New j ⊎ Old j → g'.rank j ≤ g'.rank (get_or (set H x n) z 0)
  unfolding Heads
  most z j l lj c (inl h) (inl v) = rw h.1 (let q = n_new.ranked in let r = v.ranked in omega arith)
  most z j l lj c (inl h) (inr o) = rw h.1 (let q = n_new.ranked in let r = o.same_rank in let t = S.small 0 j (inl (back o lj)) in omega arith)
  most z j l lj c (inr h) (inl v) = absurd (h.0 (sym c ∙ v.in_cell))
  most z j l lj c (inr h) (inr o) =
      rw h.1 (let q = (old 0 (get_or H z 0) (inl (S.head_linked z l))).same_rank in let r = o.same_rank in
      let t = S.head_newest z j l (back o lj) (sym o.same_cell ∙ c) in omega arith)

  cells : (z : ℕ) → z < length H → Heads z → g'.cell (get_or (set H x n) z 0) ≡ z
  unfolding Heads
  cells z l (inl h) = rw h.1 (n_new.in_cell ∙ sym h.0)
  cells z l (inr h) = rw h.1 ((old 0 (get_or H z 0) (inl (S.head_linked z l))).same_cell ∙ S.head_cell z l)

  tops : (z : ℕ) → z < length H → Heads z → IsLinked (node_in M (get_or (set H x n) z 0))
  unfolding Heads
  tops z l (inl h) = rw h.1 n_new.linked_now
  tops z l (inr h) = rw h.1 (on_linked (get_or H z 0) (S.head_linked z l))

  sames : (j k : ℕ) → IsLinked (node_in M j) → IsLinked (node_in M k) → g'.cell j ≡ g'.cell k → g'.rank j ≡ g'.rank k → New j ⊎ Old j → New k ⊎ Old k → j ≡ k
  sames j k lj lk c r (inl v) (inl w) = v.is ∙ sym w.is
  sames j k lj lk c r (inl v) (inr w) = let t = S.small 0 k (inl (back w lk)) in omega arith
  sames j k lj lk c r (inr v) (inl w) = let t = S.small 0 j (inl (back v lj)) in omega arith
  sames j k lj lk c r (inr v) (inr w) =
      S.same j k (back v lj) (back w lk) (sym v.same_cell ∙ c ∙ w.same_cell) (sym v.same_rank ∙ r ∙ w.same_rank)

  down : (j m : ℕ) → IsLinked (node_in M j) → older_of (node_in M j) ≡ Some m → New j ⊎ Old j → IsLinked (node_in M m)
  down j m lj o x = grind (arith, is_b, on_linked, b_linked, back, older_back)

  nexts :
      (j m k : ℕ) → IsLinked (node_in M j) → older_of (node_in M j) ≡ Some m → IsLinked (node_in M k) → g'.cell k ≡ g'.cell j → g'.rank k < g'.rank j
      → New j ⊎ Old j → New k ⊎ Old k → g'.rank k ≤ g'.rank m
  nexts j m k lj o lk c r (inl v) (inl w) = omega arith
  nexts j m k lj o lk c r (inl v) (inr w) =
      subst (λ i. g'.rank k ≤ g'.rank i) (is_b v o)
      (let t = S.head_newest x k lx (back w lk) (sym w.same_cell ∙ c ∙ v.in_cell) in
      let q = b_old.same_rank in let h = ap g.rank hb in let e = w.same_rank in omega arith)
  nexts j m k lj o lk c r (inr v) (inl w) = absurd (let t = S.small 0 j (inl (back v lj)) in omega arith)
  nexts j m k lj o lk c r (inr v) (inr w) =
      let t = S.down_next j m k (back v lj) (older_back v o) (back w lk) (sym w.same_cell ∙ c ∙ v.same_cell) (omega arith) in
      let q = (old 0 m (inl (S.down_linked j m (back v lj) (older_back v o)))).same_rank in
      let e = w.same_rank in
      omega arith

  lasts : (j k : ℕ) → IsLinked (node_in M j) → older_of (node_in M j) ≡ None → IsLinked (node_in M k) → g'.cell k ≡ g'.cell j → New j ⊎ Old j → New k ⊎ Old k → g'.rank j ≤ g'.rank k
  lasts j k lj o lk c (inl v) w = absurd (let p = v.older in grind arith)
  lasts j k lj o lk c (inr v) (inl w) = let t = S.small 0 j (inl (back v lj)) in let e = v.same_rank in let f = w.ranked in omega arith
  lasts j k lj o lk c (inr v) (inr w) =
      let t = S.down_last j k (back v lj) (sym (ap older_of v.same_node) ∙ o) (back w lk) (sym w.same_cell ∙ c ∙ v.same_cell) in
      let e = v.same_rank in let f = w.same_rank in omega arith

  kepts : (u j m : ℕ) → KeptFor u (node_in M j) → older_of (node_in M j) ≡ Some m → New j ⊎ Old j → KeptFor u (node_in M m)
  kepts u j m kj o (inl v) = subst (λ k. KeptFor u (node_in M k)) (is_b v o) (inl (on_linked b b_linked))
  kepts u j m kj o (inr v) = kept_linked u m (S.kept_down u j m (kept_back u v kj) (older_back v o))

  firms : (u j m : ℕ) → KeptFor u (node_in M j) → older_of (node_in M j) ≡ Some m → New j ⊎ Old j → WithStamp (node_in M m)
  firms u j m kj o (inl v) = subst (λ k. WithStamp (node_in M k)) (is_b v o) (subst WithStamp (sym b_old.same_node) fb)
  firms u j m kj o (inr v) =
      subst WithStamp (sym (old u m (S.kept_down u j m (kept_back u v kj) (older_back v o))).same_node)
      (S.stamped_down u j m (kept_back u v kj) (older_back v o))

  ranks : (u j m : ℕ) → KeptFor u (node_in M j) → older_of (node_in M j) ≡ Some m → New j ⊎ Old j → (g'.rank m < g'.rank j) × (g'.cell m ≡ g'.cell j)
  ranks u j m kj o (inl v) =
      subst (λ k. (g'.rank k < g'.rank j) × (g'.cell k ≡ g'.cell j)) (is_b v o)
      (let t = S.small 0 b (inl b_linked) in
      let q = b_old in
      let i = ap g.cell hb in
      let h = S.head_cell x lx in
      omega arith)
  ranks u j m kj o (inr v) =
      let t = S.rank_down u j m (kept_back u v kj) (older_back v o) in
      let q = old u m (S.kept_down u j m (kept_back u v kj) (older_back v o)) in
      omega arith

  smalls : (u j : ℕ) → KeptFor u (node_in M j) → New j ⊎ Old j → g'.rank j < suc g.next
  smalls u j kj (inl v) = omega arith
  smalls u j kj (inr v) = let t = S.small u j (kept_back u v kj) in omega arith

  in_cells : (j : ℕ) → IsLinked (node_in M j) → New j ⊎ Old j → g'.cell j < length H
  in_cells j lj x = grind arith

  pub well_linked_above : WellLinked (set H x n) M (with_newest g x n)
  well_linked_above =
      record {
        head_linked = λ z l. tops z (was_there z l) (heads z);
        head_cell = λ z l. cells z (was_there z l) (heads z);
        head_newest = λ z j l lj c. most z j (was_there z l) lj c (heads z) (view j);
        same = λ j k lj lk c r. sames j k lj lk c r (view j) (view k);
        down_linked = λ j m lj o. down j m lj o (view j);
        down_next = λ j m k lj o lk c r. nexts j m k lj o lk c r (view j) (view k);
        down_last = λ j k lj o lk c. lasts j k lj o lk c (view j) (view k);
        kept_down = λ u j m kj o. kepts u j m kj o (view j);
        stamped_down = λ u j m kj o. firms u j m kj o (view j);
        rank_down = λ u j m kj o. ranks u j m kj o (view j);
        small = λ u j kj. smalls u j kj (view j);
        in_cell = λ j lj. rw length-set (in_cells j lj (view j));
      }

  pub stamp_linked : (u j : ℕ) → KeptFor u (node_in N j) → WithStamp (node_in N j) → WithStamp (node_in M j)
  stamp_linked u j k h = subst WithStamp (sym (old u j k).same_node) h

  pub cell_linked : (j : ℕ) → IsLinked (node_in N j) → (with_newest g x n).cell j ≡ g.cell j
  cell_linked j h = (old 0 j (inl h)).same_cell

  pub marked_linked : (u j : ℕ) → Marked u (node_in M j) → Marked u (node_in N j)
  marked_linked u j h = let x = view j in grind arith

  pub new_linked : IsLinked (node_in M n)
  new_linked = n_new.linked_now

  pub node_linked : (u j : ℕ) → KeptFor u (node_in N j) → node_in M j ≡ node_in N j
  node_linked u j k = (old u j k).same_node
