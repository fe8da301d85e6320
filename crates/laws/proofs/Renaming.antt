-- Two nodes of the table change places, and whatever refers to one of them then refers to the other. No step tells the
-- difference: a step follows references and compares them with one another, and its answer names none. An offer takes
-- the free node that it is told, so it can be told the node that corresponds.
use Rattle.std.proofs.Common.{◌≡◌, ℕ, zero, suc, ◌<◌, cond, ◌||◌, eqb, List, [], ◌∷◌, map, length, get_or, set, Some, None, Option, sym, refl, ap, ◌∙◌, ap₂, arith}
use Rattle.laws.proofs.Frames.{map_get_or}
use mathlib.Core.List.{map-map}
use Rattle.std.proofs.lemmas.List.{get_or-set_same, get_or-set_other, length-set, length-map, map-set, get_or-map, ext_get_or}
use Rattle.std.proofs.lemmas.Bool.{cases_eq}
use Rattle.model.specs.Answers.{Outcome}
use Rattle.model.specs.Calls.{Call, step, Note, Publish, Advance, Close, ReadBegin, ReadStep, WriteBegin, WriteLook, WriteOffer, WriteStamp, Abandon, CompactBegin, CompactStep}
use Rattle.model.specs.Changes.{on_version, above, unmark, with_worker, with_nodes, with_operation, with_session, with_reading, stamp_given, linked_above, taken_out, ended, one_later, first_free, node_to_take}
use Rattle.model.specs.State.{Version, Node, Session, Operation, Worker, State, fresh, node, worker, head, version, busy, is_reading, compacts, any, free, linked, waiting, idle, reading, write_begun, write_looked, write_linked, scanning, walking}
use Rattle.laws.proofs.SpareNodes.{Spare, node_to_take_spare}

-- A state is grounded if its references lead to nodes that are in use, and if it has the cells at whose heads its
-- operations will still look.
abbrev pub Used : {V : Type 0} → Node V → Type 0
Used x = x ≡ free → ⊥

abbrev pub Sound : {V : Type 0} → State V → Operation → Type 0
Sound s idle = Unit {0}
Sound s (reading x p) = Used (node s p)
Sound s (write_begun x b) = Used (node s b)
Sound s (write_looked x b) = Used (node s b) × (x < length s.heads)
Sound s (write_linked x o) = Used (node s o)
Sound s (scanning x t k scan) = x < length s.heads
Sound s (walking x t scan p r) = Used (node s p)

pub record Grounded {V : Type 0} (s : State V) : Type 0 where
  pub heads_used : (x : ℕ) → x < length s.heads → Used (node s (head s x))
  pub older_used : (n m : ℕ) (v : Version V) → version (node s n) ≡ Some v → v.older ≡ Some m → Used (node s m)
  pub operations_sound : (w : ℕ) → Sound s (worker s w).operation

-- The second call is the first one, but for the node that an offer is told.
pub data Retold {V : Type 0} : Call V → Call V → Type 0 where
  as_told : {c : Call V} → Retold c c
  told_other : {w : ℕ} {v : V} {n m : ℕ} → Retold (WriteOffer w v n) (WriteOffer w v m)

-- An offer takes a free node that it is told, and some node if there is a free one.
pub spare_taken : {V : Type 0} (s : State V) (n : ℕ) → Spare s n → node_to_take s n ≡ Some n
spare_taken s n h = grind arith

later_none : (o : Option ℕ) → one_later o ≡ None → o ≡ None
later_none o e = grind arith

none_free : {V : Type 0} (ns : List (Node V)) → first_free ns ≡ None → (n : ℕ) → n < length ns → get_or ns n free ≡ free → ⊥
none_free [] e n l h = omega arith
none_free (free ∷ ns) e n l h = grind arith
none_free (linked v ∷ ns) e zero l h = grind arith
none_free (linked v ∷ ns) e (suc n) l h = none_free ns (later_none (first_free ns) e) n (omega arith) h
none_free (waiting v marks ∷ ns) e zero l h = grind arith
none_free (waiting v marks ∷ ns) e (suc n) l h = none_free ns (later_none (first_free ns) e) n (omega arith) h

pub none_to_take : {V : Type 0} (s : State V) (m : ℕ) → node_to_take s m ≡ None → (n : ℕ) → Spare s n → ⊥
none_to_take s m e n h = none_free s.nodes (grind arith) n h.0 h.1

-- The other one of i and j; every other number is left.
pub swap : ℕ → ℕ → ℕ → ℕ
swap i j n = cond (eqb n i) j (cond (eqb n j) i n)

module _ (i j : ℕ) where
  pub swap_first : swap i j i ≡ j
  unfolding swap
  swap_first = grind arith

  pub swap_second : swap i j j ≡ i
  unfolding swap
  swap_second = grind arith

  pub swap_other : (n : ℕ) → (n ≡ i → ⊥) → (n ≡ j → ⊥) → swap i j n ≡ n
  unfolding swap
  swap_other n a b = grind arith

  swap_twice : (n : ℕ) → swap i j (swap i j n) ≡ n
  unfolding swap
  swap_twice n = grind arith

  swap_below : (n k : ℕ) → i < k → j < k → n < k → swap i j n < k
  unfolding swap
  swap_below n k a b c = grind arith

  swap_equal : (a b : ℕ) → eqb (swap i j a) (swap i j b) ≡ eqb a b
  unfolding swap
  swap_equal a b = grind arith

  -- References, and what holds them, with i and j swapped.
  abbrev pub reference_swapped : Option ℕ → Option ℕ
  reference_swapped None = None
  reference_swapped (Some n) = Some (swap i j n)

  abbrev pub version_swapped : {V : Type 0} → Version V → Version V
  version_swapped v = record { value = v.value; stamp = v.stamp; older = reference_swapped v.older }

  abbrev pub node_swapped : {V : Type 0} → Node V → Node V
  node_swapped x = on_version version_swapped x

  abbrev pub operation_swapped : Operation → Operation
  operation_swapped idle = idle
  operation_swapped (reading x p) = reading x (swap i j p)
  operation_swapped (write_begun x b) = write_begun x (swap i j b)
  operation_swapped (write_looked x b) = write_looked x (swap i j b)
  operation_swapped (write_linked x o) = write_linked x (swap i j o)
  operation_swapped (scanning x t k scan) = scanning x t k scan
  operation_swapped (walking x t scan p r) = walking x t scan (swap i j p) r

  abbrev pub worker_swapped : Worker → Worker
  worker_swapped k = record { session = k.session; operation = operation_swapped k.operation; clock_reading = k.clock_reading }

  -- The contents of nodes i and j change places.
  abbrev pub exchanged : {V : Type 0} → List (Node V) → List (Node V)
  exchanged ns = set (set ns i (get_or ns j free)) j (get_or ns i free)

  abbrev pub swapped : {V : Type 0} → State V → State V
  swapped s =
      record {
        clock = s.clock;
        heads = map (swap i j) s.heads;
        workers = map worker_swapped s.workers;
        nodes = map node_swapped (exchanged s.nodes);
      }

  abbrev pub outcome_swapped : {V : Type 0} → Outcome V → Outcome V
  outcome_swapped r = (r.0, swapped r.1)

  -- What the steps ask about operations.
  busy_same : (o : Operation) → busy (operation_swapped o) ≡ busy o
  busy_same o = grind arith

  is_reading_same : (o : Operation) → is_reading (operation_swapped o) ≡ is_reading o
  is_reading_same o = grind arith

  compacts_same : (y : ℕ) (o : Operation) → compacts y (operation_swapped o) ≡ compacts y o
  compacts_same y o = grind arith

  compacted_same : (x : ℕ) (ws : List Worker) → any (λ (k : Worker). compacts x k.operation) (map worker_swapped ws) ≡ any (λ (k : Worker). compacts x k.operation) ws
  compacted_same x [] = refl
  compacted_same x (k ∷ ws) = ap₂ ◌||◌ (compacts_same x k.operation) (compacted_same x ws)

  marks_same : (ws : List Worker) → map (λ (k : Worker). busy k.operation) (map worker_swapped ws) ≡ map (λ (k : Worker). busy k.operation) ws
  marks_same ws = map-map (λ (k : Worker). busy k.operation) worker_swapped ws ∙ (λ e. map (λ (k : Worker). busy_same k.operation e) ws)

  unmark_swapped : {V : Type 0} (w : ℕ) (x : Node V) → unmark w (node_swapped x) ≡ node_swapped (unmark w x)
  unmark_swapped w x = grind arith

  on_version_swapped : {V : Type 0} (f g : Version V → Version V) → ((v : Version V) → f (version_swapped v) ≡ version_swapped (g v)) → (x : Node V)
      → on_version f (node_swapped x) ≡ node_swapped (on_version g x)
  on_version_swapped f g e x = grind arith

  -- The table: what is looked up in it, and what is changed in it.
  module _ {V : Type 0} (ns : List (Node V)) (li : i < length ns) (lj : j < length ns) where
    exchanged_at : (n : ℕ) → get_or (exchanged ns) (swap i j n) free ≡ get_or ns n free
    exchanged_at n = grind (arith, get_or-set_same, get_or-set_other, length-set, swap_first, swap_second, swap_other, cases_eq n i, cases_eq n j)

    pub nodes_at : (n : ℕ) → get_or (map node_swapped (exchanged ns)) n free ≡ node_swapped (get_or ns (swap i j n) free)
    nodes_at n =
        map_get_or node_swapped (exchanged ns) n free refl
        ∙ ap node_swapped (ap (λ k. get_or (exchanged ns) k free) (sym (swap_twice n)) ∙ exchanged_at (swap i j n))

  module _ {V : Type 0} (ns : List (Node V)) (li : i < length ns) (lj : j < length ns) where
    nodes_set : (n : ℕ) (x y : Node V) → y ≡ node_swapped x → set (map node_swapped (exchanged ns)) (swap i j n) y ≡ map node_swapped (exchanged (set ns n x))
    nodes_set n x y e =
        ext_get_or free _ _ (simp (length-set, length-map)) (λ k l.
        let lk : k < length ns = simp (length-set, length-map) at l in
        let before = nodes_at ns li lj k in
        let after = nodes_at (set ns n x) (rw length-set li) (rw length-set lj) k in
        grind (arith, before, after, get_or-set_same, get_or-set_other, length-set, length-map, swap_twice n, swap_twice k, swap_below k (length ns) li lj lk, cases_eq k (swap i j n)))

    nodes_unmarked : (w : ℕ) → map (unmark w) (map node_swapped (exchanged ns)) ≡ map node_swapped (exchanged (map (unmark w) ns))
    nodes_unmarked w =
        ext_get_or free _ _ (simp (length-set, length-map)) (λ k l.
        map_get_or (unmark w) (map node_swapped (exchanged ns)) k free refl ∙ ap (unmark w) (nodes_at ns li lj k) ∙ unmark_swapped w (get_or ns (swap i j k) free)
        ∙ sym (nodes_at (map (unmark w) ns) (rw length-map li) (rw length-map lj) k ∙ ap node_swapped (map_get_or (unmark w) ns (swap i j k) free refl)))

  -- What is looked up in a swapped state; and each change of a state, made in the swapped state, gives the changed state
  -- swapped.
  module _ {V : Type 0} (s : State V) where
    pub worker_at : (w : ℕ) → worker (swapped s) w ≡ worker_swapped (worker s w)
    worker_at w = map_get_or worker_swapped s.workers w fresh refl

    head_at : (x : ℕ) → x < length s.heads → head (swapped s) x ≡ swap i j (head s x)
    head_at x l = get_or-map (swap i j) s.heads x 0 0 l

    worker_changed : (w : ℕ) (k l : Worker) → l ≡ worker_swapped k → with_worker (swapped s) w l ≡ swapped (with_worker s w k)
    worker_changed w k l e = grind (arith, map-set)

    session_changed : (w : ℕ) (q : Session) → with_session (swapped s) w q ≡ swapped (with_session s w q)
    session_changed w q = grind (arith, worker_changed, worker_at)

    reading_changed : (w t : ℕ) → with_reading (swapped s) w t ≡ swapped (with_reading s w t)
    reading_changed w t = grind (arith, worker_changed, worker_at)

    operation_changed : (w : ℕ) (o : Operation) → with_operation (swapped s) w (operation_swapped o) ≡ swapped (with_operation s w o)
    operation_changed w o = grind (arith, worker_changed, worker_at)

  module _ {V : Type 0} (s : State V) (li : i < length s.nodes) (lj : j < length s.nodes) where
    node_at : (n : ℕ) → node (swapped s) (swap i j n) ≡ node_swapped (node s n)
    node_at n = nodes_at s.nodes li lj (swap i j n) ∙ ap (λ k. node_swapped (node s k)) (swap_twice n)

    stamp_changed : (w n t : ℕ) → stamp_given (swapped s) w (swap i j n) t ≡ swapped (stamp_given s w n t)
    stamp_changed w n t = grind (arith, nodes_set, node_at, on_version_swapped, worker_at, operation_changed)

    linking_changed : (w x n b : ℕ) (v : V)
        → with_operation (linked_above (swapped s) x (swap i j n) (swap i j b) v) w (write_linked x (swap i j n)) ≡ swapped (with_operation (linked_above s x n b v) w (write_linked x n))
    linking_changed w x n b v =
        ap₂ (λ hs ns. with_operation (record { clock = s.clock; heads = hs; workers = map worker_swapped s.workers; nodes = ns }) w (write_linked x (swap i j n)))
        (sym (map-set (swap i j) s.heads x n)) (nodes_set s.nodes li lj n (linked (record { value = v; stamp = None; older = Some b })) _ refl)
        ∙ operation_changed (linked_above s x n b v) w (write_linked x n)

    taking_out_changed : (w p n : ℕ) (u : Version V) (o : Operation)
        → with_operation (taken_out (swapped s) (swap i j p) (swap i j n) (version_swapped u)) w (operation_swapped o) ≡ swapped (with_operation (taken_out s p n u) w o)
    taking_out_changed w p n u o =
        ap (λ ns. with_operation (with_nodes (swapped s) ns) w (operation_swapped o))
        (ap (λ ns. set ns (swap i j n) (waiting (version_swapped u) (map (λ k. busy k.operation) (map worker_swapped s.workers))))
        (nodes_set s.nodes li lj p _ _ (ap (on_version (λ v. above v (reference_swapped u.older))) (node_at p) ∙ on_version_swapped _ (λ v. above v u.older) (λ v. refl) (node s p)))
        ∙ nodes_set (set s.nodes p _) (rw length-set li) (rw length-set lj) n (waiting u (map (λ k. busy k.operation) s.workers)) _
        (ap (waiting (version_swapped u)) (marks_same s.workers)))
        ∙ operation_changed (taken_out s p n u) w o

    ended_changed : (w : ℕ) → ended (swapped s) w ≡ swapped (ended s w)
    ended_changed w =
        ap (λ ns. with_operation (with_nodes (swapped s) ns) w idle) (nodes_unmarked s.nodes li lj w)
        ∙ operation_changed (with_nodes s (map (unmark w) s.nodes)) w idle

    -- Free nodes correspond to free nodes, so an offer in the swapped state can take the node that corresponds, or finds
    -- none either.
    spare_swapped : (n : ℕ) → Spare s n → Spare (swapped s) (swap i j n)
    spare_swapped n h = grind (arith, length-map, length-set, swap_below, node_at)

    spare_back : (n : ℕ) → Spare (swapped s) n → Spare s (swap i j n)
    spare_back n h = grind (arith, swap_below, length-map, length-set, nodes_at)

    told_instead : (n : ℕ) → (m : ℕ) × (node_to_take (swapped s) m ≡ reference_swapped (node_to_take s n))
    told_instead n = go (node_to_take s n) refl
      where
        none_either : node_to_take s n ≡ None → (o : Option ℕ) → node_to_take (swapped s) n ≡ o → o ≡ None
        none_either e None f = refl
        none_either e (Some m) f = absurd (none_to_take s n e (swap i j m) (spare_back m (node_to_take_spare (swapped s) n m f)))

        go : (o : Option ℕ) → node_to_take s n ≡ o → (m : ℕ) × (node_to_take (swapped s) m ≡ reference_swapped (node_to_take s n))
        go None e = (n, none_either e (node_to_take (swapped s) n) refl ∙ sym (ap reference_swapped e))
        go (Some m) e = (swap i j m, spare_taken (swapped s) (swap i j m) (spare_swapped m (node_to_take_spare s n m e)) ∙ sym (ap reference_swapped e))

    pub offer_swapped : (w : ℕ) (v : V) (n m : ℕ) → Sound s (worker s w).operation → node_to_take (swapped s) m ≡ reference_swapped (node_to_take s n)
        → step (swapped s) (WriteOffer w v m) ≡ outcome_swapped (step s (WriteOffer w v n))
    unfolding step
    offer_swapped w v n m h e = grind (arith, length-map, worker_at s w, head_at s, swap_equal, ended_changed w, linking_changed w)

    -- Every step is matched in the swapped state: the same answer, and the state that it leads to swapped.
    pub step_swapped : Grounded s → (c : Call V) → (d : Call V) × Retold c d × (step (swapped s) d ≡ outcome_swapped (step s c))
    unfolding step
    step_swapped G (Note w) = (Note w, as_told, grind (arith, length-map, worker_at s w, session_changed s w))
    step_swapped G (Publish w) = (Publish w, as_told, grind (arith, length-map, worker_at s w, session_changed s w))
    step_swapped G (Advance w) = (Advance w, as_told, grind (arith, length-map, worker_at s w, session_changed s w))
    step_swapped G (Close w) = (Close w, as_told, grind (arith, length-map, worker_at s w, is_reading_same, session_changed s w))
    step_swapped G (ReadBegin w x) = (ReadBegin w x, as_told, grind (arith, length-map, worker_at s w, busy_same, head_at s x, operation_changed s w (reading x (head s x))))
    step_swapped G (ReadStep w) =
        (ReadStep w, as_told, grind (arith, length-map, worker_at s w, node_at, reading_changed s w, stamp_changed w, ended_changed w, operation_changed s w))
    step_swapped G (WriteBegin w x) = (WriteBegin w x, as_told, grind (arith, length-map, worker_at s w, busy_same, head_at s x, operation_changed s w (write_begun x (head s x))))
    step_swapped G (WriteLook w) = (WriteLook w, as_told, grind (arith, length-map, worker_at s w, node_at, reading_changed s w, stamp_changed w, operation_changed s w))
    step_swapped G (WriteOffer w v n) = let m = told_instead n in (WriteOffer w v m.0, told_other, offer_swapped w v n m.0 (G.operations_sound w) m.1)
    step_swapped G (WriteStamp w) = (WriteStamp w, as_told, grind (arith, length-map, worker_at s w, node_at, reading_changed s w, stamp_changed w, ended_changed w))
    step_swapped G (Abandon w) = (Abandon w, as_told, grind (arith, length-map, worker_at s w, busy_same, ended_changed w))
    step_swapped G (CompactBegin w x) =
        (CompactBegin w x, as_told, grind (arith, length-map, worker_at s w, busy_same, compacted_same x s.workers, operation_changed s w (scanning x s.clock 0 [])))
    step_swapped G (CompactStep w judge) =
        let h = G.operations_sound w in (
          CompactStep w judge,
          as_told,
          grind (arith, length-map, worker_at s, node_at, head_at s, reading_changed s w, stamp_changed w, ended_changed w, operation_changed s w, taking_out_changed w),
        )
