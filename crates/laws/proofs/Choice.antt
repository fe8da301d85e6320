-- Which free node an offer takes does not matter. In a grounded state nothing refers to a free node, so two offers that
-- take different nodes lead to states that are each other with these two nodes swapped. A list of calls from the one is
-- then matched, call by call, from the other by a list that differs from it in told nodes only; and so on down the lists.
use Rattle.std.proofs.Common.{◌≡◌, ℕ, ◌+◌, ◌<◌, List, [], ◌∷◌, map, length, get_or, set, Some, None, sum_by, Option, sym, refl, ap, ◌∙◌, subst, ap₂, arith}
use Rattle.std.proofs.lemmas.List.Edits.{swap_is}
use Rattle.std.proofs.lemmas.List.Sorted.{sum_by-IsPermutation, IsPermutation-swap}
use Rattle.std.proofs.lemmas.List.Folds.{fold-map}
use Rattle.std.proofs.lemmas.List.{length-set, length-map, get_or-map, ext_get_or}
use Rattle.std.proofs.lemmas.Bool.{cases_eq}
use Rattle.model.specs.Answers.{Outcome}
use Rattle.model.specs.Calls.{Call, step, WriteOffer}
use Rattle.model.specs.Changes.{node_to_take}
use Rattle.model.specs.Making.{counts}
use Rattle.model.specs.Runs.{run, log}
use Rattle.model.specs.State.{Version, Node, Operation, State, fresh, node, worker, head, version, free, linked, waiting}
use Rattle.laws.specs.Choices.{without_node, answers, ChosenAlike}
use Rattle.laws.proofs.Renaming.{Used, Sound, Grounded, Retold, as_told, told_other, none_to_take, swap, swap_first, swap_second, swap_other, reference_swapped, version_swapped, node_swapped, operation_swapped, worker_swapped, exchanged, swapped, outcome_swapped, nodes_at, worker_at, offer_swapped, step_swapped}
use Rattle.laws.proofs.SpareNodes.{Spare, node_to_take_spare}

-- No step changes the length of the table.
length_kept : {V : Type 0} (s : State V) (c : Call V) → length (step s c).1.nodes ≡ length s.nodes
unfolding step
length_kept s c = grind (arith, length-set, length-map)

-- Swapping keeps the counts.
module _ {A : Type 0} (f : A → ℕ) where
  sum_mapped : (g : A → A) → ((a : A) → f (g a) ≡ f a) → (l : List A) → sum_by f (map g l) ≡ sum_by f l
  sum_mapped g e l = fold-map (λ s a. s + f a) g 0 l ∙ (λ k. sum_by (λ a. e a k) l)

  sum_exchanged : (l : List A) (i j : ℕ) (d : A) → i < length l → j < length l → sum_by f (set (set l i (get_or l j d)) j (get_or l i d)) ≡ sum_by f l
  sum_exchanged l i j d li lj = sum_by-IsPermutation f l _ (IsPermutation-swap l _ i j li lj (swap_is l i j d li lj))

counts_swapped : {V : Type 0} (s : State V) (i j : ℕ) → i < length s.nodes → j < length s.nodes → counts (swapped i j s) ≡ counts s
counts_swapped s i j li lj = grind (arith, sum_mapped, sum_exchanged)

-- Nothing refers to a free node, so two free nodes can be swapped.
module _ {V : Type 0} (s : State V) (G : Grounded s) (i j : ℕ) (fi : Spare s i) (fj : Spare s j) where
  swap_used : (n : ℕ) → Used (node s n) → swap i j n ≡ n
  swap_used n u = swap_other i j n (λ e. u (ap (node s) e ∙ fi.1)) (λ e. u (ap (node s) e ∙ fj.1))

  operation_same : (o : Operation) → Sound s o → operation_swapped i j o ≡ o
  operation_same o h = grind (arith, swap_used)

  reference_same : (o : Option ℕ) → ((m : ℕ) → o ≡ Some m → Used (node s m)) → reference_swapped i j o ≡ o
  reference_same x u = grind (arith, swap_used)

  node_same : (n : ℕ) → node_swapped i j (node s n) ≡ node s n
  node_same n = go (node s n) refl
    where
      version_same : (v : Version V) → version (node s n) ≡ Some v → version_swapped i j v ≡ v
      version_same v e = λ k. record { value = v.value; stamp = v.stamp; older = reference_same v.older (λ m. G.older_used n m v e) k }

      go : (x : Node V) → node s n ≡ x → node_swapped i j x ≡ x
      go free e = refl
      go (linked v) e = ap linked (version_same v (ap version e))
      go (waiting v marks) e = ap (λ u. waiting u marks) (version_same v (ap version e))

  unswapped : swapped i j s ≡ s
  unswapped = λ k. record { clock = s.clock; heads = heads_same k; workers = workers_same k; nodes = nodes_same k }
    where
      heads_same : map (swap i j) s.heads ≡ s.heads
      heads_same = ext_get_or 0 _ _ (length-map s.heads (swap i j)) (λ x l.
          let lx : x < length s.heads = rw length-map at l in get_or-map (swap i j) s.heads x 0 0 lx ∙ swap_used (head s x) (G.heads_used x lx))

      workers_same : map (worker_swapped i j) s.workers ≡ s.workers
      workers_same = ext_get_or fresh _ _ (length-map s.workers (worker_swapped i j)) (λ w l.
          worker_at i j s w
          ∙ ap (λ o. record { session = (worker s w).session; operation = o; clock_reading = (worker s w).clock_reading })
          (operation_same (worker s w).operation (G.operations_sound w)))

      node_either : (n : ℕ) → node s (swap i j n) ≡ node s n
      node_either n = grind (arith, swap_first i j, swap_second i j, swap_other i j n, cases_eq n i, cases_eq n j)

      nodes_same : map (node_swapped i j) (exchanged i j s.nodes) ≡ s.nodes
      nodes_same = ext_get_or free _ _ (simp (length-map, length-set)) (λ n l.
          nodes_at i j s.nodes fi.0 fj.0 n ∙ ap (node_swapped i j) (node_either n) ∙ node_same n)

-- Calls that agree but for told nodes.
retold_back : {V : Type 0} {c d : Call V} → Retold c d → Retold d c
retold_back as_told = as_told
retold_back told_other = told_other

retold_on : {V : Type 0} {c d e : Call V} → Retold c d → Retold d e → Retold c e
retold_on as_told r = r
retold_on told_other as_told = told_other
retold_on told_other told_other = told_other

retold_alike : {V : Type 0} {c d : Call V} → Retold c d → without_node d ≡ without_node c
retold_alike as_told = refl
retold_alike told_other = refl

retold_bare : {V : Type 0} (c : Call V) → Retold c (without_node c)
retold_bare x = grind (arith, as_told, told_other)

alike_retold : {V : Type 0} (c d : Call V) → without_node c ≡ without_node d → Retold c d
alike_retold c d e = retold_on (subst (Retold c) e (retold_bare c)) (retold_back (retold_bare d))

-- What a step and the retold step give: the same, or the same with two nodes swapped.
data Chosen {V : Type 0} (s : State V) (r q : Outcome V) : Type 0 where
  same_node : q ≡ r → Chosen s r q
  other_node : (i j : ℕ) → i < length s.nodes → j < length s.nodes → q ≡ outcome_swapped i j r → Chosen s r q

module _ {V : Type 0} (s : State V) (G : Grounded s) where
  offer_same : (w : ℕ) (v : V) (n m : ℕ) → node_to_take s n ≡ node_to_take s m → step s (WriteOffer w v m) ≡ step s (WriteOffer w v n)
  unfolding step
  offer_same w v n m e = grind arith

  offer_chosen : (w : ℕ) (v : V) (n m : ℕ) → Chosen s (step s (WriteOffer w v n)) (step s (WriteOffer w v m))
  offer_chosen w v n m = go (node_to_take s n) (node_to_take s m) refl refl
    where
      go : (o p : Option ℕ) → node_to_take s n ≡ o → node_to_take s m ≡ p → Chosen s (step s (WriteOffer w v n)) (step s (WriteOffer w v m))
      go None None e f = same_node (offer_same w v n m (e ∙ sym f))
      go None (Some j) e f = absurd (none_to_take s n e j (node_to_take_spare s m j f))
      go (Some i) None e f = absurd (none_to_take s m f i (node_to_take_spare s n i e))
      go (Some i) (Some j) e f =
          let fi = node_to_take_spare s n i e in
          let fj = node_to_take_spare s m j f in
          let u = unswapped s G i j fi fj in
          other_node i j fi.0 fj.0
          (ap (λ t. step t (WriteOffer w v m)) (sym u)
          ∙ offer_swapped i j s fi.0 fj.0 w v n m (G.operations_sound w)
          (ap (λ t. node_to_take t m) u ∙ f ∙ sym (ap (reference_swapped i j) e ∙ ap Some (swap_first i j))))

  step_chosen : {c d : Call V} → Retold c d → Chosen s (step s c) (step s d)
  step_chosen as_told = same_node refl
  step_chosen (told_other {w = w} {v = v} {n = n} {m = m}) = offer_chosen w v n m

-- Every state to which calls lead from s is grounded.
abbrev pub StaysGrounded : {V : Type 0} → State V → Type 0
StaysGrounded s = (calls : List (Call _)) → Grounded (run s calls)

stays_on : {V : Type 0} (s : State V) (c : Call V) → StaysGrounded s → StaysGrounded (step s c).1
unfolding run
stays_on s c H cs = H (c ∷ cs)

-- The calls cs from s have a match from t: calls that differ from them in told nodes only, are answered alike, and leave
-- as many nodes of each kind.
record Matched {V : Type 0} (s t : State V) (cs : List (Call V)) : Type 0 where
  calls : List (Call V)
  alike : map without_node calls ≡ map without_node cs
  answered : answers t calls ≡ answers s cs
  counted : counts (run t calls) ≡ counts (run s cs)

swapped_matched : {V : Type 0} (i j : ℕ) (s : State V) → i < length s.nodes → j < length s.nodes → StaysGrounded s → (cs : List (Call V)) → Matched s (swapped i j s) cs
unfolding run log
swapped_matched i j s li lj H [] = record { calls = []; alike = refl; answered = refl; counted = counts_swapped s i j li lj }
swapped_matched i j s li lj H (c ∷ cs) =
    let d = step_swapped i j s li lj (H []) c in
    let M = swapped_matched i j (step s c).1 (rw length_kept li) (rw length_kept lj) (stays_on s c H) cs in
    record {
      calls = d.0 ∷ M.calls;
      alike = ap₂ ◌∷◌ (retold_alike d.1) M.alike;
      answered = ap (λ r. r.0 ∷ answers r.1 M.calls) d.2 ∙ ap (λ l. (step s c).0 ∷ l) M.answered;
      counted = ap (λ r. counts (run r.1 M.calls)) d.2 ∙ M.counted;
    }

-- After a call and the retold call: the answers are the same, and what comes next from the one state has a match from
-- the other.
chosen_matched :
    {V : Type 0} (s : State V) → StaysGrounded s → (c : Call V) (q : Outcome V) → Chosen s (step s c) q → (cs : List (Call V))
    → ((step s c).0 ≡ q.0) × Matched (step s c).1 q.1 cs
chosen_matched s H c q (same_node e) cs =
    (sym (ap (λ r. r.0) e), subst (λ r. Matched (step s c).1 r.1 cs) (sym e) (record { calls = cs; alike = refl; answered = refl; counted = refl }))
chosen_matched s H c q (other_node i j li lj e) cs = (
  sym (ap (λ r. r.0) e),
  subst (λ r. Matched (step s c).1 r.1 cs) (sym e) (swapped_matched i j (step s c).1 (rw length_kept li) (rw length_kept lj) (stays_on s c H) cs),
)

-- The law, by induction on the second list: after the first calls, a match of the rest of the first list stands for it, so
-- that both rests start from one state again.
from_one_state : {V : Type 0} (others : List (Call V)) (s : State V) → StaysGrounded s → (calls : List (Call V)) → ChosenAlike s calls others
unfolding run log
from_one_state [] s H [] e = (refl, refl)
from_one_state [] s H (c ∷ cs) e = grind arith
from_one_state (d ∷ ds) s H [] e = grind arith
from_one_state (d ∷ ds) s H (c ∷ cs) e =
    let rest : map without_node cs ≡ map without_node ds = cc in
    let m = chosen_matched s H c (step s d) (step_chosen s (H []) (alike_retold c d (cc))) cs in
    let r = from_one_state ds (step s d).1 (stays_on s d H) m.1.calls (m.1.alike ∙ rest) in
    (ap₂ ◌∷◌ m.0 (sym m.1.answered ∙ r.0), sym m.1.counted ∙ r.1)

pub choice_free : {V : Type 0} (s : State V) → StaysGrounded s → (calls others : List (Call V)) → ChosenAlike s calls others
choice_free s H calls others = from_one_state others s H calls
