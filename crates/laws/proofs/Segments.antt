-- Segments of a list: the versions from the head that a compaction took down to its position, and how many of them are
-- stamped up to its cutoff.
use Rattle.std.proofs.Common.{◌≡◌, ℕ, ◌+◌, ◌<◌, ◌≤◌, List, [], ◌∷◌, Some, None, Option, sym, ap, ◌∙◌, subst, inl, arith}
use Rattle.model.specs.State.{Version, Node, State, node}
use Rattle.laws.specs.Space.{Down, ends, goes_on, up_to, stamped_up_to}
use Rattle.laws.proofs.CellLists.{IsLinked, older_of, stamp_of, node_in, Ages, WellLinked, linked_version}

-- from h down to p; a of those above p are stamped up to t
pub data Segment {V : Type 0} (N : List (Node V)) (t h : ℕ) : ℕ → ℕ → Type 0 where
  starts_here : Segment N t h h 0
  goes_below : {p n a e : ℕ} → Segment N t h p a → IsLinked (node_in N p) → older_of (node_in N p) ≡ Some n → stamp_of (node_in N p) ≡ Some e → Segment N t h n (a + up_to t (Some e))

-- j is in M what it was in N
pub record SameVersion {V : Type 0} (N M : List (Node V)) (j : ℕ) : Type 0 where
  pub still : IsLinked (node_in M j)
  pub older : older_of (node_in M j) ≡ older_of (node_in N j)
  pub stamp : (e : ℕ) → stamp_of (node_in N j) ≡ Some e → stamp_of (node_in M j) ≡ Some e

pub segment_kept :
    {V : Type 0} {H : List ℕ} {N : List (Node V)} {g : Ages} (M : List (Node V)) (t h x b : ℕ) → WellLinked H N g
    → ((j : ℕ) → IsLinked (node_in N j) → g.cell j ≡ x → g.rank b < g.rank j → SameVersion N M j) → (p a : ℕ) → g.cell p ≡ x → g.rank b ≤ g.rank p
    → Segment N t h p a → Segment M t h p a
segment_kept M t h x b S f p a c r starts_here = starts_here
segment_kept M t h x b S f p a c r (goes_below {p = q} {a = d} {e = e} s l o k) =
    let i = S.rank_down 0 q p (inl l) o in
    let y = f q l (sym i.1 ∙ c) (omega arith) in
    goes_below (segment_kept M t h x b S f q d (sym i.1 ∙ c) (omega arith) s) y.still (y.older ∙ o) (y.stamp e k)

-- the versions from h downward: those of the segment, then those from p
pub segment_down :
    {V : Type 0} {s : State V} (t h p a : ℕ) → Segment s.nodes t h p a → (vs : List (Version V)) → Down s (Some p) vs
    → (ws : List (Version V)) × Down s (Some h) ws × (stamped_up_to t ws ≡ a + stamped_up_to t vs)
segment_down t h p a starts_here vs D = (vs, D, omega arith)
segment_down {s = s} t h n b (goes_below {p = p} {a = a} {e = e} S l o k) vs D =
    let y = linked_version (node s p) l in
    let r = segment_down t h p a S (y.0 ∷ vs) (goes_on y.0 y.1 (subst (λ m. Down s m vs) (sym o ∙ y.2) D)) in
    let z = r.2 in
    let i = ap (up_to t) (sym k ∙ y.3) in
    (r.0, r.1, omega arith)

-- from the last version: one
pub last_down :
    {V : Type 0} {s : State V} (t p : ℕ) → IsLinked (node s p) → older_of (node s p) ≡ None → (vs : List (Version V)) × Down s (Some p) vs × (stamped_up_to t vs ≤ 1)
last_down {s = s} t p l o =
    let y = linked_version (node s p) l in
    (y.0 ∷ [], goes_on y.0 y.1 (subst (λ m. Down s m []) (sym o ∙ y.2) ends), (let z = one y.0.stamp in omega arith))
  where
    one : (o : Option ℕ) → up_to t o ≤ 1
    one None = omega arith
    one (Some a) = grind arith
