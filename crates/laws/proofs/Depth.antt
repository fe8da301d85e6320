-- How many versions a read has before it, and that no step of another worker makes them more.
use Rattle.std.proofs.Common.{◌≡◌, ℕ, suc, ◌<◌, ◌≤◌, Bool, true, false, List, map, length, get_or, set, Some, None, Option, sym, refl, ap, ◌∙◌, subst, ⊎_elim, arith}
use Rattle.std.proofs.lemmas.Bool.{cases_eq}
use Rattle.model.specs.Changes.{stamped, above, on_version, unmark}
use Rattle.model.specs.State.{Version, Node, free, linked, waiting}
use Rattle.laws.proofs.CellLists.{Marked, WithStamp, older_of, stamp_of, KeptFor, node_in, Ages, WellLinked, unmark_same, given_older}
use Rattle.laws.proofs.Frames.{set_either, map_get_or}
use Rattle.laws.proofs.Linking.{node_linked}
use Rattle.laws.proofs.TakingOut.{older_other, older_p, stamp_dropped}

-- from p downward there are d versions
pub data Depth {V : Type 0} (N : List (Node V)) : ℕ → ℕ → Type 0 where
  last : {p : ℕ} → older_of (node_in N p) ≡ None → Depth N p 1
  more : {p m d : ℕ} → older_of (node_in N p) ≡ Some m → Depth N m d → Depth N p (suc d)

-- what is still to be done about a stamp, with that reading
abbrev pub steps_to_stamp : Option ℕ → Option ℕ → ℕ
steps_to_stamp None None = 2
steps_to_stamp None (Some r) = 1
steps_to_stamp (Some t) h = 0

-- a change of the nodes by which a reader u that waits has not more to do
pub record NoDeeper {V : Type 0} (u : ℕ) (N M : List (Node V)) : Type 0 where
  pub depth_is : (p d : ℕ) → KeptFor u (node_in N p) → Depth N p d → (e : ℕ) × (e ≤ d) × Depth M p e
  pub waits : (p : ℕ) (h : Option ℕ) → KeptFor u (node_in N p) → steps_to_stamp (stamp_of (node_in M p)) h ≤ steps_to_stamp (stamp_of (node_in N p)) h

pub no_deeper_refl : {V : Type 0} (u : ℕ) (N : List (Node V)) → NoDeeper u N N
no_deeper_refl u N = record { depth_is = λ p d k D. (d, omega arith, D); waits = λ p h k. omega arith }

depth_kept :
    {V : Type 0} {H : List ℕ} {N : List (Node V)} {g : Ages} (M : List (Node V)) (u : ℕ) → WellLinked H N g → ((j : ℕ) → KeptFor u (node_in N j) → older_of (node_in M j) ≡ older_of (node_in N j))
    → (p d : ℕ) → KeptFor u (node_in N p) → Depth N p d → Depth M p d
depth_kept M u S f p d k (last o) = last (f p k ∙ o)
depth_kept M u S f p d k (more {m = m} {d = e} o D) = more (f p k ∙ o) (depth_kept M u S f m e (S.kept_down u p m k o) D)

pub no_deeper_kept :
    {V : Type 0} {H : List ℕ} {N : List (Node V)} {g : Ages} (M : List (Node V)) (u : ℕ) → WellLinked H N g → ((j : ℕ) → KeptFor u (node_in N j) → older_of (node_in M j) ≡ older_of (node_in N j))
    → ((p : ℕ) (h : Option ℕ) → KeptFor u (node_in N p) → steps_to_stamp (stamp_of (node_in M p)) h ≤ steps_to_stamp (stamp_of (node_in N p)) h) → NoDeeper u N M
no_deeper_kept M u S f w = record { depth_is = λ p d k D. (d, omega arith, depth_kept M u S f p d k D); waits = w }

same_steps_to_stamp : (a b h : Option ℕ) → a ≡ b → steps_to_stamp a h ≤ steps_to_stamp b h
same_steps_to_stamp a b h e = let z = ap (λ y. steps_to_stamp y h) e in omega arith

pub no_deeper_ended : {V : Type 0} {H : List ℕ} {N : List (Node V)} {g : Ages} (w u : ℕ) → WellLinked H N g → (u ≡ w → ⊥) → NoDeeper u N (map (unmark w) N)
no_deeper_ended {N} w u S ne =
    no_deeper_kept (map (unmark w) N) u S
    (λ j k. ap older_of (map_get_or (unmark w) N j free refl) ∙ (unmark_same w u (node_in N j) ne k).0)
    (λ p h k. same_steps_to_stamp _ _ h (ap stamp_of (map_get_or (unmark w) N p free refl) ∙ (unmark_same w u (node_in N p) ne k).1))

given_steps_to_stamp : {V : Type 0} (t : ℕ) (x : Node V) (h : Option ℕ) → steps_to_stamp (stamp_of (on_version (λ v. stamped v t) x)) h ≤ steps_to_stamp (stamp_of x) h
given_steps_to_stamp t x h = grind arith

pub no_deeper_given : {V : Type 0} {H : List ℕ} {N : List (Node V)} {g : Ages} (n t u : ℕ) → WellLinked H N g → NoDeeper u N (set N n (on_version (λ v. stamped v t) (node_in N n)))
no_deeper_given {N} n t u S =
    no_deeper_kept _ u S
    (λ j k. set_either N n j _ free (λ z. older_of z ≡ older_of (node_in N j)) (λ e. given_older t (node_in N n) ∙ ap (λ i. older_of (node_in N i)) (sym e)) refl)
    (λ j h k. set_either N n j _ free (λ z. steps_to_stamp (stamp_of z) h ≤ steps_to_stamp (stamp_of (node_in N j)) h)
    (λ e. subst (λ i. steps_to_stamp (stamp_of (on_version (λ v. stamped v t) (node_in N n))) h ≤ steps_to_stamp (stamp_of (node_in N i)) h) (sym e) (given_steps_to_stamp t (node_in N n) h)) (omega arith))

pub no_deeper_linked :
    {V : Type 0} (H : List ℕ) (N : List (Node V)) (g : Ages) (S : WellLinked H N g) (x n b : ℕ) (a : V) (lx : x < length H) (hb : get_or H x 0 ≡ b)
    (fb : WithStamp (node_in N b)) (ln : n < length N) (fn : node_in N n ≡ free) (u : ℕ) → NoDeeper u N (set N n (linked (record { value = a; stamp = None; older = Some b })))
no_deeper_linked H N g S x n b a lx hb fb ln fn u =
    no_deeper_kept _ u S (λ j k. ap older_of (node_linked H N g S x n b a lx hb fb ln fn u j k))
    (λ j h k. same_steps_to_stamp _ _ h (ap stamp_of (node_linked H N g S x n b a lx hb fb ln fn u j k)))

-- a version below p leaves
module _ {V : Type 0} (N M : List (Node V)) (p q : ℕ) (o : older_of (node_in N p) ≡ Some q) (rest : (j : ℕ) → (j ≡ p → ⊥) → older_of (node_in M j) ≡ older_of (node_in N j))
    (skip : older_of (node_in M p) ≡ older_of (node_in N q)) where
  depth_skips : (j d : ℕ) → Depth N j d → (e : ℕ) × (e ≤ d) × Depth M j e
  depth_skips j d (last l) =
      ⊎_elim (λ e. absurd (let h = sym (ap (λ i. older_of (node_in N i)) e) ∙ l in grind arith))
      (λ ne. (1, omega arith, last (rest j ne ∙ l))) (cases_eq j p)
  depth_skips j d (more {m = m} l (last k)) =
      ⊎_elim (λ e. (1, omega arith, last (ap (λ i. older_of (node_in M i)) e ∙ skip ∙ (let i : q ≡ m = at_p j m e l in ap (λ i. older_of (node_in N i)) i) ∙ k)))
      (λ ne. let r = depth_skips m 1 (last k) in (suc r.0, omega arith, more (rest j ne ∙ l) r.2)) (cases_eq j p)
    where
      at_p : (j m : ℕ) → j ≡ p → older_of (node_in N j) ≡ Some m → q ≡ m
      at_p j m e l = let h = sym (ap (λ i. older_of (node_in N i)) e) ∙ l in cc
  depth_skips j d (more {m = m} l (more {m = n} {d = c} k D)) =
      ⊎_elim
      (λ e. let r = depth_skips n c D in (suc r.0, omega arith, more (ap (λ i. older_of (node_in M i)) e ∙ skip ∙ (let i : q ≡ m = at_p j m e l in ap (λ i. older_of (node_in N i)) i) ∙ k) r.2))
      (λ ne. let r = depth_skips m (suc c) (more k D) in (suc r.0, omega arith, more (rest j ne ∙ l) r.2)) (cases_eq j p)
    where
      at_p : (j m : ℕ) → j ≡ p → older_of (node_in N j) ≡ Some m → q ≡ m
      at_p j m e l = let h = sym (ap (λ i. older_of (node_in N i)) e) ∙ l in cc

pub no_deeper_taken_out :
    {V : Type 0} (H : List ℕ) (N : List (Node V)) (g : Ages) (S : WellLinked H N g) (p q : ℕ) (v u : Version V) (B : List Bool)
    (sp : node_in N p ≡ linked v) (operation : v.older ≡ Some q) (sq : node_in N q ≡ linked u)
    (mb : (w j : ℕ) → Marked w (node_in N j) → get_or B w false ≡ true) (w : ℕ)
    → NoDeeper w N (set (set N p (on_version (λ v. above v u.older) (node_in N p))) q (waiting u B))
no_deeper_taken_out H N g S p q v u B sp operation sq mb w =
    record {
      depth_is = λ j d k D. depth_skips N _ p q (ap older_of sp ∙ operation) (older_other H N g S p q v u B sp operation sq mb)
          (older_p H N g S p q v u B sp operation sq mb ∙ sym (ap older_of sq)) j d D;
      waits = λ j h k. same_steps_to_stamp _ _ h (stamp_dropped H N g S p q v u B sp operation sq mb j);
    }
