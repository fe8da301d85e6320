-- A version that is taken out leaves the lists of the cells in shape.
use Rattle.std.proofs.Common.{◌≡◌, ℕ, ◌<◌, ◌≤◌, Bool, true, false, List, length, get_or, set, Some, None, sym, ap, ◌∙◌, subst, inl, inr, ⊎_elim, arith}
use Rattle.std.proofs.lemmas.List.{length-set}
use Rattle.std.proofs.lemmas.Bool.{cases_lt}
use Rattle.model.specs.Changes.{above, on_version}
use Rattle.model.specs.State.{Version, Node, free, linked, waiting}
use Rattle.laws.proofs.CellLists.{IsLinked, Marked, WithStamp, older_of, KeptFor, node_in, Ages, WellLinked, apart, stamp_of, linked_in}
use Rattle.laws.proofs.Frames.{set_split}

-- q, next older below the linked p, leaves the list and waits with the marks B
module _ {V : Type 0} (H : List ℕ) (N : List (Node V)) (g : Ages) (S : WellLinked H N g) (p q : ℕ) (v u : Version V) (B : List Bool)
    (sp : node_in N p ≡ linked v) (operation : v.older ≡ Some q) (sq : node_in N q ≡ linked u)
    (mb : (w j : ℕ) → Marked w (node_in N j) → get_or B w false ≡ true) where
  abbrev yp : Node V
  yp = on_version (λ v. above v u.older) (node_in N p)

  yp_is : yp ≡ linked (above v u.older)
  yp_is = ap (on_version (λ v. above v u.older)) sp

  abbrev M : List (Node V)
  M = set (set N p yp) q (waiting u B)

  record Q (j : ℕ) : Type 0 where
    is : j ≡ q
    now : node_in M j ≡ waiting u B

  record P (j : ℕ) : Type 0 where
    is : j ≡ p
    isn't : j ≡ q → ⊥
    now : node_in M j ≡ linked (above v u.older)

  record O (j : ℕ) : Type 0 where
    isn't : j ≡ q → ⊥
    nor : j ≡ p → ⊥
    now : node_in M j ≡ node_in N j

  data View (j : ℕ) : Type 0 where
    out : Q j → View j
    over : P j → View j
    other : O j → View j

  p_linked : IsLinked (node_in N p)
  p_linked = subst IsLinked (sym sp) tt

  q_linked : IsLinked (node_in N q)
  q_linked = subst IsLinked (sym sq) tt

  view : (j : ℕ) → View j
  view j =
      ⊎_elim (λ h. out (record { is = h.0; now = h.1 }))
      (λ h. ⊎_elim (λ k. over (record { is = k.0; isn't = h.0; now = h.1 ∙ k.1 ∙ yp_is }))
      (λ k. other (record { isn't = h.0; nor = k.0; now = h.1 ∙ k.1 }))
      (set_split N p j yp free (linked_in N p p_linked)))
      (set_split (set N p yp) q j (waiting u B) free (rw length-set (linked_in N q q_linked)))

  p_older : older_of (node_in N p) ≡ Some q
  p_older = ap older_of sp ∙ operation

  q_older : (m : ℕ) → u.older ≡ Some m → older_of (node_in N q) ≡ Some m
  q_older m o = ap older_of sq ∙ o

  below : (g.rank q < g.rank p) × (g.cell q ≡ g.cell p)
  below = S.rank_down 0 p q (inl p_linked) p_older

  back : (j : ℕ) → IsLinked (node_in M j) → IsLinked (node_in N j) × (j ≡ q → ⊥)
  back j h = let x = view j in grind arith

  pub on_dropped : (j : ℕ) → IsLinked (node_in N j) → (j ≡ q → ⊥) → IsLinked (node_in M j)
  on_dropped j h n = let x = view j in grind arith

  pub back_dropped : (w j : ℕ) → KeptFor w (node_in M j) → KeptFor w (node_in N j)
  back_dropped w j h = let x = view j in grind arith

  pub stamp_left : (j : ℕ) → WithStamp (node_in N j) → WithStamp (node_in M j)
  stamp_left j h = let x = view j in grind arith

  -- a linked node below another than p is not q
  not_q : (j m : ℕ) → IsLinked (node_in N j) → (j ≡ p → ⊥) → older_of (node_in N j) ≡ Some m → m ≡ q → ⊥
  not_q j m h n o e = n (apart S j p q h p_linked (o ∙ ap Some e) p_older)

  -- below q
  under : (m : ℕ) → u.older ≡ Some m → IsLinked (node_in M m) × (g.rank m < g.rank q) × (g.cell m ≡ g.cell q)
  under m o =
      let r = S.rank_down 0 q m (inl q_linked) (q_older m o) in
      (on_dropped m (S.down_linked q m q_linked (q_older m o)) (λ e. let f = ap g.rank e in omega arith), r.0, r.1)

  same_older : {j : ℕ} (m : ℕ) → O j → older_of (node_in M j) ≡ Some m → older_of (node_in N j) ≡ Some m
  same_older m a o = sym (ap older_of a.now) ∙ o

  p_down : {j : ℕ} (m : ℕ) → P j → older_of (node_in M j) ≡ Some m → u.older ≡ Some m
  p_down m a o = sym (ap older_of a.now) ∙ o

  q_down : {j : ℕ} (m : ℕ) → Q j → older_of (node_in M j) ≡ Some m → u.older ≡ Some m
  q_down m a o = sym (ap older_of a.now) ∙ o

  down : (j m : ℕ) → IsLinked (node_in M j) → older_of (node_in M j) ≡ Some m → View j → IsLinked (node_in M m)
  down j m h o x = grind (arith, under, p_down, same_older, on_dropped, not_q)

  nexts :
      (j m k : ℕ) → IsLinked (node_in M j) → older_of (node_in M j) ≡ Some m → IsLinked (node_in N k) × (k ≡ q → ⊥) → g.cell k ≡ g.cell j → g.rank k < g.rank j
      → View j → g.rank k ≤ g.rank m
  nexts j m k h o lk c r x = grind (arith, p_linked, p_older, below, q_linked, q_older, p_down, cases_lt, same_older)

  lasts : (j k : ℕ) → IsLinked (node_in M j) → older_of (node_in M j) ≡ None → IsLinked (node_in N k) × (k ≡ q → ⊥) → g.cell k ≡ g.cell j → View j → g.rank j ≤ g.rank k
  lasts j k h o lk c x = grind (arith, below, q_linked, p_linked, p_older, cases_lt)

  kepts : (w j m : ℕ) → KeptFor w (node_in M j) → older_of (node_in M j) ≡ Some m → View j → View m → KeptFor w (node_in M m)
  kepts w j m k o (out a) b = inl (under m (q_down m a o)).0
  kepts w j m k o (over a) b = inl (under m (p_down m a o)).0
  kepts w j m k o (other a) b = go (subst (KeptFor w) a.now k) b
    where
      go : KeptFor w (node_in N j) → View m → KeptFor w (node_in M m)
      go (inl l) b = inl (down j m (subst IsLinked (sym a.now) l) o (other a))
      go (inr l) (out b) = inr (subst (Marked w) (sym b.now) (mb w j l))
      go (inr l) (over b) = inl (subst IsLinked (sym b.now) tt)
      go (inr l) (other b) = subst (KeptFor w) (sym b.now) (S.kept_down w j m (inr l) (same_older m a o))

  firms : (w j m : ℕ) → KeptFor w (node_in M j) → older_of (node_in M j) ≡ Some m → View j → WithStamp (node_in M m)
  firms w j m k o (out a) = stamp_left m (S.stamped_down 0 q m (inl q_linked) (q_older m (q_down m a o)))
  firms w j m k o (over a) = stamp_left m (S.stamped_down 0 q m (inl q_linked) (q_older m (p_down m a o)))
  firms w j m k o (other a) = stamp_left m (S.stamped_down w j m (subst (KeptFor w) a.now k) (same_older m a o))

  ranks : (w j m : ℕ) → KeptFor w (node_in M j) → older_of (node_in M j) ≡ Some m → View j → (g.rank m < g.rank j) × (g.cell m ≡ g.cell j)
  ranks w j m k o (out a) =
      let t = under m (q_down m a o) in
      let e = ap g.cell a.is in
      let f = ap g.rank a.is in
      omega arith
  ranks w j m k o (over a) =
      let t = under m (p_down m a o) in
      let e = ap g.cell a.is in
      let f = ap g.rank a.is in
      let d = below in
      omega arith
  ranks w j m k o (other a) = S.rank_down w j m (subst (KeptFor w) a.now k) (same_older m a o)

  tops : (x : ℕ) → x < length H → IsLinked (node_in M (get_or H x 0))
  tops x l = grind (arith, on_dropped, below, p_linked)

  pub well_linked_without : WellLinked H M g
  well_linked_without =
      record {
        head_linked = tops;
        head_cell = S.head_cell;
        head_newest = λ x n l ln e. S.head_newest x n l (back n ln).0 e;
        same = λ n k ln lk c r. S.same n k (back n ln).0 (back k lk).0 c r;
        down_linked = λ n m ln o. down n m ln o (view n);
        down_next = λ n m k ln o lk c r. nexts n m k ln o (back k lk) c r (view n);
        down_last = λ n k ln o lk c. lasts n k ln o (back k lk) c (view n);
        kept_down = λ w n m k o. kepts w n m k o (view n) (view m);
        stamped_down = λ w n m k o. firms w n m k o (view n);
        rank_down = λ w n m k o. ranks w n m k o (view n);
        small = λ w n k. S.small w n (back_dropped w n k);
        in_cell = λ n ln. S.in_cell n (back n ln).0;
      }

  pub kept_dropped : (w j : ℕ) → get_or B w false ≡ true → KeptFor w (node_in N j) → KeptFor w (node_in M j)
  kept_dropped w j bw h = let x = view j in grind arith

  pub marked_dropped : (w j : ℕ) → Marked w (node_in M j) → get_or B w false ≡ true
  marked_dropped w j h = let x = view j in grind arith

  pub older_other : (j : ℕ) → (j ≡ p → ⊥) → older_of (node_in M j) ≡ older_of (node_in N j)
  older_other j ne = let x = view j in grind arith

  pub older_p : older_of (node_in M p) ≡ u.older
  older_p = let x = view p in grind arith

  pub stamp_dropped : (j : ℕ) → stamp_of (node_in M j) ≡ stamp_of (node_in N j)
  stamp_dropped j = let x = view j in grind arith
