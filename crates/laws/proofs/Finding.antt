-- Which version a read comes to, going down from a node, and what changes of the list leave that so.
use Rattle.std.proofs.Common.{◌≡◌, ℕ, ◌<◌, ◌≤◌, Bool, List, [], ◌∷◌, get_or, set, Some, None, Option, sym, ap, ◌∙◌, subst, ⊎_elim, arith}
use Rattle.laws.proofs.Frames.{set_either}
use Rattle.std.specs.List.{Contains}
use Rattle.std.proofs.lemmas.List.Elements.{Contains-append_left, Contains-push}
use Rattle.laws.proofs.CellLists.{on_version_at, version_in_table}
use Rattle.std.proofs.lemmas.List.{length-set, get_or-set_same, get_or-set_other}
use Rattle.std.proofs.lemmas.Bool.{cases_eq, cases_lt}
use Rattle.model.specs.Changes.{above, on_version}
use Rattle.model.specs.Compactions.{scanned}
use Rattle.model.specs.State.{Version, Node, Session, Operation, State, worker, version, slot, free, waiting, opened, idle, reading, write_begun, write_looked, write_linked, scanning, walking}

-- going down from n, the first version stamped up to d holds v; one that waits for its stamp is passed over
pub data Finds {V : Type 0} (N : List (Node V)) (d : ℕ) : ℕ → V → Type 0 where
  hits : {n : ℕ} {v : V} (z : Version V) (t : ℕ) → version (get_or N n free) ≡ Some z → z.stamp ≡ Some t → t ≤ d → z.value ≡ v → Finds N d n v
  goes : {n : ℕ} {v : V} (z : Version V) (t m : ℕ) → version (get_or N n free) ≡ Some z → z.stamp ≡ Some t → d < t → z.older ≡ Some m → Finds N d m v → Finds N d n v
  skips : {n : ℕ} {v : V} (z : Version V) (m : ℕ) → version (get_or N n free) ≡ Some z → z.stamp ≡ None → z.older ≡ Some m → Finds N d m v → Finds N d n v

-- a change that leaves the versions on the way
pub finds_same : {V : Type 0} (N M : List (Node V)) (d : ℕ) (Q : ℕ → Type 0) → ((n : ℕ) → Q n → version (get_or M n free) ≡ version (get_or N n free))
    → ((n m : ℕ) (z : Version V) → Q n → version (get_or N n free) ≡ Some z → z.older ≡ Some m → Q m) → (n : ℕ) (v : V) → Q n → Finds N d n v → Finds M d n v
finds_same N M d Q f g n v q (hits z t e s l w) = hits z t (f n q ∙ e) s l w
finds_same N M d Q f g n v q (goes z t m e s l o r) = goes z t m (f n q ∙ e) s l o (finds_same N M d Q f g m v (g n m z q e o) r)
finds_same N M d Q f g n v q (skips z m e s o r) = skips z m (f n q ∙ e) s o (finds_same N M d Q f g m v (g n m z q e o) r)

-- at a stamped version
pub finds_hit : {V : Type 0} (N : List (Node V)) (d n t : ℕ) (v : V) (y : Version V) → version (get_or N n free) ≡ Some y → y.stamp ≡ Some t → t ≤ d → Finds N d n v → y.value ≡ v
finds_hit x d n t v y e s l o = grind arith

pub finds_next : {V : Type 0} (N : List (Node V)) (d n t : ℕ) (v : V) (y : Version V) → version (get_or N n free) ≡ Some y → y.stamp ≡ Some t → d < t → Finds N d n v
    → (m : ℕ) × (y.older ≡ Some m) × Finds N d m v
finds_next x d n t v y e s l o = grind arith

pub finds_on : {V : Type 0} (N : List (Node V)) (d n t m : ℕ) (v : V) (y : Version V) → version (get_or N n free) ≡ Some y → y.stamp ≡ Some t → d < t → y.older ≡ Some m → Finds N d n v
    → Finds N d m v
finds_on x d n t m v y e s l o f = grind arith

pub finds_skip : {V : Type 0} (N : List (Node V)) (d n : ℕ) (v : V) (y : Version V) → version (get_or N n free) ≡ Some y → y.stamp ≡ None → Finds N d n v
    → (m : ℕ) × (y.older ≡ Some m) × Finds N d m v
finds_skip x d n v y e s o = grind arith

-- a version leaves that d does not need
module _ {V : Type 0} (N : List (Node V)) (p q : ℕ) (v u : Version V) (a e : ℕ) (B : List Bool) (hp : version (get_or N p free) ≡ Some v) (sp : v.stamp ≡ Some e) (operation : v.older ≡ Some q)
    (hq : version (get_or N q free) ≡ Some u) (sq : u.stamp ≡ Some a) (ne : p ≡ q → ⊥) (d : ℕ) (out : a ≤ d → d < e → ⊥) where
  abbrev M : List (Node V)
  M = set (set N p (on_version (λ v. above v u.older) (get_or N p free))) q (waiting u B)

  at_q : version (get_or M q free) ≡ Some u
  at_q = grind (arith, get_or-set_same, length-set, version_in_table)

  at_p : version (get_or M p free) ≡ Some (above v u.older)
  at_p = grind (arith, get_or-set_other, on_version_at)

  at_rest : (j : ℕ) → (j ≡ p → ⊥) → version (get_or M j free) ≡ version (get_or N j free)
  at_rest j n =
      set_either (set N p (on_version (λ v. above v u.older) (get_or N p free))) q j (waiting u B) free (λ y. version y ≡ version (get_or N j free))
      (λ i. sym hq ∙ ap (λ k. version (get_or N k free)) (sym i)) (ap version (get_or-set_other N p j _ free n))

  step_at : (j m : ℕ) (w : V) (z : Version V) (t : ℕ) → version (get_or N j free) ≡ Some z → z.stamp ≡ Some t → d < t → z.older ≡ Some m → Finds M d m w → Finds M d j w
  step_at j m w z t h s l o r =
      ⊎_elim
      (λ i. let h1 : version (get_or N p free) ≡ Some z = ap (λ k. version (get_or N k free)) (sym i) ∙ h in
      let y : v ≡ z = cc in
      let m1 = ap (λ y. y.older) y in
      let mq : m ≡ q = cc in
      let t1 = ap (λ y. y.stamp) y in
      let te : t ≡ e = cc in
      ⊎_elim
      (λ da. let g = finds_next M d q a w u at_q sq da (subst (λ k. Finds M d k w) mq r) in
      subst (λ k. Finds M d k w) (sym i) (goes (above v u.older) e g.0 at_p sp (subst (λ y. d < y) te l) g.1 g.2))
      (λ ad. absurd (out ad (subst (λ y. d < y) te l))) (cases_lt d a))
      (λ n. goes z t m (at_rest j n ∙ h) s l o r) (cases_eq j p)

  pub finds_dropped : (j : ℕ) (w : V) → Finds N d j w → Finds M d j w
  finds_dropped j w (hits z t h s l y) =
      ⊎_elim
      (λ i. let h1 : version (get_or N p free) ≡ Some z = ap (λ k. version (get_or N k free)) (sym i) ∙ h in
      let x : v ≡ z = cc in
      subst (λ k. Finds M d k w) (sym i) (hits (above v u.older) t at_p (ap (λ y. y.stamp) x ∙ s) l (ap (λ y. y.value) x ∙ y)))
      (λ n. hits z t (at_rest j n ∙ h) s l y) (cases_eq j p)
  finds_dropped j w (goes z t m h s l o r) = step_at j m w z t h s l o (finds_dropped m w r)
  finds_dropped j w (skips z m h s o r) =
      skips z m
      (at_rest j (λ i. let h1 : version (get_or N p free) ≡ Some z = ap (λ k. version (get_or N k free)) (sym i) ∙ h in
      let x : v ≡ z = cc in let y = ap (λ y. y.stamp) x in grind arith) ∙ h) s o (finds_dropped m w r)

-- the scan of a compaction: no open session below its cutoff is missed
pub noted_old : (o : Option ℕ) (q : List ℕ) (d : ℕ) → Contains q d → Contains (scanned o q) d
noted_old None q d h = h
noted_old (Some c) q d h = Contains-append_left q (c ∷ []) d h

pub noted_new : (r : Session) (q : List ℕ) (d : ℕ) → r ≡ opened d → Contains (scanned (slot r) q) d
noted_new r q d e = subst (λ z. Contains (scanned (slot z) q) d) (sym e) (Contains-push q d)

-- of the sessions: those of the first i workers
abbrev pub Knows : {V : Type 0} → State V → ℕ → List ℕ → ℕ → Type 0
Knows s t q i = (u d : ℕ) → u < i → (worker s u).session ≡ opened d → d < t → Contains q d

abbrev pub ScanOk : {V : Type 0} → State V → Operation → Type 0
ScanOk s idle = Unit {0}
ScanOk s (reading x p) = Unit {0}
ScanOk s (write_begun x b) = Unit {0}
ScanOk s (write_looked x b) = Unit {0}
ScanOk s (write_linked x n) = Unit {0}
ScanOk s (scanning x t i q) = (t ≤ s.clock) × Knows s t q i
ScanOk s (walking x t q p r) = (t ≤ s.clock) × ((i : ℕ) → Knows s t q i)
