-- What a step does to nodes, scans and sessions, as readers see them.
use Rattle.std.proofs.Common.{◌≡◌, ℕ, suc, ◌<◌, ◌≤◌, Bool, true, ◌⊎◌, List, [], map, length, get_or, set, Some, None, sym, refl, ap, ◌∙◌, subst, ⊎_elim, arith}
use Rattle.std.proofs.lemmas.List.{get_or-set_same, get_or-set_other, get_or_past}
use Rattle.std.proofs.lemmas.Bool.{cases_lt}
use Rattle.stamps.specs.Intervals.{obsolete}
use Rattle.model.specs.Answers.{Answer}
use Rattle.model.specs.Calls.{Call}
use Rattle.model.specs.Changes.{stamped, above, on_version, unmark}
use Rattle.model.specs.Compactions.{scanned, interval}
use Rattle.model.specs.State.{Version, Node, Session, Operation, Worker, State, fresh, node, worker, head, version, slot, free, linked, waiting, opened, idle, reading, write_begun, write_looked, write_linked, scanning, walking}
use Rattle.laws.proofs.Answering.{SessionWay, session_way}
use Rattle.laws.proofs.CellLists.{WithStamp, KeptFor, Ages, WellLinked, older_at, unmark_same, on_version_at, kept_used}
use Rattle.laws.proofs.Effects.{kind_of, refers, Seen, seen_linked, seen_given, Chronicle, Effect, after, effect, works_refers}
use Rattle.laws.proofs.Finding.{Finds, hits, goes, skips, finds_same, finds_skip, noted_old, noted_new, Knows, ScanOk}
use Rattle.laws.proofs.Frames.{set_both, map_get_or}
use Rattle.laws.proofs.SpareNodes.{Spare}
use Rattle.laws.proofs.Transitions.{StampedAt, Transition, refuses, notes, publishes, opens, starts_again, closes, read_begins, write_begins, compaction_begins, takes_reading, gives_stamp, reads, reads_on, looks, links, overtakes, stamps, abandons, scans, takes_head, keeps, takes_out, finishes, loses}

abbrev dummy : {V : Type 0} → Seen V → Chronicle V
dummy g = record { since = λ w. 0; place = λ n. 0; seen = g; order = [] }

-- an open session was open, or is not below the clock
sess_back : {V : Type 0} {k : ℕ} {s : State V} {T : Chronicle V} {c : Call V} {a : Answer V} {s' : State V} {T' : Chronicle V} → Effect k s T c a s' T' → (u d : ℕ) (q : Session)
    → SessionWay s (kind_of c a) u q → q ≡ opened d → ((worker s u).session ≡ opened d) ⊎ (s.clock ≡ d)
sess_back tn u d q x e = grind arith

pub open_before : {V : Type 0} {s : State V} {c : Call V} {a : Answer V} {s' : State V} (g : Seen V) → Transition s c a s' → (u d : ℕ) → (worker s' u).session ≡ opened d
    → ((worker s u).session ≡ opened d) ⊎ (s.clock ≡ d)
open_before {s} g m u d e = let t = effect 0 s (dummy g) m in sess_back t.1 u d _ (session_way 0 s (dummy g) t.1 u) e

-- scans
abbrev pub Scan : {V : Type 0} → State V → Type 0
Scan s = (w : ℕ) → ScanOk s (worker s w).operation

module _ {V : Type 0} (s s' : State V) (cl : s.clock ≤ s'.clock) (back : (u d : ℕ) → (worker s' u).session ≡ opened d → ((worker s u).session ≡ opened d) ⊎ (s.clock ≡ d)) where
  knows_less : (t : ℕ) (q : List ℕ) (i : ℕ) → t ≤ s.clock → Knows s t q i → Knows s' t q i
  knows_less t q i l K u d m e n = ⊎_elim (λ f. K u d m f n) (λ f. absurd (omega arith)) (back u d e)

  scan_less : (o : Operation) → ScanOk s o → ScanOk s' o
  scan_less idle h = tt
  scan_less (reading x p) h = tt
  scan_less (write_begun x b) h = tt
  scan_less (write_looked x b) h = tt
  scan_less (write_linked x n) h = tt
  scan_less (scanning x t i q) h = ((omega arith), knows_less t q i h.0 h.1)
  scan_less (walking x t q p r) h = ((omega arith), λ i. knows_less t q i h.0 (h.1 i))

  scan_by : (u : ℕ) (r : Worker) → u < length s.workers → s'.workers ≡ set s.workers u r → Scan s → ScanOk s' r.operation → Scan s'
  scan_by u r l e A f w =
      subst (λ W. ScanOk s' (get_or W w fresh).operation) (sym e)
      (set_both s.workers u w r fresh (λ z. ScanOk s' z.operation) l (λ p. f) (λ ne. scan_less (worker s w).operation (A w)))

  scan_more : (x t i : ℕ) (q : List ℕ) → ScanOk s (scanning x t i q) → ScanOk s' (scanning x t (suc i) (scanned (slot (worker s i).session) q))
  scan_more x t i q h = (
    (omega arith),
    λ u d l e n. ⊎_elim
        (λ f. ⊎_elim (λ m. noted_old (slot (worker s i).session) q d (h.1 u d m f n))
        (λ m. let p : u ≡ i = omega arith in noted_new (worker s i).session q d (ap (λ y. (worker s y).session) (sym p) ∙ f)) (cases_lt u i))
        (λ f. absurd (let y = h.0 in omega arith)) (back u d e),
  )

  scan_all : (x t i p : ℕ) (q : List ℕ) → length s.workers ≤ i → ScanOk s (scanning x t i q) → ScanOk s' (walking x t q p 0)
  scan_all x t i p q li h = (
    (omega arith),
    λ j u d l e n. ⊎_elim
        (λ f. ⊎_elim (λ m. h.1 u d (omega arith) f n)
        (λ m. absurd (let g = ap (λ (r : Worker). r.session) (get_or_past s.workers u fresh m) in grind arith)) (cases_lt u (length s.workers)))
        (λ f. absurd (let y = h.0 in omega arith)) (back u d e),
  )

-- what a step does to a scan
data ScanWay {V : Type 0} (s s' : State V) : Type 0 where
  c_none : s' ≡ s → ScanWay s s'
  c_off : (u : ℕ) (r : Worker) → u < length s.workers → s'.workers ≡ set s.workers u r → ((z : State V) → ScanOk z r.operation) → ScanWay s s'
  c_same : (u : ℕ) (r : Worker) → u < length s.workers → s'.workers ≡ set s.workers u r → r.operation ≡ (worker s u).operation → ScanWay s s'
  c_begins : (u : ℕ) (r : Worker) (x : ℕ) → u < length s.workers → s'.workers ≡ set s.workers u r → r.operation ≡ scanning x s.clock 0 [] → ScanWay s s'
  c_more : (u : ℕ) (r : Worker) (x t i : ℕ) (q : List ℕ) → u < length s.workers → s'.workers ≡ set s.workers u r → (worker s u).operation ≡ scanning x t i q
      → r.operation ≡ scanning x t (suc i) (scanned (slot (worker s i).session) q) → ScanWay s s'
  c_all : (u : ℕ) (r : Worker) (x t i p : ℕ) (q : List ℕ) → u < length s.workers → s'.workers ≡ set s.workers u r → (worker s u).operation ≡ scanning x t i q
      → length s.workers ≤ i → r.operation ≡ walking x t q p 0 → ScanWay s s'
  c_walks : (u : ℕ) (r : Worker) (x t p k p' k' : ℕ) (q : List ℕ) → u < length s.workers → s'.workers ≡ set s.workers u r → (worker s u).operation ≡ walking x t q p k
      → r.operation ≡ walking x t q p' k' → ScanWay s s'

scan_way : {V : Type 0} {s : State V} {c : Call V} {a : Answer V} {s' : State V} → Transition s c a s' → ScanWay s s'
scan_way (refuses nc) = c_none refl
scan_way (loses lo) = c_none refl
scan_way (notes {w} i e f) = c_same w _ i refl refl
scan_way (publishes {w} i e) = c_same w _ i refl refl
scan_way (opens {w} i e f) = c_same w _ i refl refl
scan_way (starts_again {w} i e f) = c_same w _ i refl refl
scan_way (closes {w} i e f) = c_same w _ i refl refl
scan_way (read_begins {w} i l b e) = c_off w _ i refl (λ z. tt)
scan_way (write_begins {w} i l b) = c_off w _ i refl (λ z. tt)
scan_way (compaction_begins {w} {x} i l b e) = c_begins w _ x i refl refl
scan_way (takes_reading {w} i pt th st he) = c_same w _ i refl refl
scan_way (gives_stamp {w} i pt th st he) = c_same w _ i refl refl
scan_way (reads {w} i e f st l) = c_off w _ i refl (λ z. tt)
scan_way (reads_on {w} i e f st l o) = c_off w _ i refl (λ z. tt)
scan_way (looks {w} i e st) = c_off w _ i refl (λ z. tt)
scan_way (links {w} i e h f) = c_off w _ i refl (λ z. tt)
scan_way (overtakes {w} i e h) = c_off w _ i refl (λ z. tt)
scan_way (stamps {w} i e st) = c_off w _ i refl (λ z. tt)
scan_way (abandons {w} i e) = c_off w _ i refl (λ z. tt)
scan_way {s} (scans {w} {x} {t} {i = j} {q} i e l) = c_more w _ x t j q i refl e refl
scan_way {s} (takes_head {w} {x} {t} {i = j} {q} i e l) = c_all w _ x t j (head s x) q i refl e l refl
scan_way {s} (keeps {w} {x} {t} {p} {r} {n} {q = q} i e st o su d) = c_walks w _ x t p r n r q i refl e refl
scan_way {s} (takes_out {w} {x} {t} {p} {r} {q = q} i e st o su d) = c_walks w _ x t p r p (suc r) q i refl e refl
scan_way (finishes {w} i e st o) = c_off w _ i refl (λ z. tt)

scan_go : {V : Type 0} (s s' : State V) → s.clock ≤ s'.clock → ((u d : ℕ) → (worker s' u).session ≡ opened d → ((worker s u).session ≡ opened d) ⊎ (s.clock ≡ d))
    → Scan s → ScanWay s s' → Scan s'
scan_go s s' cl bk A (c_none e) = subst Scan (sym e) A
scan_go s s' cl bk A (c_off u r l e f) = scan_by s s' cl bk u r l e A (f s')
scan_go s s' cl bk A (c_same u r l e f) = scan_by s s' cl bk u r l e A (subst (ScanOk s') (sym f) (scan_less s s' cl bk (worker s u).operation (A u)))
scan_go s s' cl bk A (c_begins u r x l e f) =
    scan_by s s' cl bk u r l e A (subst (ScanOk s') (sym f) (cl, λ v d m. absurd (omega arith)))
scan_go s s' cl bk A (c_more u r x t i q l e f g) = scan_by s s' cl bk u r l e A (subst (ScanOk s') (sym g) (scan_more s s' cl bk x t i q (subst (ScanOk s) f (A u))))
scan_go s s' cl bk A (c_all u r x t i p q l e f h g) = scan_by s s' cl bk u r l e A (subst (ScanOk s') (sym g) (scan_all s s' cl bk x t i p q h (subst (ScanOk s) f (A u))))
scan_go s s' cl bk A (c_walks u r x t p k p' k' q l e f g) =
    scan_by s s' cl bk u r l e A (subst (ScanOk s') (sym g) (scan_less s s' cl bk (walking x t q p k) (subst (ScanOk s) f (A u))))

-- what a step does to nodes and heads
pub data NodeWay {V : Type 0} (s : State V) (g : Seen V) (s' : State V) : Seen V → Type 0 where
  n_same : s'.nodes ≡ s.nodes → s'.heads ≡ s.heads → NodeWay s g s' g
  n_ended : (w : ℕ) → s'.nodes ≡ map (unmark w) s.nodes → s'.heads ≡ s.heads → (worker s' w).operation ≡ idle → NodeWay s g s' g
  n_given : (w n t : ℕ) (v : Version V) → refers (worker s w).operation ≡ Some n → version (node s n) ≡ Some v → v.stamp ≡ None → (worker s w).clock_reading ≡ Some t
      → s'.nodes ≡ set s.nodes n (on_version (λ v. stamped v t) (node s n)) → s'.heads ≡ s.heads → NodeWay s g s' (seen_given n t v.value g)
  n_linked : (w x b n : ℕ) (a : V) → (worker s w).operation ≡ write_looked x b → head s x ≡ b → Spare s n
      → s'.nodes ≡ set s.nodes n (linked (record { value = a; stamp = None; older = Some b })) → s'.heads ≡ set s.heads x n → NodeWay s g s' (seen_linked s x n b a g)
  n_dropped : (w x t : ℕ) (q : List ℕ) (p r n : ℕ) (v u : Version V) (a e : ℕ) (B : List Bool) → (worker s w).operation ≡ walking x t q p r → StampedAt s p v e → v.older ≡ Some n → StampedAt s n u a
      → obsolete t q (interval a e) ≡ true → s'.nodes ≡ set (set s.nodes p (on_version (λ v. above v u.older) (node s p))) n (waiting u B) → s'.heads ≡ s.heads → NodeWay s g s' g

idle_at : (W : List Worker) (w : ℕ) (q : Session) → w < length W → (get_or (set W w (record { session = q; operation = idle; clock_reading = None })) w fresh).operation ≡ idle
idle_at W w q l = ap (λ r. r.operation) (get_or-set_same W w (record { session = q; operation = idle; clock_reading = None }) fresh l)

pub node_way : {V : Type 0} {s : State V} {c : Call V} {a : Answer V} {s' : State V} (g : Seen V) (m : Transition s c a s') → NodeWay s g s' (after m g)
node_way g (refuses nc) = n_same refl refl
node_way g (loses lo) = n_same refl refl
node_way g (notes i e f) = n_same refl refl
node_way g (publishes i e) = n_same refl refl
node_way g (opens i e f) = n_same refl refl
node_way g (starts_again i e f) = n_same refl refl
node_way g (closes i e f) = n_same refl refl
node_way g (read_begins i l b e) = n_same refl refl
node_way g (write_begins i l b) = n_same refl refl
node_way g (compaction_begins i l b e) = n_same refl refl
node_way g (takes_reading i pt th st he) = n_same refl refl
node_way g (gives_stamp {w} {n} {t} {v = v} i pt th st he) = n_given w n t v (works_refers pt) th st he refl refl
node_way {s} g (reads {w} i e f st l) = n_ended w refl refl (idle_at s.workers w _ i)
node_way g (reads_on i e f st l o) = n_same refl refl
node_way g (looks i e st) = n_same refl refl
node_way g (links {w} {x} {b} {n} {a} i e h f) = n_linked w x b n a e h f refl refl
node_way {s} g (overtakes {w} i e h) = n_ended w refl refl (idle_at s.workers w _ i)
node_way {s} g (stamps {w} i e st) = n_ended w refl refl (idle_at s.workers w _ i)
node_way {s} g (abandons {w} i e) = n_ended w refl refl (idle_at s.workers w _ i)
node_way g (scans i e l) = n_same refl refl
node_way g (takes_head i e l) = n_same refl refl
node_way g (keeps i e st o su d) = n_same refl refl
node_way g (takes_out {w} {x} {t} {p} {r} {n} {a} {e = k} {q = q} {J = J} {v = v} {u = u} i e st o su d) =
    n_dropped w x t q p r n v u a k _ e st o su (J.lawful t q (interval a k) d) refl refl
node_way {s} g (finishes {w} i e st o) = n_ended w refl refl (idle_at s.workers w _ i)

pub scan_move : {V : Type 0} {s : State V} {c : Call V} {a : Answer V} {s' : State V} (g : Seen V) → Transition s c a s' → s.clock ≤ s'.clock → Scan s → Scan s'
scan_move {s} {s'} g m cl A = scan_go s s' cl (open_before g m) A (scan_way m)

-- the newest of a cell: what is seen from its stamp on
pub data HeadSeen {V : Type 0} (N : List (Node V)) (g : Seen V) (h x : ℕ) : Type 0 where
  seen_stamped : (z : Version V) (t : ℕ) → version (get_or N h free) ≡ Some z → z.stamp ≡ Some t → g.last x ≤ t → ((c : ℕ) → t ≤ c → g.sees x c ≡ z.value) → HeadSeen N g h x
  seen_unstamped : (z y : Version V) (m a : ℕ) → version (get_or N h free) ≡ Some z → z.stamp ≡ None → z.older ≡ Some m → version (get_or N m free) ≡ Some y → y.stamp ≡ Some a
      → g.last x ≤ a → ((c : ℕ) → a ≤ c → g.sees x c ≡ g.base h) → y.value ≡ g.base h → HeadSeen N g h x

pub head_seen_finds : {V : Type 0} (N : List (Node V)) (g : Seen V) (h x d : ℕ) → ((n t : ℕ) (z : Version V) → version (get_or N n free) ≡ Some z → z.stamp ≡ Some t → t ≤ d)
    → HeadSeen N g h x → Finds N d h (g.sees x d)
head_seen_finds N g h x d l (seen_stamped z t e s k f) = hits z t e s (l h t z e s) (sym (f d (l h t z e s)))
head_seen_finds N g h x d l (seen_unstamped z y m a e s o ey sy k f b) = skips z m e s o (hits y a ey sy (l m a y ey sy) (b ∙ sym (f d (l m a y ey sy))))

-- versions over a change
module _ {V : Type 0} (N : List (Node V)) where
  pub ended_same : (w u n : ℕ) → (u ≡ w → ⊥) → KeptFor u (get_or N n free) → version (get_or (map (unmark w) N) n free) ≡ version (get_or N n free)
  ended_same w u n ne k = ap version (map_get_or (unmark w) N n free refl) ∙ (unmark_same w u (get_or N n free) ne k).2

  pub given_same : (n t j : ℕ) → (j ≡ n → ⊥) → version (get_or (set N n (on_version (λ v. stamped v t) (get_or N n free))) j free) ≡ version (get_or N j free)
  given_same n t j ne = ap version (get_or-set_other N n j _ free ne)

  pub awaits_not_stamped : (n m : ℕ) (v : Version V) → version (get_or N n free) ≡ Some v → v.stamp ≡ None → WithStamp (get_or N m free) → m ≡ n → ⊥
  awaits_not_stamped n m v e s f p = grind arith

  -- the way down from a kept node
  pub down_ended : {H : List ℕ} {h : Ages} (w u d n : ℕ) (v : V) → WellLinked H N h → (u ≡ w → ⊥) → KeptFor u (get_or N n free) → Finds N d n v → Finds (map (unmark w) N) d n v
  down_ended w u d n v S ne k f =
      finds_same N (map (unmark w) N) d (λ j. KeptFor u (get_or N j free)) (λ j q. ended_same w u j ne q) (λ j m z q e o. S.kept_down u j m q (older_at (get_or N j free) z m e o)) n v k f

  pub down_given : {H : List ℕ} {h : Ages} (i t u d n : ℕ) (v : V) (y : Version V) → WellLinked H N h → version (get_or N i free) ≡ Some y → y.stamp ≡ None → (n ≡ i → ⊥) → KeptFor u (get_or N n free)
      → Finds N d n v → Finds (set N i (on_version (λ v. stamped v t) (get_or N i free))) d n v
  down_given i t u d n v y S hy sy ne k f =
      finds_same N _ d (λ j. KeptFor u (get_or N j free) × (j ≡ i → ⊥)) (λ j q. given_same i t j q.1)
      (λ j m z q e o. (S.kept_down u j m q.0 (older_at (get_or N j free) z m e o), awaits_not_stamped i m y hy sy (S.stamped_down u j m q.0 (older_at (get_or N j free) z m e o)))) n v (k, ne) f

  pub down_linked : {H : List ℕ} {h : Ages} (i u d n : ℕ) (v : V) (x : Node V) → WellLinked H N h → get_or N i free ≡ free → KeptFor u (get_or N n free) → Finds N d n v → Finds (set N i x) d n v
  down_linked i u d n v x S fr k f =
      finds_same N (set N i x) d (λ j. KeptFor u (get_or N j free)) (λ j q. ap version (get_or-set_other N i j x free (λ p. kept_used u (get_or N j free) q (ap (λ j. get_or N j free) p ∙ fr))))
      (λ j m z q e o. S.kept_down u j m q (older_at (get_or N j free) z m e o)) n v k f

  -- a stamp is given to n itself
  pub self_given : {H : List ℕ} {h : Ages} (i t u d : ℕ) (v : V) (y : Version V) → WellLinked H N h → version (get_or N i free) ≡ Some y → y.stamp ≡ None → KeptFor u (get_or N i free)
      → Finds N d i v → (t ≤ d → Finds (set N i (on_version (λ v. stamped v t) (get_or N i free))) d i y.value)
      × (d < t → Finds (set N i (on_version (λ v. stamped v t) (get_or N i free))) d i v)
  self_given i t u d v y S hy sy k f =
      let r = finds_skip N d i v y hy sy f in
      let o = older_at (get_or N i free) y r.0 hy r.1 in
      let at_i : version (get_or (set N i (on_version (λ v. stamped v t) (get_or N i free))) i free) ≡ Some (stamped y t) =
      on_version_at (λ v. stamped v t) N i y hy in (
        λ l. hits (stamped y t) t at_i refl l refl,
        λ l. goes (stamped y t) t r.0 at_i refl l r.1
            (down_given i t u d r.0 v y S hy sy (awaits_not_stamped i r.0 y hy sy (S.stamped_down u i r.0 k o)) (S.kept_down u i r.0 k o) r.2),
      )
