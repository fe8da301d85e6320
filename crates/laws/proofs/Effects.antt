-- What a step does to what the proof remembers beside the state: of each node, each cell and each worker.
use Rattle.std.proofs.Common.{◌≡◌, ℕ, ◌+◌, ◌<◌, Bool, true, false, cond, ◌&&◌, eqb, leb, ◌⊎◌, List, map, length, get_or, set, Some, None, Option, sym, refl, ap, ◌∙◌, subst, inl, inr, ⊎_elim, arith}
use Rattle.std.proofs.lemmas.List.{length-set}
use Rattle.std.proofs.lemmas.Bool.{both_ways}
use Rattle.model.specs.Answers.{Answer, refused, impossible, again, overtaken, granted, number, value, done}
use Rattle.model.specs.Calls.{Call, Note, Publish, Advance, Close, ReadBegin, ReadStep, WriteBegin, WriteLook, WriteOffer, WriteStamp, Abandon, CompactBegin, CompactStep}
use Rattle.model.specs.Changes.{with_worker, with_session, with_operation, with_clock, with_nodes, above, on_version, ended, stamp_given, linked_above, unmark, waits_or_free}
use Rattle.model.specs.State.{Version, Node, Operation, Worker, State, node, worker, head, version, is_reading, any, free, linked, waiting, none, noted, published, opened, idle, reading, write_begun, write_looked, write_linked, scanning, walking}
use Rattle.laws.specs.Conservation.{stands_at}
use Rattle.laws.proofs.CellLists.{Marked, Present, KeptFor, unmark_takes_off, version_in_table, Ages}
use Rattle.laws.proofs.Frames.{set_both, map_each, updated}
use Rattle.laws.proofs.Orders.{Event, opening, giving, insert}
use Rattle.laws.proofs.References.{Anchor, stands_kept}
use Rattle.laws.proofs.SpareNodes.{Spare}
use Rattle.laws.proofs.Transitions.{Transition, WorksAt, StampedAt, by_read, by_look, by_stamp, by_compact, refuses, notes, publishes, opens, starts_again, closes, read_begins, write_begins, compaction_begins, takes_reading, gives_stamp, reads, reads_on, looks, links, overtakes, stamps, abandons, scans, takes_head, keeps, takes_out, finishes, loses}

-- what the log tells of a call with its answer
pub data Kind (V : Type 0) : Type 0 where
  plain : Kind V
  begins_write begins_read : ℕ → ℕ → Kind V
  opens_at stamps_at : ℕ → ℕ → Kind V
  looks_at offers answers : ℕ → V → Kind V

module _ {V : Type 0} where
  abbrev pub if_granted_kind : Answer V → Kind V → Kind V
  if_granted_kind (refused n) k = plain
  if_granted_kind again k = plain
  if_granted_kind impossible k = plain
  if_granted_kind overtaken k = plain
  if_granted_kind granted k = k
  if_granted_kind (number n) k = plain
  if_granted_kind (value v) k = plain
  if_granted_kind (done a b c) k = plain

  abbrev pub if_number_kind : Answer V → (ℕ → Kind V) → Kind V
  if_number_kind (refused n) k = plain
  if_number_kind again k = plain
  if_number_kind impossible k = plain
  if_number_kind overtaken k = plain
  if_number_kind granted k = plain
  if_number_kind (number n) k = k n
  if_number_kind (value v) k = plain
  if_number_kind (done a b c) k = plain

  abbrev pub if_value_kind : Answer V → (V → Kind V) → Kind V
  if_value_kind (refused n) k = plain
  if_value_kind again k = plain
  if_value_kind impossible k = plain
  if_value_kind overtaken k = plain
  if_value_kind granted k = plain
  if_value_kind (number n) k = plain
  if_value_kind (value v) k = k v
  if_value_kind (done a b c) k = plain

  abbrev pub kind_of : Call V → Answer V → Kind V
  kind_of (Note w) a = plain
  kind_of (Publish w) a = plain
  kind_of (Advance w) a = if_number_kind a (opens_at w)
  kind_of (Close w) a = plain
  kind_of (ReadBegin w x) a = if_granted_kind a (begins_read w x)
  kind_of (ReadStep w) a = if_value_kind a (answers w)
  kind_of (WriteBegin w x) a = if_granted_kind a (begins_write w x)
  kind_of (WriteLook w) a = if_value_kind a (looks_at w)
  kind_of (WriteOffer w v n) a = if_granted_kind a (offers w v)
  kind_of (WriteStamp w) a = if_number_kind a (stamps_at w)
  kind_of (Abandon w) a = plain
  kind_of (CompactBegin w x) a = plain
  kind_of (CompactStep w J) a = plain

  -- an answer that tells nothing: the call did not succeed, or not yet
  abbrev pub silent : Answer V → Bool
  silent (refused r) = true
  silent again = true
  silent impossible = true
  silent overtaken = false
  silent granted = false
  silent (number n) = false
  silent (value v) = false
  silent (done t k r) = false

  pub kind_silent : (c : Call V) (a : Answer V) → silent a ≡ true → kind_of c a ≡ plain
  kind_silent x a e = grind arith

-- the cell that an operation writes; whether it may still link; the node that it refers to
abbrev pub writes : Operation → Option ℕ
writes idle = None
writes (reading x p) = None
writes (write_begun x b) = Some x
writes (write_looked x b) = Some x
writes (write_linked x n) = Some x
writes (scanning x t i q) = None
writes (walking x t q p r) = None

abbrev pub refers : Operation → Option ℕ
refers idle = None
refers (reading x p) = Some p
refers (write_begun x b) = Some b
refers (write_looked x b) = None
refers (write_linked x n) = Some n
refers (scanning x t i q) = None
refers (walking x t q p r) = Some p

-- the store's ghost: of a node its cell and what was seen below when it was linked; of a cell the newest stamp, and what is seen at each stamp
pub record Seen (V : Type 0) : Type 0 where
  pub cell : ℕ → ℕ
  pub base : ℕ → V
  pub last : ℕ → ℕ
  pub sees : ℕ → ℕ → V

abbrev pub value_or : {V : Type 0} → V → Node V → V
value_or d free = d
value_or d (linked v) = v.value
value_or d (waiting v ms) = v.value

abbrev pub seen_linked : {V : Type 0} → State V → ℕ → ℕ → ℕ → V → Seen V → Seen V
seen_linked s x n b a g =
    record { cell = updated g.cell n x; base = updated g.base n (value_or a (node s b)); last = g.last; sees = g.sees }

abbrev pub seen_given : {V : Type 0} → ℕ → ℕ → V → Seen V → Seen V
seen_given n t v g =
    record {
      cell = g.cell;
      base = g.base;
      last = updated g.last (g.cell n) t;
      sees = λ y c. cond (eqb (g.cell n) y && leb t c) v (g.sees y c);
    }

abbrev pub after : {V : Type 0} {s : State V} {c : Call V} {a : Answer V} {s' : State V} → Transition s c a s' → Seen V → Seen V
after (refuses nc) g = g
after (loses lo) g = g
after (notes i e f) g = g
after (publishes i e) g = g
after (opens i e f) g = g
after (starts_again i e f) g = g
after (closes i e f) g = g
after (read_begins i l b e) g = g
after (write_begins i l b) g = g
after (compaction_begins i l b e) g = g
after (takes_reading i pt th st he) g = g
after (gives_stamp {n = n} {t = t} {v = v} i pt th st he) g = seen_given n t v.value g
after (reads i e f st l) g = g
after (reads_on i e f st l h) g = g
after (looks i e st) g = g
after {s} (links {x = x} {b = b} {n = n} {a = a} i e h f) g = seen_linked s x n b a g
after (overtakes i e h) g = g
after (stamps i e st) g = g
after (abandons i e) g = g
after (scans i e l) g = g
after (takes_head i e l) g = g
after (keeps i e st o su d) g = g
after (takes_out i e st o su d) g = g
after (finishes i e st o) g = g

-- all ghosts: of a worker the place where its latest write began, of a node the place of the write that linked it
pub record Chronicle (V : Type 0) : Type 0 where
  pub since : ℕ → ℕ
  pub place : ℕ → ℕ
  pub seen : Seen V
  pub order : List (Event V)

-- a slot before and after the end of an operation of u, or a version's leaving
pub record ValueKept {V : Type 0} (u : ℕ) (x y : Node V) : Type 0 where
  pub back : (v : Version V) → version y ≡ Some v → v.stamp ≡ None → (z : Version V) × (version x ≡ Some z) × (z.stamp ≡ None) × (z.value ≡ v.value)
  pub on : (v : Version V) → x ≡ linked v → v.stamp ≡ None → (z : Version V) × (y ≡ linked z) × (z.stamp ≡ None) × (z.value ≡ v.value)
  pub worth : (w : ℕ) → (w ≡ u → ⊥) → KeptFor w x → (d : V) → value_or d y ≡ value_or d x
  pub waiting_stamped : (v : Version V) (ms : List Bool) → y ≡ waiting v ms → ((z : Version V) (ns : List Bool) → x ≡ waiting z ns → Present z.stamp) → Present v.stamp

-- a read begins or goes on, or it is no read
pub data Reading {V : Type 0} (s : State V) (u : ℕ) (c : Call V) (a : Answer V) : Operation → Type 0 where
  starts : {x p d : ℕ} → c ≡ ReadBegin u x → a ≡ granted → (worker s u).session ≡ opened d → p ≡ head s x → x < length s.heads → Reading s u c a (reading x p)
  walks : {x p q d t : ℕ} {v : Version V} → kind_of c a ≡ plain → (worker s u).operation ≡ reading x p → (worker s u).session ≡ opened d → StampedAt s p v t → leb t d ≡ false → v.older ≡ Some q → Reading s u c a (reading x q)
  off : {o : Operation} → kind_of c a ≡ plain → is_reading o ≡ false → Reading s u c a o

-- the step at place k, by what it does to the ghosts
pub data Effect {V : Type 0} (k : ℕ) (s : State V) (T : Chronicle V) : Call V → Answer V → State V → Chronicle V → Type 0 where
  does_nothing : {c : Call V} {a : Answer V} → kind_of c a ≡ plain → Effect k s T c a s T
  does_record : {c : Call V} {a : Answer V} {u : ℕ} {r : Worker} → u < length s.workers → kind_of c a ≡ plain → r.operation ≡ (worker s u).operation
      → (r.clock_reading ≡ (worker s u).clock_reading) ⊎ (r.clock_reading ≡ Some s.clock)
      → ((d : ℕ) → is_reading (worker s u).operation ≡ true → (worker s u).session ≡ opened d → r.session ≡ opened d)
      → ((d : ℕ) → r.session ≡ opened d → (worker s u).session ≡ opened d)
      → Effect k s T c a (with_worker s u r) T
  does_open : {u c : ℕ} → u < length s.workers → (worker s u).session ≡ published c → s.clock ≡ c
      → Effect k s T (Advance u) (number c) (with_clock (with_session s u (opened c)) (c + 1))
      (record { since = T.since; place = T.place; seen = T.seen; order = insert (opening k c) T.order })
  does_operation : {c : Call V} {a : Answer V} {u : ℕ} {o : Operation} → u < length s.workers → writes o ≡ None → Reading s u c a o → Effect k s T c a (with_operation s u o) T
  does_begin : {u x : ℕ} → u < length s.workers
      → Effect k s T (WriteBegin u x) granted (with_operation s u (write_begun x (head s x)))
      (record { since = updated T.since u k; place = T.place; seen = T.seen; order = T.order })
  does_look : {u x b t : ℕ} {v : Version V} → u < length s.workers → (worker s u).operation ≡ write_begun x b → StampedAt s b v t
      → Effect k s T (WriteLook u) (value v.value) (with_operation s u (write_looked x b)) T
  does_read : {u x p c t : ℕ} {v : Version V} → u < length s.workers → (worker s u).operation ≡ reading x p → (worker s u).session ≡ opened c
      → StampedAt s p v t → leb t c ≡ true → ((n : ℕ) → ValueKept u (node s n) (get_or (map (unmark u) s.nodes) n free))
      → Effect k s T (ReadStep u) (value v.value) (ended s u) T
  does_stamp : {u x n t : ℕ} {v : Version V} → u < length s.workers → (worker s u).operation ≡ write_linked x n → StampedAt s n v t
      → ((n : ℕ) → ValueKept u (node s n) (get_or (map (unmark u) s.nodes) n free))
      → Effect k s T (WriteStamp u) (number t) (ended s u) T
  does_leave : {c : Call V} {a : Answer V} (u : ℕ) (o : Operation) (N : List (Node V)) → u < length s.workers → kind_of c a ≡ plain → writes o ≡ None → is_reading o ≡ false
      → ((n : ℕ) → ValueKept u (node s n) (get_or N n free)) → Effect k s T c a (with_operation (with_nodes s N) u o) T
  does_give : {c : Call V} {u n t : ℕ} {v : Version V} → u < length s.workers → refers (worker s u).operation ≡ Some n → version (node s n) ≡ Some v → v.stamp ≡ None
      → (worker s u).clock_reading ≡ Some t
      → Effect k s T c again (stamp_given s u n t)
      (record {
        since = T.since;
        place = T.place;
        seen = seen_given n t v.value T.seen;
        order = insert (giving (T.place n) (T.seen.cell n) t v.value (T.seen.base n) k) T.order;
      })
  does_link : {u x b n m : ℕ} {a : V} → u < length s.workers → (worker s u).operation ≡ write_looked x b → head s x ≡ b → Spare s n
      → Effect k s T (WriteOffer u a m) granted (with_operation (linked_above s x n b a) u (write_linked x n))
      (record { since = T.since; place = updated T.place n (T.since u); seen = seen_linked s x n b a T.seen; order = T.order })

value_kept_refl : {V : Type 0} (u : ℕ) (x : Node V) → ValueKept u x x
value_kept_refl u x =
    record {
      back = λ v e f. (v, e, f, refl);
      on = λ v e f. (v, e, f, refl);
      worth = λ w n k d. refl;
      waiting_stamped = λ v ms e f. f v ms e;
    }

value_kept_freed :
    {V : Type 0} (u : ℕ) (v : Version V) (ms : List Bool) (b : Bool)
    → ((w : ℕ) → (w ≡ u → ⊥) → Marked w (waiting v ms) → Marked w (waits_or_free v (set ms u false) b)) → ValueKept u (waiting v ms) (waits_or_free v (set ms u false) b)
value_kept_freed u v ms true m =
    record {
      back = λ z e f. (v, refl, (let q : v ≡ z = cc in ap (λ y. y.stamp) q ∙ f), (let q : v ≡ z = cc in ap (λ y. y.value) q));
      on = λ z e f. grind arith;
      worth = λ w n k d. refl;
      waiting_stamped = λ z ns e f. let q : v ≡ z = cc in subst (λ y. Present y.stamp) q (f v ms refl);
    }
value_kept_freed u v ms false m =
    record {
      back = λ z e f. grind arith;
      on = λ z e f. grind arith;
      worth = λ w n k d. absurd (⊎_elim (λ l. l) (λ y. m w n y) k);
      waiting_stamped = λ z ns e f. grind arith;
    }

value_kept_unmark : {V : Type 0} (u : ℕ) (x : Node V) → ValueKept u x (unmark u x)
value_kept_unmark u free = value_kept_refl u free
value_kept_unmark u (linked v) = value_kept_refl u (linked v)
value_kept_unmark {V} u (waiting v ms) =
    value_kept_freed u v ms (any (λ b. b) (set ms u false)) (unmark_takes_off u (waiting v ms)).marked_on

-- the version p of a compaction gets another older one
value_kept_above : {V : Type 0} (u : ℕ) (o : Option ℕ) (x : Node V) → ValueKept u x (on_version (λ v. above v o) x)
value_kept_above u o free = value_kept_refl u free
value_kept_above u o (linked v) =
    record {
      back = λ z e f. (v, refl, (let q : above v o ≡ z = cc in ap (λ y. y.stamp) q ∙ f), (let q : above v o ≡ z = cc in ap (λ y. y.value) q));
      on = λ z e f. (above v o, refl, (let q : v ≡ z = cc in ap (λ y. y.stamp) q ∙ f), (let q : v ≡ z = cc in ap (λ y. y.value) q));
      worth = λ w n k d. refl;
      waiting_stamped = λ z ns e f. grind arith;
    }
value_kept_above u o (waiting v ms) =
    record {
      back = λ z e f. (v, refl, (let q : above v o ≡ z = cc in ap (λ y. y.stamp) q ∙ f), (let q : above v o ≡ z = cc in ap (λ y. y.value) q));
      on = λ z e f. grind arith;
      worth = λ w n k d. refl;
      waiting_stamped = λ z ns e f. let q : above v o ≡ z = cc in subst (λ y. Present y.stamp) q (f v ms refl);
    }

pub value_at : {V : Type 0} (x : Node V) (u : Version V) (d : V) → version x ≡ Some u → value_or d x ≡ u.value
value_at x u d e = grind arith

-- a stamped version leaves
value_kept_waiting : {V : Type 0} (w : ℕ) (x : Node V) (u : Version V) (a : ℕ) (ms : List Bool) → version x ≡ Some u → u.stamp ≡ Some a → ValueKept w x (waiting u ms)
value_kept_waiting w x u a ms h s = grind arith

pub works_refers : {V : Type 0} {w n : ℕ} {o : Operation} {c : Call V} → WorksAt w n o c → refers o ≡ Some n
works_refers by_read = refl
works_refers by_look = refl
works_refers by_stamp = refl
works_refers by_compact = refl

module _ {V : Type 0} (k : ℕ) (s : State V) (T : Chronicle V) where
  value_kept_ended : (u : ℕ) (n : ℕ) → ValueKept u (node s n) (get_or (map (unmark u) s.nodes) n free)
  value_kept_ended u n = map_each (unmark u) s.nodes n free (λ y. ValueKept u (node s n) y) (value_kept_unmark u (node s n))

  value_kept_taken_out : (w p n : ℕ) (v u : Version V) (a : ℕ) (ms : List Bool) → version (node s p) ≡ Some v → version (node s n) ≡ Some u → u.stamp ≡ Some a
      → (j : ℕ) → ValueKept w (node s j) (get_or (set (set s.nodes p (on_version (λ v. above v u.older) (node s p))) n (waiting u ms)) j free)
  value_kept_taken_out w p n v u a ms hp hn st j =
      set_both (set s.nodes p (on_version (λ v. above v u.older) (node s p))) n j (waiting u ms) free (λ y. ValueKept w (node s j) y)
      (rw length-set (version_in_table s.nodes n u hn))
      (λ e. value_kept_waiting w (node s j) u a ms (subst (λ i. version (node s i) ≡ Some u) (sym e) hn) st)
      (λ ne. set_both s.nodes p j (on_version (λ v. above v u.older) (node s p)) free (λ y. ValueKept w (node s j) y) (version_in_table s.nodes p v hp)
      (λ e. subst (λ i. ValueKept w (node s i) (on_version (λ v. above v u.older) (node s p))) (sym e) (value_kept_above w u.older (node s p)))
      (λ ne. value_kept_refl w (node s j)))

  pub effect : {c : Call V} {a : Answer V} {s' : State V} (m : Transition s c a s') → (T' : Chronicle V) × Effect k s T c a s' T' × (T'.seen ≡ after m T.seen)
  effect (refuses {c} {r} nc) = (T, does_nothing (kind_silent c (refused r) refl), refl)
  effect (loses {c} lo) = (T, does_nothing (kind_silent c impossible refl), refl)
  effect (notes {w} i e f) = (T, does_record {u = w} {r = record { session = noted s.clock; operation = (worker s w).operation; clock_reading = (worker s w).clock_reading }} i refl refl (inl refl) (λ d r q. grind arith) (λ d q. grind arith), refl)
  effect (publishes {w} {c} i e) = (T, does_record {u = w} {r = record { session = published c; operation = (worker s w).operation; clock_reading = (worker s w).clock_reading }} i refl refl (inl refl) (λ d r q. grind arith) (λ d q. grind arith), refl)
  effect (opens i e f) = (_, does_open i e f, refl)
  effect (starts_again {w} i e f) = (T, does_record {u = w} {r = record { session = none; operation = (worker s w).operation; clock_reading = (worker s w).clock_reading }} i refl refl (inl refl) (λ d r q. grind arith) (λ d q. grind arith), refl)
  effect (closes {w} i e f) = (T, does_record {u = w} {r = record { session = none; operation = (worker s w).operation; clock_reading = (worker s w).clock_reading }} i refl refl (inl refl) (λ d r q. absurd (both_ways _ f r)) (λ d q. grind arith), refl)
  effect (read_begins i l b e) = (T, does_operation i refl (starts refl refl e refl l), refl)
  effect (write_begins i l b) = (_, does_begin i, refl)
  effect (compaction_begins i l b e) = (T, does_operation i refl (off refl refl), refl)
  effect (takes_reading {c = c} i pt th st he) = (T, does_record i (kind_silent c again refl) refl (inr refl) (λ d r q. q) (λ d q. q), refl)
  effect (gives_stamp i pt th st he) = (_, does_give i (works_refers pt) th st he, refl)
  effect (reads {w} i e f st l) = (T, does_read i e f st l (value_kept_ended w), refl)
  effect (reads_on i e f st l g) = (T, does_operation i refl (walks refl e f st l g), refl)
  effect (looks i e st) = (T, does_look i e st, refl)
  effect (links i e h f) = (_, does_link i e h f, refl)
  effect (overtakes {w} i e h) = (T, does_leave _ _ _ i refl refl refl (value_kept_ended w), refl)
  effect (stamps {w} i e st) = (T, does_stamp i e st (value_kept_ended w), refl)
  effect (abandons {w} i e) = (T, does_leave _ _ _ i refl refl refl (value_kept_ended w), refl)
  effect (scans i e l) = (T, does_operation i refl (off refl refl), refl)
  effect (takes_head i e l) = (T, does_operation i refl (off refl refl), refl)
  effect (keeps i e st o su d) = (T, does_operation i refl (off refl refl), refl)
  effect (takes_out {w} {p = p} {n = n} {v = v} {u = u} i e st o su d) = (T, does_leave _ _ _ i refl refl refl (value_kept_taken_out w p n v u _ _ st.here su.here su.has), refl)
  effect (finishes {w} i e st o) = (T, does_leave _ _ _ i refl refl refl (value_kept_ended w), refl)

pub refers_stands : (o : Operation) (n : ℕ) → refers o ≡ Some n → stands_at o ≡ Some n
refers_stands x n e = grind arith

-- what an operation refers to is kept for its worker
pub refers_kept : {V : Type 0} (H : List ℕ) (N : List (Node V)) (g : Ages) (u n : ℕ) (o : Operation) → refers o ≡ Some n → Anchor H N g u o → KeptFor u (get_or N n free)
refers_kept H N g u n o e r = stands_kept H N g u n o r (refers_stands o n e)
