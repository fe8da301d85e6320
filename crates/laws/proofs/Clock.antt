-- The clock is at most 2^40; stamps, readings and sessions are within it; and it never falls.
use Rattle.std.proofs.Common.{◌≡◌, ℕ, suc, ◌+◌, ◌<◌, ◌≤◌, Bool, true, false, List, [], ◌∷◌, map, length, get_or, set, Some, None, Option, refl, subst, ⊎_elim, arith}
use Rattle.std.proofs.lemmas.Bool.{eqb-false, cases_lt}
use Rattle.std.proofs.lemmas.Bool.Decides.{nat_tests}
use Rattle.model.specs.Answers.{Answer}
use Rattle.model.specs.Calls.{Call, step}
use Rattle.model.specs.Changes.{with_worker, with_session, with_operation, with_clock, with_nodes, with_head, stamped, above, on_version, ended, unmark}
use Rattle.model.specs.Making.{make, made, first_version}
use Rattle.model.specs.Runs.{run}
use Rattle.model.specs.State.{Version, Node, Session, Operation, Worker, State, fresh, node, worker, version, free, linked, waiting, none, noted, published, opened, idle, last_stamp}
use Rattle.laws.proofs.Frames.{set_either, map_each, replicate_each, table_each}
use Rattle.laws.proofs.Places.{state_at, by_places}
use Rattle.laws.proofs.Transitions.{Transition, transition, refuses, notes, publishes, opens, starts_again, closes, read_begins, write_begins, compaction_begins, takes_reading, gives_stamp, reads, reads_on, looks, links, overtakes, stamps, abandons, scans, takes_head, keeps, takes_out, finishes, loses}

abbrev pub SessionWithin : ℕ → Session → Type 0
SessionWithin k none = 0 ≤ k
SessionWithin k (noted c) = (c ≤ k) × (c < last_stamp)
SessionWithin k (published c) = (c ≤ k) × (c < last_stamp)
SessionWithin k (opened c) = c < k

abbrev pub StampWithin : ℕ → Option ℕ → Type 0
StampWithin k None = 0 ≤ k
StampWithin k (Some t) = t ≤ k

abbrev pub NodeWithin : {V : Type 0} → ℕ → Node V → Type 0
NodeWithin k free = 0 ≤ k
NodeWithin k (linked v) = StampWithin k v.stamp
NodeWithin k (waiting v ms) = StampWithin k v.stamp

pub record WorkerWithin (k : ℕ) (r : Worker) : Type 0 where
  pub reading_within : StampWithin k r.clock_reading
  pub session_within : SessionWithin k r.session

pub record WithinClock {V : Type 0} (s : State V) : Type 0 where
  pub clock_bounded : s.clock ≤ last_stamp
  pub nodes_within : (n : ℕ) → NodeWithin s.clock (node s n)
  pub workers_within : (u : ℕ) → WorkerWithin s.clock (worker s u)

unmarked : {V : Type 0} (k w : ℕ) (x : Node V) → NodeWithin k x → NodeWithin k (unmark w x)
unmarked k w x h = grind arith

given_within : {V : Type 0} (k t : ℕ) (x : Node V) → t ≤ k → NodeWithin k x → NodeWithin k (on_version (λ v. stamped v t) x)
given_within k t x l h = grind arith

above_within : {V : Type 0} (k : ℕ) (o : Option ℕ) (x : Node V) → NodeWithin k x → NodeWithin k (on_version (λ v. above v o) x)
above_within k o x h = grind arith

pub version_within : {V : Type 0} (k : ℕ) (x : Node V) (v : Version V) → version x ≡ Some v → NodeWithin k x → StampWithin k v.stamp
version_within k x v e h = grind arith

module _ {V : Type 0} (s : State V) (B : WithinClock s) where
  pub by_worker : (w : ℕ) (r : Worker) → WorkerWithin s.clock r → WithinClock (with_worker s w r)
  by_worker w r h =
      record {
        clock_bounded = B.clock_bounded;
        nodes_within = B.nodes_within;
        workers_within = λ u. set_either s.workers w u r fresh (WorkerWithin s.clock) (λ e. h) (B.workers_within u);
      }

  pub by_session : (w : ℕ) (q : Session) → SessionWithin s.clock q → WithinClock (with_session s w q)
  by_session w q h = by_worker w _ (record { reading_within = (B.workers_within w).reading_within; session_within = h })

  pub by_op : (w : ℕ) (o : Operation) → WithinClock (with_operation s w o)
  by_op w o = by_worker w _ (record { reading_within = omega arith; session_within = (B.workers_within w).session_within })

  by_nodes : (N : List (Node V)) → ((n : ℕ) → NodeWithin s.clock (get_or N n free)) → WithinClock (with_nodes s N)
  by_nodes N h = record { clock_bounded = B.clock_bounded; nodes_within = h; workers_within = B.workers_within }

  by_clock : s.clock < last_stamp → WithinClock (with_clock s (s.clock + 1))
  by_clock l = grind arith

  by_unmark : (w : ℕ) → WithinClock (with_nodes s (map (unmark w) s.nodes))
  by_unmark w = by_nodes (map (unmark w) s.nodes) (λ n. map_each (unmark w) s.nodes n free (NodeWithin s.clock) (unmarked s.clock w (node s n) (B.nodes_within n)))

  by_set : (n : ℕ) (x : Node V) → NodeWithin s.clock x → WithinClock (with_nodes s (set s.nodes n x))
  by_set n x h = by_nodes (set s.nodes n x) (λ m. set_either s.nodes n m x free (NodeWithin s.clock) (λ e. h) (B.nodes_within m))

by_head : {V : Type 0} (s : State V) → WithinClock s → (x n : ℕ) → WithinClock (with_head s x n)
by_head s B x n = record { clock_bounded = B.clock_bounded; nodes_within = B.nodes_within; workers_within = B.workers_within }

by_ended : {V : Type 0} (s : State V) → WithinClock s → (w : ℕ) → WithinClock (ended s w)
by_ended s B w = by_op _ (by_unmark s B w) w idle

pub within_clock_next : {V : Type 0} {s : State V} {c : Call V} {a : Answer V} {s' : State V} → WithinClock s → Transition s c a s' → WithinClock s'
within_clock_next B (refuses nc) = B
within_clock_next B (loses lo) = B
within_clock_next {s} B (notes {w} i e f) = by_session s B w (noted s.clock) (let l = B.clock_bounded in let ne = eqb-false s.clock last_stamp f in (omega arith, omega arith))
within_clock_next {s} B (publishes {w} {c} i e) = by_session s B w (published c) (subst (SessionWithin s.clock) e (B.workers_within w).session_within)
within_clock_next {s} B (opens {w} {c} i e f) =
    subst (λ (k : ℕ). WithinClock (with_clock (with_session s w (opened c)) (k + 1))) f
    (by_session (with_clock s (s.clock + 1)) (by_clock s B (let l = subst (SessionWithin s.clock) e (B.workers_within w).session_within in omega arith)) w (opened c) (omega arith))
within_clock_next {s} B (starts_again {w} i e f) = by_session s B w none (omega arith)
within_clock_next {s} B (closes {w} i e f) = by_session s B w none (omega arith)
within_clock_next {s} B (read_begins {w} {x} i l b e) = by_op s B w _
within_clock_next {s} B (write_begins {w} i l b) = by_op s B w _
within_clock_next {s} B (compaction_begins {w} i l b e) = by_op s B w _
within_clock_next {s} B (takes_reading {w} i pt at st he) = by_worker s B w _ (record { reading_within = omega arith; session_within = (B.workers_within w).session_within })
within_clock_next {s} B (gives_stamp {w} {n} {t} i pt at st he) =
    by_op _ (by_set s B n _ (given_within s.clock t (node s n) (subst (StampWithin s.clock) he (B.workers_within w).reading_within) (B.nodes_within n))) w _
within_clock_next {s} B (reads {w} i e f st l) = by_ended s B w
within_clock_next {s} B (reads_on {w} i e f st l g) = by_op s B w _
within_clock_next {s} B (looks {w} i e st) = by_op s B w _
within_clock_next {s} B (links {w} {x} {b} {n} {a} i e h f) = by_op _ (by_head _ (by_set s B n _ (omega arith)) x n) w _
within_clock_next {s} B (overtakes {w} i e h) = by_ended s B w
within_clock_next {s} B (stamps {w} i e st) = by_ended s B w
within_clock_next {s} B (abandons {w} i e) = by_ended s B w
within_clock_next {s} B (scans {w} i e l) = by_op s B w _
within_clock_next {s} B (takes_head {w} i e l) = by_op s B w _
within_clock_next {s} B (keeps {w} i e st o su d) = by_op s B w _
within_clock_next {s} B (takes_out {w} {p = p} {n = n} {u = u} i e st o su d) =
    by_op _ (by_set _ (by_set s B p _ (above_within s.clock u.older (node s p) (B.nodes_within p))) n _ (version_within s.clock (node s n) u su.here (B.nodes_within n))) w _
within_clock_next {s} B (finishes {w} i e st o) = by_ended s B w

pub within_clock_from : {V : Type 0} (s : State V) (cs : List (Call V)) → WithinClock s → WithinClock (run s cs)
unfolding run
within_clock_from s [] B = B
within_clock_from s (c ∷ cs) B = within_clock_from (step s c).1 cs (within_clock_next B (transition s c))

within_clock_made : {V : Type 0} (b : Bool) (cells workers rest start : ℕ) (v : V) → (b ≡ true → start ≤ last_stamp) → WithinClock (made b cells workers rest start v)
within_clock_made false cells workers rest start v h =
    record { clock_bounded = omega arith; nodes_within = λ n. omega arith; workers_within = λ u. record { reading_within = omega arith; session_within = omega arith } }
within_clock_made true cells workers rest start v h =
    record {
      clock_bounded = h refl;
      nodes_within =
          table_each cells rest (first_version start v) free (NodeWithin start) (omega arith) (omega arith);
      workers_within =
          replicate_each workers fresh fresh (WorkerWithin start) (record { reading_within = omega arith; session_within = omega arith })
          (record { reading_within = omega arith; session_within = omega arith });
    }

pub within_clock : {V : Type 0} (cells workers nodes start : ℕ) (v : V) (cs : List (Call V)) → WithinClock (run (make cells workers nodes start v) cs)
within_clock cells workers nodes start v cs = grind (arith, within_clock_from, within_clock_made, nat_tests)

pub clock_next : {V : Type 0} {s : State V} {c : Call V} {a : Answer V} {s' : State V} → Transition s c a s' → s.clock ≤ s'.clock
clock_next x = grind arith

-- the clock never falls
pub clock_rises : {V : Type 0} (s₀ : State V) (cs : List (Call V)) (i j : ℕ) → i ≤ j → j ≤ length cs → (state_at s₀ cs i).clock ≤ (state_at s₀ cs j).clock
clock_rises s₀ cs i j l h =
    by_places s₀ cs (λ k. i ≤ k → (state_at s₀ cs i).clock ≤ (state_at s₀ cs k).clock) (λ l. let e : i ≡ 0 = omega arith in rw e (omega arith))
    (λ k c a w m f l. ⊎_elim (λ g. let z = f (omega arith) in let y = clock_next m in omega arith)
    (λ g. let e : i ≡ suc k = omega arith in rw e (omega arith)) (cases_lt i (suc k)))
    j h l
