-- Space. What is known at each place of the list about a compaction that is under way: where it began, what its steps
-- found and took out, where it took its head, and what is left between that head and its position. Where it is done,
-- this is all that is claimed of it.
use Rattle.std.proofs.Common.{◌≡◌, ℕ, zero, suc, ◌+◌, ◌-◌, ◌<◌, ◌≤◌, true, false, cond, List, length, take, Some, None, count_by, Option, sym, refl, ap, ◌∙◌, subst, ⊎_elim, arith}
use Rattle.std.proofs.lemmas.List.Elements.{All-push}
use Rattle.std.proofs.lemmas.List.{get_or_past, length_push}
use Rattle.std.proofs.lemmas.Bool.{both_ways, eq-eqb}
use Rattle.std.specs.List.{slice_get, All}
use Rattle.model.specs.Answers.{Answer, granted, done}
use Rattle.model.specs.Calls.{Call, CompactBegin, CompactStep}
use Rattle.model.specs.Compactions.{scanned}
use Rattle.model.specs.Judging.{Judge, Thorough}
use Rattle.model.specs.Making.{make, is_linked}
use Rattle.model.specs.Runs.{run, log}
use Rattle.model.specs.State.{last_stamp, Session, Operation, State, worker, head, slot, idle, reading, write_begun, write_looked, write_linked, scanning, walking}
use Rattle.laws.specs.Histories.{history, Latest, sum_from, sum_between, Was, CompactBegun}
use Rattle.laws.specs.Space.{Down, is_compact_step, if_compact_step, full, steps_before, full_slots_found, versions_taken_out, Finished}
use Rattle.laws.proofs.Clock.{SessionWithin}
use Rattle.laws.proofs.CompactionSteps.{linked_nodes, NoBegin, CompactionStep, is_over, begins, not_own, reads_slot, took_head, walks, compaction_step}
use Rattle.laws.proofs.Effects.{Seen}
use Rattle.laws.proofs.EveryRun.{faithful_run}
use Rattle.laws.proofs.Faithful.{Faithful}
use Rattle.laws.proofs.FirstState.{make_fresh}
use Rattle.laws.proofs.NeverLost.{never_lost}
use Rattle.laws.proofs.Origins.{next_latest, now_latest}
use Rattle.laws.proofs.Places.{by_places, was_one, was_transition, was_within, state_at}
use Rattle.laws.proofs.Segments.{starts_here}
use Rattle.laws.proofs.Sizes.{sizes_run}
use Rattle.laws.proofs.Transitions.{Transition, is_compacting, finishes}
use Rattle.laws.proofs.Walks.{Bounds, Walk, walk_next, finished}

-- sums over places
sum_last : (f : ℕ → ℕ) (i n : ℕ) → sum_from f i (suc n) ≡ sum_from f i n + f (i + n)
sum_last f i zero = let e : i + 0 ≡ i = omega arith in let h = ap f e in omega arith
sum_last f i (suc n) = let r = sum_last f (suc i) n in let e : i + suc n ≡ suc i + n = omega arith in let h = ap f e in omega arith

one_more : (f : ℕ → ℕ) (b k : ℕ) → b < k → sum_between f b (suc k) ≡ sum_between f b k + f k
one_more f b k l = grind (arith, sum_last)

none_yet : (f : ℕ → ℕ) (b : ℕ) → sum_between f b (suc b) ≡ 0
none_yet f b = let e : suc b - suc b ≡ 0 = omega arith in ap (sum_from f (suc b)) e

-- a slot's stamp is one of the store's
slot_within : (k : ℕ) (q : Session) (c : ℕ) → SessionWithin k q → slot q ≡ Some c → c ≤ k
slot_within k x c h e = grind arith

scanned_length : (o : Option ℕ) (q : List ℕ) → length (scanned o q) ≡ length q + full o
scanned_length x q = grind (arith, length_push)

scanned_within : (o : Option ℕ) (q : List ℕ) → ((c : ℕ) → o ≡ Some c → c ≤ last_stamp) → All (λ a. a ≤ last_stamp) q → All (λ a. a ≤ last_stamp) (scanned o q)
scanned_within None q f h = h
scanned_within (Some c) q f h = All-push (λ a. a ≤ last_stamp) q c h (f c refl)

module _ {V : Type 0} (s₀ : State V) (cs : List (Call V)) (w : ℕ) where
  -- thorough judges served the steps of the compaction begun at b, before place k
  abbrev Served : ℕ → ℕ → Type 0
  Served b k = (j : ℕ) (J : Judge) (a : Answer V) → b < j → j < k → Was (history s₀ cs) j (CompactStep w J) a → Thorough (length s₀.workers) J

  -- the compaction of cell x begun at b with cutoff t, which has found the scan q and taken out r
  record Begun (k b x t : ℕ) (q : List ℕ) (r : ℕ) : Type 0 where
    begins_at : Was (history s₀ cs) b (CompactBegin w x) granted
    since : Latest (CompactBegun (history s₀ cs) w) b k
    cutoff : t ≡ (state_at s₀ cs b).clock
    found : length q ≡ full_slots_found (history s₀ cs) w b k
    took_out : r ≡ versions_taken_out (history s₀ cs) w b k
    within : Bounds t q (length s₀.workers)

  record Scanning (k x t i : ℕ) (q : List ℕ) : Type 0 where
    begun_at : ℕ
    begun : Begun k begun_at x t q 0
    steps : steps_before (history s₀ cs) w begun_at k ≡ i
    few : length q ≤ i
    so_far : i ≤ length s₀.workers

  record Walking (k x t : ℕ) (q : List ℕ) (r : ℕ) : Type 0 where
    begun_at : ℕ
    begun : Begun k begun_at x t q r
    took_at : ℕ
    at_step : if_compact_step w 1 (slice_get (log s₀ cs) took_at) ≡ 1
    after_begin : begun_at < took_at
    before_now : took_at < k
    all_read : steps_before (history s₀ cs) w begun_at took_at ≡ length s₀.workers
    past_all : length s₀.workers ≤ steps_before (history s₀ cs) w begun_at k
    walk : Walk (state_at s₀ cs k) w (head (state_at s₀ cs took_at) x) x t q (Served begun_at k)

  -- by what w does
  abbrev Known : ℕ → Operation → Type 0
  Known k idle = Unit {0}
  Known k (reading x p) = Unit {0}
  Known k (write_begun x b) = Unit {0}
  Known k (write_looked x b) = Unit {0}
  Known k (write_linked x o) = Unit {0}
  Known k (scanning x t i q) = Scanning k x t i q
  Known k (walking x t q p r) = Walking k x t q r

  known_off : (k : ℕ) (o : Operation) → is_compacting o ≡ false → Known k o
  known_off k x e = grind arith

  module _ (k : ℕ) (c : Call V) (a : Answer V) (W : Was (history s₀ cs) k c a) (g : Seen V) (G : Faithful (state_at s₀ cs k) g)
      (m : Transition (state_at s₀ cs k) c a (state_at s₀ cs (suc k))) (many : length (state_at s₀ cs k).workers ≡ length s₀.workers) where
    at_k : (n : ℕ) → if_compact_step w n (slice_get (log s₀ cs) k) ≡ cond (is_compact_step w c) n 0
    at_k n = ap (if_compact_step w n) W

    own_k : (J : Judge) (n : ℕ) → c ≡ CompactStep w J → if_compact_step w n (slice_get (log s₀ cs) k) ≡ n
    own_k J n e = at_k n ∙ ap (λ d. cond (is_compact_step w d) n 0) e ∙ ap (λ b. cond b n 0) (eq-eqb w w refl)

    other_k : (n : ℕ) → is_compact_step w c ≡ false → if_compact_step w n (slice_get (log s₀ cs) k) ≡ 0
    other_k n e = at_k n ∙ ap (λ b. cond b n 0) e

    goes_on_latest : (b : ℕ) → NoBegin w c a → Latest (CompactBegun (history s₀ cs) w) b k → Latest (CompactBegun (history s₀ cs) w) b (suc k)
    goes_on_latest b n h =
        next_latest (CompactBegun (history s₀ cs) w) b k h (λ y. let q = was_one s₀ cs k c (CompactBegin w y.0) a granted W y.1 in n y.0 q.0 q.1)

    no_begin : (J : Judge) → c ≡ CompactStep w J → NoBegin w c a
    no_begin J e y p q = grind arith

    -- a step that finds n full slots and takes out o versions
    begun_on : (b x t : ℕ) (q q' : List ℕ) (r r' n o : ℕ) → NoBegin w c a → Bounds t q' (length s₀.workers) → length q' ≡ length q + n → r' ≡ r + o
        → if_compact_step w (full (slot (worker (state_at s₀ cs k) (steps_before (history s₀ cs) w b k)).session)) (slice_get (log s₀ cs) k) ≡ n
        → if_compact_step w (linked_nodes (state_at s₀ cs k) - linked_nodes (state_at s₀ cs (suc k))) (slice_get (log s₀ cs) k) ≡ o
        → Begun k b x t q r → Begun (suc k) b x t q' r'
    begun_on b x t q q' r r' n o nb B el er en eo h =
        let l = h.since.0 in
        let f = h.found in
        let u = h.took_out in
        record {
          begins_at = h.begins_at;
          since = goes_on_latest b nb h.since;
          cutoff = h.cutoff;
          found = let y = one_more (λ j. if_compact_step w (full (slot (worker (state_at s₀ cs j) (steps_before (history s₀ cs) w b j)).session)) (slice_get (log s₀ cs) j)) b k l in omega arith;
          took_out = let y = one_more (λ j. if_compact_step w (linked_nodes (state_at s₀ cs j) - linked_nodes (state_at s₀ cs (suc j))) (slice_get (log s₀ cs) j)) b k l in omega arith;
          within = B;
        }

    steps_on : (b n : ℕ) → b < k → if_compact_step w 1 (slice_get (log s₀ cs) k) ≡ n → steps_before (history s₀ cs) w b (suc k) ≡ steps_before (history s₀ cs) w b k + n
    steps_on b n l e = grind (arith, one_more)

    -- past the last worker there is no slot
    no_slot : (i : ℕ) → length s₀.workers ≤ i → full (slot (worker (state_at s₀ cs k) i).session) ≡ 0
    no_slot i l = grind (arith, get_or_past)

    served_less : (b : ℕ) → Served b (suc k) → Served b k
    served_less b S j J d l h = S j J d l (omega arith)

    served_now : (b : ℕ) → b < k → Served b (suc k) → (J : Judge) → c ≡ CompactStep w J → Thorough (length s₀.workers) J
    served_now b l S J e = S k J a l (omega arith) (subst (λ d. Was (history s₀ cs) k d a) e W)

    walk_weaker : {s : State V} {h x t : ℕ} {q : List ℕ} {P Q : Type 0} → (Q → P) → Walk s w h x t q P → Walk s w h x t q Q
    walk_weaker f x = grind arith

    -- the walk goes on, where w still compacts
    walked : (b x t h : ℕ) (q : List ℕ) → b < k → Bounds t q (length s₀.workers) → is_compacting (worker (state_at s₀ cs (suc k)) w).operation ≡ true
        → Walk (state_at s₀ cs k) w h x t q (Served b k) → Walk (state_at s₀ cs (suc k)) w h x t q (Served b (suc k))
    walked b x t h q l B on C =
        ⊎_elim (λ C'. C') (λ off. absurd (both_ways _ off on))
        (walk_next (length s₀.workers) G.anchored G.stamps_fall B (served_now b l) (walk_weaker (served_less b) C) m)

    walking_on : (x t p r n r' o : ℕ) (q : List ℕ) → (worker (state_at s₀ cs (suc k)) w).operation ≡ walking x t q n r' → NoBegin w c a → r' ≡ r + o
        → ((i : ℕ) → length s₀.workers ≤ i → if_compact_step w (full (slot (worker (state_at s₀ cs k) i).session)) (slice_get (log s₀ cs) k) ≡ 0)
        → if_compact_step w (linked_nodes (state_at s₀ cs k) - linked_nodes (state_at s₀ cs (suc k))) (slice_get (log s₀ cs) k) ≡ o
        → Walking k x t q r → Walking (suc k) x t q r'
    walking_on x t p r n r' o q op nb er no_more eo h =
        let l = h.begun.since.0 in
        let b = h.begun_at in
        let past = h.past_all in
        let before = h.before_now in
        record {
          begun_at = b;
          begun = begun_on b x t q q r r' 0 o nb h.begun.within (omega arith) er (no_more (steps_before (history s₀ cs) w b k) past) eo h.begun;
          took_at = h.took_at;
          at_step = h.at_step;
          after_begin = h.after_begin;
          before_now = omega arith;
          all_read = h.all_read;
          past_all = let y = steps_on b _ l refl in omega arith;
          walk = walked b x t (head (state_at s₀ cs h.took_at) x) q l h.begun.within (ap is_compacting op) h.walk;
        }

    -- a step that is none of w's own
    known_still : (o : Operation) → (worker (state_at s₀ cs (suc k)) w).operation ≡ o → is_compact_step w c ≡ false → NoBegin w c a → Known k o → Known (suc k) o
    known_still idle e n nb h = tt
    known_still (reading x p) e n nb h = tt
    known_still (write_begun x b) e n nb h = tt
    known_still (write_looked x b) e n nb h = tt
    known_still (write_linked x o) e n nb h = tt
    known_still (scanning x t i q) e n nb h =
        let l = h.begun.since.0 in
        let st = h.steps in
        record {
          begun_at = h.begun_at;
          begun = begun_on h.begun_at x t q q 0 0 0 0 nb h.begun.within (omega arith) (omega arith) (other_k _ n) (other_k _ n) h.begun;
          steps = let y = steps_on h.begun_at 0 l (other_k 1 n) in omega arith;
          few = h.few;
          so_far = h.so_far;
        }
    known_still (walking x t q p r) e n nb h = walking_on x t p r p r 0 q e nb (omega arith) (λ i y. other_k _ n) (other_k _ n) h

    known_next : (o : Operation) → (worker (state_at s₀ cs (suc k)) w).operation ≡ o → Known k (worker (state_at s₀ cs k) w).operation
        → CompactionStep (state_at s₀ cs k) w c a (state_at s₀ cs (suc k)) o → Known (suc k) o
    known_next o e h (is_over f) = known_off (suc k) o f
    known_next o e h (begins {x} p q) =
        let W' : Was (history s₀ cs) k (CompactBegin w x) granted = subst (λ d. Was (history s₀ cs) k d granted) p (subst (λ b. Was (history s₀ cs) k c b) q W) in
        let B = G.stamps_within in
        record {
          begun_at = k;
          begun = record {
            begins_at = W';
            since = now_latest (CompactBegun (history s₀ cs) w) k (x, W');
            cutoff = refl;
            found = sym (none_yet (λ j. if_compact_step w (full (slot (worker (state_at s₀ cs j) (steps_before (history s₀ cs) w k j)).session)) (slice_get (log s₀ cs) j)) k);
            took_out = sym (none_yet (λ j. if_compact_step w (linked_nodes (state_at s₀ cs j) - linked_nodes (state_at s₀ cs (suc j))) (slice_get (log s₀ cs) j)) k);
            within = record { cutoff_ok = B.clock_bounded; scan_ok = λ k d below. absurd (omega arith); room = omega arith };
          };
          steps = none_yet (λ j. if_compact_step w 1 (slice_get (log s₀ cs) j)) k;
          few = omega arith;
          so_far = omega arith;
        }
    known_next o e h (not_own n nb) = known_still o e n nb h
    known_next o e h (reads_slot {x} {t} {i} {q} {J} p f l n) =
        let H : Scanning k x t i q = subst (Known k) f h in
        let b = H.begun_at in
        let lb = H.begun.since.0 in
        let st = H.steps in
        let fw = H.few in
        let o : Option ℕ = slot (worker (state_at s₀ cs k) i).session in
        let sl = scanned_length o q in
        let one = at_most_one o in
        let same = ap (λ N. count_by is_linked N) n in
        record {
          begun_at = b;
          begun = begun_on b x t q (scanned o q) 0 0 (full o) 0 (no_begin J p)
              (record {
                cutoff_ok = H.begun.within.cutoff_ok;
                scan_ok = scanned_within o q (λ c y. let z = slot_within _ _ c (G.stamps_within.workers_within i).session_within y in let u = G.stamps_within.clock_bounded in omega arith) H.begun.within.scan_ok;
                room = omega arith;
              })
              sl (omega arith) (own_k J _ p ∙ ap (λ j. full (slot (worker (state_at s₀ cs k) j).session)) st) (own_k J _ p ∙ (omega arith)) H.begun;
          steps = let y = steps_on b 1 lb (own_k J 1 p) in omega arith;
          few = omega arith;
          so_far = omega arith;
        }
      where
        at_most_one : (o : Option ℕ) → full o ≤ 1
        at_most_one None = omega arith
        at_most_one (Some c) = omega arith
    known_next o e h (took_head {x} {t} {i} {q} {J} p f l n) =
        let H : Scanning k x t i q = subst (Known k) f h in
        let b = H.begun_at in
        let lb = H.begun.since.0 in
        let st = H.steps in
        let so = H.so_far in
        let same = ap (λ N. count_by is_linked N) n in
        record {
          begun_at = b;
          begun = begun_on b x t q q 0 0 0 0 (no_begin J p) H.begun.within (omega arith) (omega arith)
              (own_k J _ p ∙ no_slot (steps_before (history s₀ cs) w b k) (omega arith)) (own_k J _ p ∙ (omega arith)) H.begun;
          took_at = k;
          at_step = own_k J 1 p;
          after_begin = lb;
          before_now = omega arith;
          all_read = omega arith;
          past_all = let y = steps_on b 1 lb (own_k J 1 p) in omega arith;
          walk = record { position = _; out = 0; above = 0; op_is = e; segment = starts_here; stamps_enough = λ S d y. omega arith };
        }
    known_next o e h (walks {x} {t} {p} {r} {n} {m = r'} {q} {J} out c_is f fewer er) =
        walking_on x t p r n r' out q e (no_begin J c_is) er (λ i y. own_k J _ c_is ∙ no_slot i y) (own_k J _ c_is ∙ (omega arith)) (subst (Known k) f h)

  -- where it is done
  finished_at : (k : ℕ) (J : Judge) (t n r : ℕ) (s' : State V) (g : Seen V) → state_at s₀ cs (suc k) ≡ s' → Faithful (state_at s₀ cs k) g → Known k (worker (state_at s₀ cs k) w).operation
      → Transition (state_at s₀ cs k) (CompactStep w J) (done t n r) s' → Finished (history s₀ cs) w k t n r
  unfolding run
  finished_at k J t n r s' g E G h (finishes {x = x} {p = p} {e = e} {q = q} {v = v} i op st o) =
      let H : Walking k x t q r = subst (Known k) op h in
      let left = finished G.anchored H.walk w x t q p r e v refl op st o in
      record {
        cell = x;
        begun_at = H.begun_at;
        begins = H.begun.begins_at;
        since = H.begun.since;
        cutoff = H.begun.cutoff;
        found = H.begun.found;
        took_out = H.begun.took_out;
        took_at = H.took_at;
        at_step = H.at_step;
        after_begin = H.after_begin;
        before_done = H.before_now;
        all_slots_read = H.all_read;
        left = left.0;
        from_head = subst (λ s. Down s (Some (head (state_at s₀ cs H.took_at) x)) left.0) (sym E) left.1;
        few = λ S. left.2 (λ j J a l m W. S j J a l (omega arith) W);
      }

-- every compaction that was done
pub every_finished :
    {V : Type 0} (cells workers nodes start : ℕ) (first : V) (cs : List (Call V)) (w k t n r : ℕ) (J : Judge)
    → Was (history (make cells workers nodes start first) cs) k (CompactStep w J) (done t n r) → Finished (history (make cells workers nodes start first) cs) w k t n r
unfolding run
every_finished {V} cells workers nodes start first cs w k t n r J W =
    finished_at s₀ cs w k J t n r _ (G k).0 refl (G k).1 (known k (was_within s₀ cs k _ _ W)) (was_transition s₀ cs k _ _ W)
  where
    s₀ : State V
    s₀ = make cells workers nodes start first

    G : (k : ℕ) → (g : Seen V) × Faithful (state_at s₀ cs k) g
    G k = faithful_run cells workers nodes start first (take k cs)

    at_first : Known s₀ cs w 0 (worker s₀ w).operation
    at_first = subst (λ r. Known s₀ cs w 0 r.operation) (sym (make_fresh cells workers nodes start first w)) tt

    known : (k : ℕ) → k < length cs → Known s₀ cs w k (worker (state_at s₀ cs k) w).operation
    known k l =
        by_places s₀ cs (λ k. Known s₀ cs w k (worker (state_at s₀ cs k) w).operation) at_first
        (λ k c a W m h. known_next s₀ cs w k c a W (G k).0 (G k).1 m (sizes_run s₀ (take k cs)).workers_same _ refl h
        (compaction_step w (G k).1.anchored (never_lost _ _ (G k).1) m)) k (omega arith)
