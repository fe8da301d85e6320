-- A made store: its lists are in shape, its workers are fresh, its versions are as made.
use Rattle.std.proofs.Common.{◌≡◌, ℕ, zero, suc, ◌+◌, ◌-◌, ◌<◌, Bool, true, false, List, [], ◌∷◌, ◌++◌, length, get_or, replicate, Some, None, sym, refl, ap, ◌∙◌, subst, ⊎_elim, arith}
use Rattle.std.proofs.lemmas.List.{length-replicate, get_or-replicate, get_or_append_left, get_or-append_right}
use Rattle.std.proofs.lemmas.Bool.{both_ways, cases_lt}
use Rattle.model.specs.Calls.{Call, step}
use Rattle.model.specs.Making.{make, made, no_store, first_version, sizes_allowed, numbers_from}
use Rattle.model.specs.Runs.{run}
use Rattle.model.specs.State.{Node, State, fresh, node, worker, compacts, free, Version, version, waiting}
use Rattle.laws.proofs.CellLists.{IsLinked, Marked, older_of, node_in, Ages, WellLinked}
use Rattle.laws.proofs.Frames.{replicate_each, table_each}
use Rattle.laws.proofs.References.{Anchored, Anchor, anchored_next}
use Rattle.laws.proofs.Transitions.{transition}

abbrev first_ages : Ages
first_ages = record { cell = λ n. n; rank = λ n. 0; next = 1 }

count_at : (i n x : ℕ) → x < n → get_or (numbers_from i n) x 0 ≡ i + x
count_at i zero x h = omega arith
count_at i (suc n) zero h = omega arith
count_at i (suc n) (suc x) h = let r = count_at (suc i) n x (omega arith) in omega arith

count_length : (i n : ℕ) → length (numbers_from i n) ≡ n
count_length i zero = refl
count_length i (suc n) = ap suc (count_length (suc i) n)

-- a table in which nothing has an older and nothing waits
flat : {V : Type 0} (H : List ℕ) (N : List (Node V)) → ((x : ℕ) → x < length H → IsLinked (node_in N (get_or H x 0)) × (get_or H x 0 ≡ x))
    → ((n : ℕ) → older_of (node_in N n) ≡ None) → ((n : ℕ) → IsLinked (node_in N n) → n < length H) → WellLinked H N first_ages
flat x y h o in_cell = grind arith

flat_anchored : {V : Type 0} (s : State V) → WellLinked s.heads s.nodes first_ages → ((u n : ℕ) → Marked u (node s n) → ⊥) → ((u : ℕ) → worker s u ≡ fresh) → Anchored s first_ages
flat_anchored s S m f =
    record {
      well_linked = S;
      marks = λ u j h. absurd (m u j h);
      anchors = λ u. subst (λ r. Anchor s.heads s.nodes first_ages u r.operation) (sym (f u)) tt;
      alone = λ u k x a b. absurd (both_ways false refl (subst (λ r. compacts x r.operation ≡ true) (f u) a));
    }

-- every version of a new store, where nothing waits
pub record AsMade {V : Type 0} (start : ℕ) (first : V) (x : Node V) : Type 0 where
  pub all_so : (z : Version V) → version x ≡ Some z → (z.stamp ≡ Some start) × (z.value ≡ first) × (z.older ≡ None)
  pub none_waits : (z : Version V) (ms : List Bool) → x ≡ waiting z ms → ⊥

as_made_free : {V : Type 0} (start : ℕ) (first : V) → AsMade start first free
as_made_free start first = record { all_so = λ z e. grind arith; none_waits = λ z ms e. grind arith }

as_made_first : {V : Type 0} (start : ℕ) (first : V) → AsMade start first (first_version start first)
as_made_first start first = grind arith

pub as_made : {V : Type 0} (b : Bool) (cells workers rest start : ℕ) (v : V) (n : ℕ) → AsMade start v (node (made b cells workers rest start v) n)
as_made false cells workers rest start v n = as_made_free start v
as_made true cells workers rest start v n = table_each cells rest (first_version start v) free (AsMade start v) (as_made_first start v) (as_made_free start v) n

made_fresh : {V : Type 0} (b : Bool) (cells workers rest start : ℕ) (v : V) (w : ℕ) → worker (made b cells workers rest start v) w ≡ fresh
made_fresh false cells workers rest start v w = refl
made_fresh true cells workers rest start v w = replicate_each workers fresh fresh (λ r. r ≡ fresh) refl refl w

pub make_fresh : {V : Type 0} (cells workers nodes start : ℕ) (v : V) (w : ℕ) → worker (make cells workers nodes start v) w ≡ fresh
make_fresh cells workers nodes start v = grind (arith, made_fresh)

anchored_made : {V : Type 0} (b : Bool) (cells workers rest start : ℕ) (v : V) → Anchored (made b cells workers rest start v) first_ages
anchored_made {V} false cells workers rest start v =
    flat_anchored no_store (flat [] [] (λ x l. absurd (omega arith)) (λ n. refl) (λ n h. absurd h)) (λ u n h. h) (λ u. refl)
anchored_made {V} true cells workers rest start v =
    flat_anchored (made true cells workers rest start v)
    (flat (numbers_from 0 cells) N tops
    (table_each cells rest (first_version start v) free (λ x. older_of x ≡ None) refl refl) in_cell)
    (λ u. table_each cells rest (first_version start v) free (λ x. Marked u x → ⊥) (λ h. h) (λ h. h))
    (made_fresh true cells workers rest start v)
  where
    in_cell : (n : ℕ) → IsLinked (node_in (replicate cells (first_version start v) ++ replicate rest free) n) → n < length (numbers_from 0 cells)
    in_cell n h =
        ⊎_elim (λ l. rw count_length l)
        (λ l. absurd
        (subst IsLinked
        (get_or-append_right (replicate cells (first_version start v)) (replicate rest free) cells n free (length-replicate cells (first_version start v)) l
        ∙ replicate_each rest free free (λ x. x ≡ free) refl refl (n - cells)) h))
        (cases_lt n cells)

    N : List (Node V)
    N = replicate cells (first_version start v) ++ replicate rest free

    tops : (x : ℕ) → x < length (numbers_from 0 cells) → IsLinked (node_in N (get_or (numbers_from 0 cells) x 0)) × (get_or (numbers_from 0 cells) x 0 ≡ x)
    tops x l =
        let l' : x < cells = rw count_length at l in
        let e : get_or (numbers_from 0 cells) x 0 ≡ x = let c = count_at 0 cells x l' in omega arith in
        let l'' : x < length (replicate cells (first_version start v)) = rw length-replicate l' in (
          subst (λ k. IsLinked (node_in N k)) (sym e)
              (subst IsLinked (sym (get_or_append_left (replicate cells (first_version start v)) (replicate rest free) free x l'' ∙ get_or-replicate cells x (first_version start v) free l')) tt),
          e,
        )

pub anchored_from : {V : Type 0} (s : State V) (g : Ages) (cs : List (Call V)) → Anchored s g → (h : Ages) × Anchored (run s cs) h
unfolding run
anchored_from s g [] I = (g, I)
anchored_from s g (c ∷ cs) I = let r = anchored_next I (transition s c) in anchored_from (step s c).1 r.0 cs r.1

pub anchored : {V : Type 0} (cells workers nodes start : ℕ) (v : V) (cs : List (Call V)) → (h : Ages) × Anchored (run (make cells workers nodes start v) cs) h
anchored cells workers nodes start v cs = anchored_from (make cells workers nodes start v) first_ages cs (anchored_made (sizes_allowed cells workers nodes start) cells workers (nodes - cells) start v)
