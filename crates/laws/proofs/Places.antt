-- A list of calls place by place: its log, and the states along it.
use Rattle.std.proofs.Common.{◌≡◌, ℕ, zero, suc, ◌<◌, ◌≤◌, List, [], ◌∷◌, ◌++◌, length, take, sym, refl, ap, subst, arith, ◌∙◌}
use Rattle.std.proofs.lemmas.Option.{slice_get_within, some_pair_parts}
use Rattle.std.proofs.lemmas.List.{append-nil, append_assoc}
use Rattle.model.specs.Answers.{Answer}
use Rattle.model.specs.Calls.{Call, step}
use Rattle.model.specs.Runs.{run, log}
use Rattle.model.specs.State.{State}
use Rattle.laws.specs.Histories.{Latest, history, Was}
use Rattle.laws.proofs.Transitions.{Transition, transition}

-- The state before the call at place i of a list.
abbrev pub state_at : {V : Type 0} → State V → List (Call V) → ℕ → State V
state_at s cs i = run s (take i cs)

-- one call more, at the end
pub run_one_more : {V : Type 0} (s : State V) (cs : List (Call V)) (c : Call V) → run s (cs ++ c ∷ []) ≡ (step (run s cs) c).1
unfolding run
run_one_more s [] c = refl
run_one_more s (d ∷ cs) c = run_one_more (step s d).1 cs c

pub length_log : {V : Type 0} (s : State V) (cs : List (Call V)) → length (log s cs) ≡ length cs
unfolding log
length_log s [] = refl
length_log s (c ∷ cs) = ap suc (length_log (step s c).1 cs)

-- what holds at first, and after each call more, holds after every list
pub by_calls :
    {V : Type 0} (P : List (Call V) → Type 0) → P [] → ((cs : List (Call V)) (c : Call V) → P cs → P (cs ++ c ∷ [])) → (cs : List (Call V)) → P cs
by_calls {V} P z f cs = go [] cs z
  where
    go : (ds cs : List (Call V)) → P ds → P (ds ++ cs)
    go ds [] p = rw append-nil p
    go ds (c ∷ cs) p = subst P (append_assoc ds (c ∷ []) cs) (go (ds ++ c ∷ []) cs (f ds c p))

-- the latest place is one
pub latest_one : (P : ℕ → Type 0) (i j k : ℕ) → Latest P i k → Latest P j k → i ≡ j
latest_one x i j k a b = grind arith

-- the log and the states of one list, place by place
pub at_place : {V : Type 0} (s : State V) (cs : List (Call V)) (k : ℕ) → k < length cs
    → (c : Call V) × Was (history s cs) k c (step (state_at s cs k) c).0 × (state_at s cs (suc k) ≡ (step (state_at s cs k) c).1)
unfolding run log
at_place s [] k h = absurd (omega arith)
at_place s (c ∷ cs) zero h = (c, refl, refl)
at_place s (c ∷ cs) (suc k) h = at_place (step s c).1 cs k (omega arith)

module _ {V : Type 0} (s₀ : State V) (cs : List (Call V)) where
  pub was_one : (k : ℕ) (c d : Call V) (a b : Answer V) → Was (history s₀ cs) k c a → Was (history s₀ cs) k d b → (c ≡ d) × (a ≡ b)
  was_one k c d a b h g = some_pair_parts c d a b (sym h ∙ g)

  pub was_within : (k : ℕ) (c : Call V) (a : Answer V) → Was (history s₀ cs) k c a → k < length cs
  was_within k c a h = subst (λ n. k < n) (length_log s₀ cs) (slice_get_within (log s₀ cs) k _ h)

  -- at a place of the log a move was made
  pub was_transition : (k : ℕ) (c : Call V) (a : Answer V) → Was (history s₀ cs) k c a → Transition (state_at s₀ cs k) c a (state_at s₀ cs (suc k))
  was_transition k c a h =
      let r = at_place s₀ cs k (was_within k c a h) in
      let q = was_one k r.0 c _ a r.1 h in
      subst (λ s. Transition (state_at s₀ cs k) c a s) (sym r.2)
      (subst (λ y. Transition (state_at s₀ cs k) c y (step (state_at s₀ cs k) r.0).1) q.1
      (subst (λ d. Transition (state_at s₀ cs k) d (step (state_at s₀ cs k) r.0).0 (step (state_at s₀ cs k) r.0).1) q.0 (transition (state_at s₀ cs k) r.0)))

  -- what holds at first, and after each move, holds at every place
  pub by_places :
      (P : ℕ → Type 0) → P 0
      → ((k : ℕ) (c : Call V) (a : Answer V) → Was (history s₀ cs) k c a → Transition (state_at s₀ cs k) c a (state_at s₀ cs (suc k)) → P k → P (suc k))
      → (k : ℕ) → k ≤ length cs → P k
  by_places P z f zero h = z
  by_places P z f (suc k) h =
      let r = at_place s₀ cs k h in
      f k r.0 _ r.1 (was_transition k r.0 _ r.1) (by_places P z f k (omega arith))
