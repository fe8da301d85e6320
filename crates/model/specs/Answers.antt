-- What a step answers, and the numbers and values that each answer carries.
use Rattle.std.specs.Prelude.{ℕ, List, [], ◌∷◌, Some, None, Option}
use Rattle.values.specs.declared.Refusal.{Refusal}
use Rattle.values.specs.Refusals.{number_of}
use Rattle.model.specs.State.{State}

-- A refusal; again; overtaken; a grant, which may carry a stamp, a value, or what a finished compaction tells:
-- its cutoff, the full slots that it found, the versions that it took out.
-- `impossible` stands where a total definition has to answer something and no run ever comes: see the law
-- `NothingImpossible`.
pub data Answer (V : Type 0) : Type 0 where
  refused : Refusal → Answer V
  again overtaken granted impossible : Answer V
  number : ℕ → Answer V
  value : V → Answer V
  done : (cutoff full_slots taken_out : ℕ) → Answer V

-- The number of a refusal, the numbers of a grant, the value of a grant.
pub record Content (V : Type 0) : Type 0 where
  pub refusal_number : Option ℕ
  pub numbers : List ℕ
  pub carried : Option V

abbrev pub content : {V : Type 0} → Answer V → Content V
content (refused r) = record { refusal_number = Some (number_of r); numbers = []; carried = None }
content again = record { refusal_number = None; numbers = []; carried = None }
content overtaken = record { refusal_number = None; numbers = []; carried = None }
content granted = record { refusal_number = None; numbers = []; carried = None }
content impossible = record { refusal_number = None; numbers = []; carried = None }
content (number n) = record { refusal_number = None; numbers = n ∷ []; carried = None }
content (value v) = record { refusal_number = None; numbers = []; carried = Some v }
content (done t k r) = record { refusal_number = None; numbers = t ∷ k ∷ r ∷ []; carried = None }

-- What a step gives: its answer, and the state after it.
abbrev pub Outcome : Type 0 → Type 0
Outcome V = Answer V × State V

-- A refusal alters nothing.
abbrev pub refuse : {V : Type 0} → State V → Refusal → Outcome V
refuse s r = (refused r, s)

-- No run comes here.
abbrev pub no_run : {V : Type 0} → State V → Outcome V
no_run s = (impossible, s)
