-- A refusal can be read off its number and the place that it names.
use Rattle.std.proofs.Common.{◌≡◌, ℕ, cond, eqb, Some, None, Option, sym, refl, ap₂, ◌∙◌}
use Rattle.values.specs.Laws.{KnownByNumber}
use Rattle.values.specs.Refusals.{number_of, position_of}
use Rattle.values.specs.declared.refusal.Position.{Position}
use Rattle.values.specs.declared.refusal.Refusal.{Refusal}
use Rattle.values.specs.declared.refusal.Refusal.TheVariants.{NoSuchWorker, NoSuchCell, SessionStage, OperationStage, NoOpenSession, CellBusy, NoFreeNode, ClockAtEnd, BadSizes, TallyTooLarge, BadLine}

-- The refusal of a number that names no place.
placeless : ℕ → Refusal
placeless n = cond (eqb n 1) NoSuchWorker (cond (eqb n 2) NoSuchCell (cond (eqb n 3) SessionStage (cond (eqb n 4) OperationStage (cond (eqb n 5) NoOpenSession (cond (eqb n 6) CellBusy (cond (eqb n 7) NoFreeNode (cond (eqb n 8) ClockAtEnd (cond (eqb n 9) BadSizes TallyTooLarge))))))))

abbrev read_off : ℕ → Option Position → Refusal
read_off n None = placeless n
read_off n (Some p) = BadLine p

is_read_off : (a : Refusal) → read_off (number_of a) (position_of a) ≡ a
unfolding placeless
is_read_off NoSuchWorker = refl
is_read_off NoSuchCell = refl
is_read_off SessionStage = refl
is_read_off OperationStage = refl
is_read_off NoOpenSession = refl
is_read_off CellBusy = refl
is_read_off NoFreeNode = refl
is_read_off ClockAtEnd = refl
is_read_off BadSizes = refl
is_read_off TallyTooLarge = refl
is_read_off (BadLine p) = refl

pub known_by_number : KnownByNumber
known_by_number a b number position = sym (is_read_off a) ∙ ap₂ read_off number position ∙ is_read_off b
