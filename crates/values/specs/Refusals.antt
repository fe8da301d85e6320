-- The number of every refusal, and the place in a text that one of them names.
use Rattle.std.specs.Prelude.{ℕ, Some, None, Option}
use Rattle.values.specs.declared.refusal.Position.{Position}
use Rattle.values.specs.declared.refusal.Refusal.{Refusal}
use Rattle.values.specs.declared.refusal.Refusal.TheVariants.{NoSuchWorker, NoSuchCell, SessionStage, OperationStage, NoOpenSession, CellBusy, NoFreeNode, ClockAtEnd, BadSizes, TallyTooLarge, BadLine}

-- 10 and 11 name no refusal.
abbrev pub number_of : Refusal → ℕ
number_of NoSuchWorker = 1
number_of NoSuchCell = 2
number_of SessionStage = 3
number_of OperationStage = 4
number_of NoOpenSession = 5
number_of CellBusy = 6
number_of NoFreeNode = 7
number_of ClockAtEnd = 8
number_of BadSizes = 9
number_of TallyTooLarge = 12
number_of (BadLine p) = 13

abbrev pub position_of : Refusal → Option Position
position_of NoSuchWorker = None
position_of NoSuchCell = None
position_of SessionStage = None
position_of OperationStage = None
position_of NoOpenSession = None
position_of CellBusy = None
position_of NoFreeNode = None
position_of ClockAtEnd = None
position_of BadSizes = None
position_of TallyTooLarge = None
position_of (BadLine p) = Some p
