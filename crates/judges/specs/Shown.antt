-- What contracts see of the judges.
use Rattle.std.specs.Prelude.{ℕ, Bool, List, Option}
use Rattle.judges.specs.Told.{Told, uncleared, notes, too_many}
use Rattle.judges.specs.declared.hold.Hold.{Hold}
use Rattle.judges.specs.declared.memory.Memory.{Memory}
use Rattle.judges.specs.declared.memory.Memory.TheVariants.{Empty, Notes, Overfull}
use Rattle.judges.specs.declared.note.NoteJudge.{NoteJudge}
use Rattle.judges.specs.declared.oldest.Oldest.{Oldest}

-- The limit of an oldest judge, if it has one.
abbrev pub limit_of : Oldest → Option ℕ
limit_of judge = judge.limit

-- Whether a hold is on, and the judge below.
abbrev pub is_on : {J : Type 0} → Hold J → Bool
is_on hold = hold.on

abbrev pub judge_below : {J : Type 0} → Hold J → J
judge_below hold = hold.below

-- What is remembered stands for what was told, with the stamps that a row keeps.
abbrev pub remembered : {S : Type 0} → (S → List ℕ) → Memory S → Told
remembered kept Empty = uncleared
remembered kept (Notes t row) = notes t (kept row)
remembered kept (Overfull t) = too_many t

abbrev pub told_so_far : {S : Type 0} → (S → List ℕ) → NoteJudge S → Told
told_so_far kept judge = remembered kept judge.memory
