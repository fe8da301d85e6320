-- What people read of an error.
use Rattle.std.specs.Prelude.{ℕ, List, codes}
use Rattle.values.specs.Wording.{refusal_text}
use Rattle.question.specs.declared.error.CaseError.{CaseError}
use Rattle.question.specs.declared.error.CaseError.TheVariants.{Refused, NoMemory}

abbrev pub error_text : CaseError → List ℕ
error_text NoMemory = codes "no memory"
error_text (Refused r) = refusal_text r
