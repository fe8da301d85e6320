-- The words so far are those of the verdicts so far.
use Rattle.std.proofs.Common.{◌≡◌, take, string_bytes}
use Rattle.preview.specs.Verdicts.{verdict_lines}
use Rattle.why.proofs.report.words_of.Given as goal

abbrev pub invariant-loop-verdict : goal.invariant-loop-verdict
invariant-loop-verdict l = string_bytes l.words ≡ verdict_lines (take l.verdict-index l.verdicts)
