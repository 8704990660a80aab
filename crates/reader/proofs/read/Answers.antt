-- `reader::read` meets its contract: row 1, and then the search from byte 0.
use mathlib.Core.Path.{ap, ◌∙◌}
use Rattle.rules.specs.Calls.{read}
use Rattle.reader.specs.Answers.{reading_of}
use Rattle.reader.proofs.Passed.{passed, refused-first}
use Rattle.reader.proofs.read.Goals as goal

pub returns-in_err-try_from : goal.returns-in_err-try_from
unfolding read
returns-in_err-try_from c = ap reading_of (passed c.from_residual.ensures.1) ∙ refused-first _ _ _ _ _ c.in_err-try_from.ensures
