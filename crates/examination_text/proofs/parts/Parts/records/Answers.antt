-- `examination_text::parts::Parts::records` meets its contract, by whether the line is empty.
use Rattle.std.proofs.Common.{sym, ◌∙◌, tests, arith}
use Rattle.examination_text.proofs.Records.{texts-none, texts-some}
use Rattle.examination_text.proofs.parts.Parts.records.Goals as goal

pub returns-then-is_empty : goal.returns-then-is_empty
returns-then-is_empty c = sym (texts-none c.args.line.now (omega (arith, tests)))

pub returns : goal.returns
returns c = c.of.ensures ∙ sym (texts-some c.args.line.now (λ e. omega (arith, tests, e)))
