-- `reader::Reader::step` meets its contract: at each `return` one law of Reading is the reader's answer on paper.
use mathlib.Core.Path.{sym, ap, ◌∙◌}
use native.Mathlib.Omega.{arith}
use Rattle.reader.proofs.Passed.{passed}
use Rattle.rules.specs.Outcome.{gives}
use Rattle.std.proofs.Math.Option.{some}
use Rattle.reader.specs.Answers.{reading_of}
use Rattle.reader.proofs.Reading.{reached-end, reached-many, reached-refused, reached-found, over-passed}
use Rattle.reader.proofs.Reader.step.Goals as goal

pub returns-then-self : goal.returns-then-self
returns-then-self c = sym (reached-end c.requires c.if-self.true)

pub returns-then-self-ge-RECORD_LIMIT : goal.returns-then-self-ge-RECORD_LIMIT
returns-then-self-ge-RECORD_LIMIT c = rw c.at.ensures (sym (reached-many c.requires (omega arith) (omega arith)))

pub returns-in_err-record : goal.returns-in_err-record
returns-in_err-record c =
    ap reading_of (passed c.from_residual.ensures.1) ∙ sym (reached-refused c.requires (omega arith) (omega arith) _ _ (sym c.in_err-record.ensures))

pub joined-requires : goal.joined-requires
joined-requires c = ((over-passed c.requires (omega arith) (omega arith) _ (sym c.in_ok-record.ensures)).enough, c.requires.room)

pub returns : goal.returns
returns c =
    ap (λ n. gives (some n)) c.joined.ensures ∙ sym (reached-found c.requires (omega arith) (omega arith) _ (sym c.in_ok-record.ensures))
