-- `examination_text::verdict::Rule::push_verdict` meets its contract: the texts of the verdict in turn. It is short, as the numbers in it are words
-- (Short).
use Rattle.std.proofs.Common.{arith, ap, ◌<◌, ◌^◌, ◌++◌, length}
use Prim.Native.Nat.{ℕ}
use Rattle.rules.specs.Ascii.{ascii}
use Rattle.rules.specs.Text.{decimal}
use Rattle.text.proofs.Shown.{written-eq, written-then}
use Rattle.examination_text.specs.Notation.{record_texts}
use Rattle.examination_text.specs.Verdict.{verdict_text}
use Rattle.examination_text.proofs.Records.{length-texts}
use Rattle.examination_text.proofs.Short.{accepted-short, refused-short}
use Rattle.examination_text.proofs.verdict.Rule.push_verdict.Goals as goal

pub returns-in-Ok-clause-short : goal.returns-in-Ok-clause-short
returns-in-Ok-clause-short c = rw (c.in-Ok.is) (accepted-short _ _ _ c.in-Ok.cost (omega arith))

pub returns-in-Err-clause-text : goal.returns-in-Err-clause-text
unfolding ascii verdict_text
returns-in-Err-clause-text c =
    let row = written-eq (ap (λ (k : ℕ). ascii "refused by row " ++ decimal k) c.number.ensures) c.push_number-in-Err.ensures in
    rw (c.in-Err.is) (written-then (written-then row c.push.ensures) c.push_reason.ensures)

pub returns-in-Err-clause-short : goal.returns-in-Err-clause-short
returns-in-Err-clause-short c =
    let few : length (record_texts c.args.self.now.line.now) < 2 ^ 64 = omega (arith, length-texts c.args.self.now.line.now) in
    let place : c.in-Err.refusal.place < 2 ^ 64 = omega arith in
    rw (c.in-Err.is) (refused-short _ _ _ c.args.self.now.table.flags.within few _ _ place (omega (arith, c.number.ensures, c.number.type_inv)))
