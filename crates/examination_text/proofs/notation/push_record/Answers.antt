-- `examination_text::notation::push_record` meets its contract: the two letters, and the digit's value (Records).
use Rattle.std.proofs.Common.{arith}
use Rattle.std.proofs.lemmas.Grind.{common_steps}
use Rattle.examination_text.proofs.Records.{record-size, record-digit, bytes-two, bytes-three, length-bytes}
use Rattle.examination_text.proofs.notation.push_record.Goals as goal

pub bounds-text-0 : goal.bounds-text-0
bounds-text-0 c = omega (arith, record-size c.args.text.now c.requires.0)

pub push-requires : goal.push-requires
push-requires c = omega (arith, record-size c.args.text.now c.requires.0, length-bytes c.args.text.now)

pub bounds-text-1 : goal.bounds-text-1
bounds-text-1 c = omega (arith, record-size c.args.text.now c.requires.0)

pub push-requires-2 : goal.push-requires-2
push-requires-2 c = omega (arith, record-size c.args.text.now c.requires.0, length-bytes c.args.text.now)

pub overflow_sub-text : goal.overflow_sub-text
overflow_sub-text c = record-digit c.args.text.now c.requires.0 (omega arith)

pub push-requires-then-text-eq3 : goal.push-requires-then-text-eq3
push-requires-then-text-eq3 c = omega (arith, record-size c.args.text.now c.requires.0, length-bytes c.args.text.now)

pub returns-then-text-eq3 : goal.returns-then-text-eq3
returns-then-text-eq3 c = grind (arith, common_steps, bytes-three c.args.text.now (omega arith))

pub returns-else-text-eq3 : goal.returns-else-text-eq3
returns-else-text-eq3 c = grind (arith, common_steps, bytes-two c.args.text.now (omega (arith, record-size c.args.text.now c.requires.0)))
