-- `recorded_rules::calls::compiles_to` meets its contract: the answer is the call's on paper, and so is the buffer that is left.
use Rattle.std.proofs.Common.{arith}
use Rattle.comparison.proofs.Called.{came}
use Rattle.comparison.proofs.Same.{outcome-same}
use Rattle.recorded_rules.specs.Answers.{compiled_of, bytes_after}
use Rattle.recorded_rules.proofs.Answers.{compiled-told}
use Rattle.recorded_rules.proofs.calls.compiles_to.Goals as goal

pub returns : goal.returns
returns c =
    let call = c.build_anf_expr-answer.ensures in
    let told = compiled-told _ _ _ call.answer c.from-told.ensures c.map.ensures.cases in
    came compiled_of bytes_after _ _ _ _ told call.lent (grind (arith, outcome-same))
