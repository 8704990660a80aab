-- `recorded_transforms::calls::goes_back_to` meets its contract: the answer is the call's on paper, and so is the buffer that is left.
use Rattle.std.proofs.Common.{arith}
use Rattle.rules.specs.Outcome.{left}
use Rattle.comparison.proofs.Called.{came}
use Rattle.comparison.proofs.Same.{outcome-same}
use Rattle.recorded_transforms.specs.Answers.{outcome_of}
use Rattle.recorded_transforms.proofs.Answers.{numbers-told}
use Rattle.recorded_transforms.proofs.calls.goes_back_to.Goals as goal

pub returns : goal.returns
returns c =
    let call = c.compute_table.ensures in
    came outcome_of left _ _ _ _ (numbers-told _ _ call.answer c.from-told.ensures) call.lent (grind (arith, outcome-same))
