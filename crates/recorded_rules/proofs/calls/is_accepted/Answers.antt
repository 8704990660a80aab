-- `recorded_rules::calls::is_accepted` meets its contract: the answer is the examiner's on paper.
use Rattle.std.proofs.Common.{ap, ◌∙◌}
use Rattle.comparison.proofs.Same.{same-said}
use Rattle.recorded.specs.Results.{number_of}
use Rattle.recorded_rules.proofs.calls.is_accepted.Goals as goal

pub returns : goal.returns
returns c = same-said c.eq.ensures (c.from.ensures ∙ ap number_of c.examine.ensures) c.one.ensures
