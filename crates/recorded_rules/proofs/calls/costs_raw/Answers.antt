-- `recorded_rules::calls::costs_raw` meets its contract: the answer is raw costing's on paper, of the word that the transform left.
use Rattle.std.proofs.Common.{ap, ◌∙◌}
use Rattle.comparison.proofs.Same.{same-said}
use Rattle.recorded.specs.Results.{number_of}
use Rattle.recorded_rules.proofs.Rule.{raw_costing-said}
use Rattle.recorded_rules.proofs.calls.costs_raw.Goals as goal

pub returns : goal.returns
returns c =
    let cost = raw_costing-said _ _ c.compute_anf.ensures.lent c.raw_anf_cost.ensures in
    same-said c.eq.ensures (c.from.ensures ∙ ap number_of cost) c.one.ensures
