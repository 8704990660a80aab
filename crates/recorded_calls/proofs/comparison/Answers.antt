-- `recorded_calls::comparison` meets its contract: the numbers compared are those of the head.
use mathlib.Core.Path.{◌∙◌}
use Rattle.recorded_calls.proofs.Preferred.{preferred-said}
use Rattle.recorded_calls.proofs.comparison.Goals as goal

pub returns : goal.returns
returns c =
    c.one.ensures
    ∙ preferred-said _ _ _ c.half_at-size.ensures c.half_at.ensures c.half_at-rival.ensures c.half_at-2.ensures c.is_better.ensures
