-- `recorded_expressions::choices::compares` meets its contract: what is compared is the test on paper and the recorded answer.
use mathlib.Core.Path.{ap, ◌∙◌}
use Prim.Native.Nat.{ℕ}
use Rattle.comparison.specs.Outcome.{results}
use Rattle.comparison.proofs.Same.{same-said}
use Rattle.recorded_expressions.proofs.choices.compares.Goals as goal

pub returns : goal.returns
returns c =
    let better = c.from-better.ensures ∙ c.byte_at.ensures in
    same-said c.eq.ensures c.comparison.ensures (c.one.ensures ∙ ap (λ (x : ℕ). results x 0 0 0) better)
