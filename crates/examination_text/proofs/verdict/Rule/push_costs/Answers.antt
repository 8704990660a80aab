-- `examination_text::verdict::Rule::push_costs` meets its contract: the cost, and the raw cost.
use Rattle.std.proofs.Common.{ap, ◌++◌}
use Prim.Native.Nat.{ℕ}
use Rattle.rules.specs.Ascii.{ascii}
use Rattle.rules.specs.Text.{decimal}
use Rattle.text.proofs.Shown.{written-eq, written-then}
use Rattle.examination_text.specs.Verdict.{above_raw}
use Rattle.examination_text.proofs.verdict.Rule.push_costs.Goals as goal

pub returns : goal.returns
unfolding ascii above_raw
returns c =
    let raw = written-eq (ap (λ (k : ℕ). ascii " is above the raw cost " ++ decimal k) c.raw_cost.ensures) c.push_number-2.ensures in
    written-then c.push_number.ensures raw
