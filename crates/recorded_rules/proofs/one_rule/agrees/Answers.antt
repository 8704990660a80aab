-- `recorded_rules::one_rule::agrees` meets its contract: what its three calls compared is the rule on paper.
use mathlib.Core.Path.{refl, sym, ◌∙◌}
use lib.Seq.{length-take-le}
use borrow.Author.Rules.{rules}
use Rattle.recorded_rules.proofs.Rule.{agree-short, agree-said}
use Rattle.recorded_rules.proofs.one_rule.agrees.Goals as goal

pub returns-then-length-left : goal.returns-then-length-left
returns-then-length-left c = sym (agree-short _ _ _ _ _ c.if-length-left.true)

pub slice_bounds-is_accepted-end : goal.slice_bounds-is_accepted-end
slice_bounds-is_accepted-end c = sym (length-take-le _ _ (search rules))

pub returns : goal.returns
returns c =
    agree-said _ _ _ _ _ c.if-length-left.false (c.from-cost.ensures ∙ c.pair_at.ensures) (c.from-raw.ensures ∙ c.pair_at-2.ensures)
    (c.from-records.ensures ∙ c.pair_at-3.ensures) refl c.compiles_to.ensures c.is_accepted.ensures c.costs_raw.ensures
