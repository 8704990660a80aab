-- `anf_form::mask_order::sum_terms` meets its contract: a turn adds the weight of the lowest mask left.
use Rattle.std.proofs.Common.{◌+◌, [], ℕ, List, refl, ap, arith, length, map}
use Rattle.laws.proofs.cost.Cost.{bulk, bulk-none}
use Rattle.mask_words.proofs.Yielded.{yielded-lt}
use Rattle.anf_form.proofs.Bulk.{bulk-first, few-places}
use Rattle.anf_form.proofs.mask_order.sum_terms.Goals as goal

pub overflow_add-base : goal.overflow_add-base
overflow_add-base c = let inside = yielded-lt _ _ _ c.in-Some.ensures.steps in omega (arith, inside)

pub overflow_add-sum-in-loop-mask : goal.overflow_add-sum-in-loop-mask
overflow_add-sum-in-loop-mask c = omega (arith, few-places c.args.word, c.term_cost.ensures.1)

pub loop-mask-preserved : goal.loop-mask-preserved
loop-mask-preserved c =
    let first = bulk-first c.args.base _ _ _ c.in-Some.ensures.steps in (
      tt,
      tt,
      omega (arith, first, c.term_cost.ensures.0),
      omega (arith, c.term_cost.ensures.1, ap length c.in-Some.ensures.steps),
    )

pub returns : goal.returns
returns c =
    let none = c.in-None.ensures.steps.0 in
    let over = ap (λ (l : List ℕ). bulk (map (λ m. c.args.base + m) l)) none in
    (omega (arith, over, bulk-none [] refl), omega (arith, few-places c.args.word))
