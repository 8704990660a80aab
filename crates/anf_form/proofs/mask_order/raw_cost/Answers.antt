-- `anf_form::mask_order::raw_cost` meets its contract: a turn adds the bulk of one word's masks (Bulk). At the end the sum is the raw cost and one
-- more, unless there is no mask (laws, Cost).
use Rattle.std.proofs.Common.{◌≡◌, ◌∙◌, ℕ, refl, sym, ap, arith, length}
use native.Mathlib.Numerals.{add-one}
use Rattle.bits.specs.Range.{keep, from}
use Rattle.bits.specs.Sum.{sum}
use Rattle.laws.proofs.cost.Cost.{bulk, raw_cost-some, raw_cost-none}
use Rattle.anf_form.specs.Inner.{held}
use Rattle.anf_form.proofs.Bulk.{bulk-held}
use Rattle.anf_form.proofs.mask_order.raw_cost.Goals as goal

pub loop-i-init : goal.loop-i-init
unfolding keep from sum
loop-i-init c = (refl, omega arith)

pub loop-i-preserved : goal.loop-i-preserved
loop-i-preserved c =
    let ws = c.args.words.now in
    let i = c.loop-i.i in
    let next = ap (λ (k : ℕ). bulk (held k ws)) (add-one i) ∙ bulk-held ws i in
    (omega (arith, c.sum_terms-sum.ensures.0, next), omega (arith, c.sum_terms-sum.ensures.1))

pub returns-then-sum-gt0 : goal.returns-then-sum-gt0
returns-then-sum-gt0 c =
    let ws = c.args.words.now in
    let end : c.loop-i.i ≡ length ws = omega arith in
    let whole = c.loop-i.invariant.0 ∙ ap (λ (k : ℕ). bulk (held k ws)) end in
    omega (arith, whole, raw_cost-some (held (length ws) ws) (omega (arith, whole)))

pub returns : goal.returns
returns c =
    let ws = c.args.words.now in
    let end : c.loop-i.i ≡ length ws = omega arith in
    let whole = c.loop-i.invariant.0 ∙ ap (λ (k : ℕ). bulk (held k ws)) end in
    sym (raw_cost-none (held (length ws) ws) (omega (arith, whole)))
