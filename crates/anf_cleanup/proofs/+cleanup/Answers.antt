-- The goals of the cycle of `anf_cleanup::cleanup` that need more than a search, by member.
-- `best_cube`: each turn keeps the loop's invariant, and at its end what was found is the best cube (Cubes).
-- `cleanup`: each path is one of the cleanup's equations (Rules), and its cost that of the tree that the choice makes (Plans).
-- `common_cube`: rule 3 has a candidate just where the search finds a cube (Rules), with a remainder or with none (Contest). The remainder has fewer
-- literals (Candidates).
-- `partial_or`: rule 2 has a candidate just where a family is found (Rules), and it costs the chain, the cleaned remainder and 1 (Contest). The
-- remainder has fewer literals (Candidates).
-- `try_cube`: a mask that is no candidate leaves the best as it is, and so does one whose saving could not be the best. Any other candidate's inner
-- form is cleaned, with fewer literals (Candidates, Saving).
use mathlib.Core.Bool.{false≢true}
use mathlib.Core.Path.{refl, sym, ap, subst, ◌∙◌}
use Rattle.std.proofs.Common.{◌<◌, ℕ, arith}
use borrow.Author.Tests.{eqb-true, eqb-false}
use Rattle.bits.proofs.Bit.{digit-le}
use Rattle.bits.specs.Word.{places}
use Rattle.rules.specs.Form.{or_chain, raw_form}
use Rattle.rules.specs.Monomial.{constant}
use Rattle.rules.specs.Tree.{cost}
use Rattle.mask_words.specs.declared.ones.Ones.{Ones}
use Rattle.form.specs.Masks.{masks}
use Rattle.form.proofs.Literals.{constant-digit}
use Rattle.search.proofs.Positive.{none-positive, some-positive}
use Rattle.anf_cleanup.specs.Plan.{Planned}
use Rattle.anf_cleanup.specs.declared.Choice.TheVariants.{Constant, Family, Raw}
use Rattle.anf_cleanup.proofs.Bounds.{cleanup-limit}
use Rattle.anf_cleanup.proofs.Candidates.{cube-fewer, family-fewer}
use Rattle.anf_cleanup.proofs.Contest.{partial-planned, product-fits, rest-fits, whole-planned, rest-planned}
use Rattle.anf_cleanup.proofs.Cubes.{search-start, search-mask, search-kept, search-more, search-done}
use Rattle.anf_cleanup.proofs.Rules.{cleanup-constant, cleanup-family, common_cube-built, common_cube-none, partial_or-built, partial_or-none}
use Rattle.anf_cleanup.proofs.Plans.{planned-chosen, planned-contest, planned-single, improved-none, improved-only}
use Rattle.anf_cleanup.proofs.Plans.{cost-constant, cost-family, cost-raw}
use Rattle.anf_cleanup.proofs.Saving.{candidate-of, known-planned, tried-passed}
use Rattle.anf_cleanup.proofs.+cleanup.Goals as goal

pub best_cube-loop-cube-init : goal.best_cube-loop-cube-init
best_cube-loop-cube-init t c =
    let left = ap (λ (o : Ones). places 64 o.left) c.into_iter-cube-iterator.ensures.into_iter_gives in
    (tt, tt, search-start c.args.form _ (left ∙ c.masks-cube-items.ensures ∙ c.shared_cubes.ensures))

pub best_cube-of-requires : goal.best_cube-of-requires
best_cube-of-requires t c = search-mask _ _ _ _ _ c.in-Some.ensures.steps c.loop-cube.invariant.2

pub best_cube-loop-cube-preserved-in-Some-try_cube : goal.best_cube-loop-cube-preserved-in-Some-try_cube
best_cube-loop-cube-preserved-in-Some-try_cube t c =
    let (here, more, known) = c.in-Some-try_cube.ensures in
    let gain = subst (λ (n : ℕ). n < c.in-Some-try_cube.better.saving) c.saved.ensures more in
    (tt, tt, search-more _ _ _ _ _ c.in-Some.ensures.steps c.loop-cube.invariant.2 _ (here ∙ c.of.ensures, gain, known))

pub best_cube-loop-cube-preserved : goal.best_cube-loop-cube-preserved
best_cube-loop-cube-preserved t c = (
  tt,
  tt,
  search-kept _ _ _ _ _ c.in-Some.ensures.steps c.loop-cube.invariant.2
      (rw (← c.of.ensures) (λ e. omega (arith, c.in_default.ensures e, c.saved.ensures))),
)

pub best_cube-returns : goal.best_cube-returns
best_cube-returns t c = search-done _ _ _ c.in-None.ensures.steps.0 c.loop-cube.invariant.2

-- ---- cleanup

pub cleanup-returns-then-count-eq0 : goal.cleanup-returns-then-count-eq0
cleanup-returns-then-count-eq0 t c =
    planned-chosen _ Constant _ _ _ _ c.whole.ensures (cost-constant _) tt tt _ (cleanup-constant _ (sym c.count-count.ensures ∙ c.if-count-eq0.true))

pub cleanup-overflow_add-chain_cost : goal.cleanup-overflow_add-chain_cost
cleanup-overflow_add-chain_cost t c =
    omega (
      arith,
      digit-le (constant (masks c.args.form)),
      constant-digit c.args.form c.constant.ensures c.from-then-is_family.ensures,
      c.chain_cost.ensures,
    )

pub cleanup-returns-then-is_family : goal.cleanup-returns-then-is_family
cleanup-returns-then-is_family t c =
    let whole = sym c.is_family.ensures ∙ c.if-is_family.true in
    planned-chosen _ Family _ _ _ _ c.whole-then-is_family.ensures
    (cost-family _ _ _ _ (c.from.ensures ∙ c.singles.ensures) c.chain_cost.ensures.0
    (constant-digit c.args.form c.constant.ensures c.from-then-is_family.ensures))
    whole tt _ (cleanup-family _ (λ e. c.if-count-eq0.false (c.count-count.ensures ∙ e)) whole)

pub cleanup-returns-then-count-eq1 : goal.cleanup-returns-then-count-eq1
cleanup-returns-then-count-eq1 t c =
    let raw : Planned (masks c.args.form) (raw_form (masks c.args.form)) c.whole-first.result =
    planned-chosen _ Raw _ _ _ _ c.whole-first.ensures (cost-raw _ _ c.raw_cost.ensures) tt tt _ refl in
    planned-single _ _ (sym c.count-count.ensures ∙ c.if-count-eq1.true) (sym c.is_family.ensures ∙ c.if-is_family.false) raw

pub cleanup-returns : goal.cleanup-returns
cleanup-returns t c =
    let raw : Planned (masks c.args.form) (raw_form (masks c.args.form)) c.whole-first.result =
    planned-chosen _ Raw _ _ _ _ c.whole-first.ensures (cost-raw _ _ c.raw_cost.ensures) tt tt _ refl in
    planned-contest _ _ _ _ _ (λ e. c.if-count-eq0.false (c.count-count.ensures ∙ e))
    (sym c.is_family.ensures ∙ c.if-is_family.false)
    raw c.partial_or-second.ensures c.common_cube-third.ensures c.absorption.ensures

-- ---- common_cube

pub common_cube-returns-in_default : goal.common_cube-returns-in_default
common_cube-returns-in_default t c = improved-none _ _ _ (common_cube-none _ c.in_default.ensures)

pub common_cube-overflow_add-product : goal.common_cube-overflow_add-product
common_cube-overflow_add-product t c = omega (arith, product-fits c.args.form _ c.in-Some.ensures _ c.product_cost.ensures)

pub common_cube-overflow_add-product-2 : goal.common_cube-overflow_add-product-2
common_cube-overflow_add-product-2 t c = omega (arith, product-fits c.args.form _ c.in-Some.ensures _ c.product_cost.ensures)

pub common_cube-returns-then-is_empty : goal.common_cube-returns-then-is_empty
common_cube-returns-then-is_empty t c =
    improved-only _ _ _ _ _ (common_cube-built _ c.in-Some.found.cube c.in-Some.ensures.best)
    (c.cheaper.ensures _ _ (whole-planned _ _ c.in-Some.ensures _ c.product_cost.ensures _ c.uncovered-rest.ensures
    (eqb-true _ 0 (sym c.is_empty.ensures ∙ c.if-is_empty.true)) _ c.factored.ensures))

pub common_cube-cleanup-plan-requires : goal.common_cube-cleanup-plan-requires
common_cube-cleanup-plan-requires t c =
    let w = c.in-Some.ensures in
    let fewer = cube-fewer _ _ w.best c.in-Some.found.cube.some _ c.uncovered-rest.ensures in
    omega (arith, c.decreases)

pub common_cube-overflow_add-cost : goal.common_cube-overflow_add-cost
common_cube-overflow_add-cost t c =
    omega (arith, rest-fits c.args.form _ c.in-Some.ensures _ c.product_cost.ensures c.uncovered-rest.result _ c.cleanup-plan.ensures)

pub common_cube-overflow_add-cost-2 : goal.common_cube-overflow_add-cost-2
common_cube-overflow_add-cost-2 t c =
    omega (arith, rest-fits c.args.form _ c.in-Some.ensures _ c.product_cost.ensures c.uncovered-rest.result _ c.cleanup-plan.ensures)

pub common_cube-returns : goal.common_cube-returns
common_cube-returns t c =
    improved-only _ _ _ _ _ (common_cube-built _ c.in-Some.found.cube c.in-Some.ensures.best)
    (c.cheaper-2.ensures _ _ (rest-planned _ _ c.in-Some.ensures _ c.product_cost.ensures _ c.uncovered-rest.ensures
    (eqb-false _ 0 (sym c.is_empty.ensures ∙ c.if-is_empty.false)) _ c.cleanup-plan.ensures _ c.factored-2.ensures))

-- ---- partial_or

pub partial_or-returns-in_default : goal.partial_or-returns-in_default
partial_or-returns-in_default t c = improved-none _ _ _ (partial_or-none _ (none-positive _ c.in_default.ensures))

pub partial_or-cleanup-plan-requires : goal.partial_or-cleanup-plan-requires
partial_or-cleanup-plan-requires t c =
    let family = some-positive _ _ c.in-Some.ensures in
    let fewer = family-fewer _ _ family.1 family.0 _ c.without-rest.ensures in
    omega (arith, c.decreases)

pub partial_or-overflow_add-cost : goal.partial_or-overflow_add-cost
partial_or-overflow_add-cost t c =
    omega (arith, c.chain_cost.ensures, c.cleanup-plan.ensures.costs, cleanup-limit c.without-rest.result)

pub partial_or-overflow_add-cost-2 : goal.partial_or-overflow_add-cost-2
partial_or-overflow_add-cost-2 t c =
    omega (arith, c.chain_cost.ensures, c.cleanup-plan.ensures.costs, cleanup-limit c.without-rest.result)

pub partial_or-returns : goal.partial_or-returns
partial_or-returns t c =
    let chosen = (some-positive _ _ c.in-Some.ensures).1 in
    improved-only _ _ _ _ _ (partial_or-built _ c.in-Some.family chosen)
    (c.cheaper.ensures _ _
    (partial-planned _ c.in-Some.family chosen _ c.without-rest.ensures _
    (c.chain_cost.ensures.0 ∙ ap (λ (m : ℕ). cost (or_chain m)) c.from.ensures) _ c.cleanup-plan.ensures))

-- ---- try_cube

pub try_cube-returns-then-not-is_cube : goal.try_cube-returns-then-not-is_cube
try_cube-returns-then-not-is_cube t c =
    λ e. absurd (false≢true (sym c.if-not-is_cube.true ∙ c.is_cube.ensures ∙ e))

pub try_cube-returns-then-gross-most : goal.try_cube-returns-then-gross-most
try_cube-returns-then-gross-most t c =
    let u = candidate-of c.args.form c.args.cube _ c.is_cube.ensures c.if-not-is_cube.false refl in
    tried-passed _ _ _ u _ (omega (arith, c.if-gross-most.true, c.gross_saving-gross.ensures))

pub try_cube-overflow_sub-gross : goal.try_cube-overflow_sub-gross
try_cube-overflow_sub-gross t c = omega (arith, c.least_cost.ensures, c.gross_saving-gross.ensures, c.inner_form-inner.ensures.bounds)

pub try_cube-returns-then-gross-least_cost : goal.try_cube-returns-then-gross-least_cost
try_cube-returns-then-gross-least_cost t c =
    let u = candidate-of c.args.form c.args.cube _ c.is_cube.ensures c.if-not-is_cube.false c.inner_form-inner.ensures.stripped in
    tried-passed _ _ _ u _ (omega (arith, c.if-gross-least_cost.true, c.least_cost.ensures, c.gross_saving-gross.ensures))

pub try_cube-cleanup-plan-requires : goal.try_cube-cleanup-plan-requires
try_cube-cleanup-plan-requires t c = omega (arith, c.decreases, c.inner_form-inner.ensures.fewer)

pub try_cube-overflow_sub-saving : goal.try_cube-overflow_sub-saving
try_cube-overflow_sub-saving t c =
    omega (arith, c.cleanup-plan.ensures.costs, c.gross_saving-gross.ensures, c.inner_form-inner.ensures.bounds)

pub try_cube-returns-then-saving-most : goal.try_cube-returns-then-saving-most
try_cube-returns-then-saving-most t c =
    let u = candidate-of c.args.form c.args.cube _ c.is_cube.ensures c.if-not-is_cube.false c.inner_form-inner.ensures.stripped in
    let known = known-planned _ c.args.cube _ u _ _ c.gross_saving-gross.ensures c.cleanup-plan.ensures in
    λ _. omega (arith, known.saving)

pub try_cube-returns : goal.try_cube-returns
try_cube-returns t c =
    let u = candidate-of c.args.form c.args.cube _ c.is_cube.ensures c.if-not-is_cube.false c.inner_form-inner.ensures.stripped in
    (refl, omega arith, known-planned _ c.args.cube _ u _ _ c.gross_saving-gross.ensures c.cleanup-plan.ensures)
