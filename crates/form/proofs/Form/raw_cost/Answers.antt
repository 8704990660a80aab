-- `form::Form::raw_cost` meets its contract: raw cost and 1 are twice the literals and twice the constant (Literals), which are few enough to fit.
use mathlib.Core.Path.{sym, ◌∙◌}
use native.Mathlib.Omega.{arith}
use lib.ListN.{length}
use borrow.Author.Tests.{eqb-true}
use Rattle.bits.proofs.Bit.{digit-le}
use Rattle.rules.specs.Monomial.{constant}
use Rattle.form.specs.Masks.{masks}
use Rattle.laws.proofs.cost.Cost.{bulk-none, raw_cost-none}
use Rattle.form.proofs.Literals.{literals-le, raw-full, constant-digit}
use Rattle.form.proofs.Form.raw_cost.Goals as goal

pub returns-then-is_empty : goal.returns-then-is_empty
returns-then-is_empty c =
    let l = masks c.args.self in
    sym (raw_cost-none l (bulk-none l (eqb-true (length l) 0 (sym c.is_empty.ensures ∙ c.if-is_empty.true))))

pub overflow_mul-result : goal.overflow_mul-result
overflow_mul-result c = omega (arith, literals-le c.args.self.word (omega arith))

pub overflow_mul-result-2 : goal.overflow_mul-result-2
overflow_mul-result-2 c = omega (arith, digit-le (constant (masks c.args.self)), constant-digit c.args.self c.constant.ensures c.from.ensures)

pub overflow_add-result : goal.overflow_add-result
overflow_add-result c =
    let d = constant-digit c.args.self c.constant.ensures c.from.ensures in
    omega (arith, literals-le c.args.self.word (omega arith), digit-le (constant (masks c.args.self)), d)

pub overflow_sub-result : goal.overflow_sub-result
overflow_sub-result c =
    let d = constant-digit c.args.self c.constant.ensures c.from.ensures in
    omega (arith, raw-full c.args.self (omega arith) c.is_empty.ensures c.if-is_empty.false, d)

pub returns : goal.returns
returns c =
    let d = constant-digit c.args.self c.constant.ensures c.from.ensures in
    omega (arith, raw-full c.args.self (omega arith) c.is_empty.ensures c.if-is_empty.false, d)
