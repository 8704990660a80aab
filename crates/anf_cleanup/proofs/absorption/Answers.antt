-- `anf_cleanup::absorption` meets its contract: rule 4 has a candidate just where the form has two monomials and the first is a subset of the second
-- (Rules), and then its cost is that of both products and of NO and AN, and 2 more with constant 1 (Plans).
use mathlib.Core.List.{List, [], ◌∷◌}
use mathlib.Core.Path.{◌≡◌, refl, ap, ◌∙◌}
use Prim.Native.Nat.{ℕ, ◌+◌, ◌-◌, ◌*◌}
use native.Mathlib.Omega.{arith}
use Rattle.bits.specs.Bit.{digit}
use Rattle.bits.proofs.Bit.{digit-le}
use Rattle.rules.specs.Cleanup.{absorption}
use Rattle.rules.specs.Monomial.{constant, monomials}
use Rattle.mask_words.specs.declared.mask.Monomial.{Monomial}
use Rattle.form.specs.declared.Pair.{Pair}
use lib.Bits.{bit_and}
use Rattle.rules.specs.Form.{cube}
use Rattle.rules.specs.Tree.{cost}
use Rattle.form.specs.Masks.{masks}
use Rattle.anf_cleanup.specs.Plan.{built}
use Rattle.anf_cleanup.specs.declared.Choice.TheVariants.{Absorption}
use Rattle.form.proofs.Literals.{constant-digit}
use Rattle.form.proofs.Masks.{pair-bounds}
use Rattle.anf_cleanup.proofs.Bounds.{monomial-limit}
use Rattle.anf_cleanup.proofs.Plans.{planned-chosen, improved-none, improved-only, cost-absorption}
use Rattle.anf_cleanup.proofs.Rules.{absorption-none, absorption-apart, absorption-some}
use Rattle.anf_cleanup.proofs.absorption.Goals as goal

-- where the first of two monomials is a subset of the second, rule 4 has a candidate, which costs both products, 2, and twice the constant
absorbed : (l : List ℕ) (p : Pair) → monomials l ≡ p.first.mask.bits ∷ p.second.mask.bits ∷ [] → {a b : ℕ} → a ≡ p.first.mask.bits
    → b ≡ p.second.mask.bits → bit_and a b ≡ a → (r : Monomial) → r.mask.bits ≡ b - a
    → (absorption l ≡ built Absorption l ∷ [])
    × ((x y d : ℕ) → x ≡ cost (cube p.first.mask.bits) → y ≡ cost (cube r.mask.bits) → d ≡ digit (constant l)
    → x + y + 2 + 2 * d ≡ cost (built Absorption l))
absorbed l p e ea eb h r er =
    let within : bit_and p.first.mask.bits p.second.mask.bits ≡ p.first.mask.bits = rw (← ea, ← eb) h in
    let rest : r.mask.bits ≡ p.second.mask.bits - p.first.mask.bits = omega (arith, er, ea, eb) in (
      absorption-some l _ _ e within,
      λ x y d h k i. cost-absorption l _ _ x y d e within h (k ∙ ap (λ (m : ℕ). cost (cube m)) rest) i,
    )

pub returns-then-count-ne2 : goal.returns-then-count-ne2
returns-then-count-ne2 c = improved-none _ _ _ (absorption-none _ (λ e. c.if-count-ne2.true (c.count.ensures ∙ e)))

pub returns-then-first-second : goal.returns-then-first-second
returns-then-first-second c =
    improved-none _ _ _
    (absorption-apart _ _ _ c.pair-pair.ensures (rw (← c.from-first.ensures, ← c.from-second.ensures) c.if-first-second.true))

pub overflow_sub-second : goal.overflow_sub-second
overflow_sub-second c = omega (arith, pair-bounds c.args.form _ _ c.pair-pair.ensures, c.from-first.ensures, c.from-second.ensures)

pub of-rest-requires : goal.of-rest-requires
of-rest-requires c = omega (arith, pair-bounds c.args.form _ _ c.pair-pair.ensures, c.from-first.ensures, c.from-second.ensures)

pub overflow_add-cost : goal.overflow_add-cost
overflow_add-cost c = omega (arith, monomial-limit c.pair-pair.result.first, monomial-limit c.of-rest.result)

pub overflow_add-cost-2 : goal.overflow_add-cost-2
overflow_add-cost-2 c = omega (arith, monomial-limit c.pair-pair.result.first, monomial-limit c.of-rest.result)

pub overflow_mul-constant : goal.overflow_mul-constant
overflow_mul-constant c =
    omega (arith, constant-digit c.args.form c.constant.ensures c.from-constant.ensures, digit-le (constant (masks c.args.form)))

pub overflow_add-cost-3 : goal.overflow_add-cost-3
overflow_add-cost-3 c =
    omega (
      arith,
      constant-digit c.args.form c.constant.ensures c.from-constant.ensures,
      digit-le (constant (masks c.args.form)),
      monomial-limit c.pair-pair.result.first,
      monomial-limit c.of-rest.result,
    )

pub returns : goal.returns
returns c =
    let u =
    absorbed _ c.pair-pair.result c.pair-pair.ensures c.from-first.ensures c.from-second.ensures c.if-first-second.false
    c.of-rest.result c.of-rest.ensures in
    let d = constant-digit c.args.form c.constant.ensures c.from-constant.ensures in
    improved-only _ _ _ _ _ u.0
    (c.cheaper.ensures _ _
    (planned-chosen _ Absorption _ _ _ _ c.whole.ensures (u.1 _ _ _ c.product_cost.ensures c.product_cost-2.ensures d) u.0 tt _ refl))
