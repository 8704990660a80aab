-- `anf_cleanup::least_cost` meets its contract, which names the same sum of small numbers.
use mathlib.Core.Path.{ap}
use Prim.Native.Nat.{ℕ}
use native.Mathlib.Omega.{arith}
use Rattle.bits.proofs.Bit.{digit-le}
use Rattle.rules.specs.Form.{or_chain}
use Rattle.rules.specs.Monomial.{constant}
use Rattle.rules.specs.Tree.{cost}
use Rattle.form.specs.Masks.{masks}
use Rattle.form.proofs.Literals.{constant-digit}
use Rattle.anf_cleanup.specs.Inner.{least}
use Rattle.anf_cleanup.proofs.least_cost.Goals as goal

pub overflow_mul-result : goal.overflow_mul-result
overflow_mul-result c = omega (arith, constant-digit c.args.inner c.constant.ensures c.from.ensures, digit-le (constant (masks c.args.inner)))

pub overflow_add-result : goal.overflow_add-result
overflow_add-result c =
    let inner = c.args.inner in
    omega (
      arith,
      constant-digit inner c.constant.ensures c.from.ensures,
      c.chain_cost.ensures,
      digit-le (constant (masks inner)),
    )

pub returns : goal.returns
unfolding least
returns c =
    omega (
      arith,
      constant-digit c.args.inner c.constant.ensures c.from.ensures,
      c.chain_cost.ensures,
      ap (λ (m : ℕ). cost (or_chain m)) c.flags.ensures,
    )
