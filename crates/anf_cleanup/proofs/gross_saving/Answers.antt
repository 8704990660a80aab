-- `anf_cleanup::gross_saving` meets its contract: the covered monomials' raw cost is one less than twice their literals, which are enough for the
-- cube's cost (Saving) and few (Bounds).
use mathlib.Core.Path.{refl}
use native.Mathlib.Omega.{arith}
use Rattle.anf_cleanup.proofs.Bounds.{covered-limit}
use Rattle.anf_cleanup.proofs.Saving.{candidate-of, gross-room, gross-literals}
use Rattle.anf_cleanup.proofs.gross_saving.Goals as goal

pub overflow_mul-result : goal.overflow_mul-result
overflow_mul-result c = omega (arith, c.covered_literals.ensures, covered-limit c.args.form c.args.cube.mask.bits)

pub overflow_sub-result : goal.overflow_sub-result
overflow_sub-result c =
    omega (arith, c.covered_literals.ensures, gross-room _ _ _ (candidate-of c.args.form c.args.cube _ refl c.requires refl))

pub overflow_sub-result-2 : goal.overflow_sub-result-2
overflow_sub-result-2 c =
    omega (
      arith,
      c.covered_literals.ensures,
      c.product_cost.ensures,
      gross-room _ _ _ (candidate-of c.args.form c.args.cube _ refl c.requires refl),
    )

pub returns : goal.returns
returns c =
    omega (
      arith,
      c.covered_literals.ensures,
      c.product_cost.ensures,
      gross-literals _ _ _ (candidate-of c.args.form c.args.cube _ refl c.requires refl),
    )
