-- `search::is_cube` meets its contract, by the cases of its tests: how many stripped masks there are, and how many flags the cube has.
use mathlib.Core.Path.{sym, ◌∙◌}
use native.Mathlib.Omega.{arith}
use borrow.Author.Tests.{eqb-true, eqb-false}
use Rattle.bits.proofs.Mask.{ones_pos}
use Rattle.search.proofs.CubeTest.{cube-few, cube-single, cube-several}
use Rattle.search.proofs.is_cube.Goals as goal

pub returns-then-size-lt2 : goal.returns-then-size-lt2
returns-then-size-lt2 c = sym (cube-few _ _ _ c.stripped-inner.ensures (omega arith))

pub returns-then-is_power_of_two : goal.returns-then-is_power_of_two
returns-then-is_power_of_two c =
    sym (cube-single _ _ _ c.stripped-inner.ensures (omega arith) (eqb-true _ 1 (sym c.is_power_of_two.ensures ∙ c.if-is_power_of_two.true)))

pub returns : goal.returns
returns c =
    let several = eqb-false _ 1 (sym c.is_power_of_two.ensures ∙ c.if-is_power_of_two.false) in
    c.has_disjoint.ensures
    ∙ sym (cube-several _ _ _ c.stripped-inner.ensures (omega arith) (omega (arith, several, ones_pos c.args.cube.mask.bits c.args.cube.some)))
