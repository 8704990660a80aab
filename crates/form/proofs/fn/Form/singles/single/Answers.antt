-- The closure of `form::Form::singles` asks for a mask of one of six flags.
use Prim.Native.Nat.{◌^◌, ◌<◌}
use native.Mathlib.Omega.{arith}
use lib.Pow.{pow-lt}
use Rattle.bits.proofs.Shift.{one_shl}
use Rattle.form.proofs.fn.Form.singles.single.Goals as goal

pub of-requires : goal.of-requires
of-requires c =
    let small : 2 ^ c.args.flag < 2 ^ 6 = pow-lt {j = 6} (omega arith) in
    omega (arith, one_shl 64 c.args.flag (omega arith), small)

pub returns : goal.returns
returns c = rw (← one_shl 64 c.args.flag (omega arith)) (rw (← c.of.ensures) c.has.ensures)
