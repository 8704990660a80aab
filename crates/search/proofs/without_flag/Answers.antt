-- `search::without_flag` meets its contract by the law of one flag more: a flag below six is a shift below 64.
use Prim.Native.Nat.{ℕ, ◌^◌, ◌<◌}
use native.Mathlib.Omega.{arith}
use lib.Pow.{pow-lt}
use Rattle.bits.proofs.Shift.{one_shl}
use Rattle.search.proofs.Shared.{reached-step}
use Rattle.search.proofs.without_flag.Goals as goal

below : (k : ℕ) → k < 6 → 2 ^ k < 2 ^ 6
below k h = pow-lt {j = 6} h

pub overflow_shr-once : goal.overflow_shr-once
overflow_shr-once c = omega (arith, one_shl 64 c.args.flag (omega arith), below c.args.flag c.requires)

pub overflow_shr-twice : goal.overflow_shr-twice
overflow_shr-twice c = omega (arith, one_shl 64 c.args.flag (omega arith), below c.args.flag c.requires)

pub returns : goal.returns
returns c w flag r =
    let a = c.args in
    rw (one_shl 64 a.flag (omega arith)) (reached-step w a.flag a.having flag a.found.once a.found.twice (omega arith) (omega arith) r)
