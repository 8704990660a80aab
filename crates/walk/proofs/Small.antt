-- An entry of the stack has its place in memory.
--   offset-fits          == the entry's first byte, counted from the stack's
use Prim.Native.Nat.{ℕ, ◌*◌, ◌^◌, ◌≤◌, ◌<◌}
use native.Mathlib.Nat.{mul-le-mul_right}
use Rattle.std.proofs.Common.{Fits, w64}
use native.Mathlib.Omega.{arith}
use Rattle.rules.specs.Limits.{record_limit}

pub offset-fits : {i size : ℕ} → i ≤ record_limit → size < 2 ^ 32 → Fits w64 (i * size)
offset-fits {i} {size} h small = omega (arith, mul-le-mul_right {m = i} {n = record_limit} size h)
