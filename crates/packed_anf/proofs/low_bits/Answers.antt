-- `packed_anf::low_bits` meets its contract: fewer than six flags have at most 32 settings, so the shifted one stands inside the word, and one less
-- is a mask of as many ones as there are settings (bits, Quotient).
use Rattle.std.proofs.Common.{◌-◌, ◌%◌, ◌^◌, ◌∙◌, ℕ, bit_and, ap, arith}
use lib.Pow.{pow_pos}
use mir.Syntax.{w64}
use Rattle.bits.proofs.Quotient.{shift-mask}
use Rattle.bits.proofs.Shift.{one_shl}
use Rattle.packed_anf.proofs.Room.{few-settings}
use Rattle.packed_anf.proofs.low_bits.Goals as goal

pub overflow_shl-result : goal.overflow_shl-result
overflow_shl-result g c = omega (arith, few-settings c.args.flags.count (omega arith))

pub overflow_sub-result : goal.overflow_sub-result
overflow_sub-result g c =
    let s = c.setting_count.result in
    omega (arith, one_shl 64 s (omega (arith, few-settings c.args.flags.count (omega arith))), pow_pos s)

pub returns : goal.returns
returns g c =
    let s = c.setting_count in
    let first = c.args.first in
    ap (λ (x : ℕ). bit_and first (x - 1)) (one_shl 64 s.result (omega (arith, few-settings c.args.flags.count (omega arith))))
    ∙ (shift-mask w64 first s.result).remainder
    ∙ ap (λ (k : ℕ). first % 2 ^ k) s.ensures
