-- Quotient and remainder by a power of two without dividing. The language defines a shift to the right by k as the quotient by 2 ^ k; a mask of k
-- ones gives the remainder. It rests on the language's operations (mir.Val), on the library's law of masks (lib.Bits) and on the laws of bits (Bit).
--   ShiftMask w x k  == x >> k is the quotient and x & (2 ^ k - 1) the remainder, for operations of width w
--   shift-mask       == so it is at every width
--   shift-digit      == bit i of a number, by a shift and a mask
use mathlib.Core.Path.{◌≡◌, refl, sym, ◌∙◌}
use Prim.Native.Nat.{ℕ, ◌-◌, ◌/◌, ◌%◌, ◌^◌}
use mir.Syntax as op
use mir.Syntax.{Width, w64, unsigned, shr}
use mir.Val.{Val, vint, bytes, as_int, op2_val}
use lib.Bits.{bit_and, and_mask}
use borrow.Author.Tests.{eq-eqb}
use Rattle.bits.specs.Bit.{bit, digit}
use Rattle.bits.proofs.Bit.{digit-bit}

-- the number that a value holds
abbrev held : Val → ℕ
held v = as_int 0 v (λ w x. x)

pub record ShiftMask (w : Width) (x k : ℕ) : Type 0 where
  pub quotient : held (op2_val (shr unsigned) (vint w x) (vint w k)) ≡ x / 2 ^ k
  pub remainder : held (op2_val op.bit_and (vint w x) (vint w (2 ^ k - 1))) ≡ x % 2 ^ k

pub shift-mask : (w : Width) (x k : ℕ) → ShiftMask w x k
shift-mask w x k =
    let same = eq-eqb (bytes w) (bytes w) refl in
    record { quotient = rw same refl; remainder = rw same (and_mask x k) }

-- any width serves, since what is held is the same number at each
pub shift-digit : (x i : ℕ) → bit_and (x / 2 ^ i) 1 ≡ digit (bit x i)
shift-digit x i = (shift-mask w64 (x / 2 ^ i) 1).remainder ∙ sym (digit-bit x i)
