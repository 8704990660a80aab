-- `mask_words::chosen` meets its contract: a word takes in the places one by one (bits, WordParts).
use mathlib.Core.Bool.{Bool}
use mathlib.Core.Path.{◌≡◌, sym, ap, ap₂, ◌∙◌}
use Prim.Native.Nat.{ℕ, ◌*◌, ◌%◌, ◌^◌, ◌<◌}
use native.Mathlib.Omega.{arith}
use lib.Bits.{bit_or}
use lib.Pow.{shl_exact}
use mir.Val.{bool_byte}
use Rattle.bits.specs.Bit.{digit}
use Rattle.bits.proofs.Bit.{digit-le, byte-digit}
use Rattle.bits.proofs.WordParts.{word_none, word_more}
use Rattle.mask_words.proofs.chosen.Goals as goal

shifted : (b : Bool) (k : ℕ) → k < 64 → digit b * 2 ^ k % 2 ^ 64 ≡ digit b * 2 ^ k
shifted b k h = shl_exact 1 k 64 (omega (arith, digit-le b)) (omega arith)

pub loop-place-init : goal.loop-place-init
loop-place-init g c = λ p h. sym (word_none p)

pub loop-place-preserved : goal.loop-place-preserved
loop-place-preserved g c = λ p h.
    let k = c.loop-place.place in
    let e = c.from.ensures ∙ ap bool_byte (h k c.test.result c.loop-place-test.true c.test.ensures) ∙ byte-digit (p k) in
    ap₂ bit_or (c.loop-place.invariant p h) (ap (λ (n : ℕ). n * 2 ^ k % 2 ^ 64) e ∙ shifted (p k) k (omega arith)) ∙ sym (word_more p k)
