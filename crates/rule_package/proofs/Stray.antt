-- Stray bits of a table word: it has one exactly where, as a word of coefficients, it has a stray one. It rests on the laws of coefficient words
-- (laws, Packed) and of ranges (bits, Range).
--   stray-bit        == the word by itself has a stray coefficient exactly where it has a stray bit
use mathlib.Core.Bool.{true}
use mathlib.Core.List.{[], ◌∷◌}
use mathlib.Core.Path.{◌≡◌, sym, ap, ◌∙◌}
use Prim.Native.Nat.{ℕ, ◌+◌, ◌-◌, ◌*◌, ◌^◌, ◌≤◌, ◌<◌}
use native.Mathlib.Omega.{arith}
use lib.Dec.{leb, ltb}
use lib.Pow.{pow_mono}
use borrow.Author.Tests.{ltb-true}
use Rattle.bits.specs.Bit.{bit}
use Rattle.bits.specs.Range.{from, any, mem}
use Rattle.bits.proofs.Range.{any-ext, mem-from}
use Rattle.bits.proofs.Truth.{and_true_r}
use Rattle.rules.specs.Coefficient.{packed, stray}
use Rattle.rules.specs.Limits.{package_flags, word_bits}
use Rattle.laws.proofs.transform.Packed.{word_count-small, packed-at}
use Rattle.rule_package.specs.Rule.{stray_bit}

pub stray-bit : (n w : ℕ) → n ≤ package_flags → stray n (w ∷ []) ≡ stray_bit n w
unfolding stray stray_bit
stray-bit n w few =
    ap (λ (k : ℕ). any (packed (w ∷ [])) (from (2 ^ n) (word_bits * k - 2 ^ n))) (word_count-small n few)
    ∙ any-ext (packed (w ∷ [])) (bit w) (from (2 ^ n) (word_bits - 2 ^ n)) (λ m i. first m (inside m i))
  where
    inside : (m : ℕ) → mem m (from (2 ^ n) (word_bits - 2 ^ n)) ≡ true → m < word_bits
    inside m i =
        let k = word_bits - 2 ^ n in
        let u = ltb-true m (2 ^ n + k) (and_true_r (leb (2 ^ n) m) (ltb m (2 ^ n + k)) (sym (mem-from (2 ^ n) k m) ∙ i)) in
        omega (arith, pow_mono few)

    first : (m : ℕ) → m < word_bits → packed (w ∷ []) m ≡ bit w m
    first m h = let e : m ≡ word_bits * 0 + m = omega arith in ap (packed (w ∷ [])) e ∙ packed-at (w ∷ []) 0 m h
