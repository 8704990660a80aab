-- A number of six flags as the sum of its binary digits: the flags of a form that occur, and those that occur as single-flag monomials, digit by
-- digit. No proof of a function needs these laws today: the code puts the flags together one by one (Flags). It rests on the laws of unions (bits,
-- Union).
--   made k d                 == the number whose digits below k are d
--   made-six                 == six digits put together
--   made_bits                == a number below 64 is made of its digits
--   flags-made, singles-made == the flags that occur, and the single flags
use mathlib.Core.Path.{◌≡◌, sym, ap, ap₂, ◌∙◌}
use Prim.Native.Nat.{ℕ, zero, suc, ◌+◌, ◌*◌, ◌%◌, ◌^◌, ◌<◌}
use native.Mathlib.Nat.{mod-eq_of_lt}
use native.Mathlib.Omega.{arith}
use Rattle.bits.specs.Bit.{bit, digit}
use Rattle.bits.specs.Range.{any, mem}
use Rattle.bits.specs.Sum.{union}
use Rattle.bits.specs.Word.{places}
use Rattle.bits.proofs.Bit.{mod-pow-suc}
use Rattle.bits.proofs.Union.{bit-union, union-lt, bit-union-singles}
use Rattle.bits.proofs.Word.{below-places}
use Rattle.rules.specs.Cleanup.{singles}
use Rattle.form.proofs.Flags.{singles-lt}

abbrev pub made : ℕ → (ℕ → ℕ) → ℕ
made zero d = 0
made (suc k) d = d k * 2 ^ k + made k d

pub made-six : (d : ℕ → ℕ) {a b c e f g : ℕ} → a ≡ d 0 → b ≡ d 1 → c ≡ d 2 → e ≡ d 3 → f ≡ d 4 → g ≡ d 5
    → a + 2 * b + 4 * c + 8 * e + 16 * f + 32 * g ≡ made 6 d
made-six d h0 h1 h2 h3 h4 h5 = omega arith

made-mod : (k u : ℕ) (d : ℕ → ℕ) → ((i : ℕ) → i < k → digit (bit u i) ≡ d i) → u % 2 ^ k ≡ made k d
made-mod zero u d e = omega arith
made-mod (suc k) u d e =
    mod-pow-suc u k ∙ ap₂ (λ (x r : ℕ). x * 2 ^ k + r) (e k (omega arith)) (made-mod k u d (λ i l. e i (omega arith)))

pub made_bits : (u : ℕ) (d : ℕ → ℕ) → u < 64 → ((i : ℕ) → i < 6 → digit (bit u i) ≡ d i) → u ≡ made 6 d
made_bits u d h e = sym (mod-eq_of_lt h) ∙ made-mod 6 u d e

pub flags-made : (w : ℕ) → union (places 64 w) ≡ made 6 (λ k. digit (any (λ m. bit m k) (places 64 w)))
flags-made w =
    let l = places 64 w in
    made_bits (union l) (λ k. digit (any (λ m. bit m k) l)) (union-lt 6 l (below-places 64 w)) (λ k h. ap digit (bit-union l k))

pub singles-made : (w : ℕ) → singles (places 64 w) ≡ made 6 (λ k. digit (mem (2 ^ k) (places 64 w)))
unfolding singles
singles-made w =
    let l = places 64 w in
    made_bits (singles l) (λ k. digit (mem (2 ^ k) l)) (singles-lt w) (λ k h. ap digit (bit-union-singles l k))
