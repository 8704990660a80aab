-- The XOR over subsets inside one word: a mask, a shift and an XOR add one flag, and the six in turn make `in_word`.
-- It rests on the laws of bits and of shifts (bits, Bit and Shift) and on those flag by flag (Flag).
--   lacking k                   == the mask whose ones below 64 stand at the places that lack flag k
--   join_word k w, bit-join      == one line of the code: the bits of w that lack flag k are XORed into those that have it, which is `along`
--   joined_word k w, joined-six  == the k lowest flags in turn; all six make `in_word`
--   in_word-form                 == the low bits of such a word are a form's coefficients
--   holds-inside                == words so transformed hold the XOR over subsets for the six lowest flags
use mathlib.Core.Bool.{Bool, true, false, ◌&&◌, and_comm}
use mathlib.Core.List.{List}
use mathlib.Core.Path.{◌≡◌, refl, sym, ap, ◌∙◌}
use Prim.Native.Nat.{ℕ, zero, suc, ◌+◌, ◌-◌, ◌*◌, ◌/◌, ◌%◌, ◌^◌, ◌≤◌, ◌<◌}
use native.Mathlib.Nat.{mod-lt, lt_of_lt_of_le}
use native.Mathlib.Omega.{arith}
use lib.Bits.{bit_and, bit_xor, xor_lt}
use lib.Dec.{ltb}
use lib.ListN.{length, get_or}
use lib.Pow.{pow_pos, pow_mono}
use borrow.Author.Tests.{ltb-true, ltb-false}
use Rattle.bits.specs.Bit.{◌⊕◌, bit}
use Rattle.bits.specs.Range.{from, all}
use Rattle.bits.specs.Word.{word}
use Rattle.bits.proofs.Cells.{agree, cells_same}
use Rattle.bits.proofs.Bit.{bit-and, bit-xor, bit_high, bit-mod}
use Rattle.bits.proofs.Shift.{bit-shl-in, bit-shl-in-low}
use Rattle.bits.proofs.Word.{word-ext, bit-word-keep}
use Rattle.rules.specs.Coefficient.{coefficient, packed}
use Rattle.rules.specs.Monomial.{form}
use Rattle.laws.proofs.transform.Mobius.{coefficient-lower, coefficient-ext}
use Rattle.laws.proofs.transform.Packed.{packed-at}
use Rattle.anf_transform.specs.inner.Change.{Changed}
use Rattle.anf_transform.specs.inner.Flag.{along, lowest, in_word, Holds}
use Rattle.anf_transform.proofs.Flag.{along-ext, lowest-zero, lowest_step, lowest-all}

abbrev pub lacking : ℕ → ℕ
lacking k = (2 ^ 64 - 1) / (2 ^ (2 ^ k) + 1)

abbrev pub join_word : ℕ → ℕ → ℕ
join_word k w = bit_xor w (bit_and w (lacking k) * 2 ^ (2 ^ k) % 2 ^ 64)

abbrev pub joined_word : ℕ → ℕ → ℕ
joined_word zero w = w
joined_word (suc k) w = join_word k (joined_word k w)

-- one test of all masks: bit i is set exactly where the shift by 2 ^ k takes i to a place with flag k
masks-right : agree (λ k i. bit (lacking k) i) (λ k i. bit (2 ^ k + i) k) 6 64 ≡ true
unfolding all from bit
masks-right = refl

bit-lacking : (k i : ℕ) → k < 6 → i < 64 → bit (lacking k) i ≡ bit (2 ^ k + i) k
bit-lacking = cells_same (λ k i. bit (lacking k) i) (λ k i. bit (2 ^ k + i) k) 6 64 masks-right

pub bit-join : (k w i : ℕ) → k < 6 → i < 64 → bit (join_word k w) i ≡ along k (bit w) i
unfolding along
bit-join k w i h l = bit-xor w (v * 2 ^ (2 ^ k) % 2 ^ 64) i ∙ ap (λ (b : Bool). bit w i ⊕ b) (go (ltb i (2 ^ k)) refl)
  where
    v : ℕ
    v = bit_and w (lacking k)

    go : (b : Bool) → ltb i (2 ^ k) ≡ b → bit (v * 2 ^ (2 ^ k) % 2 ^ 64) i ≡ (bit i k && bit w (i - 2 ^ k))
    go true e =
        let s = ltb-true i (2 ^ k) e in
        bit-shl-in-low 64 v (2 ^ k) i l s ∙ sym (ap (λ (b : Bool). b && bit w (i - 2 ^ k)) (bit_high i k s))
    go false e =
        let s = ltb-false i (2 ^ k) e in
        let j = i - 2 ^ k in
        let back : 2 ^ k + j ≡ i = omega arith in
        bit-shl-in 64 v (2 ^ k) i l s ∙ bit-and w (lacking k) j
        ∙ ap (λ (b : Bool). bit w j && b) (bit-lacking k j h (omega arith) ∙ ap (λ (x : ℕ). bit x k) back)
        ∙ and_comm (bit w j) (bit i k)

-- what k turns have reached
record Through (k w r : ℕ) : Type 0 where
  small : r < 2 ^ 64
  holds : (i : ℕ) → i < 64 → bit r i ≡ lowest k (bit w) i

through : (k w : ℕ) → w < 2 ^ 64 → k ≤ 6 → Through k w (joined_word k w)
through zero w h l = record { small = h; holds = λ i m. sym (lowest-zero (bit w) i) }
through (suc k) w h l =
    let r = joined_word k w in
    let t = through k w h (omega arith) in
    record {
      small = xor_lt 64 r (bit_and r (lacking k) * 2 ^ (2 ^ k) % 2 ^ 64) t.small (mod-lt (bit_and r (lacking k) * 2 ^ (2 ^ k)) (pow_pos 64));
      holds = λ i m. bit-join k r i l m ∙ along-ext k (bit r) (lowest k (bit w)) i (λ j s. t.holds j (omega arith)) ∙ sym (lowest_step k (bit w) i);
    }

pub joined-six : (w : ℕ) → w < 2 ^ 64 → joined_word 6 w ≡ in_word w
unfolding in_word
joined-six w h =
    let t = through 6 w h (omega arith) in
    word-ext 64 (joined_word 6 w) (coefficient 6 (bit w)) t.small (λ i l. t.holds i l ∙ lowest-all 6 (bit w) i l)

pub holds-inside : (ws vs : List ℕ) → Changed 0 (length ws) (λ i. in_word (get_or ws i 0)) ws vs → Holds (lowest 6 (packed ws)) vs
unfolding packed in_word lowest
holds-inside ws vs c m l =
    let i = m / 64 in
    let w = get_or ws i 0 in
    let same : (s : ℕ) → s < 64 → bit w s ≡ packed ws (i * 64 + s) =
    λ s h. sym (packed-at ws i s h) ∙ ap (packed ws) (omega arith) in
    ap (λ (v : ℕ). bit v (m % 64)) (c.here i (omega arith) (omega (arith, c.same)))
    ∙ bit-word-keep 64 (coefficient 6 (bit w)) (m % 64) (omega arith)
    ∙ coefficient-ext 6 (bit w) (λ s. packed ws (i * 64 + s)) (m % 64) same

pub in_word-form : (n w : ℕ) → n ≤ 6 → in_word w % 2 ^ (2 ^ n) ≡ word (form n (coefficient n (bit w)))
unfolding in_word form
in_word-form n w h =
    word-ext (2 ^ n) (in_word w % 2 ^ (2 ^ n)) (coefficient n (bit w)) (mod-lt (in_word w) (pow_pos (2 ^ n)))
    (λ m l. bit-mod (in_word w) (2 ^ n) m l ∙ bit-word-keep 64 (coefficient 6 (bit w)) m (lt_of_lt_of_le l (pow_mono h))
    ∙ coefficient-lower n 6 (bit w) m h l)
