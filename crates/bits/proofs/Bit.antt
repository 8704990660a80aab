-- Laws of a number's bits: what the operations on numbers do to each bit, and numbers that agree bit by bit.
-- It rests on lib.Bits and lib.Pow, the library's laws of digits and powers of two.
--   byte-digit                               == a truth value that the code casts to a number is its digit
--   digit-le, digit-eqb, digit-is            == a digit is 1 at most; a number below 2 is its own digit; a truth value from its digit
--   bit-digit                                == bit 0 of a digit is the truth value
--   digit-bit, bit-first, bit-suc            == a bit by division: w / 2 ^ i % 2, the lowest bit, and the bits of the half
--   bit-and, bit-or, bit-xor, bit_not        == the operations work on each bit apart
--   bit-shr, bit-shl, bit-shl-low            == shifts
--   bit-mod, bit-mod-high, mod-pow-suc       == the k low digits
--   bit-low, bit_up                          == a number in two parts, a above k digits of r
--   bit_high, bit-above, bit-lt, bit-zero    == no bit stands above the number's digits
--   bit-pow, lt-pow                          == a power of two has one bit; n is below 2 ^ n
--   bit-ext, bits-eq, bits-lt, nonzero-bit   == equality, a bound and a witness from the bits
use mathlib.Core.Path.{◌≡◌, refl, sym, ap, ap₂, ◌∙◌}
use mathlib.Core.Bool.{Bool, true, false, not, ◌&&◌, ◌||◌, false≢true}
use Prim.Native.Nat.{ℕ, zero, suc, ◌+◌, ◌-◌, ◌*◌, ◌/◌, ◌%◌, ◌^◌, ◌≤◌, ◌<◌}
use native.Mathlib.Nat.{mod-lt, div-eq_of_lt, lt_of_lt_of_le, div-one, zero-lt-suc, add-zero, one-mul, pow-suc}
use native.Mathlib.Numerals.{one-add}
use native.Mathlib.Omega.{arith}
use mir.Val.{bool_byte}
use lib.Dec.{eqb, ltb}
use lib.Arith.{lt-one}
use lib.Bits.{bit_and, bit_or, bit_xor, and_shr, or_shr, xor_shr, and_mod, or_mod, xor_mod}
use lib.Pow.{pow_pos, pow_mono, pow-lt, shr-shr, shl-shr, high, low, mod-pow-add, field, mod-mod-pow}
use borrow.Author.Tests.{eqb-true, eqb-false, ltb-true, ltb-false}
use Rattle.bits.specs.Bit.{bit, digit, ◌⊕◌}

pub byte-digit : (b : Bool) → bool_byte b ≡ digit b
byte-digit true = refl
byte-digit false = refl

pub digit-le : (b : Bool) → digit b ≤ 1
digit-le true = omega arith
digit-le false = omega arith

pub digit-eqb : (d : ℕ) → d < 2 → digit (eqb d 1) ≡ d
digit-eqb zero h = refl
digit-eqb (suc zero) h = refl
digit-eqb (suc (suc d)) h = absurd (omega arith)

pub bit-digit : (b : Bool) → bit (digit b) 0 ≡ b
unfolding bit
bit-digit true = refl
bit-digit false = refl

pub digit-is : (b : Bool) (d : ℕ) → d ≡ digit b → eqb d 1 ≡ b
digit-is true d e = ap (λ (x : ℕ). eqb x 1) e
digit-is false d e = ap (λ (x : ℕ). eqb x 1) e

pub digit-bit : (w i : ℕ) → digit (bit w i) ≡ w / 2 ^ i % 2
unfolding bit
digit-bit w i = digit-eqb (w / 2 ^ i % 2) (mod-lt (w / 2 ^ i) (zero-lt-suc 1))

-- an operation that works on each digit apart
module _ (op : ℕ → ℕ → ℕ) (op₂ : Bool → Bool → Bool)
    (shr : (a b k : ℕ) → op a b / 2 ^ k ≡ op (a / 2 ^ k) (b / 2 ^ k)) (low-digits : (a b k : ℕ) → op a b % 2 ^ k ≡ op (a % 2 ^ k) (b % 2 ^ k))
    (table : (p q : Bool) → eqb (op (digit p) (digit q)) 1 ≡ op₂ p q) where
  bit-op : (a b i : ℕ) → bit (op a b) i ≡ op₂ (bit a i) (bit b i)
  unfolding bit
  bit-op a b i =
      ap (λ (x : ℕ). eqb x 1)
      (ap (λ (x : ℕ). x % 2) (shr a b i) ∙ low-digits (a / 2 ^ i) (b / 2 ^ i) 1 ∙ sym (ap₂ op (digit-bit a i) (digit-bit b i)))
      ∙ table (bit a i) (bit b i)

and-table : (p q : Bool) → eqb (bit_and (digit p) (digit q)) 1 ≡ (p && q)
and-table true true = refl
and-table true false = refl
and-table false true = refl
and-table false false = refl

or-table : (p q : Bool) → eqb (bit_or (digit p) (digit q)) 1 ≡ (p || q)
or-table true true = refl
or-table true false = refl
or-table false true = refl
or-table false false = refl

xor-table : (p q : Bool) → eqb (bit_xor (digit p) (digit q)) 1 ≡ (p ⊕ q)
xor-table true true = refl
xor-table true false = refl
xor-table false true = refl
xor-table false false = refl

pub bit-and : (a b i : ℕ) → bit (bit_and a b) i ≡ (bit a i && bit b i)
bit-and = bit-op bit_and ◌&&◌ and_shr and_mod and-table

pub bit-or : (a b i : ℕ) → bit (bit_or a b) i ≡ (bit a i || bit b i)
bit-or = bit-op bit_or ◌||◌ or_shr or_mod or-table

pub bit-xor : (a b i : ℕ) → bit (bit_xor a b) i ≡ (bit a i ⊕ bit b i)
bit-xor = bit-op bit_xor ◌⊕◌ xor_shr xor_mod xor-table

pub bit-shr : (w k i : ℕ) → bit (w / 2 ^ k) i ≡ bit w (k + i)
unfolding bit
bit-shr w k i = ap (λ (x : ℕ). eqb (x % 2) 1) (shr-shr w k i)

pub bit-first : (w : ℕ) → bit w 0 ≡ eqb (w % 2) 1
unfolding bit
bit-first w = ap (λ (x : ℕ). eqb (x % 2) 1) (div-one w)

pub bit-suc : (w i : ℕ) → bit w (suc i) ≡ bit (w / 2) i
bit-suc w i = ap (bit w) (sym (one-add i)) ∙ sym (bit-shr w 1 i)

pub bit_high : (w i : ℕ) → w < 2 ^ i → bit w i ≡ false
unfolding bit
bit_high w i h = ap (λ (x : ℕ). eqb (x % 2) 1) (div-eq_of_lt h)

pub bit-above : (w k i : ℕ) → w < 2 ^ k → k ≤ i → bit w i ≡ false
bit-above w k i h l = bit_high w i (lt_of_lt_of_le h (pow_mono l))

pub bit-lt : (k w i : ℕ) → w < 2 ^ k → bit w i ≡ true → i < k
bit-lt k w i h e = go (ltb i k) refl
  where
    go : (b : Bool) → ltb i k ≡ b → i < k
    go true l = ltb-true i k l
    go false l = absurd (false≢true (sym (bit-above w k i h (ltb-false i k l)) ∙ e))

pub bit-zero : (i : ℕ) → bit 0 i ≡ false
bit-zero i = bit_high 0 i (pow_pos i)

-- bit i is a matter of the digits up to it
bit-field : (w i : ℕ) → bit w i ≡ eqb (w % 2 ^ (1 + i) / 2 ^ i) 1
unfolding bit
bit-field w i = ap (λ (x : ℕ). eqb x 1) (sym (field w 1 i))

pub bit-mod : (w k i : ℕ) → i < k → bit (w % 2 ^ k) i ≡ bit w i
bit-mod w k i h =
    let e : k ≡ k - (1 + i) + (1 + i) = omega arith in
    bit-field (w % 2 ^ k) i
    ∙ ap (λ (x : ℕ). eqb (x / 2 ^ i) 1) (ap (λ (x : ℕ). w % 2 ^ x % 2 ^ (1 + i)) e ∙ mod-mod-pow w (k - (1 + i)) (1 + i))
    ∙ sym (bit-field w i)

pub bit-mod-high : (w k i : ℕ) → k ≤ i → bit (w % 2 ^ k) i ≡ false
bit-mod-high w k i h = bit-above (w % 2 ^ k) k i (mod-lt w (pow_pos k)) h

pub bit-low : (a k r i : ℕ) → r < 2 ^ k → i < k → bit (a * 2 ^ k + r) i ≡ bit r i
bit-low a k r i h l = sym (bit-mod (a * 2 ^ k + r) k i l) ∙ ap (λ (x : ℕ). bit x i) (low a k h)

pub bit_up : (a k r i : ℕ) → r < 2 ^ k → bit (a * 2 ^ k + r) (k + i) ≡ bit a i
bit_up a k r i h = sym (bit-shr (a * 2 ^ k + r) k i) ∙ ap (λ (x : ℕ). bit x i) (high a k h)

pub bit-shl : (w k i : ℕ) → k ≤ i → bit (w * 2 ^ k) i ≡ bit w (i - k)
bit-shl w k i h =
    let e : i ≡ k + (i - k) = omega arith in
    ap (bit (w * 2 ^ k)) e ∙ sym (bit-shr (w * 2 ^ k) k (i - k)) ∙ ap (λ (x : ℕ). bit x (i - k)) (shl-shr w k)

pub bit-shl-low : (w k i : ℕ) → i < k → bit (w * 2 ^ k) i ≡ false
bit-shl-low w k i h = ap (λ (x : ℕ). bit x i) (sym (add-zero (w * 2 ^ k))) ∙ bit-low w k 0 i (pow_pos k) h ∙ bit-zero i

pub bit-pow : (k i : ℕ) → bit (2 ^ k) i ≡ eqb i k
bit-pow k i = equal (eqb i k) refl
  where
    apart : (b : Bool) → ltb i k ≡ b → (i ≡ k → ⊥) → bit (2 ^ k) i ≡ false
    apart true e n = ap (λ (x : ℕ). bit x i) (sym (one-mul (2 ^ k))) ∙ bit-shl-low 1 k i (ltb-true i k e)
    apart false e n =
        let l : k ≤ i = ltb-false i k e in
        let h : k < i = omega arith in
        bit_high (2 ^ k) i (pow-lt h)

    equal : (b : Bool) → eqb i k ≡ b → bit (2 ^ k) i ≡ b
    equal true e =
        ap₂ bit (sym (one-mul (2 ^ k)) ∙ sym (add-zero (1 * 2 ^ k))) (eqb-true i k e ∙ sym (add-zero k)) ∙ bit_up 1 k 0 0 (pow_pos k) ∙ bit-first 1
    equal false e = apart (ltb i k) refl (eqb-false i k e)

not_digit : (d : ℕ) → d < 2 → eqb (1 - d) 1 ≡ not (eqb d 1)
not_digit zero h = refl
not_digit (suc zero) h = refl
not_digit (suc (suc d)) h = absurd (omega arith)

pub bit_not : (k w i : ℕ) → w < 2 ^ k → i < k → bit ((2 ^ k - 1) - w) i ≡ not (bit w i)
bit_not zero w i h l = absurd (omega arith)
bit_not (suc k) w zero h l =
    let t : 2 ^ suc k ≡ 2 ^ k * 2 = pow-suc 2 k in
    let e : ((2 ^ suc k - 1) - w) % 2 ≡ 1 - w % 2 = omega arith in
    bit-first ((2 ^ suc k - 1) - w) ∙ ap (λ (x : ℕ). eqb x 1) e ∙ not_digit (w % 2) (mod-lt w (zero-lt-suc 1)) ∙ ap not (sym (bit-first w))
bit_not (suc k) w (suc i) h l =
    let t : 2 ^ suc k ≡ 2 ^ k * 2 = pow-suc 2 k in
    let e : ((2 ^ suc k - 1) - w) / 2 ≡ (2 ^ k - 1) - w / 2 = omega arith in
    bit-suc ((2 ^ suc k - 1) - w) i ∙ ap (λ (x : ℕ). bit x i) e ∙ bit_not k (w / 2) i (omega arith) (omega arith) ∙ ap not (sym (bit-suc w i))

pub bit-ext : (k a b : ℕ) → a < 2 ^ k → b < 2 ^ k → ((i : ℕ) → i < k → bit a i ≡ bit b i) → a ≡ b
bit-ext zero a b ha hb e = lt-one ha ∙ sym (lt-one hb)
bit-ext (suc k) a b ha hb e =
    let t : 2 ^ suc k ≡ 2 ^ k * 2 = pow-suc 2 k in
    let up : a / 2 ≡ b / 2 =
    bit-ext k (a / 2) (b / 2) (omega arith) (omega arith) (λ i l. sym (bit-suc a i) ∙ e (suc i) (omega arith) ∙ bit-suc b i) in
    let lo : a / 1 % 2 ≡ b / 1 % 2 = sym (digit-bit a 0) ∙ ap digit (e 0 (omega arith)) ∙ digit-bit b 0 in
    omega arith

-- a number has fewer digits than its size
pub lt-pow : (n : ℕ) → n < 2 ^ n
lt-pow zero = zero-lt-suc 0
lt-pow (suc n) = omega (arith, lt-pow n, pow-suc 2 n)

pub bits-eq : (a b : ℕ) → ((i : ℕ) → bit a i ≡ bit b i) → a ≡ b
bits-eq a b e =
    bit-ext (a + b) a b (lt_of_lt_of_le (lt-pow a) (pow_mono (omega arith))) (lt_of_lt_of_le (lt-pow b) (pow_mono (omega arith))) (λ i l. e i)

pub bits-lt : (k w : ℕ) → ((i : ℕ) → k ≤ i → bit w i ≡ false) → w < 2 ^ k
bits-lt k w f = rw (bits-eq w (w % 2 ^ k) (λ i. go i (ltb i k) refl)) (mod-lt w (pow_pos k))
  where
    go : (i : ℕ) (b : Bool) → ltb i k ≡ b → bit w i ≡ bit (w % 2 ^ k) i
    go i true l = sym (bit-mod w k i (ltb-true i k l))
    go i false l = let h = ltb-false i k l in f i h ∙ sym (bit-mod-high w k i h)

pub mod-pow-suc : (w k : ℕ) → w % 2 ^ suc k ≡ digit (bit w k) * 2 ^ k + w % 2 ^ k
mod-pow-suc w k =
    ap (λ (x : ℕ). w % 2 ^ x) (sym (one-add k)) ∙ mod-pow-add w 1 k ∙ ap (λ (x : ℕ). x * 2 ^ k + w % 2 ^ k) (sym (digit-bit w k))

pub nonzero-bit : (k w : ℕ) → w < 2 ^ k → 0 < w → (i : ℕ) × (i < k) × (bit w i ≡ true)
nonzero-bit zero w h p = absurd (omega arith)
nonzero-bit (suc k) w h p = go (λ q. nonzero-bit k (w / 2) (omega (arith, pow-suc 2 k)) q) (eqb (w % 2) 1) refl
  where
    go : (0 < w / 2 → (i : ℕ) × (i < k) × (bit (w / 2) i ≡ true)) → (b : Bool) → eqb (w % 2) 1 ≡ b → (i : ℕ) × (i < suc k) × (bit w i ≡ true)
    go rest true e = (0, omega arith, bit-first w ∙ e)
    go rest false e =
        let n : w % 2 ≡ 1 → ⊥ = eqb-false (w % 2) 1 e in
        let t = rest (omega arith) in
        (suc t.0, omega arith, bit-suc w t.0 ∙ t.2)
