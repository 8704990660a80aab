-- The lowest set bit of a number that is not 0: its place, which `count_trailing_zeros` counts, and the number without it, which `w & (w - 1)` is.
-- It rests on the laws of bits and masks (Bit, Mask) and on lib.Count.
--   trailing_lt, bit-trailing, below-trailing  == the place is in the word, the bit there is set, and those below it are not
--   clear-lowest, bit-clear, clear-lt          == w & (w - 1) is w less that power of two, hence w without that bit, and less than w
--   clear_above                                == what is left stands above the place
--   ones-clear                                 == it has one member fewer
use mathlib.Core.Path.{◌≡◌, refl, sym, ap, ap₂, ◌∙◌}
use mathlib.Core.Bool.{Bool, true, false, not, ◌&&◌, false≢true}
use mathlib.Core.Logic.{◌⊎◌, inl, inr}
use Prim.Native.Nat.{ℕ, zero, suc, suc-le-suc, ◌+◌, ◌-◌, ◌*◌, ◌/◌, ◌%◌, ◌^◌, ◌≤◌, ◌<◌}
use native.Mathlib.Nat.{eq-zero-or-pos, le_refl, le_of_lt, lt_trans, add-zero, mul_assoc, pow-suc, mod_self}
use native.Mathlib.Omega.{arith}
use lib.Dec.{eqb, ltb}
use lib.Bits.{bit_and, and_self, and_block, and_mask}
use lib.Count.{ones, count_trailing_zeros, under}
use lib.Pow.{pow_pos, pow-lt, ones_lt}
use borrow.Author.Tests.{eqb-false, eq-eqb, ne_eqb, ltb-true, ltb-false, not-true}
use Rattle.bits.specs.Bit.{bit, within}
use Rattle.bits.proofs.Truth.{and-true-l, and_true_r, decide}
use Rattle.bits.proofs.Bit.{bit-low, bit-pow}
use Rattle.bits.proofs.Mask.{within-pow, bit-sub, ones-sub, ones-pow}

-- a number that is not 0, cut at its lowest set bit: q above it, and t zeros below it
record Cut (k w t : ℕ) : Type 0 where
  q : ℕ
  lt : t < k
  cut : w ≡ q * 2 ^ suc t + 2 ^ t

module _ (k w : ℕ) where
  even : w % 2 ≡ 0 → count_trailing_zeros (suc k) w ≡ suc (count_trailing_zeros k (w / 2))
  unfolding count_trailing_zeros
  even e = ap (λ (d : ℕ). under d (count_trailing_zeros k (w / 2))) e

  odd : w % 2 ≡ 1 → count_trailing_zeros (suc k) w ≡ 0
  unfolding count_trailing_zeros
  odd e = ap (λ (d : ℕ). under d (count_trailing_zeros k (w / 2))) e

twice : (q t : ℕ) → q * 2 ^ suc (suc t) ≡ q * 2 ^ suc t * 2
twice q t = ap (λ (x : ℕ). q * x) (pow-suc 2 (suc t)) ∙ sym (mul_assoc q (2 ^ suc t) 2)

cut-lowest : (k w : ℕ) → 0 < w → w < 2 ^ k → Cut k w (count_trailing_zeros k w)
cut-lowest zero w p h = absurd (omega arith)
cut-lowest (suc k) w p h = go (λ l. cut-lowest k (w / 2) l (omega (arith, pow-suc 2 k))) (eq-zero-or-pos (w % 2))
  where
    go : (0 < w / 2 → Cut k (w / 2) (count_trailing_zeros k (w / 2))) → (w % 2 ≡ 0) ⊎ (0 < w % 2) → Cut (suc k) w (count_trailing_zeros (suc k) w)
    go rest (inl e) =
        let r = rest (omega arith) in
        let t = count_trailing_zeros k (w / 2) in
        rw (even k w e)
        (record { q = r.q; lt = suc-le-suc r.lt; cut = omega (arith, r.cut, twice r.q t, pow-suc 2 t) })
    go rest (inr l) = rw (odd k w (omega arith)) (record { q = w / 2; lt = omega arith; cut = omega arith })

-- the bits of a number so cut, and the number with its lowest set bit cleared
module _ (q t : ℕ) where
  bit_cut : (i : ℕ) → i ≤ t → bit (q * 2 ^ suc t + 2 ^ t) i ≡ eqb i t
  bit_cut i l = bit-low q (suc t) (2 ^ t) i (pow-lt (omega arith)) (omega arith) ∙ bit-pow t i

  clear-cut : bit_and (q * 2 ^ suc t + 2 ^ t) (q * 2 ^ suc t + (2 ^ t - 1)) ≡ q * 2 ^ suc t
  clear-cut =
      and_block (suc t) q q (2 ^ t) (2 ^ t - 1) (pow-lt (omega arith)) (lt_trans (ones_lt t) (pow-lt (omega arith)))
      ∙ ap₂ (λ (x y : ℕ). x * 2 ^ suc t + y) (and_self q) (and_mask (2 ^ t) t ∙ mod_self (2 ^ t)) ∙ add-zero (q * 2 ^ suc t)

module _ (k w : ℕ) (p : 0 < w) (h : w < 2 ^ k) where
  pub trailing_lt : count_trailing_zeros k w < k
  trailing_lt = (cut-lowest k w p h).lt

  bit-at : (i : ℕ) → i ≤ count_trailing_zeros k w → bit w i ≡ eqb i (count_trailing_zeros k w)
  bit-at i l = let c = cut-lowest k w p h in ap (λ (x : ℕ). bit x i) c.cut ∙ bit_cut c.q (count_trailing_zeros k w) i l

  pub bit-trailing : bit w (count_trailing_zeros k w) ≡ true
  bit-trailing = bit-at (count_trailing_zeros k w) (le_refl (count_trailing_zeros k w)) ∙ eq-eqb (count_trailing_zeros k w)
      (count_trailing_zeros k w) refl

  pub below-trailing : (i : ℕ) → i < count_trailing_zeros k w → bit w i ≡ false
  below-trailing i l = bit-at i (le_of_lt l) ∙ ne_eqb i (count_trailing_zeros k w) (omega arith)

  part : within (2 ^ count_trailing_zeros k w) w ≡ true
  part = within-pow (count_trailing_zeros k w) w ∙ bit-trailing

  pub clear-lowest : bit_and w (w - 1) ≡ w - 2 ^ count_trailing_zeros k w
  clear-lowest =
      let t = count_trailing_zeros k w in
      let c = cut-lowest k w p h in
      let e : w ≡ c.q * 2 ^ suc t + 2 ^ t = c.cut in
      let pos : 0 < 2 ^ t = pow_pos t in
      let below : w - 1 ≡ c.q * 2 ^ suc t + (2 ^ t - 1) = omega arith in
      ap₂ bit_and e below ∙ clear-cut c.q t ∙ omega arith

  pub bit-clear : (i : ℕ) → bit (bit_and w (w - 1)) i ≡ (bit w i && not (eqb i (count_trailing_zeros k w)))
  bit-clear i =
      ap (λ (x : ℕ). bit x i) clear-lowest ∙ bit-sub (2 ^ count_trailing_zeros k w) w i part
      ∙ ap (λ (b : Bool). bit w i && not b) (bit-pow (count_trailing_zeros k w) i)

  pub clear_above : (i : ℕ) → bit (bit_and w (w - 1)) i ≡ true → count_trailing_zeros k w < i
  clear_above i e =
      let t = count_trailing_zeros k w in
      let both = sym (bit-clear i) ∙ e in
      let other = eqb-false i t (not-true (eqb i t) (and_true_r (bit w i) (not (eqb i t)) both)) in
      elim (decide (ltb i t)) [
        | inl l ↦ absurd (false≢true (sym (below-trailing i (ltb-true i t l)) ∙ and-true-l (bit w i) (not (eqb i t)) both))
        | inr l ↦ omega (arith, ltb-false i t l)
      ]

  pub ones-clear : ones w ≡ suc (ones (bit_and w (w - 1)))
  ones-clear =
      omega (arith, ap ones clear-lowest, ones-sub (2 ^ count_trailing_zeros k w) w part, ones-pow (count_trailing_zeros k w))

  pub clear-lt : bit_and w (w - 1) < w
  clear-lt = omega (arith, clear-lowest, pow_pos (count_trailing_zeros k w))
