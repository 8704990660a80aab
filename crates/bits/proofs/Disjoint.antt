-- Masks with no common member: each is within the other's complement, and taking a common part out of two masks leaves such a pair exactly where
-- that part is all that they share. It rests on the laws of bits and masks (Bit, Mask).
--   within-not     == a mask is within a complement exactly where it shares no member
--   and-sub        == what two masks share without a common part c
--   disjoint-sub   == nothing, exactly where they share c alone
use mathlib.Core.Bool.{Bool, true, false, not, ◌&&◌, and-true, and-false}
use mathlib.Core.Path.{◌≡◌, refl, sym, ap, ap₂, ◌∙◌}
use Prim.Native.Nat.{ℕ, ◌-◌, ◌^◌, ◌<◌}
use native.Mathlib.Omega.{arith}
use lib.Bits.{bit_and}
use lib.Dec.{eqb}
use borrow.Author.Tests.{eqb-true, eq-eqb, not-true}
use Rattle.bits.specs.Bit.{bit, within}
use Rattle.bits.proofs.Truth.{and_intro, bool-ext}
use Rattle.bits.proofs.Bit.{bit-and, bit_not, bit-lt, bit-zero, bits-eq}
use Rattle.bits.proofs.Mask.{bits-within, within-bit, within-le, within-and, bit-sub}

apart : (p q : Bool) → (q ≡ true → p ≡ false) → (p && q) ≡ false
apart p true f = ap (λ (b : Bool). b && true) (f refl)
apart p false f = and-false p

pub within-not : (k m b : ℕ) → m < 2 ^ k → b < 2 ^ k → within b ((2 ^ k - 1) - m) ≡ eqb (bit_and m b) 0
within-not k m b hm hb = bool-ext _ _ none back
  where
    other : (i : ℕ) → bit b i ≡ true → bit ((2 ^ k - 1) - m) i ≡ not (bit m i)
    other i t = bit_not k m i hm (bit-lt k b i hb t)

    none : within b ((2 ^ k - 1) - m) ≡ true → eqb (bit_and m b) 0 ≡ true
    none e =
        eq-eqb (bit_and m b) 0
        (bits-eq (bit_and m b) 0
        (λ i. bit-and m b i
        ∙ apart (bit m i) (bit b i) (λ t. not-true (bit m i) (sym (other i t) ∙ within-bit b ((2 ^ k - 1) - m) i e t))
        ∙ sym (bit-zero i)))

    back : eqb (bit_and m b) 0 ≡ true → within b ((2 ^ k - 1) - m) ≡ true
    back e =
        bits-within b ((2 ^ k - 1) - m)
        (λ i t. other i t
        ∙ ap not (sym (and-true (bit m i)) ∙ ap (λ (x : Bool). bit m i && x) (sym t) ∙ sym (bit-and m b i)
        ∙ ap (λ (x : ℕ). bit x i) (eqb-true (bit_and m b) 0 e) ∙ bit-zero i))

both : (p q r : Bool) → (p && not r && (q && not r)) ≡ (p && q && not r)
both true q true = sym (and-false q)
both true q false = refl
both false q r = refl

module _ (c a b : ℕ) (ha : within c a ≡ true) (hb : within c b ≡ true) where
  common : within c (bit_and a b) ≡ true
  common = within-and c a b ∙ and_intro (within c a) (within c b) ha hb

  pub and-sub : bit_and (a - c) (b - c) ≡ bit_and a b - c
  and-sub =
      bits-eq (bit_and (a - c) (b - c)) (bit_and a b - c)
      (λ i. bit-and (a - c) (b - c) i ∙ ap₂ ◌&&◌ (bit-sub c a i ha) (bit-sub c b i hb) ∙ both (bit a i) (bit b i) (bit c i)
      ∙ sym (bit-sub c (bit_and a b) i common ∙ ap (λ (x : Bool). x && not (bit c i)) (bit-and a b i)))

  pub disjoint-sub : eqb (bit_and (a - c) (b - c)) 0 ≡ eqb (bit_and a b) c
  disjoint-sub =
      let l = within-le c (bit_and a b) common in
      ap (λ (x : ℕ). eqb x 0) and-sub
      ∙ bool-ext _ _ (λ e. let q = eqb-true (bit_and a b - c) 0 e in eq-eqb (bit_and a b) c (omega arith))
      (λ e. let q = eqb-true (bit_and a b) c e in eq-eqb (bit_and a b - c) 0 (omega arith))
