-- The Zhegalkin polynomial meets document 01: with the computed coefficients the polynomial is the table, and no other coefficients do that.
-- It rests on the exclusive or over subsets (Mobius) and on the laws of places and of sums (bits, Sets and Sum).
--   product-within           == a product of flags is 1 where the setting has them all
--   polynomial-coefficient   == the polynomial's value is the exclusive or over subsets, of its coefficients
--   polynomial-table         == the polynomial with the computed coefficients is the table
--   polynomial-unique        == coefficients with which the polynomial is the table are the computed ones
use mathlib.Core.Bool.{Bool, false, ◌&&◌, and_comm}
use mathlib.Core.Path.{◌≡◌, sym, ap, ◌∙◌}
use Prim.Native.Nat.{ℕ, ◌^◌, ◌<◌}
use borrow.Author.Tests.{ltb-true}
use Rattle.bits.specs.Bit.{◌⊕◌, bit, within}
use Rattle.bits.specs.Range.{upto}
use Rattle.bits.proofs.Range.{mem-upto}
use Rattle.bits.proofs.Sets.{all-bit}
use Rattle.bits.proofs.Sum.{sum-ext-mem, parity-keep}
use Rattle.rules.specs.Coefficient.{coefficient}
use Rattle.rules.specs.Polynomial.{product, polynomial}
use Rattle.laws.proofs.transform.Mobius.{coefficient-parity, coefficient-ext, coefficient-twice}

pub product-within : (n m s : ℕ) → m < 2 ^ n → product n m (bit s) ≡ within m s
unfolding product
product-within n m s h = all-bit n m s h

pub polynomial-coefficient : (n : ℕ) (c : ℕ → Bool) (s : ℕ) → polynomial n c (bit s) ≡ coefficient n c s
unfolding polynomial
polynomial-coefficient n c s =
    parity-keep (λ m. product n m (bit s)) c (upto (2 ^ n))
    ∙ sum-ext-mem ◌⊕◌ false (λ m. c m && product n m (bit s)) (λ m. within m s && c m) (upto (2 ^ n))
    (λ m e. ap (λ (b : Bool). c m && b) (product-within n m s (ltb-true m (2 ^ n) (sym (mem-upto (2 ^ n) m) ∙ e))) ∙ and_comm (c m) (within m s))
    ∙ sym (coefficient-parity n c s)

pub polynomial-table : (n : ℕ) (f : ℕ → Bool) (s : ℕ) → s < 2 ^ n → polynomial n (coefficient n f) (bit s) ≡ f s
polynomial-table n f s h = polynomial-coefficient n (coefficient n f) s ∙ coefficient-twice n f s h

pub polynomial-unique : (n : ℕ) (f c : ℕ → Bool) → ((s : ℕ) → s < 2 ^ n → polynomial n c (bit s) ≡ f s)
    → (m : ℕ) → m < 2 ^ n → c m ≡ coefficient n f m
polynomial-unique n f c h m l =
    sym (coefficient-twice n c m l) ∙ coefficient-ext n (coefficient n c) f m (λ s k. sym (polynomial-coefficient n c s) ∙ h s k)
