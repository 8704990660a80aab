-- Places under a second number's test, and how many pass a test. It rests on the laws of words and of bits (Word, Bit).
--   places-and, ones_and     == the places of w & v are those of w that pass v's test, and their number
--   places-zero              == 0 has no place
--   length-total             == how many pass a test is the total of the test's digits
use mathlib.Core.Bool.{Bool, true, false, ◌&&◌}
use mathlib.Core.List.{List, [], ◌∷◌}
use mathlib.Core.Path.{◌≡◌, refl, sym, ap, ◌∙◌}
use Prim.Native.Nat.{ℕ, ◌+◌, ◌^◌, ◌<◌}
use native.Mathlib.Nat.{lt_of_le_of_lt}
use native.Mathlib.Omega.{arith}
use lib.Bits.{bit_and, and_le_l}
use lib.Count.{ones}
use lib.ListN.{length}
use Rattle.bits.specs.Bit.{bit, digit}
use Rattle.bits.specs.Range.{upto, keep}
use Rattle.bits.specs.Sum.{sum, total}
use Rattle.bits.specs.Word.{places}
use Rattle.bits.proofs.Bit.{bit-and, bit-zero}
use Rattle.bits.proofs.Range.{keep-keep, keep-ext, keep-none, mem-all}
use Rattle.bits.proofs.Word.{ones-places}

pub places-and : (k w v : ℕ) → places k (bit_and w v) ≡ keep (bit v) (places k w)
unfolding places
places-and k w v =
    keep-ext (bit (bit_and w v)) (λ i. bit w i && bit v i) (upto k) (λ i m. bit-and w v i) ∙ sym (keep-keep (bit v) (bit w) (upto k))

pub ones_and : (k w v : ℕ) → w < 2 ^ k → ones (bit_and w v) ≡ length (keep (bit v) (places k w))
ones_and k w v h = ones-places k (bit_and w v) (lt_of_le_of_lt (and_le_l w v) h) ∙ ap length (places-and k w v)

pub length-total : {A : Type 0} (p : A → Bool) (l : List A) → length (keep p l) ≡ total (λ x. digit (p x)) l
unfolding keep sum
length-total p [] = refl
length-total {A} p (x ∷ l) = go (p x) (length-total p l)
  where
    go : (b : Bool) → length (keep p l) ≡ total (λ y. digit (p y)) l
        → length {A = A} (elim b [ true ↦ x ∷ keep p l | false ↦ keep p l ]) ≡ digit b + total (λ y. digit (p y)) l
    go true h = omega arith
    go false h = omega arith

pub places-zero : (k : ℕ) → places k 0 ≡ []
unfolding places
places-zero k = keep-none (bit 0) (upto k) (mem-all _ (upto k) (λ i m. rw bit-zero))
