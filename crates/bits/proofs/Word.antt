-- A number as the set of its places: the places of a number's ones and the number of an ascending list of places undo each other.
-- It rests on the laws of bits, masks and lowest bits (Bit, Mask, Lowest) and of ascending lists (Range, Ascending).
--   bit_word, word_lt, ones-word               == the number that has its ones at the places of a list
--   ascending-places, below-places, mem-places, places-lt == the list of a number's places, and each is below the bound
--   word-places, places-word, ones-places      == there and back, and the size
--   places-injective                           == numbers of the same places are equal
--   bit-word-keep, word-keep-lt, word-ext      == the number whose bits below k a test gives
--   places-lowest                              == the places, lowest first
use mathlib.Core.Path.{◌≡◌, refl, sym, ap, ap₂, ◌∙◌, fun_ext}
use mathlib.Core.Bool.{Bool, true, false, ◌&&◌, ◌||◌}
use mathlib.Core.List.{List, [], ◌∷◌}
use mathlib.Mathlib.Data.Bool.Basic.{eq-false_of_not-eq-true}
use Prim.Native.Nat.{ℕ, ◌+◌, ◌-◌, ◌*◌, ◌^◌, ◌≤◌, ◌<◌}
use native.Mathlib.Nat.{lt_trans, zero-mul}
use native.Mathlib.Omega.{arith}
use lib.Bits.{bit_and}
use lib.Count.{ones, count_trailing_zeros}
use lib.Dec.{ltb}
use lib.ListN.{length}
use borrow.Author.Tests.{lt-ltb}
use Rattle.bits.specs.Bit.{bit, digit}
use Rattle.bits.specs.Range.{keep, any, upto, mem, After, Ascending, Below}
use Rattle.bits.specs.Sum.{sum}
use Rattle.bits.specs.Word.{places, word}
use Rattle.bits.proofs.Truth.{and_true_r}
use Rattle.bits.proofs.Bit.{bit-zero, bit-pow, bit-ext, bits-lt}
use Rattle.bits.proofs.Mask.{and_pow, bit-add, ones-add, ones-pow, within-le, within-pow}
use Rattle.bits.proofs.Lowest.{trailing_lt, bit-trailing, clear-lowest, clear-lt, clear_above}
use Rattle.bits.proofs.Range.{mem-head, mem-keep, mem-upto}
use Rattle.bits.proofs.Ascending.{ascending-from, ascending-tail, ascending-keep, below-upto, below-keep, below-mem, after-mem, keep-upto-of}

-- ---- the number of a list

fresh : (x : ℕ) (l : List ℕ) → After x l → bit (word l) x ≡ mem x l → bit_and (2 ^ x) (word l) ≡ 0
fresh x l s e =
    let out : bit (word l) x ≡ false = e ∙ eq-false_of_not-eq-true (λ m. let g = after-mem x l x s m in omega arith) in
    and_pow x (word l) ∙ ap (λ (b : Bool). digit b * 2 ^ x) out ∙ zero-mul (2 ^ x)

pub bit_word : (l : List ℕ) (i : ℕ) → Ascending l → bit (word l) i ≡ mem i l
unfolding word sum any
bit_word [] i s = bit-zero i
bit_word (x ∷ l) i s =
    let t = ascending-tail x l s in
    bit-add (2 ^ x) (word l) i (fresh x l s (bit_word l x t)) ∙ ap₂ ◌||◌ (bit-pow x i) (bit_word l i t)

pub word_lt : (k : ℕ) (l : List ℕ) → Ascending l → Below k l → word l < 2 ^ k
word_lt k l s h = bits-lt k (word l) (λ i g. bit_word l i s ∙ eq-false_of_not-eq-true (λ m. let r = below-mem k l i h m in omega arith))

pub ones-word : (l : List ℕ) → Ascending l → ones (word l) ≡ length l
unfolding word sum ones
ones-word [] s = refl
ones-word (x ∷ l) s =
    let t = ascending-tail x l s in
    omega (arith, ones-add (2 ^ x) (word l) (fresh x l s (bit_word l x t)), ones-pow x, ones-word l t)

-- ---- the number of a test

module _ (k : ℕ) (f : ℕ → Bool) where
  ascending-chosen : Ascending (keep f (upto k))
  ascending-chosen = ascending-keep f (upto k) (ascending-from 0 k)

  below-chosen : Below k (keep f (upto k))
  below-chosen = below-keep k f (upto k) (below-upto k)

  mem-chosen : (i : ℕ) → mem i (keep f (upto k)) ≡ (ltb i k && f i)
  mem-chosen i = mem-keep f (upto k) i ∙ ap (λ (b : Bool). b && f i) (mem-upto k i)

  pub bit-word-keep : (i : ℕ) → i < k → bit (word (keep f (upto k))) i ≡ f i
  bit-word-keep i h = bit_word (keep f (upto k)) i ascending-chosen ∙ mem-chosen i ∙ ap (λ (b : Bool). b && f i) (lt-ltb i k h)

  pub word-keep-lt : word (keep f (upto k)) < 2 ^ k
  word-keep-lt = word_lt k (keep f (upto k)) ascending-chosen below-chosen

pub word-ext : (k w : ℕ) (f : ℕ → Bool) → w < 2 ^ k → ((i : ℕ) → i < k → bit w i ≡ f i) → w ≡ word (keep f (upto k))
word-ext k w f h e = bit-ext k w (word (keep f (upto k))) h (word-keep-lt k f) (λ i l. e i l ∙ sym (bit-word-keep k f i l))

-- ---- the places of a number

module _ (k w : ℕ) where
  pub ascending-places : Ascending (places k w)
  unfolding places
  ascending-places = ascending-chosen k (bit w)

  pub below-places : Below k (places k w)
  unfolding places
  below-places = below-chosen k (bit w)

  pub places-lt : (i : ℕ) → mem i (places k w) ≡ true → i < k
  places-lt i m = below-mem k (places k w) i below-places m

  pub mem-places : (i : ℕ) → mem i (places k w) ≡ (ltb i k && bit w i)
  unfolding places
  mem-places = mem-chosen k (bit w)

  pub word-places : w < 2 ^ k → word (places k w) ≡ w
  unfolding places
  word-places h = sym (word-ext k w (bit w) h (λ i l. refl))

  pub ones-places : w < 2 ^ k → ones w ≡ length (places k w)
  ones-places h = ap ones (sym (word-places h)) ∙ ones-word (places k w) ascending-places

pub places-injective : (k w v : ℕ) → w < 2 ^ k → v < 2 ^ k → places k w ≡ places k v → w ≡ v
places-injective k w v a b e = sym (word-places k w a) ∙ ap word e ∙ word-places k v b

pub places-word : (k : ℕ) (l : List ℕ) → Ascending l → Below k l → places k (word l) ≡ l
unfolding places
places-word k l s h = ap (λ (f : ℕ → Bool). keep f (upto k)) (fun_ext (λ i. bit_word l i s)) ∙ keep-upto-of k l s h

mem-after : (a : ℕ) (l : List ℕ) → Ascending l → ((x : ℕ) → mem x l ≡ true → a < x) → After a l
mem-after a [] s h = tt
mem-after a (x ∷ l) s h = (h x (mem-head x l), s)

pub places-lowest : (k w : ℕ) → 0 < w → w < 2 ^ k → places k w ≡ count_trailing_zeros k w ∷ places k (bit_and w (w - 1))
unfolding word sum
places-lowest k w p h =
    let t = count_trailing_zeros k w in
    let c = bit_and w (w - 1) in
    let small : c < 2 ^ k = lt_trans (clear-lt k w p h) h in
    let le : 2 ^ t ≤ w = within-le (2 ^ t) w (within-pow t w ∙ bit-trailing k w p h) in
    let whole : w ≡ 2 ^ t + word (places k c) = omega (arith, word-places k c small, clear-lowest k w p h) in
    let set : (x : ℕ) → mem x (places k c) ≡ true → bit c x ≡ true = λ x m. and_true_r (ltb x k) (bit c x) (sym (mem-places k c x) ∙ m) in
    let rises : After t (places k c) = mem-after t (places k c) (ascending-places k c) (λ x m. clear_above k w p h x (set x m)) in
    ap (places k) whole ∙ places-word k (t ∷ places k c) rises (trailing_lt k w p h, below-places k c)
