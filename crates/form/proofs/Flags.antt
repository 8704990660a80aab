-- The flags of a form of six flags, read off its word: those that occur, and those that occur as single-flag monomials.
-- It rests on the flags' words (mask_words, Entries) and on the laws of words and of unions (bits, Sets and Union).
--   occurs-word, occurs-entry == whether a flag occurs; so by the list of the flags' words
--   flags-word, singles-word  == the flags that occur, and the single flags, one by one
--   singles-lt, singles-below == the single flags are flags below six; so for a form
use mathlib.Core.Bool.{Bool, not}
use mathlib.Core.List.{List, map}
use mathlib.Core.Path.{◌≡◌, refl, sym, ap, ◌∙◌}
use Prim.Native.Nat.{ℕ, zero, suc, ◌^◌, ◌<◌}
use native.Mathlib.Omega.{arith}
use lib.Bits.{bit_and}
use lib.Count.{ones}
use lib.Dec.{eqb, ltb}
use lib.ListN.{get_or}
use borrow.Author.Tests.{lt-ltb, ne_eqb}
use Rattle.bits.specs.Bit.{bit}
use Rattle.bits.specs.Range.{any, keep, mem, upto}
use Rattle.bits.specs.Sum.{union}
use Rattle.bits.specs.Word.{places, word}
use Rattle.bits.proofs.Range.{any-ext}
use Rattle.bits.proofs.Ascending.{below-keep}
use Rattle.bits.proofs.Sets.{any-bit}
use Rattle.bits.proofs.Union.{bit-union, union-lt, bit-union-singles}
use Rattle.bits.proofs.Word.{below-places, places-lt, word-ext}
use Rattle.rules.specs.Cleanup.{singles}
use Rattle.mask_words.specs.Lookup.{mask_count, flag_word}
use Rattle.mask_words.proofs.Entries.{bit-flag_word, bit-flag}
use Rattle.form.specs.Masks.{masks}
use Rattle.form.specs.declared.Form.{Form}

positive : (n : ℕ) → not (eqb n 0) ≡ ltb 0 n
positive zero = refl
positive (suc n) = ap not (ne_eqb (suc n) 0 (λ e. omega arith)) ∙ sym (lt-ltb 0 (suc n) (omega arith))

pub occurs-word : (w : ℕ) → w < 2 ^ 64 → (k : ℕ) → any (λ m. bit m k) (places 64 w) ≡ ltb 0 (bit_and w (flag_word k))
occurs-word w h k =
    any-ext (λ m. bit m k) (bit (flag_word k)) (places 64 w) (λ m e. sym (bit-flag_word k m (places-lt 64 w m e))) ∙ any-bit 64 w (flag_word k) h

-- ws are the words of the six flags
pub occurs-entry : (w : ℕ) → w < 2 ^ 64 → (ws : List ℕ) → ws ≡ map flag_word (upto 6) → (k : ℕ) → k < 6
    → not (eqb (bit_and w (get_or ws k 0)) 0) ≡ any (λ m. bit m k) (places 64 w)
occurs-entry w h ws e k l =
    positive (bit_and w (get_or ws k 0)) ∙ sym (any-bit 64 w (get_or ws k 0) h)
    ∙ any-ext (bit (get_or ws k 0)) (λ m. bit m k) (places 64 w) (λ m i. bit-flag ws e k l m (places-lt 64 w m i))

pub flags-word : (w : ℕ) → word (keep (λ i. any (λ m. bit m i) (places 64 w)) (upto 6)) ≡ union (places 64 w)
flags-word w = let l = places 64 w in sym (word-ext 6 (union l) (λ i. any (λ m. bit m i) l) (union-lt 6 l (below-places 64 w)) (λ i h. bit-union l i))

pub singles-lt : (w : ℕ) → singles (places 64 w) < 64
unfolding singles
singles-lt w =
    let p : ℕ → Bool = λ m. eqb (ones m) 1 in
    union-lt 6 (keep p (places 64 w)) (below-keep 64 p (places 64 w) (below-places 64 w))

pub singles-below : (f : Form) → singles (masks f) < mask_count
singles-below f = singles-lt f.word

pub singles-word : (w : ℕ) → word (keep (λ i. mem (2 ^ i) (places 64 w)) (upto 6)) ≡ singles (places 64 w)
unfolding singles
singles-word w =
    let l = places 64 w in
    sym (word-ext 6 (singles l) (λ i. mem (2 ^ i) l) (singles-lt w) (λ i h. bit-union-singles l i))
