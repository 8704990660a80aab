-- A number put together place by place: what one place more adds to the number that a test gives. It rests on the laws of words, of ranges and of
-- sums (Word, Range and Sum), and on lib.Bits.
--   word-append      == the places of two lists
--   word_none        == no place
--   word_more        == one place more
use mathlib.Core.Bool.{Bool, true, false}
use mathlib.Core.List.{List, [], ◌∷◌, ◌++◌}
use mathlib.Core.Path.{◌≡◌, refl, ap, ◌∙◌}
use Prim.Native.Nat.{ℕ, ◌+◌, ◌*◌, ◌^◌}
use native.Mathlib.Numerals.{add-one}
use native.Mathlib.Omega.{arith}
use lib.Bits.{bit_or, or_shifted_r}
use Rattle.bits.specs.Bit.{digit}
use Rattle.bits.specs.Range.{from, keep, upto}
use Rattle.bits.specs.Sum.{sum}
use Rattle.bits.specs.Word.{word}
use Rattle.bits.proofs.Range.{keep-true, keep-false, keep_append, upto-suc}
use Rattle.bits.proofs.Sum.{plus-laws, sum-append}
use Rattle.bits.proofs.Word.{word-keep-lt}

pub word-append : (l k : List ℕ) → word (l ++ k) ≡ word l + word k
unfolding word
word-append l k = sum-append plus-laws (λ i. 2 ^ i) l k

module _ (f : ℕ → Bool) where
  pub word_none : word (keep f (upto 0)) ≡ 0
  unfolding word sum keep from
  word_none = refl

  last : (k : ℕ) → word (keep f (k ∷ [])) ≡ digit (f k) * 2 ^ k
  unfolding word sum keep
  last k = go (f k) refl
    where
      go : (b : Bool) → f k ≡ b → word (keep f (k ∷ [])) ≡ digit b * 2 ^ k
      go true e = ap word (keep-true f k [] e) ∙ omega arith
      go false e = ap word (keep-false f k [] e) ∙ omega arith

  pub word_more : (k : ℕ) → word (keep f (upto (k + 1))) ≡ bit_or (word (keep f (upto k))) (digit (f k) * 2 ^ k)
  word_more k =
      let w = word (keep f (upto k)) in
      ap (λ (l : List ℕ). word (keep f l)) (ap upto (add-one k) ∙ upto-suc k)
      ∙ ap word (keep_append f (upto k) (k ∷ []))
      ∙ word-append (keep f (upto k)) (keep f (k ∷ []))
      ∙ omega (arith, last k, or_shifted_r (digit (f k)) k w (word-keep-lt k f))
