-- Tables as truth functions: the table of a function has its values, and its form is the function's, for any number of flags. It rests on words read
-- back (bits, Chosen and Word), on the transform inside one word (anf_transform, InWord) and on coefficients (laws, Mobius).
--   keep-settings        == tests that agree at the settings keep the same settings
--   truth-table_of        == the values of a table, of the settings of its flags
--   truth-tabled         == so of a table of the code
--   form-ext             == functions with the same values at the settings have the same form
--   form-table_of         == so has the table of a function
--   form-entries         == and the table of a list of entries has the form of that list
--   form-word            == the masks of the transformed word, cut to the settings
--   apart-word           == the settings at which two words differ
--   first-given          == the first of a walk's places is the first difference
use mathlib.Core.Bool.{Bool}
use mathlib.Core.List.{List, [], ◌∷◌}
use Rattle.std.specs.Prelude.{Option, Some, None, MatchOption}
use mathlib.Core.Path.{◌≡◌, refl, sym, ap, ◌∙◌}
use Prim.Native.Nat.{ℕ, ◌%◌, ◌^◌, ◌≤◌, ◌<◌}
use lib.Bits.{bit_xor}
use lib.Pow.{pow_mono}
use borrow.Author.Tests.{ltb-true}
use Rattle.bits.specs.Bit.{◌⊕◌, bit}
use Rattle.bits.specs.Range.{keep}
use Rattle.bits.specs.Word.{places, word}
use Rattle.bits.proofs.Bit.{bit-xor}
use Rattle.bits.proofs.Chosen.{places-chosen, places-mod}
use Rattle.bits.proofs.Range.{keep-ext, mem-upto}
use Rattle.bits.proofs.Word.{bit-word-keep}
use Rattle.rules.specs.Calls.{table_form}
use Rattle.rules.specs.Coefficient.{coefficient}
use Rattle.rules.specs.declared.flags.Flags.{Flags}
use Rattle.rules.specs.Limits.{rule_flags}
use Rattle.rules.specs.Monomial.{form}
use Rattle.rules.specs.Table.{entry, settings}
use Rattle.laws.proofs.transform.Mobius.{coefficient-ext}
use Rattle.anf_transform.specs.inner.Flag.{in_word}
use Rattle.anf_transform.proofs.InWord.{in_word-form}
use Rattle.table.specs.Truth.{truth, table_of, first, difference_of}
use Rattle.table.specs.declared.Table.{Table}

-- ---- the values at the settings

module _ (n : ℕ) where
  pub keep-settings : (p q : ℕ → Bool) → ((s : ℕ) → s < 2 ^ n → p s ≡ q s) → keep p (settings n) ≡ keep q (settings n)
  keep-settings p q h = keep-ext p q (settings n) (λ s m. h s (ltb-true s (2 ^ n) (sym (mem-upto (2 ^ n) s) ∙ m)))

  pub form-ext : (f g : ℕ → Bool) → ((s : ℕ) → s < 2 ^ n → f s ≡ g s) → form n (coefficient n f) ≡ form n (coefficient n g)
  unfolding form
  form-ext f g h = keep-settings (coefficient n f) (coefficient n g) (λ m l. coefficient-ext n f g m h)

  -- the bits of the values of f, and of no other settings
  module _ (f : ℕ → Bool) (t : Table) (e : t.bits ≡ word (keep f (settings n))) where
    pub truth-table_of : (s : ℕ) → s < 2 ^ n → truth t s ≡ f s
    truth-table_of s h = ap (λ (w : ℕ). bit w s) e ∙ bit-word-keep (2 ^ n) f s h

    pub form-table_of : form n (coefficient n (truth t)) ≡ form n (coefficient n f)
    form-table_of = form-ext (truth t) f truth-table_of

  pub form-entries : (table : List ℕ) (t : Table) → t.bits ≡ word (keep (entry table) (settings n))
      → form n (coefficient n (truth t)) ≡ table_form n table
  unfolding table_form
  form-entries table t e = form-table_of (entry table) t e

  -- ---- words

  module _ (few : n ≤ rule_flags) where
    pub form-word : (w : ℕ) → places 64 (in_word w % 2 ^ (2 ^ n)) ≡ form n (coefficient n (bit w))
    unfolding form
    form-word w = ap (places 64) (in_word-form n w few) ∙ places-chosen (coefficient n (bit w)) (2 ^ n) 64 (pow_mono few)

    pub apart-word : (v w : ℕ) → places 64 (bit_xor v w % 2 ^ (2 ^ n)) ≡ keep (λ s. bit v s ⊕ bit w s) (settings n)
    unfolding places
    apart-word v w = places-mod (bit_xor v w) (2 ^ n) 64 (pow_mono few) ∙ keep-settings _ _ (λ s l. bit-xor v w s)

-- a table of the code
pub truth-tabled : (n : Flags 6) (f : ℕ → Bool) (s : ℕ) → s < 2 ^ n.count → truth (table_of n f) s ≡ f s
truth-tabled n f = truth-table_of n.count f (table_of n f) refl

-- ---- the first difference

-- what the walk over a word's ones gives first
pub first-given : (o : Option ℕ) (l k : List ℕ) → MatchOption o ((l ≡ []) × (k ≡ [])) (λ x. l ≡ x ∷ k) → difference_of o ≡ first l
first-given (Some x) l k e = sym (ap first e)
first-given None l k e = sym (ap first e.0)
