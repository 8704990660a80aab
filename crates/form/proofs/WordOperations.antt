-- The parts of a form that document 01 speaks of, made by operations on the form's word.
-- It rests on the laws of words as sets of places (bits, Sets), of shifts and masks (bits, Quotient), on the words about masks (mask_words, Entries),
-- on the single flags (Flags) and on the laws of covered monomials, families and literals (laws, Covered, Family, Literals).
--   coefficient-word                             == the coefficient of a mask
--   monomials-word                               == the monomials
--   monomials-same                               == so a word that holds them is the form's without its lowest bit
--   count_word                                   == how many monomials there are
--   pair-positive, pair-word                     == the two monomials of a form that has two
--   family-word                                  == whether the form is a whole family
--   uncovered-word, without-word                 == the masks that do not contain a cube, and those outside a family
--   stripped-word                                == those that contain a cube, stripped
--   covered-literals                             == the literals of the monomials that contain a cube
use mathlib.Core.Bool.{Bool, not, ◌&&◌, and_comm}
use mathlib.Core.List.{List, [], ◌∷◌, map}
use mathlib.Core.Path.{◌≡◌, sym, ap, ◌∙◌}
use Prim.Native.Nat.{ℕ, ◌-◌, ◌/◌, ◌^◌, ◌<◌}
use native.Mathlib.Nat.{lt_of_le_of_lt}
use native.Mathlib.Omega.{arith}
use lib.Bits.{bit_and, and_le_l}
use lib.Count.{ones, count_trailing_zeros}
use lib.Dec.{ltb, eqb, lit<}
use lib.ListN.{length}
use Rattle.bits.specs.Bit.{bit, digit, within}
use Rattle.bits.specs.Range.{keep, mem, same}
use Rattle.bits.specs.Word.{places}
use Rattle.bits.proofs.Mask.{within-le}
use Rattle.bits.proofs.Quotient.{shift-digit}
use Rattle.bits.proofs.Range.{keep-ext, keep-keep}
use Rattle.bits.proofs.Word.{places-lt, places-injective, ones-places}
use Rattle.bits.proofs.Places.{places-and}
use Rattle.bits.proofs.Sets.{mem-bit, places-and-not, without_zero, places-without_zero, without_zero-lt, places-shr, places-positive, places-two}
use Rattle.bits.proofs.Sets.{same-places}
use Rattle.rules.specs.Cleanup.{family, singles, is_family, covered, stripped}
use Rattle.rules.specs.Form.{literals}
use Rattle.rules.specs.Monomial.{monomials}
use Rattle.laws.proofs.form.Covered.{covered-keep, covered-within}
use Rattle.laws.proofs.form.Family.{ascending-family}
use Rattle.laws.proofs.form.Literals.{literals-monomials}
use Rattle.mask_words.specs.Lookup.{subset_word, superset_word}
use Rattle.mask_words.proofs.Entries.{bit-subsets, below-family, subsets-lt, bit-supersets, supersets-lt}
use Rattle.form.proofs.Flags.{singles-lt}

module _ (w c : ℕ) where
  pub uncovered-word : places 64 (bit_and w ((2 ^ 64 - 1) - superset_word c)) ≡ keep (λ m. not (within c m)) (places 64 w)
  uncovered-word =
      places-and-not 64 w (superset_word c) (supersets-lt c)
      ∙ keep-ext (λ m. not (bit (superset_word c) m)) (λ m. not (within c m)) (places 64 w) (λ m e. ap not (bit-supersets c m (places-lt 64 w m e)))

  containing-word : places 64 (bit_and w (superset_word c)) ≡ keep (λ m. within c m) (places 64 w)
  containing-word =
      places-and 64 w (superset_word c)
      ∙ keep-ext (bit (superset_word c)) (λ m. within c m) (places 64 w) (λ m e. bit-supersets c m (places-lt 64 w m e))

  -- the constant, which a cube of no flag covers too, has no literal
  pub covered-literals : literals (places 64 (bit_and w (superset_word c))) ≡ literals (covered c (places 64 w))
  unfolding covered
  covered-literals =
      let l = places 64 w in
      ap literals containing-word ∙ sym (literals-monomials (keep (λ m. within c m) l))
      ∙ ap literals
      (keep-keep (λ m. ltb 0 m) (λ m. within c m) l
      ∙ keep-ext (λ m. within c m && ltb 0 m) (λ m. ltb 0 m && within c m) l (λ m e. and_comm (within c m) (ltb 0 m))
      ∙ sym (keep-keep (λ m. within c m) (λ m. ltb 0 m) l))

  pub without-word : c < 64 → places 64 (bit_and w ((2 ^ 64 - 1) - subset_word c)) ≡ keep (λ m. not (mem m (family c))) (places 64 w)
  without-word k =
      places-and-not 64 w (subset_word c) (subsets-lt c k)
      ∙ keep-ext (λ m. not (bit (subset_word c) m)) (λ m. not (mem m (family c))) (places 64 w) (λ m e. ap not (bit-subsets c m))

pub monomials-word : (w : ℕ) → places 64 (without_zero 64 w) ≡ monomials (places 64 w)
monomials-word w = places-without_zero 64 w (lit< tt)

module _ (w : ℕ) (h : w < 2 ^ 64) where
  pub coefficient-word : (m : ℕ) → bit_and (w / 2 ^ m) 1 ≡ digit (mem m (places 64 w))
  coefficient-word m = shift-digit w m ∙ sym (ap digit (mem-bit 64 w m h))

  pub count_word : ones (without_zero 64 w) ≡ length (monomials (places 64 w))
  count_word = ones-places 64 (without_zero 64 w) (without_zero-lt 64 w h) ∙ ap length (monomials-word w)

  pub stripped-word : (c : ℕ) → 0 < c → places 64 (bit_and w (superset_word c) / 2 ^ c) ≡ stripped c (places 64 w)
  unfolding stripped
  stripped-word c p =
      let v = bit_and w (superset_word c) in
      let s : v < 2 ^ 64 = lt_of_le_of_lt (and_le_l w (superset_word c)) h in
      let e = containing-word w c ∙ sym (covered-keep c p (places 64 w)) in
      places-shr 64 v c s (λ i b. within-le c i (covered-within c (places 64 w) i (ap (mem i) (sym e) ∙ mem-bit 64 v i s ∙ b)))
      ∙ ap (map (λ m. m - c)) e

-- the word v of the monomials
module _ (w v : ℕ) (h : v < 2 ^ 64) (e : places 64 v ≡ monomials (places 64 w)) where
  pub monomials-same : w < 2 ^ 64 → v ≡ without_zero 64 w
  monomials-same k = places-injective 64 v (without_zero 64 w) h (without_zero-lt 64 w k) (e ∙ sym (monomials-word w))

  module _ (two : length (monomials (places 64 w)) ≡ 2) where
    pub pair-positive : 0 < v
    pair-positive = places-positive 64 v h (omega (arith, ap length e))

    pub pair-word : monomials (places 64 w) ≡ count_trailing_zeros 64 v ∷ count_trailing_zeros 64 (bit_and v (v - 1)) ∷ []
    pair-word = sym e ∙ places-two 64 v h (ap length e ∙ two)

  pub family-word : (ltb 0 (singles (places 64 w)) && eqb v (subset_word (singles (places 64 w)))) ≡ is_family (places 64 w)
  unfolding is_family subset_word
  family-word =
      let u = singles (places 64 w) in
      ap (λ (b : Bool). ltb 0 u && b)
      (sym (same-places 64 v (family u) h (ascending-family u) (below-family u (singles-lt w))) ∙ ap (λ (r : List ℕ). same r (family u)) e)
