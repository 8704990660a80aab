-- The partial OR on a form's word: which masks may be chosen, by tests of words, and the choice one mask after the other.
-- It rests on the laws of words as sets of places (bits, Sets), on the words of nonempty subsets (mask_words, Entries), on the word of the monomials
-- (form, WordOperations), on the saving by flags and the choice (Saving, Chosen), on a mask's nonempty subsets and on a form's monomials (laws,
-- Family and Covered).
--   partial-few, partial-missing, partial-whole == a mask fails: it has fewer than two flags, a subset is missing, or its subsets are all monomials
--   partial-true                                == a mask passes
--   partial-within                              == its flags are single-flag monomials
--   candidate-some                               == the masks that are tried have a flag
--   best_family-chosen                           == the best family is chosen from the monomials within the single flags
use mathlib.Core.Bool.{Bool, true, false, ◌&&◌, and-true, and-false, and_self}
use mathlib.Core.List.{List, foldl}
use mathlib.Core.Path.{◌≡◌, sym, ap, ap₂, fun_ext, ◌∙◌}
use Prim.Native.Nat.{ℕ, ◌-◌, ◌%◌, ◌^◌, ◌≤◌, ◌<◌}
use native.Mathlib.Nat.{le_of_eq}
use native.Mathlib.Omega.{arith}
use lib.Bits.{bit_and, and_comm}
use lib.Count.{ones}
use lib.Dec.{ltb, leb}
use lib.ListN.{length}
use lib.Pow.{pow_pos}
use borrow.Author.Tests.{ltb-true, lt-ltb, le-ltb, leb-true, le-leb, lt-leb, eq-eqb, ne_eqb}
use Rattle.bits.specs.Bit.{bit, within}
use Rattle.bits.specs.Range.{keep, all, mem}
use Rattle.bits.specs.Word.{places}
use Rattle.bits.proofs.Truth.{and_intro, and-true-l, and_true_r, and-implied}
use Rattle.bits.proofs.Mask.{bits-within, within-le, within-pow, ones-sub, ones_pos}
use Rattle.bits.proofs.Range.{keep-keep, keep-ext, mem-keep, all-mem, all-ext}
use Rattle.bits.proofs.Ascending.{ascending-keep}
use Rattle.bits.proofs.Word.{ascending-places, places-lt, ones-places}
use Rattle.bits.proofs.Places.{places-and}
use Rattle.bits.proofs.Sets.{mem-bit, without_zero, places-even, all-bit}
use Rattle.bits.proofs.Union.{bit-union-singles}
use Rattle.rules.specs.Cleanup.{family, singles, is_partial, best_family, greatest}
use Rattle.rules.specs.Monomial.{monomials}
use Rattle.laws.proofs.form.Covered.{monomial-mem}
use Rattle.laws.proofs.form.Family.{mem-family}
use Rattle.search.specs.Inner.{chosen}
use Rattle.mask_words.specs.Lookup.{subset_word}
use Rattle.search.proofs.Chosen.{greatest-chosen}
use Rattle.form.proofs.WordOperations.{monomials-word}
use Rattle.mask_words.proofs.Entries.{bit-subsets, places-subsets, subsets-lt}
use Rattle.search.proofs.Saving.{greatest-saving}

-- ---- one mask

module _ (l : List ℕ) (m : ℕ) where
  pub partial-few : ones m < 2 → is_partial l m ≡ false
  unfolding is_partial
  partial-few h =
      ap (λ (b : Bool). b && all (λ s. mem s l) (family m) && ltb (length (family m)) (length (monomials l))) (lt-leb 2 (ones m) h)

  module _ (e : is_partial l m ≡ true) where
    subsets : all (λ s. mem s l) (family m) ≡ true
    unfolding is_partial
    subsets = and_true_r (leb 2 (ones m)) _ (and-true-l (leb 2 (ones m) && all (λ s. mem s l) (family m)) _ e)

    several : 2 ≤ ones m
    unfolding is_partial
    several = leb-true 2 (ones m) (and-true-l (leb 2 (ones m)) _ (and-true-l (leb 2 (ones m) && all (λ s. mem s l) (family m)) _ e))

    pub partial-within : within m (singles l) ≡ true
    unfolding singles
    partial-within = bits-within m (singles l) (λ i b. bit-union-singles l i ∙ all-mem (λ s. mem s l) (family m) (2 ^ i) subsets (flag i b))
      where
        flag : (i : ℕ) → bit m i ≡ true → mem (2 ^ i) (family m) ≡ true
        flag i b = mem-family (2 ^ i) m ∙ and_intro _ _ (lt-ltb 0 (2 ^ i) (pow_pos i)) (within-pow i m ∙ b)

-- the word v of the monomials, and the word s of the nonempty subsets of m
module _ (v m s : ℕ) (h : v < 2 ^ 64) (even : v % 2 ≡ 0) (k : m < 64) (table : s ≡ subset_word m) where
  no-constant : monomials (places 64 v) ≡ places 64 v
  no-constant = places-even 64 v h even

  in-word : s < 2 ^ 64
  in-word = rw table (subsets-lt m k)

  partial-word : is_partial (places 64 v) m ≡ (leb 2 (ones m) && within s v && ltb (ones s) (ones v))
  unfolding is_partial
  partial-word =
      let f : family m ≡ places 64 s = sym (places-subsets m k) ∙ ap (places 64) (sym table) in
      ap₂ (λ (b c : Bool). leb 2 (ones m) && b && c)
      (all-ext (λ x. mem x (places 64 v)) (bit v) (family m) (λ x e. mem-bit 64 v x h) ∙ ap (all (bit v)) f ∙ all-bit 64 s v in-word)
      (ap₂ ltb (ap length f ∙ sym (ones-places 64 s in-word)) (ap length no-constant ∙ sym (ones-places 64 v h)))

  pub partial-missing : (bit_and v s ≡ s → ⊥) → is_partial (places 64 v) m ≡ false
  unfolding within
  partial-missing n =
      partial-word ∙ ap (λ (b : Bool). leb 2 (ones m) && b && ltb (ones s) (ones v)) (ne_eqb (bit_and s v) s (λ e. n (and_comm v s ∙ e)))
      ∙ ap (λ (b : Bool). b && ltb (ones s) (ones v)) (and-false (leb 2 (ones m)))

  pub partial-whole : v ≡ s → is_partial (places 64 v) m ≡ false
  partial-whole e =
      partial-word ∙ ap (λ (b : Bool). leb 2 (ones m) && within s v && b) (le-ltb (ones s) (ones v) (le_of_eq (ap ones e)))
      ∙ and-false (leb 2 (ones m) && within s v)

  pub partial-true : 2 ≤ ones m → bit_and v s ≡ s → (v ≡ s → ⊥) → is_partial (places 64 v) m ≡ true
  unfolding within
  partial-true p e n =
      let w : within s v ≡ true = eq-eqb (bit_and s v) s (and_comm s v ∙ e) in
      let more = ones-sub s v w in
      let le = within-le s v w in
      partial-word
      ∙ and_intro _ _ (and_intro _ _ (le-leb 2 (ones m) p) w) (lt-ltb (ones s) (ones v) (omega (arith, ones_pos (v - s) (omega arith))))

-- ---- the choice

partial-monomials : (l : List ℕ) (m : ℕ) → is_partial (monomials l) m ≡ is_partial l m
unfolding is_partial
partial-monomials l m =
    ap₂ (λ (b : Bool) (r : List ℕ). leb 2 (ones m) && b && ltb (length (family m)) (length r))
    (all-ext (λ s. mem s (monomials l)) (λ s. mem s l) (family m)
    (λ s e. mem-keep (ltb 0) l s ∙ ap (λ (b : Bool). mem s l && b) (and-true-l (ltb 0 s) (within s m) (sym (mem-family s m) ∙ e))
    ∙ and-true (mem s l)))
    (keep-keep (ltb 0) (ltb 0) l ∙ keep-ext (λ x. ltb 0 x && ltb 0 x) (ltb 0) l (λ x e. and_self (ltb 0 x)))

-- the form of a word w
module _ (w : ℕ) where
  abbrev l : List ℕ
  l = places 64 w

  abbrev p : ℕ → Bool
  p = is_partial l

  -- the word of the monomials, and that of the nonempty sets of single flags
  abbrev v : ℕ
  v = without_zero 64 w

  abbrev s : ℕ
  s = subset_word (singles l)

  positive : (m : ℕ) → mem m (monomials l) ≡ true → ltb 0 m ≡ true
  positive m e = lt-ltb 0 m (monomial-mem l m e).0

  small : (m : ℕ) → mem m (monomials l) ≡ true → m < 64
  small m e = places-lt 64 w m (monomial-mem l m e).1

  candidates : keep p (places 64 (bit_and v s)) ≡ keep p (monomials l)
  candidates =
      ap (keep p) (places-and 64 v s ∙ ap (keep (bit s)) (monomials-word w)) ∙ keep-keep p (bit s) (monomials l)
      ∙ keep-ext (λ m. bit s m && p m) p (monomials l)
      (λ m e. and-implied (bit s m) (p m)
      (λ t. bit-subsets (singles l) m ∙ mem-family m (singles l) ∙ and_intro _ _ (positive m e) (partial-within l m t)))

  pub candidate-some : (s m : ℕ) → mem m (places 64 (bit_and v s)) ≡ true → 0 < m
  candidate-some s m e =
      let here = sym (ap (mem m) (places-and 64 v s) ∙ mem-keep (bit s) (places 64 v) m) ∙ e in
      (monomial-mem l m (ap (mem m) (sym (monomials-word w)) ∙ and-true-l (mem m (places 64 v)) (bit s m) here)).0

  worthy : (m : ℕ) → mem m (keep p (monomials l)) ≡ true → (0 < m) × (m < 64) × (2 ≤ ones m)
  worthy m e =
      let both = sym (mem-keep p (monomials l) m) ∙ e in
      let here = and-true-l (mem m (monomials l)) (p m) both in
      (ltb-true 0 m (positive m here), small m here, several l m (and_true_r (mem m (monomials l)) (p m) both))

  pub best_family-chosen : foldl (chosen (is_partial (places 64 v))) 0 (places 64 (bit_and v s)) ≡ best_family l
  unfolding best_family
  best_family-chosen =
      ap (λ (q : ℕ → Bool). foldl (chosen q) 0 (places 64 (bit_and v s)))
      (fun_ext (λ m. ap (λ (r : List ℕ). is_partial r m) (monomials-word w) ∙ partial-monomials l m))
      ∙ sym (greatest-chosen p (places 64 (bit_and v s))) ∙ ap (greatest ones) candidates
      ∙ sym (greatest-saving (keep p (monomials l)) (ascending-keep p (monomials l) (ascending-keep (ltb 0) l (ascending-places 64 w))) worthy)
