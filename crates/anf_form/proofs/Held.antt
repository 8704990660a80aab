-- The masks that the first k coefficient words hold: word by word, by degree, and as the form of n flags. It rests on the laws of coefficient words
-- (laws, Packed) and of ranges (bits, Range).
--   word_count-most           == at most 16 flags have at most 1024 words
--   held-suc                 == one word more
--   held-keep-suc, held-le   == those that pass a test, with one word more, and with more words
--   ones-held                == how many, by the ones of the words
--   block i ws               == the masks of word i, counted from the word's first
--   block_none, block-some   == those of degree d in word i: none where i has more ones already, else those of degree d less the ones of i
--   ascending-held           == they ascend
--   constant-held            == the constant is coefficient 0
--   held-form                == the words of n flags hold its form, if no coefficient is stray
--   held-lent                == so do the words that lent coefficients were found to have
--   below-held               == the masks of n flags are below 2^n
use mathlib.Core.Bool.{Bool, true, false, not, ◌&&◌}
use mathlib.Core.List.{List, [], ◌++◌, map, append-nil}
use mathlib.Core.Path.{◌≡◌, refl, sym, ap, subst, ◌∙◌}
use Prim.Native.Nat.{ℕ, zero, suc, ◌+◌, ◌-◌, ◌*◌, ◌^◌, ◌≤◌, ◌<◌}
use native.Mathlib.Decide.{le_ind}
use native.Mathlib.Nat.{le_refl}
use native.Mathlib.Numerals.{add-one}
use native.Mathlib.Omega.{arith}
use lib.Count.{ones, ones_cat}
use lib.Dec.{eqb, leb}
use lib.ListN.{length, get_or, take, length-append, length-map}
use lib.Seq.{take_all}
use Rattle.std.specs.List.{sum_by}
use Rattle.std.proofs.lemmas.List.Sums.{sum_by_more}
use lib.Pow.{pow_mono}
use borrow.Author.Tests.{ltb-true, leb-true, lt-ltb, eqb-true, eq-eqb, ne_eqb}
use Rattle.bits.specs.Bit.{bit}
use Rattle.bits.specs.Word.{places}
use Rattle.bits.specs.Range.{from, upto, keep, mem, Ascending, Below}
use Rattle.bits.proofs.Truth.{and-true-l, and_true_r, bool-ext}
use Rattle.bits.proofs.Range.{from-add, upto_add}
use Rattle.bits.proofs.Range.{keep_append, keep-map, keep-ext, keep-none, mem-all, mem-keep, mem-from, mem-upto}
use Rattle.bits.proofs.Ascending.{ascending-from, ascending-keep, below-upto, below-keep, below-mem}
use Rattle.rules.specs.Coefficient.{word_count, packed, stray}
use Rattle.rules.specs.Monomial.{form, constant}
use Rattle.rules.specs.Outcome.{gives}
use Rattle.packed_anf.specs.Rows.{lent_coefficients}
use Rattle.packed_anf.specs.declared.lent.Coefficients.{Coefficients}
use Rattle.packed_anf.proofs.Rows.{given-coefficients, packed-take}
use Rattle.laws.proofs.transform.Packed.{word_count-room, packed-at, not-stray}
use Rattle.mask_words.specs.inner.Degree.{of_degree}
use Rattle.bits.proofs.Word.{below-places, ones-places}
use Rattle.anf_form.specs.Inner.{held, of_block}

pub word_count-most : (n : ℕ) → n ≤ 16 → word_count n ≤ 1024
unfolding word_count
word_count-most n h = let p : 2 ^ n ≤ 2 ^ 16 = pow_mono h in omega arith

-- ---- one word

-- the masks of word i
abbrev pub block : ℕ → List ℕ → List ℕ
block i ws = places 64 (get_or ws i 0)

module _ (d i w : ℕ) where
  inside : (j : ℕ) → mem j (places 64 w) ≡ true → j < 64
  inside j m = below-mem 64 (places 64 w) j (below-places 64 w) m

  ones-block : (j : ℕ) → j < 64 → ones (64 * i + j) ≡ ones i + ones j
  ones-block j h = ap (λ (n : ℕ). ones (n + j)) (omega arith) ∙ ones_cat 6 i j h

  pub block_none : d < ones i → of_block d i w ≡ []
  block_none h =
      keep-none (λ j. eqb (ones (64 * i + j)) d) (places 64 w)
      (mem-all _ (places 64 w) (λ j m. ap not (ne_eqb (ones (64 * i + j)) d (λ e. omega (arith, ones-block j (inside j m))))))

  pub block-some : ones i ≤ d → of_degree (d - ones i) (places 64 w) ≡ of_block d i w
  block-some h =
      keep-ext (λ j. eqb (ones j) (d - ones i)) (λ j. eqb (ones (64 * i + j)) d) (places 64 w) (λ j m. shifted j (inside j m))
    where
      shifted : (j : ℕ) → j < 64 → eqb (ones j) (d - ones i) ≡ eqb (ones (64 * i + j)) d
      shifted j l =
          bool-ext _ _ (λ e. eq-eqb (ones (64 * i + j)) d (omega (arith, ones-block j l, eqb-true (ones j) (d - ones i) e)))
          (λ e. eq-eqb (ones j) (d - ones i) (omega (arith, ones-block j l, eqb-true (ones (64 * i + j)) d e)))

-- ---- word by word

module _ (ws : List ℕ) where
  block-is : (i : ℕ) → keep (λ j. packed ws (64 * i + j)) (upto 64) ≡ block i ws
  unfolding places
  block-is i =
      keep-ext (λ j. packed ws (64 * i + j)) (bit (get_or ws i 0)) (upto 64)
      (λ j m. packed-at ws i j (ltb-true j 64 (sym (mem-upto 64 j) ∙ m)))

  -- the masks that word k holds
  abbrev masks-at : ℕ → List ℕ
  masks-at k = map (λ j. 64 * k + j) (block k ws)

  pub held-suc : (k : ℕ) → held (suc k) ws ≡ held k ws ++ map (λ j. 64 * k + j) (block k ws)
  held-suc k =
      let e : 64 * suc k ≡ 64 * k + 64 = omega arith in
      ap (λ (n : ℕ). keep (packed ws) (upto n)) e ∙ ap (keep (packed ws)) (upto_add (64 * k) 64)
      ∙ keep_append (packed ws) (upto (64 * k)) (map (λ j. 64 * k + j) (upto 64))
      ∙ ap (λ (l : List ℕ). held k ws ++ l)
      (keep-map (packed ws) (λ j. 64 * k + j) (upto 64) ∙ ap (map (λ j. 64 * k + j)) (block-is k))

  pub ascending-held : (k : ℕ) → Ascending (held k ws)
  ascending-held k = ascending-keep (packed ws) (upto (64 * k)) (ascending-from 0 (64 * k))

  pub constant-held : (k : ℕ) → 0 < k → constant (held k ws) ≡ packed ws 0
  constant-held k h =
      mem-keep (packed ws) (upto (64 * k)) 0 ∙ ap (λ (b : Bool). b && packed ws 0) (mem-upto (64 * k) 0 ∙ lt-ltb 0 (64 * k) (omega arith))

  length-held : (k : ℕ) → length (held (suc k) ws) ≡ length (held k ws) + length (block k ws)
  length-held k =
      omega (arith, ap length (held-suc k), length-append (held k ws) (masks-at k), length-map (block k ws) (λ j. 64 * k + j))

  module _ (small : (i : ℕ) → get_or ws i 0 < 2 ^ 64) where
    counted : (k : ℕ) → k ≤ length ws → sum_by ones (take k ws) ≡ length (held k ws)
    unfolding keep from
    counted zero h = refl
    counted (suc k) h =
        omega (
          arith,
          ap (λ (n : ℕ). sum_by ones (take n ws)) (sym (add-one k)),
          sum_by_more ones ws k 0 (omega arith),
          counted k (omega arith),
          length-held k,
          ones-places 64 (get_or ws k 0) (small k),
        )

    pub ones-held : sum_by ones ws ≡ length (held (length ws) ws)
    ones-held = ap (sum_by ones) (sym (take_all (length ws) ws (omega arith))) ∙ counted (length ws) (omega arith)

  module _ (p : ℕ → Bool) where
    pub held-keep-suc : (k : ℕ) → keep p (held (suc k) ws) ≡ keep p (held k ws) ++ map (λ j. 64 * k + j) (keep (λ j. p (64 * k + j)) (block k ws))
    held-keep-suc k =
        ap (keep p) (held-suc k) ∙ keep_append p (held k ws) (masks-at k)
        ∙ ap (λ (l : List ℕ). keep p (held k ws) ++ l) (keep-map p (λ j. 64 * k + j) (block k ws))

    pub held-le : (i k : ℕ) → i ≤ k → length (keep p (held i ws)) ≤ length (keep p (held k ws))
    held-le i k h = le_ind (λ (n : ℕ). length (keep p (held i ws)) ≤ length (keep p (held n ws))) (le_refl (length (keep p (held i ws)))) more k h
      where
        more : (n : ℕ) → i ≤ n → length (keep p (held i ws)) ≤ length (keep p (held n ws))
            → length (keep p (held i ws)) ≤ length (keep p (held (suc n) ws))
        more n m e =
            omega (
              arith,
              ap (λ (l : List ℕ). length (keep p l)) (held-suc n),
              ap length (keep_append p (held n ws) (masks-at n)),
              length-append (keep p (held n ws)) (keep p (masks-at n)),
            )

  -- ---- the form

  module _ (n : ℕ) (clean : stray n ws ≡ false) where
    above : ℕ
    above = 64 * word_count n - 2 ^ n

    none : (m : ℕ) → mem m (from (0 + 2 ^ n) above) ≡ true → packed ws m ≡ false
    unfolding above
    none m h =
        let t = sym (mem-from (0 + 2 ^ n) above m) ∙ h in
        let l = leb-true (0 + 2 ^ n) m (and-true-l (leb (0 + 2 ^ n) m) _ t) in
        let u = ltb-true m (0 + 2 ^ n + above) (and_true_r (leb (0 + 2 ^ n) m) _ t) in
        not-stray n ws clean m (omega arith) (omega arith)

    pub held-form : form n (packed ws) ≡ held (word_count n) ws
    unfolding form above
    held-form =
        let low = keep (packed ws) (upto (2 ^ n)) in
        let high = from (0 + 2 ^ n) above in
        let e : 64 * word_count n ≡ 2 ^ n + above = omega (arith, word_count-room n) in
        sym (ap (λ (k : ℕ). keep (packed ws) (upto k)) e ∙ ap (keep (packed ws)) (from-add 0 (2 ^ n) above)
        ∙ keep_append (packed ws) (upto (2 ^ n)) high
        ∙ ap (λ (l : List ℕ). low ++ l) (keep-none (packed ws) high (mem-all _ high (λ m h. ap not (none m h)))) ∙ append-nil low)

    pub below-held : Below (2 ^ n) (held (word_count n) ws)
    unfolding form
    below-held = subst (Below (2 ^ n)) held-form (below-keep (2 ^ n) (packed ws) (upto (2 ^ n)) (below-upto (2 ^ n)))

-- the words that lent coefficients were found to have hold the form
pub held-lent : {limit : ℕ} (n : ℕ) (ws : List ℕ) (a : Coefficients limit) → gives (a.flags.count, a.words.now) ≡ lent_coefficients limit n ws
    → form n (packed ws) ≡ held (length a.words.now) a.words.now
unfolding form
held-lent {limit} n ws a e =
    let us = a.words.now in
    let given = given-coefficients limit n ws e in
    let same : a.flags.count ≡ n = ap (λ (p : ℕ × List ℕ). p.0) given in
    let front : us ≡ take (word_count n) ws = ap (λ (p : ℕ × List ℕ). p.1) given in
    let k = word_count n in
    keep-ext (packed ws) (packed (take k ws)) (upto (2 ^ n))
    (λ m h. sym (packed-take k ws m (let u = ltb-true m (2 ^ n) (sym (mem-upto (2 ^ n) m) ∙ h) in omega (arith, u, word_count-room n))))
    ∙ ap (λ (l : List ℕ). form n (packed l)) (sym front) ∙ ap (λ (m : ℕ). form m (packed us)) (sym same)
    ∙ held-form us a.flags.count a.none_stray ∙ ap (λ (j : ℕ). held j us) (sym a.all)
