-- The masks that two monomials contain, found flag by flag. A sum is counted only as none, one, or more, so two words carry it. After six flags it is
-- over all masks that contain the given one: by one computed test for a word of a single mask, and for others because they are sums of such words.
-- It rests on the laws of bits, masks, places and sums (bits) and on the word of the monomials (form, WordOperations).
--   reached-start, reached-step  == the word itself, before any flag; one flag more
--   reach-six                    == after six flags, how many masks of a word contain a mask
--   shared-word                  == the nonzero masks that two monomials contain
use mathlib.Core.Bool.{Bool, true, false, ◌&&◌, ◌||◌, and_comm, and-false, and-true}
use mathlib.Core.List.{List}
use mathlib.Core.Path.{◌≡◌, refl, sym, ap, ap₂, ◌∙◌, fun_ext}
use Prim.Native.Nat.{ℕ, zero, suc, ◌+◌, ◌*◌, ◌/◌, ◌^◌, ◌<◌}
use native.Mathlib.Nat.{zero-mul, one-mul}
use native.Mathlib.Omega.{arith}
use lib.Bits.{bit_and, bit_or, and_comm as bit_and-comm}
use lib.Count.{ones}
use lib.Dec.{eqb, leb, ltb, lit<, leb-suc-zero}
use lib.ListN.{length}
use borrow.Author.Tests.{eqb-true, ltb-true, ltb-false, lt-ltb, le-ltb}
use Rattle.bits.specs.Bit.{bit, digit, within}
use Rattle.bits.specs.Range.{from, upto, keep, all, mem}
use Rattle.bits.specs.Sum.{total}
use Rattle.bits.specs.Word.{places}
use Rattle.bits.proofs.Truth.{and-true-l, and_true_r}
use Rattle.bits.proofs.Bit.{bit-and, bit-or, bit-shr, bit-above, bit-pow, bit-zero}
use Rattle.bits.proofs.Mask.{and_pow, ones-pow}
use Rattle.bits.proofs.Range.{keep-keep, keep-ext, keep-false, all-mem, mem-upto, mem-from}
use Rattle.bits.proofs.Ascending.{below-mem}
use Rattle.bits.proofs.Places.{ones_and, length-total}
use Rattle.bits.proofs.Sets.{without_zero, without_zero-lt, places-without_zero}
use Rattle.bits.proofs.Sum.{plus-laws, sum-op, sum-unit, sum-ext-mem}
use Rattle.bits.proofs.Word.{below-places}
use Rattle.rules.specs.Cleanup.{covered}
use Rattle.form.proofs.WordOperations.{monomials-word}
use Rattle.search.specs.Inner.{reach, Reached}

abbrev more : Bool → ℕ → ℕ
more b x = elim b [ true ↦ x | false ↦ 0 ]

-- ---- none, one, or more

more_test : (b : Bool) (n x : ℕ) → (b && ltb n x) ≡ ltb n (more b x)
more_test true n x = refl
more_test false n x = sym (leb-suc-zero n)

module _ (a b : ℕ) where
  some : (ltb 0 a || ltb 0 b) ≡ ltb 0 (a + b)
  some = go (ltb 0 a) (ltb 0 b) refl refl
    where
      go : (p q : Bool) → ltb 0 a ≡ p → ltb 0 b ≡ q → (p || q) ≡ ltb 0 (a + b)
      go true q d e = sym (lt-ltb 0 (a + b) (omega (arith, ltb-true 0 a d)))
      go false true d e = sym (lt-ltb 0 (a + b) (omega (arith, ltb-true 0 b e)))
      go false false d e = sym (le-ltb 0 (a + b) (omega (arith, ltb-false 0 a d, ltb-false 0 b e)))

  several : (ltb 1 a || ltb 1 b || ltb 0 a && ltb 0 b) ≡ ltb 1 (a + b)
  several = go (ltb 1 a) (ltb 1 b) (ltb 0 a) (ltb 0 b) refl refl refl refl
    where
      go : (p q r s : Bool) → ltb 1 a ≡ p → ltb 1 b ≡ q → ltb 0 a ≡ r → ltb 0 b ≡ s → (p || q || r && s) ≡ ltb 1 (a + b)
      go true q r s d e f g = sym (lt-ltb 1 (a + b) (omega (arith, ltb-true 1 a d)))
      go false true r s d e f g = sym (lt-ltb 1 (a + b) (omega (arith, ltb-true 1 b e)))
      go false false true true d e f g = sym (lt-ltb 1 (a + b) (omega (arith, ltb-true 0 a f, ltb-true 0 b g)))
      go false false true false d e f g = sym (le-ltb 1 (a + b) (omega (arith, ltb-false 1 a d, ltb-false 0 b g)))
      go false false false s d e f g = sym (le-ltb 1 (a + b) (omega (arith, ltb-false 0 a f, ltb-false 1 b e)))

pub reached-start : (w : ℕ) → Reached w 0 w 0
unfolding reach
reached-start w = record { once = λ c. one (bit w c); twice = λ c. bit-zero c ∙ two (bit w c) }
  where
    one : (b : Bool) → b ≡ ltb 0 (digit b)
    one true = refl
    one false = refl

    two : (b : Bool) → false ≡ ltb 1 (digit b)
    two true = refl
    two false = refl

-- one flag more, where v is the word of the masks that have it
module _ (w k v : ℕ) (flag : (m : ℕ) → m < 64 → bit v m ≡ bit m k) where
  abbrev f : ℕ → ℕ
  f m = digit (bit w m)

  high : (x n : ℕ) → x < 2 ^ 64 → ((c : ℕ) → bit x c ≡ ltb n (reach f k c)) → (c : ℕ)
      → bit (bit_and x v / 2 ^ (2 ^ k)) c ≡ ltb n (more (bit (2 ^ k + c) k) (reach f k (2 ^ k + c)))
  high x n h e c =
      let j = 2 ^ k + c in
      bit-shr (bit_and x v) (2 ^ k) c ∙ bit-and x v j ∙ go j (ltb j 64) refl ∙ ap (λ (b : Bool). bit j k && b) (e j)
      ∙ more_test (bit j k) n (reach f k j)
    where
      go : (j : ℕ) (b : Bool) → ltb j 64 ≡ b → (bit x j && bit v j) ≡ (bit j k && bit x j)
      go j true l = ap (λ (b : Bool). bit x j && b) (flag j (ltb-true j 64 l)) ∙ and_comm (bit x j) (bit j k)
      go j false l =
          let z = bit-above x 64 j h (ltb-false j 64 l) in
          ap (λ (b : Bool). b && bit v j) z ∙ sym (ap (λ (b : Bool). bit j k && b) z ∙ and-false (bit j k))

  pub reached-step : (one two : ℕ) → one < 2 ^ 64 → two < 2 ^ 64 → Reached w k one two
      → Reached w (suc k) (bit_or one (bit_and one v / 2 ^ (2 ^ k)))
      (bit_or (bit_or two (bit_and two v / 2 ^ (2 ^ k))) (bit_and one (bit_and one v / 2 ^ (2 ^ k))))
  unfolding reach
  reached-step one two g h r =
      let up : ℕ → ℕ = λ c. more (bit (2 ^ k + c) k) (reach f k (2 ^ k + c)) in
      let high_one = high one 0 g r.once in
      let high-two = high two 1 h r.twice in
      record {
        once = λ c. bit-or one _ c ∙ ap₂ ◌||◌ (r.once c) (high_one c) ∙ some (reach f k c) (up c);
        twice = λ c.
            bit-or _ _ c ∙ ap₂ ◌||◌ (bit-or two _ c ∙ ap₂ ◌||◌ (r.twice c) (high-two c)) (bit-and one _ c ∙ ap₂ ◌&&◌ (r.once c) (high_one c))
            ∙ several (reach f k c) (up c);
      }

-- ---- after six flags

-- the reach of a sum is the sum of the reaches
module _ (g : ℕ → ℕ → ℕ) (l : List ℕ) where
  more-total : (b : Bool) (h : ℕ → ℕ) → more b (total h l) ≡ total (λ m. more b (h m)) l
  more-total true h = refl
  more-total false h = sym (sum-unit plus-laws l)

  reach-total : (k c : ℕ) → reach (λ x. total (λ m. g m x) l) k c ≡ total (λ m. reach (g m) k c) l
  unfolding reach
  reach-total zero c = refl
  reach-total (suc k) c =
      let b = bit (2 ^ k + c) k in
      ap₂ (λ (x y : ℕ). x + more b y) (reach-total k c) (reach-total k (2 ^ k + c))
      ∙ ap (λ (y : ℕ). total (λ m. reach (g m) k c) l + y) (more-total b (λ m. reach (g m) k (2 ^ k + c)))
      ∙ sym (sum-op plus-laws (λ m. reach (g m) k c) (λ m. more b (reach (g m) k (2 ^ k + c))) l)

-- a single mask m
cell : ℕ → ℕ → Bool
unfolding reach bit within
cell c m = eqb (reach (λ x. digit (eqb m x)) 6 c) (digit (within c m))

row : ℕ → Bool
unfolding all from cell
row c = all (cell c) (upto 64)

cells : all row (upto 64) ≡ true
unfolding all from row
cells = refl

reach-single : (c m : ℕ) → c < 64 → m < 64 → reach (λ x. digit (eqb m x)) 6 c ≡ digit (within c m)
unfolding cell row
reach-single c m h l =
    let r : row c ≡ true = all-mem row (upto 64) c cells (mem-upto 64 c ∙ lt-ltb c 64 h) in
    eqb-true _ _ (all-mem (cell c) (upto 64) m r (mem-upto 64 m ∙ lt-ltb m 64 l))

ones-digit : (b : Bool) (c : ℕ) → ones (digit b * 2 ^ c) ≡ digit b
unfolding ones
ones-digit true c = ap ones (one-mul (2 ^ c)) ∙ ones-pow c
ones-digit false c = ap ones (zero-mul (2 ^ c))

module _ (w : ℕ) (h : w < 2 ^ 64) where
  -- a word is the sum of its single masks
  bit-total : (c : ℕ) → digit (bit w c) ≡ total (λ m. digit (eqb m c)) (places 64 w)
  bit-total c =
      sym (ap ones (bit_and-comm w (2 ^ c) ∙ and_pow c w) ∙ ones-digit (bit w c) c) ∙ ones_and 64 w (2 ^ c) h
      ∙ ap length (keep-ext (bit (2 ^ c)) (λ m. eqb m c) (places 64 w) (λ m e. bit-pow c m)) ∙ length-total (λ m. eqb m c) (places 64 w)

  pub reach-six : (c : ℕ) → c < 64 → reach (λ m. digit (bit w m)) 6 c ≡ length (keep (λ m. within c m) (places 64 w))
  reach-six c k =
      let l = places 64 w in
      ap (λ (f : ℕ → ℕ). reach f 6 c) (fun_ext bit-total) ∙ reach-total (λ m x. digit (eqb m x)) l 6 c
      ∙ sum-ext-mem ◌+◌ 0 (λ m. reach (λ x. digit (eqb m x)) 6 c) (λ m. digit (within c m)) l
      (λ m e. reach-single c m k (below-mem 64 l m (below-places 64 w) e))
      ∙ sym (length-total (λ m. within c m) l)

-- ---- the search

module _ (w one two : ℕ) (h : w < 2 ^ 64) (r : Reached (without_zero 64 w) 6 one two) where
  shared : (c : ℕ) → mem c (from 1 63) ≡ true → (bit two c && ltb 0 c) ≡ leb 2 (length (covered c (places 64 w)))
  unfolding covered
  shared c e =
      let u = sym (mem-from 1 63 c) ∙ e in
      let k = ltb-true c 64 (and_true_r (leb 1 c) (ltb c 64) u) in
      ap (λ (b : Bool). bit two c && b) (and-true-l (leb 1 c) (ltb c 64) u) ∙ and-true (bit two c) ∙ r.twice c
      ∙ ap (ltb 1)
      (reach-six (without_zero 64 w) (without_zero-lt 64 w h) c k ∙ ap (λ (l : List ℕ). length (keep (λ m. within c m) l)) (monomials-word w))

  pub shared-word : places 64 (without_zero 64 two) ≡ keep (λ c. leb 2 (length (covered c (places 64 w)))) (from 1 63)
  unfolding places from
  shared-word =
      places-without_zero 64 two (lit< tt) ∙ keep-keep (λ i. ltb 0 i) (bit two) (upto 64)
      ∙ keep-false (λ i. bit two i && ltb 0 i) 0 (from 1 63) (and-false (bit two 0))
      ∙ keep-ext (λ i. bit two i && ltb 0 i) (λ c. leb 2 (length (covered c (places 64 w)))) (from 1 63) shared
