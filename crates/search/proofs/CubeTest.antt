-- The candidate cubes: a cube of several flags is the intersection of two monomials exactly where two of the stripped masks share no flag, and two
-- masks of a word that share no flag are a mask and a nonempty one within its complement. It rests on the laws of masks with no common member (bits,
-- Disjoint), of words as sets of places (bits, Sets), and on the words of nonempty subsets (mask_words, Entries).
--   meets-stripped                       == the intersections of two monomials, by the stripped masks
--   cube-few                             == a cube that covers fewer than two monomials is no candidate
--   cube-single, cube-several            == one that covers two is, if it is a single flag; else it has to be the intersection of two monomials
--   has_apart, meets-apart               == two masks of a word share no flag exactly where one meets a nonempty one within its complement
use mathlib.Core.Bool.{Bool, true, false, ◌&&◌, ◌||◌, and-true, and-false, false≢true}
use mathlib.Core.List.{List, [], ◌∷◌, map}
use mathlib.Core.Logic.{inl, inr}
use mathlib.Core.Path.{◌≡◌, refl, sym, ap, ap₂, ◌∙◌}
use mathlib.Mathlib.Data.Bool.Basic.{eq-false_of_not-eq-true}
use Prim.Native.Nat.{ℕ, ◌-◌, ◌%◌, ◌^◌, ◌≤◌, ◌<◌}
use native.Mathlib.Omega.{arith}
use lib.Bits.{bit_and, and_self, and_comm as bit_and-comm}
use lib.Count.{ones}
use lib.Dec.{ltb, leb, eqb}
use lib.ListN.{length, length-map}
use borrow.Author.Tests.{eqb-true, eq-eqb, ne_eqb, ltb-true, lt-ltb, le-leb, lt-leb}
use Rattle.std.specs.List.{list_any}
use Rattle.bits.specs.Bit.{bit, within}
use Rattle.bits.specs.Range.{keep, any, mem, Ascending}
use Rattle.bits.specs.Sum.{union}
use Rattle.bits.specs.Word.{places}
use Rattle.bits.proofs.Truth.{and_intro, and-true-l, and_true_r, and-implied, or_intro_l, or_intro_r, or_split, bool-ext}
use Rattle.bits.proofs.Mask.{within-and-l, within-and-r}
use Rattle.bits.proofs.Range.{mem-head, mem-tail, mem-cons, mem-any, any-keep, any-ext, any-map, any-mem}
use Rattle.bits.proofs.Disjoint.{within-not, disjoint-sub}
use Rattle.bits.proofs.Sets.{any-bit}
use Rattle.bits.proofs.Word.{ascending-places, places-lt}
use Rattle.bits.proofs.Ascending.{ascending-tail, after-mem}
use Rattle.rules.specs.Cleanup.{meets, covered, stripped, is_cube}
use Rattle.rules.specs.Monomial.{monomials}
use Rattle.laws.proofs.form.Covered.{covered-within, covered-occurs}
use Rattle.laws.proofs.form.Family.{mem-family}
use Rattle.mask_words.specs.Lookup.{subset_word}
use Rattle.mask_words.proofs.Entries.{bit-subsets}

-- ---- intersections of two monomials

module _ (c : ℕ) where
  around : (a b : ℕ) → eqb (bit_and a b) c ≡ true → (within c a ≡ true) × (within c b ≡ true)
  around a b e =
      let q = eqb-true (bit_and a b) c e in
      (ap (λ (x : ℕ). within x a) (sym q) ∙ within-and-l a b, ap (λ (x : ℕ). within x b) (sym q) ∙ within-and-r a b)

  meets-keep : (l : List ℕ) → meets (keep (λ m. within c m) l) c ≡ meets l c
  unfolding meets keep
  meets-keep [] = refl
  meets-keep (a ∷ l) = go (meets-keep l) (within c a) refl
    where
      go : meets (keep (λ m. within c m) l) c ≡ meets l c → (t : Bool) → within c a ≡ t
          → meets (elim t [ true ↦ a ∷ keep (λ m. within c m) l | false ↦ keep (λ m. within c m) l ]) c
          ≡ (any (λ b. eqb (bit_and a b) c) l || meets l c)
      go rest true e =
          ap₂ ◌||◌
          (any-keep (λ b. eqb (bit_and a b) c) (λ m. within c m) l
          ∙ any-ext (λ b. within c b && eqb (bit_and a b) c) (λ b. eqb (bit_and a b) c) l (λ b m. and-implied _ _ (λ q. (around a b q).1)))
          rest
      go rest false e =
          rest ∙ ap (λ (t : Bool). t || meets l c) (sym (eq-false_of_not-eq-true (λ t.
          let s = any-mem (λ b. eqb (bit_and a b) c) l t in
          false≢true (sym e ∙ (around a s.0 s.2).0))))

  meets-map : (l : List ℕ) → ((m : ℕ) → mem m l ≡ true → within c m ≡ true) → meets (map (λ m. m - c) l) 0 ≡ meets l c
  unfolding meets
  meets-map [] h = refl
  meets-map (a ∷ l) h =
      ap₂ ◌||◌
      (any-map (λ b. eqb (bit_and (a - c) b) 0) (λ m. m - c) l
      ∙ any-ext (λ b. eqb (bit_and (a - c) (b - c)) 0) (λ b. eqb (bit_and a b) c) l
      (λ b m. disjoint-sub c a b (h a (mem-head a l)) (h b (mem-tail a l b m))))
      (meets-map l (λ m e. h m (mem-tail a l m e)))

  pub meets-stripped : (l : List ℕ) → meets (stripped c l) 0 ≡ meets (monomials l) c
  unfolding stripped covered
  meets-stripped l = meets-map (covered c l) (covered-within c l) ∙ meets-keep (monomials l)

-- ---- candidates, by the stripped masks k

module _ (l : List ℕ) (c : ℕ) (k : List ℕ) (e : k ≡ stripped c l) where
  abbrev listed : Bool
  listed = eqb (ones c) 1 && within c (union l) || leb 2 (ones c) && meets (monomials l) c

  length-covered : length (covered c l) ≡ length k
  unfolding stripped
  length-covered = sym (ap length e ∙ length-map (covered c l) (λ m. m - c))

  pub cube-few : length k < 2 → is_cube l c ≡ false
  unfolding is_cube
  cube-few n = ap (λ (b : Bool). listed && b) (lt-leb 2 (length (covered c l)) (omega (arith, length-covered))) ∙ and-false listed

  module _ (p : 2 ≤ length k) where
    many : 2 ≤ length (covered c l)
    many = omega (arith, length-covered)

    pub cube-single : ones c ≡ 1 → is_cube l c ≡ true
    unfolding is_cube
    cube-single o =
        let occurs = covered-occurs c l (omega (arith, many)) in
        and_intro listed _ (ap (λ (b : Bool). b || leb 2 (ones c) && meets (monomials l) c) (and_intro _ _ (eq-eqb (ones c) 1 o) occurs))
        (le-leb 2 (length (covered c l)) many)

    pub cube-several : 2 ≤ ones c → is_cube l c ≡ meets k 0
    unfolding is_cube
    cube-several o =
        rw (ne_eqb (ones c) 1 (omega arith), le-leb 2 (ones c) o, le-leb 2 (length (covered c l)) many)
        (and-true (meets (monomials l) c) ∙ sym (ap (λ (r : List ℕ). meets r 0) e ∙ meets-stripped c l))

-- ---- words

-- the mask b has a flag, and none of a's
abbrev apart : ℕ → ℕ → Bool
apart a b = ltb 0 b && eqb (bit_and a b) 0

meets-mem : (l : List ℕ) (a b : ℕ) → mem a l ≡ true → mem b l ≡ true → apart a b ≡ true → meets l 0 ≡ true
unfolding meets any
meets-mem [] a b m n e = absurd (false≢true m)
meets-mem (x ∷ l) a b m n e =
    let z = eqb-true (bit_and a b) 0 (and_true_r (ltb 0 b) _ e) in
    elim (mem-cons x l a m) [
      | inl p ↦ elim (mem-cons x l b n) [
        | inl q ↦
            let own : b ≡ 0 = sym (and_self b) ∙ ap (λ (y : ℕ). bit_and y b) (q ∙ sym p) ∙ z in
            absurd (omega (arith, ltb-true 0 b (and-true-l _ _ e)))
        | inr q ↦
            or_intro_l _ _ (mem-any (λ y. eqb (bit_and x y) 0) l b q (eq-eqb (bit_and x b) 0 (ap (λ (y : ℕ). bit_and y b) (sym p) ∙ z)))
      ]
      | inr p ↦ elim (mem-cons x l b n) [
        | inl q ↦
            or_intro_l _ _ (mem-any (λ y. eqb (bit_and x y) 0) l a p
            (eq-eqb (bit_and x a) 0 (ap (λ (y : ℕ). bit_and y a) (sym q) ∙ bit_and-comm b a ∙ z)))
        | inr q ↦ or_intro_r _ _ (meets-mem l a b p q e)
      ]
    ]

mem-meets : (l : List ℕ) → Ascending l → meets l 0 ≡ true → (a : ℕ) × (b : ℕ) × (mem a l ≡ true) × (mem b l ≡ true) × (apart a b ≡ true)
unfolding meets
mem-meets [] s h = absurd (false≢true h)
mem-meets (x ∷ l) s h = elim (or_split (any (λ y. eqb (bit_and x y) 0) l) (meets l 0) h) [
  | inl e ↦
      let (b, m, z) = any-mem (λ y. eqb (bit_and x y) 0) l e in
      let up = after-mem x l b s m in
      (x, b, mem-head x l, mem-tail x l b m, and_intro _ _ (lt-ltb 0 b (omega arith)) z)
  | inr e ↦
      let (a, b, m, n, z) = mem-meets l (ascending-tail x l s) e in
      (a, b, mem-tail x l a m, mem-tail x l b n, z)
]

module _ (v : ℕ) (h : v < 2 ^ 64) where
  -- whether a mask of the word v meets a nonempty one within the complement of m
  abbrev pub has_apart : ℕ → Bool
  has_apart m = ltb 0 (bit_and v (subset_word (63 - m % 64)))

  apart-any : (m : ℕ) → m < 64 → has_apart m ≡ any (apart m) (places 64 v)
  apart-any m l =
      let small : m % 64 ≡ m = omega arith in
      ap (λ (x : ℕ). ltb 0 (bit_and v (subset_word (63 - x)))) small ∙ sym (any-bit 64 v (subset_word (63 - m)) h)
      ∙ any-ext (bit (subset_word (63 - m))) (apart m) (places 64 v) (λ b i.
      bit-subsets (63 - m) b ∙ mem-family b (63 - m) ∙ ap (λ (x : Bool). ltb 0 b && x) (within-not 6 m b l (places-lt 64 v b i)))

  listed-any : (l : List ℕ) → list_any has_apart l ≡ any has_apart l
  unfolding any
  listed-any [] = refl
  listed-any (x ∷ l) = ap (λ (b : Bool). has_apart x || b) (listed-any l)

  pub meets-apart : list_any has_apart (places 64 v) ≡ meets (places 64 v) 0
  meets-apart = listed-any (places 64 v) ∙ bool-ext _ _ some back
    where
      some : any has_apart (places 64 v) ≡ true → meets (places 64 v) 0 ≡ true
      some e =
          let (a, m, t) = any-mem has_apart (places 64 v) e in
          let (b, n, z) = any-mem (apart a) (places 64 v) (sym (apart-any a (places-lt 64 v a m)) ∙ t) in
          meets-mem (places 64 v) a b m n z

      back : meets (places 64 v) 0 ≡ true → any has_apart (places 64 v) ≡ true
      back e =
          let (a, b, m, n, z) = mem-meets (places 64 v) (ascending-places 64 v) e in
          mem-any has_apart (places 64 v) a m (apart-any a (places-lt 64 v a m) ∙ mem-any (apart a) (places 64 v) b n z)
