-- The parts of a form: its constant and its monomials, what a cube covers and what is left, and a family in it.
-- It rests on the laws of masks, ascending lists and sums (bits), and on the family's members (Family).
--   ascending-form                       == a form ascends
--   form-split, parity-constant          == it is its constant on its monomials
--   monomial-mem, pair-order             == a monomial is a mask of the form other than 0; two monomials ascend from 1 on
--   covered-keep, mem-covered, covered-within == the masks that contain a cube
--   covered-occurs                       == the flags of a cube that covers a monomial occur
--   ascending-covered, ascending-stripped == covered and stripped monomials ascend
--   parity-covered                       == the cube is a common factor
--   parity-uncovered, parity-without     == the form in two parts: along a cube, along a family
--   keep-family                          == a form that has all of a family, restricted to it
use mathlib.Core.Bool.{Bool, true, false, not, ◌&&◌}
use mathlib.Core.List.{List, [], ◌∷◌}
use mathlib.Core.Path.{◌≡◌, refl, sym, ap, ap₂, subst, ◌∙◌}
use mathlib.Mathlib.Data.Bool.Basic.{eq-false_of_not-eq-true}
use Prim.Native.Nat.{ℕ, zero, suc, ◌-◌, ◌^◌, ◌<◌}
use native.Mathlib.Nat.{zero-lt-suc}
use native.Mathlib.Omega.{arith}
use lib.Bits.{bit_and}
use lib.Dec.{ltb}
use lib.ListN.{length}
use borrow.Author.Tests.{ltb-true, lt-ltb}
use Rattle.bits.specs.Bit.{◌⊕◌, within}
use Rattle.bits.specs.Range.{upto, keep, all, any, mem, After, Ascending}
use Rattle.bits.specs.Sum.{sum, parity, union}
use Rattle.bits.proofs.Truth.{and-true-l, and_true_r, and-implied}
use Rattle.bits.proofs.Mask.{within-le, within-zero, within-trans, within-split}
use Rattle.bits.proofs.Range.{keep_all, keep-keep, keep-ext, mem-all, mem-keep, mem-head, mem-some, all-mem}
use Rattle.bits.proofs.Ascending.{after-mem, ascending-from, ascending-keep, ascending-map, ascending-ext}
use Rattle.bits.proofs.Sum.{xor-laws, sum-map, sum-ext-mem, sum-split, parity-and}
use Rattle.bits.proofs.Union.{union-mem}
use Rattle.rules.specs.Cleanup.{family, covered, stripped}
use Rattle.rules.specs.Monomial.{form, constant, monomials, on}
use Rattle.laws.proofs.form.Family.{ascending-family, parity-family}

-- ---- constant and monomials

pub ascending-form : (n : ℕ) (c : ℕ → Bool) → Ascending (form n c)
unfolding form
ascending-form n c = ascending-keep c (upto (2 ^ n)) (ascending-from 0 (2 ^ n))

positive : (l : List ℕ) → After 0 l → monomials l ≡ l
positive l a = keep_all (λ m. ltb 0 m) l (mem-all (λ m. ltb 0 m) l (λ x m. lt-ltb 0 x (after-mem 0 l x a m)))

pub form-split : (l : List ℕ) → Ascending l → l ≡ on (constant l) (monomials l)
unfolding any keep
form-split [] a = refl
form-split (zero ∷ l) a = ap {B = List ℕ} (λ r. 0 ∷ r) (sym (positive l a))
form-split (suc m ∷ l) a =
    let k : List ℕ = suc m ∷ l in
    let up : After 0 k = (zero-lt-suc m, a) in
    let none : mem 0 k ≡ true → ⊥ = λ e. omega (arith, after-mem 0 k 0 up e) in
    sym (ap₂ on (eq-false_of_not-eq-true none) (positive k up))

pub parity-constant : (l : List ℕ) (s : ℕ) → Ascending l → parity (λ m. within m s) l ≡ constant l ⊕ parity (λ m. within m s) (monomials l)
unfolding sum
parity-constant l s a = ap (parity (λ m. within m s)) (form-split l a) ∙ go (constant l) (monomials l)
  where
    go : (b : Bool) (k : List ℕ) → parity (λ m. within m s) (on b k) ≡ b ⊕ parity (λ m. within m s) k
    go true k = ap (λ (b : Bool). b ⊕ parity (λ m. within m s) k) (within-zero s)
    go false k = refl

pub monomial-mem : (l : List ℕ) (m : ℕ) → mem m (monomials l) ≡ true → (0 < m) × (mem m l ≡ true)
monomial-mem l m e =
    let both = sym (mem-keep (λ x. ltb 0 x) l m) ∙ e in
    (ltb-true 0 m (and_true_r (mem m l) (ltb 0 m) both), and-true-l (mem m l) (ltb 0 m) both)

pub pair-order : (l : List ℕ) → Ascending l → (m o : ℕ) → monomials l ≡ m ∷ o ∷ [] → (0 < m) × (m < o)
pair-order l a m o e =
    let up : Ascending (m ∷ o ∷ []) = subst Ascending e (ascending-keep (λ x. ltb 0 x) l a) in
    ((monomial-mem l m (ap (mem m) e ∙ mem-head m (o ∷ []))).0, up.0)

-- ---- a cube

module _ (c : ℕ) (p : 0 < c) (l : List ℕ) where
  pub covered-keep : covered c l ≡ keep (λ m. within c m) l
  unfolding covered
  covered-keep =
      keep-keep (λ m. within c m) (λ m. ltb 0 m) l
      ∙ keep-ext (λ m. ltb 0 m && within c m) (λ m. within c m) l
      (λ m e. and-implied (ltb 0 m) (within c m) (λ h. lt-ltb 0 m (omega (arith, within-le c m h))))

  pub parity-uncovered : (f : ℕ → Bool) → parity f l ≡ parity f (covered c l) ⊕ parity f (keep (λ m. not (within c m)) l)
  parity-uncovered f =
      sum-split xor-laws f (λ m. within c m) l ∙ ap (λ (k : List ℕ). parity f k ⊕ parity f (keep (λ m. not (within c m)) l)) (sym covered-keep)

module _ (c : ℕ) (l : List ℕ) where
  pub mem-covered : (m : ℕ) → mem m (covered c l) ≡ (mem m (monomials l) && within c m)
  unfolding covered
  mem-covered m = mem-keep (λ x. within c x) (monomials l) m

  pub covered-within : (m : ℕ) → mem m (covered c l) ≡ true → within c m ≡ true
  covered-within m e = and_true_r (mem m (monomials l)) (within c m) (sym (mem-covered m) ∙ e)

  pub covered-occurs : 0 < length (covered c l) → within c (union l) ≡ true
  covered-occurs h =
      let (m, here) = mem-some (covered c l) h in
      let monomial = and-true-l (mem m (monomials l)) (within c m) (sym (mem-covered m) ∙ here) in
      within-trans c m (union l) (covered-within m here) (union-mem l m (monomial-mem l m monomial).1)

  pub parity-covered : (s : ℕ) → parity (λ m. within m s) (covered c l) ≡ (within c s && parity (λ m. within m s) (stripped c l))
  unfolding stripped
  parity-covered s =
      sum-ext-mem ◌⊕◌ false (λ m. within m s) (λ m. within c s && within (m - c) s) (covered c l) (λ m e. within-split c m s (covered-within m e))
      ∙ parity-and (within c s) (λ m. within (m - c) s) (covered c l)
      ∙ ap (λ (b : Bool). within c s && b) (sym (sum-map ◌⊕◌ false (λ m. within m s) (λ m. m - c) (covered c l)))

  module _ (a : Ascending l) where
    pub ascending-covered : Ascending (covered c l)
    unfolding covered
    ascending-covered = ascending-keep (λ m. within c m) (monomials l) (ascending-keep (λ m. ltb 0 m) l a)

    pub ascending-stripped : Ascending (stripped c l)
    unfolding stripped
    ascending-stripped =
        ascending-map (λ m. m - c) (covered c l)
        (λ x y m n h. omega (arith, within-le c x (covered-within x m), within-le c y (covered-within y n))) ascending-covered

-- ---- a family

module _ (m : ℕ) (l : List ℕ) (a : Ascending l) (h : all (λ x. mem x l) (family m) ≡ true) where
  pub keep-family : keep (λ x. mem x (family m)) l ≡ family m
  keep-family =
      ascending-ext (keep (λ x. mem x (family m)) l) (family m) (ascending-keep (λ x. mem x (family m)) l a) (ascending-family m)
      (λ x. mem-keep (λ y. mem y (family m)) l x ∙ and-implied (mem x l) (mem x (family m)) (all-mem (λ y. mem y l) (family m) x h))

  pub parity-without : (s : ℕ) → parity (λ x. within x s) l ≡ ltb 0 (bit_and m s) ⊕ parity (λ x. within x s) (keep (λ x. not (mem x (family m))) l)
  parity-without s =
      sum-split xor-laws (λ x. within x s) (λ x. mem x (family m)) l
      ∙ ap (λ (b : Bool). b ⊕ parity (λ x. within x s) (keep (λ x. not (mem x (family m))) l))
      (ap (parity (λ x. within x s)) keep-family ∙ parity-family m s)
