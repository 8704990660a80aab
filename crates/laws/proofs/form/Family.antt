-- The nonempty subsets of a mask: which they are, and that those within a setting are odd in number exactly if the mask and the setting share a flag.
-- It rests on the exclusive or over subsets (Mobius) and on the laws of masks and ascending lists (bits).
--   mem-family, ascending-family     == the members of the family of u; they ascend
--   family-own, family-other         == a mask is in its own family, and if it has two flags or more so is another
--   coefficient-one, coefficient-any == the coefficients of the constant 1, and of "some flag is set"
--   parity-family                    == the polynomial with the family of u for monomials is the OR of u's flags
use mathlib.Core.Bool.{Bool, true, false, not, ◌&&◌, and_assoc, and_comm, and-true, and-false}
use mathlib.Core.List.{List}
use mathlib.Core.Path.{◌≡◌, refl, sym, ap, ap₂, ◌∙◌}
use Prim.Native.Nat.{ℕ, zero, suc, ◌+◌, ◌-◌, ◌^◌, ◌≤◌, ◌<◌}
use native.Mathlib.Nat.{lt_of_le_of_lt, zero-lt-suc}
use native.Mathlib.Omega.{arith}
use lib.Bits.{bit_and, and_le_l}
use lib.Count.{ones}
use lib.Dec.{ltb, leb, eqb, eqb-suc-zero}
use lib.Pow.{pow_pos}
use borrow.Author.Tests.{leb-true, lt-ltb, ne_eqb}
use Rattle.bits.specs.Bit.{◌⊕◌, within}
use Rattle.bits.specs.Range.{from, upto, keep, mem, Ascending}
use Rattle.bits.specs.Sum.{sum, parity}
use Rattle.bits.proofs.Truth.{and_intro, and-true-l, and_true_r, and-implied, xor_comm, xor-false}
use Rattle.bits.proofs.Bit.{lt-pow, nonzero-bit}
use Rattle.bits.proofs.Mask.{within-le, within-zero, within-refl, within-pow, within-and, ones-pow}
use Rattle.bits.proofs.Range.{mem-keep, mem-from, mem-upto}
use Rattle.bits.proofs.Ascending.{ascending-from, ascending-keep, ascending-ext}
use Rattle.bits.proofs.Sum.{xor-laws, sum-ext, sum-ext-mem, sum-unit, parity-keep}
use Rattle.rules.specs.Cleanup.{family}
use Rattle.rules.specs.Coefficient.{coefficient}
use Rattle.laws.proofs.transform.Mobius.{coefficient-parity, coefficient-ext, coefficient-twice, coefficient-xor}

less : (m u k : ℕ) → u < k → within m u ≡ true → ltb m k ≡ true
less m u k h e = lt-ltb m k (lt_of_le_of_lt (within-le m u e) h)

pub mem-family : (m u : ℕ) → mem m (family u) ≡ (ltb 0 m && within m u)
unfolding family
mem-family m u =
    mem-keep (λ x. within x u) (from 1 u) m ∙ ap (λ (b : Bool). b && within m u) (mem-from 1 u m)
    ∙ and_assoc (ltb 0 m) (ltb m (1 + u)) (within m u) ∙ ap (λ (b : Bool). ltb 0 m && b) (and-implied _ _ (less m u (1 + u) (omega arith)))

pub family-own : (m : ℕ) → 0 < m → mem m (family m) ≡ true
family-own m p = mem-family m m ∙ and_intro _ _ (lt-ltb 0 m p) (within-refl m)

-- one of its flags
pub family-other : (m : ℕ) → 2 ≤ ones m → 0 < m → (s : ℕ) × (mem s (family m) ≡ true) × (m ≡ s → ⊥)
family-other m h p =
    let (i, k, b) = nonzero-bit m m (lt-pow m) p in
    let flag = mem-family (2 ^ i) m ∙ and_intro _ _ (lt-ltb 0 (2 ^ i) (pow_pos i)) (within-pow i m ∙ b) in
    (2 ^ i, flag, λ e. omega (arith, ap ones e, ones-pow i))

pub ascending-family : (u : ℕ) → Ascending (family u)
unfolding family
ascending-family u = ascending-keep (λ m. within m u) (from 1 u) (ascending-from 1 u)

-- ---- coefficients

first : (f : ℕ → Bool) (k : ℕ) → parity (λ s. f s && eqb s 0) (upto (suc k)) ≡ f 0
unfolding from sum
first f k =
    ap₂ ◌⊕◌ (and-true (f 0))
    (sum-ext-mem ◌⊕◌ false (λ s. f s && eqb s 0) (λ s. false) (from 1 k) rest ∙ sum-unit xor-laws (from 1 k))
    ∙ xor-false (f 0)
  where
    rest : (s : ℕ) → mem s (from 1 k) ≡ true → (f s && eqb s 0) ≡ false
    rest s m =
        let l = leb-true 1 s (and-true-l (leb 1 s) (ltb s (1 + k)) (sym (mem-from 1 k s) ∙ m)) in
        ap (λ (b : Bool). f s && b) (ne_eqb s 0 (omega arith)) ∙ and-false (f s)

coefficient-point : (n m : ℕ) → coefficient n (λ s. eqb s 0) m ≡ true
coefficient-point n m =
    let e : 2 ^ n ≡ suc (2 ^ n - 1) = omega (arith, pow_pos n) in
    coefficient-parity n (λ s. eqb s 0) m ∙ ap (λ (k : ℕ). parity (λ s. within s m && eqb s 0) (upto k)) e ∙ first (λ s. within s m) (2 ^ n - 1)
    ∙ within-zero m

pub coefficient-one : (n m : ℕ) → m < 2 ^ n → coefficient n (λ s. true) m ≡ eqb m 0
coefficient-one n m h =
    coefficient-ext n (λ s. true) (coefficient n (λ s. eqb s 0)) m (λ s l. sym (coefficient-point n s)) ∙ coefficient-twice n (λ s. eqb s 0) m h

positive : (m : ℕ) → ltb 0 m ≡ (true ⊕ eqb m 0)
positive zero = refl
positive (suc m) = lt-ltb 0 (suc m) (zero-lt-suc m) ∙ sym (ap not (eqb-suc-zero m))

pub coefficient-any : (n m : ℕ) → m < 2 ^ n → coefficient n (λ s. ltb 0 s) m ≡ ltb 0 m
coefficient-any n m h =
    coefficient-ext n (λ s. ltb 0 s) (λ s. true ⊕ eqb s 0) m (λ s l. positive s) ∙ coefficient-xor n (λ s. true) (λ s. eqb s 0) m
    ∙ ap₂ ◌⊕◌ (coefficient-one n m h) (coefficient-point n m) ∙ xor_comm (eqb m 0) true ∙ sym (positive m)

-- ---- the family's parity

family-form : (u : ℕ) → family u ≡ keep (λ m. ltb 0 m && within m u) (upto (2 ^ u))
family-form u =
    let p : ℕ → Bool = λ m. ltb 0 m && within m u in
    ascending-ext (family u) (keep p (upto (2 ^ u))) (ascending-family u) (ascending-keep p (upto (2 ^ u)) (ascending-from 0 (2 ^ u)))
    (λ m. mem-family m u ∙ sym (mem-keep p (upto (2 ^ u)) m ∙ ap (λ (b : Bool). b && p m) (mem-upto (2 ^ u) m)
    ∙ and-implied _ (p m) (λ e. less m u (2 ^ u) (lt-pow u) (and_true_r (ltb 0 m) (within m u) e))))

pub parity-family : (u s : ℕ) → parity (λ m. within m s) (family u) ≡ ltb 0 (bit_and u s)
parity-family u s =
    ap (λ (l : List ℕ). parity (λ m. within m s) l) (family-form u)
    ∙ parity-keep (λ m. within m s) (λ m. ltb 0 m && within m u) (upto (2 ^ u))
    ∙ sum-ext ◌⊕◌ false (λ m. (ltb 0 m && within m u) && within m s) (λ m. within m (bit_and u s) && ltb 0 m) (upto (2 ^ u))
    (λ m. and_assoc (ltb 0 m) (within m u) (within m s) ∙ ap (λ (b : Bool). ltb 0 m && b) (sym (within-and m u s))
    ∙ and_comm (ltb 0 m) (within m (bit_and u s)))
    ∙ sym (coefficient-parity u (λ m. ltb 0 m) (bit_and u s))
    ∙ coefficient-any u (bit_and u s) (lt_of_le_of_lt (and_le_l u s) (lt-pow u))
