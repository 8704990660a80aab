-- Masks as sets: a number stands for the set of its bits, `within` is inclusion and `ones` the size.
-- It rests on the laws of bits (Bit), of truth values (Truth), and on lib.Bits and lib.Count.
--   within-bit, bits-within                              == inclusion by members
--   within-le, within-zero, zero-within                  == a part is no greater; nothing is in all, and only nothing is in nothing
--   within-refl, within-trans, within-antisym            == an order
--   within_block                                         == two runs of digits apart
--   within-pow, and_pow                                  == one member
--   within-or-l, within-or-r, within-and-l, within-and-r == what a union and an intersection hold
--   within-or, within-and                                == a union within, and within an intersection
--   or-within                                            == the union of a part and the whole
--   sub-xor, bit-sub, sub-disjoint                       == what a part leaves of the whole
--   bit-add, within-add, within-split                    == sets with no common member add
--   ones-add, ones-sub, ones-or                          == sizes add, and a union has no more members than its parts together
--   ones-zero, zero-ones, ones_pos, ones-pow, one-is-pow == sizes 0 and 1
use mathlib.Core.Path.{◌≡◌, refl, sym, ap, ap₂, ◌∙◌}
use mathlib.Core.Bool.{Bool, true, false, not, ◌&&◌, ◌||◌, and_comm as &&-comm, false≢true}
use mathlib.Core.Logic.{◌⊎◌, inl, inr, ⊎_elim}
use mathlib.Mathlib.Data.Bool.Basic.{eq-false_of_not-eq-true}
use Prim.Native.Nat.{ℕ, zero, suc, ◌+◌, ◌-◌, ◌*◌, ◌/◌, ◌%◌, ◌^◌, ◌≤◌, ◌<◌}
use native.Mathlib.Nat.{le_antisymm, lt_of_le_of_lt, eq-zero-or-pos, zero-add, add-zero, zero-mul, one-mul, pow-suc}
use native.Mathlib.Omega.{arith}
use lib.Dec.{eqb}
use lib.Arith.{bin_ind}
use lib.Bits.{bit_and, bit_or, bit_xor, and_self, and_comm, and_le_l, and_le_r, and_step, and_block, or_disjoint, or_add_and, xor_add_and}
use lib.Count.{ones, ones_step, ones_cat}
use lib.Pow.{pow_pos, high, low}
use borrow.Author.Tests.{eqb-true, eq-eqb}
use Rattle.bits.specs.Bit.{bit, digit, within}
use Rattle.bits.proofs.Truth.{and_intro, and-true-l, and_true_r, and-implied, and-minus, or_intro_l, or_intro_r, or_split, xor-minus, bool-ext}
use Rattle.bits.proofs.Bit.{bit-and, bit-or, bit-xor, bit-zero, bit-pow, bits-eq}

-- ---- inclusion by members

meet : (s m : ℕ) → within s m ≡ true → bit_and s m ≡ s
unfolding within
meet s m h = eqb-true (bit_and s m) s h

pub within-bit : (s m i : ℕ) → within s m ≡ true → bit s i ≡ true → bit m i ≡ true
within-bit s m i h e = and_true_r (bit s i) (bit m i) (sym (bit-and s m i) ∙ ap (λ (x : ℕ). bit x i) (meet s m h) ∙ e)

pub bits-within : (s m : ℕ) → ((i : ℕ) → bit s i ≡ true → bit m i ≡ true) → within s m ≡ true
unfolding within
bits-within s m f =
    eq-eqb (bit_and s m) s (bits-eq (bit_and s m) s (λ i. bit-and s m i ∙ &&-comm (bit s i) (bit m i) ∙ and-implied (bit m i) (bit s i) (f i)))

pub within-le : (s m : ℕ) → within s m ≡ true → s ≤ m
within-le s m h = omega (arith, meet s m h, and_le_r s m)

pub within-zero : (m : ℕ) → within 0 m ≡ true
unfolding within
within-zero m = refl

pub zero-within : (s : ℕ) → within s 0 ≡ true → s ≡ 0
zero-within s h = omega (arith, within-le s 0 h)

pub within-refl : (s : ℕ) → within s s ≡ true
unfolding within
within-refl s = eq-eqb (bit_and s s) s (and_self s)

pub within-trans : (s m t : ℕ) → within s m ≡ true → within m t ≡ true → within s t ≡ true
within-trans s m t h k = bits-within s t (λ i e. within-bit m t i k (within-bit s m i h e))

pub within-antisym : (s m : ℕ) → within s m ≡ true → within m s ≡ true → s ≡ m
within-antisym s m h k = le_antisymm (within-le s m h) (within-le m s k)

-- ---- inclusion and the operations

-- two numbers of two parts are equal where both parts are
parts : (k a b r s : ℕ) → r < 2 ^ k → s < 2 ^ k → eqb (a * 2 ^ k + r) (b * 2 ^ k + s) ≡ (eqb a b && eqb r s)
parts k a b r s hr hs = bool-ext _ _ apart together
  where
    apart : eqb (a * 2 ^ k + r) (b * 2 ^ k + s) ≡ true → (eqb a b && eqb r s) ≡ true
    apart e =
        let q = eqb-true (a * 2 ^ k + r) (b * 2 ^ k + s) e in
        let up : a ≡ b = sym (high a k hr) ∙ ap (λ (x : ℕ). x / 2 ^ k) q ∙ high b k hs in
        let lo : r ≡ s = sym (low a k hr) ∙ ap (λ (x : ℕ). x % 2 ^ k) q ∙ low b k hs in
        and_intro _ _ (eq-eqb a b up) (eq-eqb r s lo)

    together : (eqb a b && eqb r s) ≡ true → eqb (a * 2 ^ k + r) (b * 2 ^ k + s) ≡ true
    together e =
        let up = eqb-true a b (and-true-l (eqb a b) (eqb r s) e) in
        let lo = eqb-true r s (and_true_r (eqb a b) (eqb r s) e) in
        eq-eqb (a * 2 ^ k + r) (b * 2 ^ k + s) (ap₂ (λ (x y : ℕ). x * 2 ^ k + y) up lo)

pub within_block : (k a b r s : ℕ) → r < 2 ^ k → s < 2 ^ k → within (a * 2 ^ k + r) (b * 2 ^ k + s) ≡ (within a b && within r s)
unfolding within
within_block k a b r s hr hs =
    ap (λ (x : ℕ). eqb x (a * 2 ^ k + r)) (and_block k a b r s hr hs) ∙ parts k (bit_and a b) a (bit_and r s) r (lt_of_le_of_lt (and_le_l r s) hr) hr

module _ (k m : ℕ) where
  one_bit : (i : ℕ) → bit (2 ^ k) i ≡ true → i ≡ k
  one_bit i e = eqb-true i k (sym (bit-pow k i) ∙ e)

  pub within-pow : within (2 ^ k) m ≡ bit m k
  within-pow =
      bool-ext _ _ (λ h. within-bit (2 ^ k) m k h (bit-pow k k ∙ eq-eqb k k refl)) (λ h. bits-within (2 ^ k) m (λ i e. ap (bit m) (one_bit i e) ∙ h))

  -- `m & (1 << k)`
  pub and_pow : bit_and (2 ^ k) m ≡ digit (bit m k) * 2 ^ k
  and_pow = go (bit m k) refl
    where
      out : bit m k ≡ false → (i : ℕ) → (bit (2 ^ k) i && bit m i) ≡ false
      out e i = eq-false_of_not-eq-true (λ h.
          false≢true (sym e ∙ ap (bit m) (sym (one_bit i (and-true-l (bit (2 ^ k) i) (bit m i) h))) ∙ and_true_r (bit (2 ^ k) i) (bit m i) h))

      go : (b : Bool) → bit m k ≡ b → bit_and (2 ^ k) m ≡ digit b * 2 ^ k
      go true e = meet (2 ^ k) m (within-pow ∙ e) ∙ sym (one-mul (2 ^ k))
      go false e = bits-eq (bit_and (2 ^ k) m) 0 (λ i. bit-and (2 ^ k) m i ∙ out e i ∙ sym (bit-zero i)) ∙ sym (zero-mul (2 ^ k))

module _ (a b : ℕ) where
  pub within-or-l : within a (bit_or a b) ≡ true
  within-or-l = bits-within a (bit_or a b) (λ i e. bit-or a b i ∙ or_intro_l (bit a i) (bit b i) e)

  pub within-or-r : within b (bit_or a b) ≡ true
  within-or-r = bits-within b (bit_or a b) (λ i e. bit-or a b i ∙ or_intro_r (bit a i) (bit b i) e)

  pub within-and-l : within (bit_and a b) a ≡ true
  within-and-l = bits-within (bit_and a b) a (λ i e. and-true-l (bit a i) (bit b i) (sym (bit-and a b i) ∙ e))

  pub within-and-r : within (bit_and a b) b ≡ true
  within-and-r = bits-within (bit_and a b) b (λ i e. and_true_r (bit a i) (bit b i) (sym (bit-and a b i) ∙ e))

pub within-or : (a b m : ℕ) → within (bit_or a b) m ≡ (within a m && within b m)
within-or a b m = bool-ext _ _ apart together
  where
    apart : within (bit_or a b) m ≡ true → (within a m && within b m) ≡ true
    apart h = and_intro _ _ (within-trans a (bit_or a b) m (within-or-l a b) h) (within-trans b (bit_or a b) m (within-or-r a b) h)

    together : (within a m && within b m) ≡ true → within (bit_or a b) m ≡ true
    together h =
        let f = and-true-l (within a m) (within b m) h in
        let g = and_true_r (within a m) (within b m) h in
        bits-within (bit_or a b) m (λ i e. ⊎_elim (within-bit a m i f) (within-bit b m i g) (or_split (bit a i) (bit b i) (sym (bit-or a b i) ∙ e)))

pub or-within : (c m : ℕ) → within c m ≡ true → bit_or c m ≡ m
or-within c m h =
    within-antisym (bit_or c m) m (within-or c m m ∙ and_intro (within c m) (within m m) h (within-refl m)) (within-or-r c m)

pub within-and : (s a b : ℕ) → within s (bit_and a b) ≡ (within s a && within s b)
within-and s a b = bool-ext _ _ apart together
  where
    apart : within s (bit_and a b) ≡ true → (within s a && within s b) ≡ true
    apart h = and_intro _ _ (within-trans s (bit_and a b) a h (within-and-l a b)) (within-trans s (bit_and a b) b h (within-and-r a b))

    together : (within s a && within s b) ≡ true → within s (bit_and a b) ≡ true
    together h =
        let f = and-true-l (within s a) (within s b) h in
        let g = and_true_r (within s a) (within s b) h in
        bits-within s (bit_and a b) (λ i e. bit-and a b i ∙ and_intro _ _ (within-bit s a i f e) (within-bit s b i g e))

pub sub-xor : (c m : ℕ) → within c m ≡ true → m - c ≡ bit_xor m c
sub-xor c m h = omega (arith, xor_add_and m c, and_comm m c, meet c m h, within-le c m h)

pub bit-sub : (c m i : ℕ) → within c m ≡ true → bit (m - c) i ≡ (bit m i && not (bit c i))
bit-sub c m i h = ap (λ (x : ℕ). bit x i) (sub-xor c m h) ∙ bit-xor m c i ∙ xor-minus (bit m i) (bit c i) (within-bit c m i h)

pub sub-disjoint : (c m : ℕ) → within c m ≡ true → bit_and c (m - c) ≡ 0
sub-disjoint c m h =
    bits-eq (bit_and c (m - c)) 0
    (λ i. bit-and c (m - c) i ∙ ap (λ (x : Bool). bit c i && x) (bit-sub c m i h) ∙ and-minus (bit m i) (bit c i) ∙ sym (bit-zero i))

pub bit-add : (a b i : ℕ) → bit_and a b ≡ 0 → bit (a + b) i ≡ (bit a i || bit b i)
bit-add a b i e = ap (λ (x : ℕ). bit x i) (sym (or_disjoint a b e)) ∙ bit-or a b i

pub within-add : (a b m : ℕ) → bit_and a b ≡ 0 → within (a + b) m ≡ (within a m && within b m)
within-add a b m e = ap (λ (x : ℕ). within x m) (sym (or_disjoint a b e)) ∙ within-or a b m

pub within-split : (c m s : ℕ) → within c m ≡ true → within m s ≡ (within c s && within (m - c) s)
within-split c m s h =
    let l = within-le c m h in
    let e : m ≡ c + (m - c) = omega arith in
    ap (λ (x : ℕ). within x s) e ∙ within-add c (m - c) s (sub-disjoint c m h)

-- ---- sizes

pub ones-add : (a b : ℕ) → bit_and a b ≡ 0 → ones (a + b) ≡ ones a + ones b
unfolding ones
ones-add = bin_ind (λ (a : ℕ). (b : ℕ) → bit_and a b ≡ 0 → ones (a + b) ≡ ones a + ones b)
    (λ b e. ap ones (zero-add b) ∙ sym (zero-add (ones b))) step
  where
    step : (a : ℕ) → ((b : ℕ) → bit_and (a / 2) b ≡ 0 → ones (a / 2 + b) ≡ ones (a / 2) + ones b)
        → (b : ℕ) → bit_and a b ≡ 0 → ones (a + b) ≡ ones a + ones b
    step a ih b e =
        let d = and_step a b in
        let up : bit_and (a / 2) (b / 2) ≡ 0 = omega arith in
        let half : (a + b) / 2 ≡ a / 2 + b / 2 = omega arith in
        omega (arith, ones_step (a + b), ones_step a, ones_step b, ap ones half, ih (b / 2) up)

pub ones-sub : (c m : ℕ) → within c m ≡ true → ones (m - c) + ones c ≡ ones m
ones-sub c m h =
    let l = within-le c m h in
    let e : m ≡ c + (m - c) = omega arith in
    omega (arith, ones-add c (m - c) (sub-disjoint c m h), ap ones e)

pub ones-or : (a b : ℕ) → ones (bit_or a b) ≤ ones a + ones b
ones-or a b =
    let e : bit_or a b - a ≡ b - bit_and a b = omega (arith, or_add_and a b, and_le_r a b) in
    omega (arith, ap ones e, ones-sub a (bit_or a b) (within-or-l a b), ones-sub (bit_and a b) b (within-and-r a b))

pub ones-zero : (m : ℕ) → ones m ≡ 0 → m ≡ 0
ones-zero = bin_ind (λ (m : ℕ). ones m ≡ 0 → m ≡ 0) (λ e. refl) (λ m ih e. let s = ones_step m in let h = ih (omega arith) in omega arith)

pub zero-ones : (m : ℕ) → m ≤ 0 → ones m ≡ 0
unfolding ones
zero-ones zero h = refl
zero-ones (suc m) h = absurd (omega arith)

pub ones_pos : (m : ℕ) → 0 < m → 0 < ones m
ones_pos m p = go (eq-zero-or-pos (ones m))
  where
    go : (ones m ≡ 0) ⊎ (0 < ones m) → 0 < ones m
    go (inl e) = omega (arith, ones-zero m e)
    go (inr h) = h

pub ones-pow : (k : ℕ) → ones (2 ^ k) ≡ 1
unfolding ones
ones-pow k = ap ones (sym (add-zero (2 ^ k)) ∙ ap (λ (x : ℕ). x + 0) (sym (one-mul (2 ^ k)))) ∙ ones_cat k 1 0 (pow_pos k)

pub one-is-pow : (m : ℕ) → ones m ≡ 1 → (k : ℕ) × (m ≡ 2 ^ k)
unfolding ones
one-is-pow =
    bin_ind (λ (m : ℕ). ones m ≡ 1 → (k : ℕ) × (m ≡ 2 ^ k)) (λ e. absurd (omega arith)) (λ m ih e. go m ih e (eq-zero-or-pos (m % 2)))
  where
    go : (m : ℕ) → (ones (m / 2) ≡ 1 → (k : ℕ) × (m / 2 ≡ 2 ^ k)) → ones m ≡ 1 → (m % 2 ≡ 0) ⊎ (0 < m % 2) → (k : ℕ) × (m ≡ 2 ^ k)
    go m ih e (inl z) =
        let s = ones_step m in
        let t = ih (omega arith) in
        (suc t.0, omega (arith, pow-suc 2 t.0))
    go m ih e (inr p) =
        let s = ones_step m in
        (0, omega (arith, ones-zero (m / 2) (omega arith)))
