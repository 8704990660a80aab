-- The exclusive or over subsets: how a coefficient of n + 1 flags splits along the highest flag, and that taking coefficients twice gives the
-- function back. It rests on the laws of sums (bits, Sum) and of masks (bits, Mask).
--   coefficient-parity                                  == a coefficient as a sum over all settings
--   coefficient-zero, coefficient-low, coefficient-high == no flag; a mask without the highest flag; a mask with it
--   coefficient-lower                                   == the coefficients of fewer flags are among those of more
--   coefficient-ext, coefficient-xor                    == functions that agree; the exclusive or of two functions
--   coefficient-twice                                   == the coefficients of the coefficients are the function
use mathlib.Core.Bool.{Bool, true, false, ◌&&◌}
use mathlib.Core.List.{List, map}
use mathlib.Core.Path.{◌≡◌, refl, sym, ap, ap₂, ◌∙◌}
use mathlib.Mathlib.Data.Bool.Basic.{eq-false_of_not-eq-true}
use Prim.Native.Nat.{ℕ, zero, suc, ◌+◌, ◌-◌, ◌*◌, ◌^◌, ◌≤◌, ◌<◌}
use native.Mathlib.Nat.{two-pow-succ, lt_of_lt_of_le, zero-add, suc-add, sub-add_cancel}
use native.Mathlib.Omega.{arith}
use lib.Dec.{ltb}
use lib.Pow.{pow_mono}
use borrow.Author.Tests.{ltb-true, ltb-false}
use Rattle.bits.specs.Bit.{◌⊕◌, within}
use Rattle.bits.specs.Range.{from, upto, keep}
use Rattle.bits.specs.Sum.{sum, parity}
use Rattle.bits.proofs.Truth.{xor-false, xor-cancel}
use Rattle.bits.proofs.Range.{upto_add, mem-upto}
use Rattle.bits.proofs.Mask.{within-le, within-zero, within-refl, within_block}
use Rattle.bits.proofs.Sum.{xor-laws, sum-map, sum-ext-mem, sum-op, sum-unit, sum-append, parity-keep}
use Rattle.rules.specs.Coefficient.{coefficient}

pub coefficient-parity : (n : ℕ) (f : ℕ → Bool) (m : ℕ) → coefficient n f m ≡ parity (λ s. within s m && f s) (upto (2 ^ n))
unfolding coefficient
coefficient-parity n f m = parity-keep f (λ s. within s m) (upto (2 ^ n))

parity-upto : (k : ℕ) (f g : ℕ → Bool) → ((s : ℕ) → s < k → f s ≡ g s) → parity f (upto k) ≡ parity g (upto k)
parity-upto k f g h = sum-ext-mem ◌⊕◌ false f g (upto k) (λ s e. h s (ltb-true s k (sym (mem-upto k s) ∙ e)))

-- the sum of f's values at the settings that pass p
abbrev chosen : ℕ → (ℕ → Bool) → (ℕ → Bool) → Bool
chosen n p f = parity (λ s. p s && f s) (upto (2 ^ n))

chosen-ext : (n : ℕ) (p q f : ℕ → Bool) → ((s : ℕ) → s < 2 ^ n → p s ≡ q s) → chosen n p f ≡ chosen n q f
chosen-ext n p q f h = parity-upto (2 ^ n) (λ s. p s && f s) (λ s. q s && f s) (λ s l. ap (λ (b : Bool). b && f s) (h s l))

chosen_none : (n : ℕ) (p f : ℕ → Bool) → ((s : ℕ) → p s ≡ false) → chosen n p f ≡ false
chosen_none n p f h = chosen-ext n p (λ s. false) f (λ s l. h s) ∙ sum-unit xor-laws (upto (2 ^ n))

pub coefficient-zero : (f : ℕ → Bool) (m : ℕ) → coefficient 0 f m ≡ f 0
unfolding from sum
coefficient-zero f m = coefficient-parity 0 f m ∙ xor-false (within 0 m && f 0) ∙ ap (λ (b : Bool). b && f 0) (within-zero m)

-- the settings without the highest flag, and those with it
split : (n : ℕ) (f : ℕ → Bool) (m : ℕ)
    → coefficient (suc n) f m ≡ chosen n (λ s. within s m) f ⊕ chosen n (λ s. within (2 ^ n + s) m) (λ s. f (2 ^ n + s))
split n f m =
    let g : ℕ → Bool = λ s. within s m && f s in
    coefficient-parity (suc n) f m
    ∙ ap (λ (l : List ℕ). parity g l) (ap upto (two-pow-succ n) ∙ upto_add (2 ^ n) (2 ^ n))
    ∙ sum-append xor-laws g (upto (2 ^ n)) (map (λ s. 2 ^ n + s) (upto (2 ^ n)))
    ∙ ap (λ (b : Bool). parity g (upto (2 ^ n)) ⊕ b) (sum-map ◌⊕◌ false g (λ s. 2 ^ n + s) (upto (2 ^ n)))

pub coefficient-low : (n : ℕ) (f : ℕ → Bool) (m : ℕ) → m < 2 ^ n → coefficient (suc n) f m ≡ coefficient n f m
coefficient-low n f m h =
    split n f m
    ∙ ap₂ ◌⊕◌ (sym (coefficient-parity n f m)) (chosen_none n (λ s. within (2 ^ n + s) m) (λ s. f (2 ^ n + s)) out)
    ∙ xor-false (coefficient n f m)
  where
    out : (s : ℕ) → within (2 ^ n + s) m ≡ false
    out s = eq-false_of_not-eq-true (λ e. let l = within-le (2 ^ n + s) m e in omega arith)

pub coefficient-lower : (n k : ℕ) (f : ℕ → Bool) (m : ℕ) → n ≤ k → m < 2 ^ n → coefficient k f m ≡ coefficient n f m
coefficient-lower n k f m l h = rw (← sub-add_cancel l) (go (k - n))
  where
    go : (j : ℕ) → coefficient (j + n) f m ≡ coefficient n f m
    go zero = rw zero-add
    go (suc j) = rw suc-add (coefficient-low (j + n) f m (lt_of_lt_of_le h (pow_mono (omega arith))) ∙ go j)

pub coefficient-high : (n : ℕ) (f : ℕ → Bool) (m : ℕ) → m < 2 ^ n
    → coefficient (suc n) f (2 ^ n + m) ≡ coefficient n f m ⊕ coefficient n (λ s. f (2 ^ n + s)) m
coefficient-high n f m h =
    split n f (2 ^ n + m)
    ∙ ap₂ ◌⊕◌ (chosen-ext n (λ s. within s (2 ^ n + m)) (λ s. within s m) f low ∙ sym (coefficient-parity n f m))
    (chosen-ext n (λ s. within (2 ^ n + s) (2 ^ n + m)) (λ s. within s m) (λ s. f (2 ^ n + s)) high
    ∙ sym (coefficient-parity n (λ s. f (2 ^ n + s)) m))
  where
    above : (s : ℕ) → 2 ^ n + s ≡ 1 * 2 ^ n + s
    above s = omega arith

    low : (s : ℕ) → s < 2 ^ n → within s (2 ^ n + m) ≡ within s m
    low s l =
        let e : s ≡ 0 * 2 ^ n + s = omega arith in
        ap₂ within e (above m) ∙ within_block n 0 1 s m l h ∙ ap (λ (b : Bool). b && within s m) (within-zero 1)

    high : (s : ℕ) → s < 2 ^ n → within (2 ^ n + s) (2 ^ n + m) ≡ within s m
    high s l = ap₂ within (above s) (above m) ∙ within_block n 1 1 s m l h ∙ ap (λ (b : Bool). b && within s m) (within-refl 1)

pub coefficient-ext : (n : ℕ) (f g : ℕ → Bool) (m : ℕ) → ((s : ℕ) → s < 2 ^ n → f s ≡ g s) → coefficient n f m ≡ coefficient n g m
coefficient-ext n f g m h =
    coefficient-parity n f m
    ∙ parity-upto (2 ^ n) (λ s. within s m && f s) (λ s. within s m && g s) (λ s l. ap (λ (b : Bool). within s m && b) (h s l))
    ∙ sym (coefficient-parity n g m)

pub coefficient-xor : (n : ℕ) (f g : ℕ → Bool) (m : ℕ) → coefficient n (λ s. f s ⊕ g s) m ≡ coefficient n f m ⊕ coefficient n g m
unfolding coefficient
coefficient-xor n f g m = sum-op xor-laws f g (keep (λ s. within s m) (upto (2 ^ n)))

pub coefficient-twice : (n : ℕ) (f : ℕ → Bool) (m : ℕ) → m < 2 ^ n → coefficient n (coefficient n f) m ≡ f m
coefficient-twice zero f m h = coefficient-zero (coefficient 0 f) m ∙ coefficient-zero f 0 ∙ ap f (omega arith)
coefficient-twice (suc n) f m h = go (coefficient-twice n f) (coefficient-twice n (λ s. f (2 ^ n + s))) (ltb m (2 ^ n)) refl
  where
    -- the coefficients of the coefficients, at a mask without the highest flag
    low : (r : ℕ) → coefficient n (coefficient (suc n) f) r ≡ coefficient n (coefficient n f) r
    low r = coefficient-ext n (coefficient (suc n) f) (coefficient n f) r (coefficient-low n f)

    go : ((r : ℕ) → r < 2 ^ n → coefficient n (coefficient n f) r ≡ f r)
        → ((r : ℕ) → r < 2 ^ n → coefficient n (coefficient n (λ s. f (2 ^ n + s))) r ≡ f (2 ^ n + r))
        → (b : Bool) → ltb m (2 ^ n) ≡ b → coefficient (suc n) (coefficient (suc n) f) m ≡ f m
    go here there true e = let l = ltb-true m (2 ^ n) e in coefficient-low n (coefficient (suc n) f) m l ∙ low m ∙ here m l
    go here there false e =
        let g : ℕ → Bool = λ s. f (2 ^ n + s) in
        let r = m - 2 ^ n in
        let k = ltb-false m (2 ^ n) e in
        let up : m ≡ 2 ^ n + r = omega arith in
        let l : r < 2 ^ n = omega (arith, two-pow-succ n) in
        ap (coefficient (suc n) (coefficient (suc n) f)) up
        ∙ coefficient-high n (coefficient (suc n) f) r l
        ∙ ap₂ ◌⊕◌ (low r ∙ here r l)
        (coefficient-ext n (λ s. coefficient (suc n) f (2 ^ n + s)) (λ s. coefficient n f s ⊕ coefficient n g s) r (coefficient-high n f)
        ∙ coefficient-xor n (coefficient n f) (coefficient n g) r ∙ ap₂ ◌⊕◌ (here r l) (there r l))
        ∙ xor-cancel (f r) (g r) ∙ ap f (sym up)
