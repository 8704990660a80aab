-- A mask is told by its number, and so is one with a flag.
--   same-mask, same-monomial   == masks of the same number are the same
use mathlib.Core.Path.{◌≡◌, ap, subst}
use Prim.Native.Nat.{ℕ, ◌<◌}
use native.Mathlib.Bridge.{le_prop}
use Rattle.mask_words.specs.Lookup.{mask_count}
use Rattle.mask_words.specs.declared.mask.Mask.{Mask}
use Rattle.mask_words.specs.declared.mask.Monomial.{Monomial}

numbered : (a b : ℕ) (x : a < mask_count) (y : b < mask_count) → a ≡ b
    → ◌≡◌ {A = Mask} (record { bits = a; within = x }) (record { bits = b; within = y })
numbered a b x y e =
    subst (λ (k : ℕ). (z : k < mask_count) → ◌≡◌ {A = Mask} (record { bits = a; within = x }) (record { bits = k; within = z })) e
    (λ z. ap (λ (w : a < mask_count). record { bits = a; within = w }) (le_prop x z)) y

pub same-mask : (a b : Mask) → a.bits ≡ b.bits → a ≡ b
same-mask a b e = numbered a.bits b.bits a.within b.within e

flagged : (a b : Mask) (x : 0 < a.bits) (y : 0 < b.bits) → a ≡ b
    → ◌≡◌ {A = Monomial} (record { mask = a; some = x }) (record { mask = b; some = y })
flagged a b x y e =
    subst (λ (k : Mask). (z : 0 < k.bits) → ◌≡◌ {A = Monomial} (record { mask = a; some = x }) (record { mask = k; some = z })) e
    (λ z. ap (λ (w : 0 < a.bits). record { mask = a; some = w }) (le_prop x z)) y

pub same-monomial : (a b : Monomial) → a.mask.bits ≡ b.mask.bits → a ≡ b
same-monomial a b e = flagged a.mask b.mask a.some b.some (same-mask a.mask b.mask e)
