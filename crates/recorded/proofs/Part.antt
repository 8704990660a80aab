-- The front of a list and the rest, as they are lent. It rests on lib.ListN, lib.Seq and lists over a range (bits, Tabulated).
--   part-repeated, rest-repeated   == of n equal entries
--   part-tabulated                 == of n entries that are given by their place
use mathlib.Core.List.{List, map}
use mathlib.Core.Path.{◌≡◌, ap, ◌∙◌}
use Prim.Native.Nat.{ℕ, ◌-◌, ◌≤◌}
use native.Mathlib.Omega.{arith}
use Rattle.std.proofs.lemmas.List.{take-replicate, drop-replicate}
use lib.ListN.{take, drop, replicate, length-take}
use lib.Seq.{get_or-take}
use Rattle.bits.specs.Range.{upto}
use Rattle.bits.proofs.Tabulated.{length-map-upto, get_or-map-upto, map-upto-of}

module _ {n k : ℕ} (h : k ≤ n) where
  module _ (x : ℕ) {l : List ℕ} (e : l ≡ replicate n x) where
    pub part-repeated : take k l ≡ replicate k x
    part-repeated = ap (take k) e ∙ take-replicate k n x h

    pub rest-repeated : drop k l ≡ replicate (n - k) x
    rest-repeated = ap (drop k) e ∙ drop-replicate k n x

  pub part-tabulated : (g : ℕ → ℕ) {l : List ℕ} → l ≡ map g (upto n) → take k l ≡ map g (upto k)
  part-tabulated g {l} e =
      ap (take k) e
      ∙ map-upto-of k g (take k (map g (upto n))) (length-take k (map g (upto n)) ∙ omega (arith, length-map-upto n g))
      (λ i j. get_or-take k (map g (upto n)) i 0 j ∙ get_or-map-upto n g i (omega arith))
