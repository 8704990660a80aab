-- The masks of a form ascend and are masks of six flags. It rests on words as sets of places (bits, Word) and
-- on the monomials of a form (laws, Covered).
--   ascending-masks, below-masks     == they ascend, and each is below the count of masks
--   few-masks                        == so they are no more than that
--   pair-bounds                      == two monomials ascend, and are masks above 0
use mathlib.Core.List.{[], ◌∷◌}
use mathlib.Core.Path.{◌≡◌, subst}
use Prim.Native.Nat.{ℕ, ◌≤◌, ◌<◌}
use native.Mathlib.Omega.{arith}
use lib.Dec.{ltb}
use lib.ListN.{length}
use Rattle.bits.specs.Bit.{bit}
use Rattle.bits.specs.Range.{upto, Ascending, Below}
use Rattle.bits.specs.Word.{places}
use Rattle.bits.proofs.Range.{length_from, length-keep}
use Rattle.bits.proofs.Word.{ascending-places, below-places}
use Rattle.bits.proofs.Ascending.{below-keep}
use Rattle.rules.specs.Monomial.{monomials}
use Rattle.laws.proofs.form.Covered.{pair-order}
use Rattle.mask_words.specs.Lookup.{mask_count}
use Rattle.form.specs.Masks.{masks}
use Rattle.form.specs.declared.Form.{Form}

module _ (f : Form) where
  pub ascending-masks : Ascending (masks f)
  ascending-masks = ascending-places 64 f.word

  pub below-masks : Below mask_count (masks f)
  below-masks = below-places 64 f.word

  pub few-masks : length (masks f) ≤ mask_count
  unfolding places
  few-masks = omega (arith, length-keep (bit f.word) (upto 64), length_from 0 64)

  pub pair-bounds : (m o : ℕ) → monomials (masks f) ≡ m ∷ o ∷ [] → (0 < m) × (m < o) × (o < mask_count)
  pair-bounds m o e =
      let l = masks f in
      let (first, up) = pair-order l ascending-masks m o e in
      let low : Below mask_count (m ∷ o ∷ []) = subst (Below mask_count) e (below-keep mask_count (ltb 0) l below-masks) in
      (first, up, low.1.0)
