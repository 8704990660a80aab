-- The terms of a form in one word, degree by degree: those of degree d are the word cut by the layer of d, and the degrees 0 to 6 are all. It rests
-- on the layers and on the order by degrees (mask_words, Layer and Degrees) and on the laws of places (bits, Word and Places).
--   level                     == the masks of one degree
--   levels-none, levels-suc   == no degree, and one degree more
--   levels-fit                == the terms of one degree more are no more than all
--   levels-all                == seven degrees are all
use mathlib.Core.List.{List, [], ◌++◌, map, map-id}
use mathlib.Core.Path.{◌≡◌, refl, sym, ap, ◌∙◌, fun_ext}
use Prim.Native.Nat.{ℕ, ◌+◌, ◌≤◌}
use native.Mathlib.Nat.{zero-add}
use native.Mathlib.Numerals.{add-one}
use native.Mathlib.Omega.{arith}
use lib.Bits.{bit_and}
use lib.Count.{ones, ones-le}
use lib.Dec.{eqb}
use lib.ListN.{length}
use Rattle.bits.specs.Bit.{bit}
use Rattle.bits.specs.Word.{places}
use Rattle.bits.proofs.Places.{places-and}
use Rattle.bits.proofs.Range.{keep-ext}
use Rattle.bits.proofs.Word.{ascending-places, places-lt}
use Rattle.rules.specs.Monomial.{ordered}
use Rattle.mask_words.proofs.Degrees.{degrees, degrees-le, ordered-degrees}
use Rattle.laws.proofs.form.Ordered.{length-ordered}
use Rattle.mask_words.specs.inner.Degree.{of_degree, layer}
use Rattle.mask_words.proofs.Layer.{bit-layer}

module _ (w : ℕ) where
  pub levels-none : degrees (places 64 w) 0 ≡ []
  unfolding degrees
  levels-none = refl

  pub level : (d : ℕ) → places 64 (bit_and w (layer d)) ≡ of_degree d (places 64 w)
  level d =
      places-and 64 w (layer d) ∙ keep-ext (bit (layer d)) (λ m. eqb (ones m) d) (places 64 w) (λ m h. bit-layer d m (places-lt 64 w m h))

  pub levels-suc : (d : ℕ) → degrees (places 64 w) (d + 1) ≡ degrees (places 64 w) d ++ map (λ m. 0 + m) (of_degree d (places 64 w))
  unfolding degrees
  levels-suc d =
      let l = of_degree d (places 64 w) in
      ap (degrees (places 64 w)) (add-one d)
      ∙ ap (λ (k : List ℕ). degrees (places 64 w) d ++ k) (sym (ap (λ (f : ℕ → ℕ). map f l) (fun_ext zero-add) ∙ map-id l))

  pub levels-all : degrees (places 64 w) 7 ≡ ordered (places 64 w)
  levels-all = ordered-degrees (places 64 w) (ascending-places 64 w) 7 (λ m h. omega (arith, ones-le 6 m (places-lt 64 w m h)))

  pub levels-fit : (d : ℕ) → d ≤ 7 → length (degrees (places 64 w) d) ≤ length (places 64 w)
  levels-fit d h = omega (arith, degrees-le (places 64 w) d 7 h, ap length levels-all, length-ordered (places 64 w))
