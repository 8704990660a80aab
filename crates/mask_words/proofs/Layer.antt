-- The masks below 64 that have d ones, as a word. The seven constants are right by one computed test over the 64 masks of each. It rests on the laws
-- of words (bits, Word).
--   layers, layer_row, layer-none    == the constant words, by degree; there is no mask of another degree
--   layer-looked                     == a layer by the answer of a look-up in the constant words, which is there for a degree
--   bit-layer                        == the bits of a layer
use mathlib.Core.Bool.{true, not}
use mathlib.Core.List.{List, [], ◌∷◌}
use mathlib.Core.Path.{◌≡◌, refl, sym, ap, ◌∙◌}
use Prim.Native.Nat.{ℕ, ◌≤◌, ◌<◌}
use native.Mathlib.Omega.{arith}
use lib.Count.{ones, ones-le}
use lib.Dec.{eqb, ltb}
use lib.ListN.{get_or}
use borrow.Author.Tests.{eqb-true, lt-ltb, ltb-true, ltb-false, ne_eqb}
use Rattle.std.specs.Prelude.{Option, Some, None}
use Rattle.std.specs.Option.{is_some, unwrap_or, option_copied, IfSome}
use Rattle.std.proofs.Common.{Bor}
use Rattle.std.proofs.lemmas.Grind.{get_or_default_zero}
use Rattle.bits.specs.Bit.{bit}
use Rattle.bits.specs.Range.{from, upto, keep, all, mem}
use Rattle.bits.specs.Sum.{sum}
use Rattle.bits.specs.Word.{word}
use Rattle.bits.proofs.Range.{keep-none, mem-all, all-mem, mem-upto}
use Rattle.bits.proofs.Word.{bit-word-keep}
use Rattle.mask_words.specs.inner.Degree.{layer}

abbrev pub layers : List ℕ
layers =
    0x0000_0000_0000_0001 ∷ 0x0000_0001_0001_0116 ∷ 0x0001_0116_0116_1668 ∷ 0x0116_1668_1668_6880 ∷ 0x1668_6880_6880_8000 ∷ 0x6880_8000_8000_0000
    ∷ 0x8000_0000_0000_0000 ∷ []

layers-right : all (λ d. eqb (get_or layers d 0) (layer d)) (upto 7) ≡ true
unfolding all keep from sum word layer ones
layers-right = refl

pub layer_row : (d : ℕ) → d < 7 → get_or layers d 0 ≡ layer d
layer_row d h =
    eqb-true (get_or layers d 0) (layer d) (all-mem (λ d. eqb (get_or layers d 0) (layer d)) (upto 7) d layers-right (mem-upto 7 d ∙ lt-ltb d 7 h))

small : (m : ℕ) → mem m (upto 64) ≡ true → m < 64
small m h = ltb-true m 64 (sym (mem-upto 64 m) ∙ h)

pub layer-none : (d : ℕ) → 7 ≤ d → layer d ≡ 0
unfolding layer word sum
layer-none d h =
    ap word
    (keep-none (λ m. eqb (ones m) d) (upto 64)
    (mem-all _ (upto 64) (λ m k. ap not (ne_eqb (ones m) d (λ e. omega (arith, ones-le 6 m (small m k)))))))

pub layer-looked : (d : ℕ) (o : Option (Bor ℕ)) → is_some o ≡ ltb d 7 → IfSome o (λ x. x.now ≡ get_or layers d x.now)
    → unwrap_or (option_copied o) 0 ≡ layer d
layer-looked d None e h = sym (layer-none d (ltb-false d 7 (sym e)))
layer-looked d (Some x) e h = let k = ltb-true d 7 (sym e) in h ∙ get_or_default_zero layers d x.now k ∙ layer_row d k

pub bit-layer : (d m : ℕ) → m < 64 → bit (layer d) m ≡ eqb (ones m) d
unfolding layer
bit-layer d m h = bit-word-keep 64 (λ j. eqb (ones j) d) m h
