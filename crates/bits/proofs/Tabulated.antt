-- Lists with one entry for each number of a range. They rest on the laws of ranges (Range) and on lib.Seq.
--   length-map-upto, get_or-map-upto   == its length and its entries
--   map-upto-of                      == a list with these entries is this list
--   map-upto-ext                     == entries that agree
use mathlib.Core.List.{List, [], ◌∷◌, map}
use mathlib.Core.Path.{◌≡◌, refl, sym, ap, ◌∙◌}
use Prim.Native.Nat.{ℕ, zero, suc, ◌<◌}
use native.Mathlib.Omega.{arith}
use lib.ListN.{length, get_or, length-map}
use lib.Seq.{ext_get_or}
use Rattle.bits.specs.Range.{upto}
use Rattle.bits.proofs.Range.{length_from, get_or-upto}

get_or-map : (g : ℕ → ℕ) (l : List ℕ) (i : ℕ) → i < length l → get_or (map g l) i 0 ≡ g (get_or l i 0)
get_or-map g [] i h = absurd (omega arith)
get_or-map g (x ∷ l) zero h = refl
get_or-map g (x ∷ l) (suc i) h = get_or-map g l i (omega arith)

module _ (k : ℕ) (g : ℕ → ℕ) where
  pub length-map-upto : length (map g (upto k)) ≡ k
  length-map-upto = length-map (upto k) g ∙ length_from 0 k

  pub get_or-map-upto : (i : ℕ) → i < k → get_or (map g (upto k)) i 0 ≡ g i
  get_or-map-upto i h = get_or-map g (upto k) i (omega (arith, length_from 0 k)) ∙ ap g (get_or-upto k i 0 h)

pub map-upto-of : (k : ℕ) (g : ℕ → ℕ) (l : List ℕ) → length l ≡ k → ((i : ℕ) → i < k → get_or l i 0 ≡ g i) → l ≡ map g (upto k)
map-upto-of k g l e h =
    ext_get_or 0 l (map g (upto k)) (e ∙ sym (length-map-upto k g)) (λ i l. let s : i < k = omega arith in h i s ∙ sym (get_or-map-upto k g i s))

pub map-upto-ext : (k : ℕ) (f g : ℕ → ℕ) → ((i : ℕ) → i < k → f i ≡ g i) → map f (upto k) ≡ map g (upto k)
map-upto-ext k f g h = map-upto-of k g (map f (upto k)) (length-map-upto k f) (λ i l. get_or-map-upto k f i l ∙ h i l)
