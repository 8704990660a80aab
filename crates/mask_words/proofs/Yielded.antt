-- What the walk over a word's ones yields. It rests on the laws of words (bits, Word).
--   yielded-lt      == the first of the places is below 64
use mathlib.Core.List.{List, ◌∷◌}
use mathlib.Core.Path.{◌≡◌, subst}
use Prim.Native.Nat.{ℕ, ◌<◌}
use Rattle.bits.specs.Range.{Below}
use Rattle.bits.specs.Word.{places}
use Rattle.bits.proofs.Word.{below-places}

pub yielded-lt : (w x : ℕ) (l : List ℕ) → places 64 w ≡ x ∷ l → x < 64
yielded-lt w x l e = (subst (Below 64) e (below-places 64 w)).0
