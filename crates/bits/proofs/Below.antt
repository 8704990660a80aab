-- A bounded list, entry by entry: the bound holds of `get_or` at every index, past the end too, where the default is below it, and of the list's
-- parts. It rests on the definition of `Below`.
--   below-get_or, get_or-below   == from the list's bound to its entries', and back
--   below-take, below-drop   == of a list's front and of what is behind it
use mathlib.Core.List.{List, [], ◌∷◌}
use Prim.Native.Nat.{ℕ, zero, suc, ◌<◌}
use lib.ListN.{get_or, take, drop}
use Rattle.bits.specs.Range.{Below}

module _ (k : ℕ) where
  pub below-get_or : (l : List ℕ) (d : ℕ) → d < k → Below k l → (i : ℕ) → get_or l i d < k
  below-get_or [] d h b i = h
  below-get_or (x ∷ l) d h b zero = b.0
  below-get_or (x ∷ l) d h b (suc i) = below-get_or l d h b.1 i

  pub get_or-below : (l : List ℕ) (d : ℕ) → ((i : ℕ) → get_or l i d < k) → Below k l
  get_or-below [] d h = tt
  get_or-below (x ∷ l) d h = (h 0, get_or-below l d (λ i. h (suc i)))

  pub below-take : (i : ℕ) (l : List ℕ) → Below k l → Below k (take i l)
  below-take zero l b = tt
  below-take (suc i) [] b = tt
  below-take (suc i) (x ∷ l) b = (b.0, below-take i l b.1)

  pub below-drop : (i : ℕ) (l : List ℕ) → Below k l → Below k (drop i l)
  below-drop zero l b = b
  below-drop (suc i) [] b = tt
  below-drop (suc i) (x ∷ l) b = below-drop i l b.1
