-- A statement of every element of a list, for any type of elements.
--   Every P l                              == P holds of every element
--   every_append, every-left, every-right  == of two lists together, and of each
use mathlib.Core.List.{List, [], ◌∷◌, ◌++◌}

module _ {A : Type 0} (P : A → Type 0) where
  abbrev pub Every : List A → Type 0
  Every [] = Unit
  Every (x ∷ l) = P x × Every l

  pub every_append : (s t : List A) → Every s → Every t → Every (s ++ t)
  every_append [] t h k = k
  every_append (x ∷ s) t h k = (h.0, every_append s t h.1 k)

  pub every-left : (s t : List A) → Every (s ++ t) → Every s
  every-left [] t h = tt
  every-left (x ∷ s) t h = (h.0, every-left s t h.1)

  pub every-right : (s t : List A) → Every (s ++ t) → Every t
  every-right [] t h = h
  every-right (x ∷ s) t h = every-right s t h.1
