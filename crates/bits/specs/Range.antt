-- Ranges of numbers as lists, and choices from a list.
--   from a k     == a, a + 1, .., k numbers in all
--   upto k       == 0, 1, .., k - 1
--   keep p l     == the elements of l that pass the test p, in their order
--   all p l      == every element passes
--   any p l      == some element passes
--   mem x l      == the number x stands in l
--   same l k     == two lists of numbers are equal
--   After a l    == each element is less than the one after it, and a less than the first
--   Ascending l  == each element is less than the one after it
--   Below k l    == every element is less than k
use Rattle.std.specs.Prelude.{Bool, true, false, ◌&&◌, ◌||◌, List, [], ◌∷◌, ℕ, zero, suc, ◌<◌, eqb}

unfoldable pub from : ℕ → ℕ → List ℕ
from a zero = []
from a (suc k) = a ∷ from (suc a) k

abbrev pub upto : ℕ → List ℕ
upto k = from 0 k

module _ {A : Type 0} (p : A → Bool) where
  unfoldable pub keep : List A → List A
  keep [] = []
  keep (x ∷ l) = elim (p x) [ true ↦ x ∷ keep l | false ↦ keep l ]

  unfoldable pub all : List A → Bool
  all [] = true
  all (x ∷ l) = p x && all l

  unfoldable pub any : List A → Bool
  any [] = false
  any (x ∷ l) = p x || any l

abbrev pub mem : ℕ → List ℕ → Bool
mem x l = any (eqb x) l

unfoldable pub same : List ℕ → List ℕ → Bool
same [] [] = true
same [] (y ∷ k) = false
same (x ∷ l) [] = false
same (x ∷ l) (y ∷ k) = eqb x y && same l k

abbrev pub After : ℕ → List ℕ → Type 0
After a [] = Unit
After a (x ∷ l) = (a < x) × After x l

abbrev pub Ascending : List ℕ → Type 0
Ascending [] = Unit
Ascending (x ∷ l) = After x l

abbrev pub Below : ℕ → List ℕ → Type 0
Below k [] = Unit
Below k (x ∷ l) = (x < k) × Below k l
