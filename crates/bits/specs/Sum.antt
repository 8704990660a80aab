-- Sums over a list, for any operation: one notion for numbers and for parities.
--   sum op e f l  == f x op (f y op .. e) over the elements x, y, .. of l
--   total f l     == the sum of numbers
--   parity f l    == the exclusive or of truth values: whether f holds at an odd number of elements
--   union l       == the mask of all bits that are set in some element of l
use Rattle.std.specs.Prelude.{Bool, false, List, [], ◌∷◌, ℕ, ◌+◌}
use Rattle.std.specs.Int.Bits.{bit_or}
use Rattle.bits.specs.Bit.{◌⊕◌}

module _ {A B : Type 0} (op : B → B → B) (e : B) (f : A → B) where
  unfoldable pub sum : List A → B
  sum [] = e
  sum (x ∷ l) = op (f x) (sum l)

abbrev pub total : {A : Type 0} → (A → ℕ) → List A → ℕ
total f l = sum ◌+◌ 0 f l

abbrev pub parity : {A : Type 0} → (A → Bool) → List A → Bool
parity f l = sum ◌⊕◌ false f l

abbrev pub union : List ℕ → ℕ
union l = sum bit_or 0 (λ m. m) l
