-- Cost and size of a tree differ by what the discount saves: one for each OR whose first operand is an OR. It rests on the definitions of rules'
-- Tree.
--   is_or t          == the tree is an OR
--   saved t         == how many ORs in t have an OR for their first operand
--   discount-digit  == the discount is 1 exactly for an OR
--   cost-saved      == cost t + saved t ≡ size t
use mathlib.Core.Bool.{Bool, true, false}
use mathlib.Core.Path.{◌≡◌, refl}
use Prim.Native.Nat.{ℕ, ◌+◌}
use native.Mathlib.Omega.{arith}
use Rattle.bits.specs.Bit.{digit}
use Rattle.bits.proofs.Bit.{digit-le}
use Rattle.rules.specs.Tree.{Tree, CO, VA, AN, OR, XO, NO, cost, size, discount}

abbrev pub is_or : Tree → Bool
is_or (CO b) = false
is_or (VA i) = false
is_or (AN x y) = false
is_or (OR x y) = true
is_or (XO x y) = false
is_or (NO x) = false

unfoldable pub saved : Tree → ℕ
saved (CO b) = 0
saved (VA i) = 0
saved (AN x y) = saved x + saved y
saved (OR x y) = digit (is_or x) + saved x + saved y
saved (XO x y) = saved x + saved y
saved (NO x) = saved x

pub discount-digit : (t : Tree) → discount t ≡ digit (is_or t)
discount-digit (CO b) = refl
discount-digit (VA i) = refl
discount-digit (AN x y) = refl
discount-digit (OR x y) = refl
discount-digit (XO x y) = refl
discount-digit (NO x) = refl

pub cost-saved : (t : Tree) → cost t + saved t ≡ size t
unfolding cost size saved
cost-saved (CO b) = refl
cost-saved (VA i) = refl
cost-saved (AN x y) = omega (arith, cost-saved x, cost-saved y)
cost-saved (OR x y) = omega (arith, cost-saved x, cost-saved y, discount-digit x, digit-le (is_or x))
cost-saved (XO x y) = omega (arith, cost-saved x, cost-saved y)
cost-saved (NO x) = omega (arith, cost-saved x)
