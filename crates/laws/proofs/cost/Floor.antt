-- A floor for the cost of a tree that names k flags: 1 up to one flag, else k + 1, which is what their OR chain costs. No tree costs less, so neither
-- does the cleaned form of a form in which k flags occur. It rests on the flags that a tree names (Mentioned),
-- on the costs of OR chains (Cost) and on the sizes of masks (bits, Mask).
--   floor k, floor-or_chain           == the floor of k flags; it is the cost of their OR chain
--   floor-le, floor-ge, floor-double == it is k or one more, and for a flag or more below twice k
--   cost-floor                       == a tree costs at least the floor of the flags that it names
--   floor-cleanup                    == so does the cleaned form, of the flags that occur
use mathlib.Core.List.{List}
use mathlib.Core.Path.{◌≡◌, refl, sym, subst}
use Prim.Native.Nat.{ℕ, zero, suc, ◌+◌, ◌*◌, ◌≤◌}
use native.Mathlib.Nat.{le_refl, le_trans}
use native.Mathlib.Omega.{arith}
use lib.Count.{ones}
use Rattle.bits.specs.Range.{Ascending}
use Rattle.bits.specs.Sum.{union}
use Rattle.bits.proofs.Mask.{ones-or, ones-pow}
use Rattle.rules.specs.Cleanup.{cleanup}
use Rattle.rules.specs.Form.{or_chain}
use Rattle.rules.specs.Tree.{Tree, CO, VA, AN, OR, XO, NO, cost, discount, mentioned}
use Rattle.laws.proofs.cost.Cost.{cost-or_chain, cost-or_chain-few}
use Rattle.laws.proofs.cost.Mentioned.{mentioned-cleanup}

unfoldable pub floor : ℕ → ℕ
floor zero = 1
floor (suc zero) = 1
floor (suc (suc k)) = suc (suc (suc k))

pub floor-le : (k : ℕ) → floor k ≤ suc k
unfolding floor
floor-le zero = le_refl 1
floor-le (suc zero) = omega arith
floor-le (suc (suc k)) = le_refl (suc (suc (suc k)))

pub floor-ge : (k : ℕ) → k ≤ floor k
unfolding floor
floor-ge zero = omega arith
floor-ge (suc zero) = le_refl 1
floor-ge (suc (suc k)) = omega arith

pub floor-double : (k : ℕ) → 1 ≤ k → floor k + 1 ≤ 2 * k
unfolding floor
floor-double zero h = absurd (omega arith)
floor-double (suc zero) h = omega arith
floor-double (suc (suc k)) h = omega arith

pub floor-or_chain : (m : ℕ) → floor (ones m) ≡ cost (or_chain m)
unfolding floor
floor-or_chain m = go (ones m) refl
  where
    go : (k : ℕ) → ones m ≡ k → floor k ≡ cost (or_chain m)
    go zero e = sym (cost-or_chain-few m (omega arith))
    go (suc zero) e = sym (cost-or_chain-few m (omega arith))
    go (suc (suc k)) e = omega (arith, cost-or_chain m (omega arith))

-- one flag costs 1 and joining costs 1; an OR has room for the discount that it gives
named : (t : Tree) → ones (mentioned t) + discount t ≤ cost t
unfolding mentioned cost ones
named (CO b) = omega arith
named (VA i) = omega (arith, ones-pow i)
named (AN x y) = omega (arith, ones-or (mentioned x) (mentioned y), named x, named y)
named (OR x y) = omega (arith, ones-or (mentioned x) (mentioned y), named x, named y)
named (XO x y) = omega (arith, ones-or (mentioned x) (mentioned y), named x, named y)
named (NO x) = omega (arith, named x)

pub cost-floor : (t : Tree) → floor (ones (mentioned t)) ≤ cost t
unfolding mentioned cost ones floor
cost-floor (CO b) = le_refl 1
cost-floor (VA i) = rw ones-pow (le_refl 1)
cost-floor (AN x y) = le_trans (floor-le (ones (mentioned (AN x y)))) (omega (arith, ones-or (mentioned x) (mentioned y), named x, named y))
cost-floor (OR x y) = le_trans (floor-le (ones (mentioned (OR x y)))) (omega (arith, ones-or (mentioned x) (mentioned y), named x, named y))
cost-floor (XO x y) = le_trans (floor-le (ones (mentioned (XO x y)))) (omega (arith, ones-or (mentioned x) (mentioned y), named x, named y))
cost-floor (NO x) = le_trans (floor-le (ones (mentioned x))) (omega (arith, named x))

pub floor-cleanup : (l : List ℕ) → Ascending l → floor (ones (union l)) ≤ cost (cleanup l)
floor-cleanup l a = subst (λ (m : ℕ). floor (ones m) ≤ cost (cleanup l)) (mentioned-cleanup l a) (cost-floor (cleanup l))
