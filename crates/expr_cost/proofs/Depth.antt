-- Laws of a record's depth: it is made of its operands' depths, and since a tree is no deeper than its records are many, it fits. They rest on the
-- definitions of rules' Tree and of walk's Walked.
--   depth-size         == a tree is no deeper than it has records
--   deepest k x y      == the depth of a record with k operands, from their depths, of which it uses as many as it has
--   deepest-two        == with more than one operand it is one more than the larger
--   deepened k x y     == the depth of a record of kind k, from its operands' depths
--   depth-folds        == a record's depth comes from its operands' depths, whatever the walk; no proof of a function needs it today
--   depth-applied      == a record's depth is made of its operands' depths
--   depth-told         == so where the number of operands is told
--   depth-limit        == and at most the record limit
use mathlib.Core.Path.{◌≡◌, refl, ap, ◌∙◌}
use Prim.Native.Nat.{ℕ, zero, suc, ◌+◌, ◌≤◌}
use native.Mathlib.Nat.{le_refl}
use native.Mathlib.Omega.{arith}
use lib.Dec.{lit≤}
use Rattle.std.specs.Prelude.{max}
use Rattle.rules.specs.Limits.{record_limit}
use Rattle.rules.specs.Record.{Kind, Constant, Flag, And, Or, Xor, Not, operand_count}
use Rattle.rules.specs.Tree.{Tree, CO, VA, AN, OR, XO, NO, size, depth}
use Rattle.reader.specs.Inner.{join}
use Rattle.reader.proofs.Folds.{Folds}
use Rattle.walk.specs.Walked.{Applied}

depth-size : (t : Tree) → depth t ≤ size t
unfolding depth size
depth-size (CO b) = le_refl 1
depth-size (VA i) = le_refl 1
depth-size (AN x y) = omega (arith, depth-size x, depth-size y)
depth-size (OR x y) = omega (arith, depth-size x, depth-size y)
depth-size (XO x y) = omega (arith, depth-size x, depth-size y)
depth-size (NO x) = omega (arith, depth-size x)

-- "a leaf 1, an operator 1 more than its deepest operand"
abbrev pub deepest : ℕ → ℕ → ℕ → ℕ
deepest zero x y = 1
deepest (suc zero) x y = x + 1
deepest (suc (suc k)) x y = max x y + 1

pub deepest-two : (k x y : ℕ) → 2 ≤ k → deepest k x y ≡ max x y + 1
deepest-two zero x y h = absurd (omega arith)
deepest-two (suc zero) x y h = absurd (omega arith)
deepest-two (suc (suc k)) x y h = refl

abbrev pub deepened : Kind → ℕ → ℕ → ℕ
deepened k x y = deepest (operand_count k) x y

pub depth-folds : Folds depth deepened
unfolding depth
depth-folds (Constant c) x y a b p q = refl
depth-folds (Flag i) x y a b p q = refl
depth-folds And x y a b p q = omega (arith, p (lit≤ tt), q (lit≤ tt))
depth-folds Or x y a b p q = omega (arith, p (lit≤ tt), q (lit≤ tt))
depth-folds Xor x y a b p q = omega (arith, p (lit≤ tt), q (lit≤ tt))
depth-folds Not x y a b p q = omega (arith, p (lit≤ tt))

module _ {n : ℕ} {a b : ℕ} {x y : Tree} where
  pub depth-applied : (k : Kind) → Applied depth n k a b x y → deepest (operand_count k) a b ≡ depth (join k x y)
  unfolding depth
  depth-applied (Constant c) p = refl
  depth-applied (Flag i) p = refl
  depth-applied And p = omega (arith, p.first (lit≤ tt), p.second (lit≤ tt))
  depth-applied Or p = omega (arith, p.first (lit≤ tt), p.second (lit≤ tt))
  depth-applied Xor p = omega (arith, p.first (lit≤ tt), p.second (lit≤ tt))
  depth-applied Not p = omega (arith, p.first (lit≤ tt))

  module _ (k : Kind) {c : ℕ} (e : c ≡ operand_count k) (p : Applied depth n k a b x y) where
    pub depth-told : deepest c a b ≡ depth (join k x y)
    depth-told = ap (λ (c : ℕ). deepest c a b) e ∙ depth-applied k p

    pub depth-limit : deepest c a b ≤ record_limit
    depth-limit = omega (arith, depth-told, depth-size (join k x y), p.few)
