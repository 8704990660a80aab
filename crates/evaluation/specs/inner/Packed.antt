-- Evaluation's stack of truth values as one number.
--   packed at os     == the values of the stack's trees at a setting as the bits of a number, the topmost lowest, under a leading one
use Rattle.std.specs.Prelude.{List, [], ◌∷◌, ℕ, ◌+◌, ◌*◌}
use Rattle.bits.specs.Bit.{digit}
use Rattle.rules.specs.Machine.{Operand}
use Rattle.rules.specs.Tree.{value}

unfoldable pub packed : ℕ → List Operand → ℕ
packed at [] = 1
packed at (o ∷ os) = 2 * packed at os + digit (value o.tree at)
