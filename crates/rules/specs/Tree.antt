-- Expressions as trees, one constructor a mark, with their value, their costs and the bytes that they are written as.
--   value t s       == the tree's value at the setting s
--   cost t          == `anf_expr_cost`
--   size t          == the number of records
--   depth t         == the longest way from the root to a leaf, in records
--   write t         == the postfix bytes
--   FlagsBelow n t  == every flag that the tree names is below n
--   mentioned t     == the mask of the flags that the tree names
use Rattle.std.specs.Prelude.{Bool, not, ◌&&◌, ◌||◌, List, [], ◌∷◌, ◌++◌, ℕ, ◌+◌, ◌-◌, ◌^◌, ◌<◌, max}
use Rattle.std.specs.Int.Bits.{bit_or}
use Rattle.bits.specs.Bit.{◌⊕◌, bit, digit}
use Rattle.rules.specs.Ascii.{ascii}

pub data Tree : Type 0 where
  CO : Bool → Tree
  VA : ℕ → Tree
  AN : Tree → Tree → Tree
  OR : Tree → Tree → Tree
  XO : Tree → Tree → Tree
  NO : Tree → Tree

-- "Its value at a setting is a bit: of CO its byte, of VA the setting's bit at its index, of AN, OR and XO the AND, OR and XOR of both
-- operands' values; NO turns 0 into 1 and 1 into 0."
unfoldable pub value : Tree → ℕ → Bool
value (CO b) s = b
value (VA i) s = bit s i
value (AN x y) s = value x s && value y s
value (OR x y) s = value x s || value y s
value (XO x y) s = value x s ⊕ value y s
value (NO x) s = not (value x s)

-- 1 where the tree is an OR
abbrev pub discount : Tree → ℕ
discount (CO b) = 0
discount (VA i) = 0
discount (AN x y) = 0
discount (OR x y) = 1
discount (XO x y) = 0
discount (NO x) = 0

-- "a leaf 1; NO 1 more than its operand; AN, XO and OR 1 more than both; an OR whose first operand is an OR is 1 less than that"
unfoldable pub cost : Tree → ℕ
cost (CO b) = 1
cost (VA i) = 1
cost (AN x y) = 1 + cost x + cost y
cost (OR x y) = 1 + cost x + cost y - discount x
cost (XO x y) = 1 + cost x + cost y
cost (NO x) = 1 + cost x

-- "size (all records)"
unfoldable pub size : Tree → ℕ
size (CO b) = 1
size (VA i) = 1
size (AN x y) = 1 + size x + size y
size (OR x y) = 1 + size x + size y
size (XO x y) = 1 + size x + size y
size (NO x) = 1 + size x

-- "depth (a leaf 1, an operator 1 more than its deepest operand)"
unfoldable pub depth : Tree → ℕ
depth (CO b) = 1
depth (VA i) = 1
depth (AN x y) = 1 + max (depth x) (depth y)
depth (OR x y) = 1 + max (depth x) (depth y)
depth (XO x y) = 1 + max (depth x) (depth y)
depth (NO x) = 1 + depth x

-- "writing each node's operands, first to last, and then the node"
unfoldable pub write : Tree → List ℕ
write (CO b) = ascii "CO" ++ digit b ∷ []
write (VA i) = ascii "VA" ++ i ∷ []
write (AN x y) = write x ++ write y ++ ascii "AN"
write (OR x y) = write x ++ write y ++ ascii "OR"
write (XO x y) = write x ++ write y ++ ascii "XO"
write (NO x) = write x ++ ascii "NO"

-- "index n or more" never stands in the tree
abbrev pub FlagsBelow : ℕ → Tree → Type 0
FlagsBelow n (CO b) = Unit
FlagsBelow n (VA i) = i < n
FlagsBelow n (AN x y) = FlagsBelow n x × FlagsBelow n y
FlagsBelow n (OR x y) = FlagsBelow n x × FlagsBelow n y
FlagsBelow n (XO x y) = FlagsBelow n x × FlagsBelow n y
FlagsBelow n (NO x) = FlagsBelow n x

-- every flag that stands in the tree, as a mask
unfoldable pub mentioned : Tree → ℕ
mentioned (CO b) = 0
mentioned (VA i) = 2 ^ i
mentioned (AN x y) = bit_or (mentioned x) (mentioned y)
mentioned (OR x y) = bit_or (mentioned x) (mentioned y)
mentioned (XO x y) = bit_or (mentioned x) (mentioned y)
mentioned (NO x) = mentioned x
