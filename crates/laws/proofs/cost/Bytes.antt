-- How many bytes a tree is written as. A leaf is written in three bytes and an operator in two, and there is
-- at most one leaf more than there are operators. It rests on the laws of lists of the library.
--   length-write     == 2 * length (write t) ≤ 5 * size t + 1
--   byte-limit       == a tree of at most 385 records is written in at most 963 bytes
use Prim.Native.Nat.{◌+◌, ◌*◌, ◌≤◌}
use native.Mathlib.Omega.{arith}
use lib.ListN.{length, length-append}
use Rattle.rules.specs.Ascii.{ascii}
use Rattle.rules.specs.Limits.{record_limit, byte_limit}
use Rattle.rules.specs.Tree.{Tree, CO, VA, AN, OR, XO, NO, size, write}

pub length-write : (t : Tree) → 2 * length (write t) ≤ 5 * size t + 1
unfolding write size ascii
length-write (CO b) = omega arith
length-write (VA i) = omega arith
length-write (AN x y) = simp length-append (omega (arith, length-write x, length-write y))
length-write (OR x y) = simp length-append (omega (arith, length-write x, length-write y))
length-write (XO x y) = simp length-append (omega (arith, length-write x, length-write y))
length-write (NO x) = simp length-append (omega (arith, length-write x))

pub byte-limit : (t : Tree) → size t ≤ record_limit → length (write t) ≤ byte_limit
byte-limit t h = omega (arith, length-write t)
