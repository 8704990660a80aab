-- What a form is written as before any cleanup, and the parts that the cleanup puts together.
--   flags m          == the flags of the mask m, ascending
--   chain op e ts    == the trees ts joined by op, nested to the left; e where there is none
--   cube m           == the product of the flags of m as a tree; of no flag it is the constant 1
--   or_chain m        == the OR of the flags of m as a tree; of no flag it is the constant 0
--   folded ts        == the balanced fold of the terms ts; halves g ts is one turn of it
--   raw_form l        == the raw form of the form l
--   term_cost m       == the cost of the term of the mask m
--   raw_cost l        == the raw form's cost, added up over the masks l in their order
--   literals l       == the total number of flags in the masks of l
use Rattle.std.specs.Prelude.{true, false, ℕ, zero, suc, ◌+◌, ◌-◌, ◌*◌, ◌/◌, length, take, drop}
use mathlib.Core.List.{List, [], ◌∷◌, map, foldl}
use Rattle.std.specs.Int.Count.{ones}
use Rattle.bits.specs.Fixed.{fixed}
use Rattle.bits.specs.Sum.{total}
use Rattle.bits.specs.Word.{places}
use Rattle.rules.specs.Monomial.{ordered}
use Rattle.rules.specs.Tree.{Tree, CO, VA, AN, OR, XO}

-- A number has no 1 at its own place or above.
abbrev pub flags : ℕ → List ℕ
flags m = places m m

-- "A product or an OR chain takes flags upwards, nested to the left."
unfoldable pub chain : (Tree → Tree → Tree) → Tree → List Tree → Tree
chain op empty [] = empty
chain op empty (t ∷ ts) = foldl op t ts

abbrev pub cube : ℕ → Tree
cube m = chain AN (CO true) (map VA (flags m))

abbrev pub or_chain : ℕ → Tree
or_chain m = chain OR (CO false) (map VA (flags m))

-- "a balanced fold splits t terms into t div 2 and the rest, each half folded the same way and joined by XO; no term gives CO 0"
unfoldable pub halves : (List Tree → Tree) → List Tree → Tree
halves g [] = CO false
halves g (t ∷ []) = t
halves g (t ∷ u ∷ ts) = split (t ∷ u ∷ ts)
  where
    split : List Tree → Tree
    split l = XO (g (take (length l / 2) l)) (g (drop (length l / 2) l))

abbrev pub folded : List Tree → Tree
folded = fixed length (CO false) halves

-- "The raw form's terms are constant 1 first, then monomials in list order": in that order the mask 0, whose product is the constant 1, is first.
unfoldable pub raw_form : List ℕ → Tree
raw_form l = folded (map cube (ordered l))

-- "the sum of 2k-1 for each monomial of k flags, 1 for a constant 1"
unfoldable pub term_cost : ℕ → ℕ
term_cost zero = 1
term_cost (suc m) = 2 * ones (suc m) - 1

-- "Raw cost is 1 with no term; else the sum .. and one less than the number of terms."
unfoldable pub raw_cost : List ℕ → ℕ
raw_cost [] = 1
raw_cost (m ∷ l) = total term_cost (m ∷ l) + length l

-- "total literals"
abbrev pub literals : List ℕ → ℕ
literals l = total ones l
