-- Rows of tables, coefficients, their words, the polynomial and the order of monomials, computed with the definitions. The values are read from
-- document 01's sentences and request 4's, which the comments quote, and from the marked rules; nothing here came from a program.
use mathlib.Core.Bool.{Bool, true, false, not, ◌&&◌}
use mathlib.Core.List.{[], ◌∷◌, map}
use Prim.Native.Nat.{◌^◌}
use lib.Dec.{T, eqb}
use lib.ListN.{length, get_or}
use Rattle.bits.specs.Bit.{bit, digit}
use Rattle.bits.specs.Range.{all, same}
use Rattle.rules.specs.Calls.{transform, way_back, listing}
use Rattle.rules.specs.Coefficient.{word_count, packed, stray, words}
use Rattle.rules.specs.Limits.{word_bits}
use Rattle.rules.specs.Monomial.{form, constant, monomials, precedes, insert, ordered}
use Rattle.rules.specs.Polynomial.{product, polynomial}
use Rattle.rules.specs.Table.{settings, complete, word_table}
use Rattle.rules.proofs.Answers.{entries_of, is_list, is_listing}
use Rattle.rules.proofs.Computing.{computing}
use Rattle.rules.proofs.Rows.{Row, marked-rows}

-- ---- tables

-- "A setting is a number below 2^n"; "it is complete if it has at least 2^n entries"
pub table-rows :
    T (
    same (settings 0) (0 ∷ [])
    && same (settings 2) (0 ∷ 1 ∷ 2 ∷ 3 ∷ [])
    && not (complete 2 (entries_of "011"))
    && complete 2 (entries_of "0111")
    && complete 2 (entries_of "01110")
    && not (complete 0 [])
    )
unfolding computing entries_of
table-rows = tt

-- request 4 of document 02, of a table word: "bit s for setting s"; the word 14 has the bits 1, 2 and 3, 232 the bits 3, 5, 6 and 7; bits at 2^n and
-- above are no entries
pub word-table-rows :
    T (
    same (word_table 2 14) (entries_of "0111")
    && same (word_table 2 1) (entries_of "1000")
    && same (word_table 3 232) (entries_of "00010111")
    && same (word_table 1 14) (entries_of "01")
    && same (word_table 0 1) (entries_of "1")
    && same (word_table 0 6) (entries_of "0")
    && eqb (length (word_table 6 (2 ^ 63))) 64
    && eqb (get_or (word_table 6 (2 ^ 63)) 63 0) 1
    && eqb (get_or (word_table 6 (2 ^ 63)) 0 0) 0
    )
unfolding computing entries_of
word-table-rows = tt

-- ---- coefficient words

-- "there are 2^n/64 words, rounded up"
pub word_counts :
    T (
    eqb word_bits 64 && eqb (word_count 0) 1 && eqb (word_count 5) 1 && eqb (word_count 6) 1 && eqb (word_count 7) 2 && eqb (word_count 16) 1024
    )
unfolding computing
word_counts = tt

-- "coefficient m is bit m mod 64 of word m div 64"
pub packed-rows :
    T (
    packed (1 ∷ 2 ∷ []) 0
    && not (packed (1 ∷ 2 ∷ []) 1)
    && not (packed (1 ∷ 2 ∷ []) 64)
    && packed (1 ∷ 2 ∷ []) 65
    && packed (2 ^ 63 ∷ 0 ∷ []) 63
    && not (packed (2 ^ 63 ∷ 0 ∷ []) 0)
    )
unfolding computing
packed-rows = tt

-- "a bit at 2^n or above in the needed words"; "words after these are ignored"
pub stray-rows :
    T (
    not (stray 0 (1 ∷ []))
    && stray 0 (2 ∷ [])
    && not (stray 2 (15 ∷ []))
    && stray 2 (16 ∷ [])
    && stray 2 (2 ^ 63 ∷ [])
    && not (stray 2 (15 ∷ 16 ∷ []))
    && not (stray 6 (2 ^ 63 ∷ []))
    )
unfolding computing
stray-rows = tt

-- coefficients 63 and 64 stand in words 0 and 1; "In a written word, bits at 2^n and above are 0."
pub word_rows :
    T (
    same (words 7 (λ m. eqb m 63)) (2 ^ 63 ∷ 0 ∷ [])
    && same (words 7 (λ m. eqb m 64)) (0 ∷ 1 ∷ [])
    && same (words 1 (λ m. true)) (3 ∷ [])
    && same (words 0 (λ m. true)) (1 ∷ [])
    )
unfolding computing
word_rows = tt

-- ---- transform, way back and polynomial, on the marked rules

unfoldable pub is_transformed : Row → Bool
unfolding computing entries_of is_list
is_transformed r = is_list (r.coefficients ∷ []) (transform r.flags (entries_of r.bits) 1)

-- "The way back: coefficients to one 64-bit entry, 0 or 1, per setting": there are at most 8 settings in the marked rules
unfoldable pub is_way_back : Row → Bool
unfolding computing entries_of is_list
is_way_back r = is_list (entries_of r.bits) (way_back r.flags (r.coefficients ∷ []) 8)

-- the Zhegalkin polynomial with the row's coefficients is the row's table
unfoldable pub is_polynomial : Row → Bool
unfolding computing entries_of
is_polynomial r =
    same (entries_of r.bits) (map (λ s. digit (polynomial r.flags (bit r.coefficients) (bit s))) (settings r.flags))

pub transformed-rows : T (all is_transformed marked-rows && all is_way_back marked-rows && all is_polynomial marked-rows)
unfolding computing is_transformed is_way_back is_polynomial marked-rows
transformed-rows = tt

-- the product of the flags of mask 6, flags 1 and 2; of no flag it is 1; and of masks 1 and 2 only mask 1 is one of one flag
pub product-rows :
    T (
    product 3 6 (bit 6)
    && not (product 3 6 (bit 4))
    && not (product 3 6 (bit 3))
    && product 3 0 (bit 0)
    && polynomial 1 (bit 6) (bit 1)
    )
unfolding computing
product-rows = tt

-- ---- monomials

-- "A monomial is a nonzero mask of flags whose coefficient is 1; the constant is coefficient 0."
pub form-rows :
    T (
    same (form 2 (bit 11)) (0 ∷ 1 ∷ 3 ∷ [])
    && same (form 1 (bit 14)) (1 ∷ [])
    && constant (form 2 (bit 11))
    && not (constant (form 2 (bit 10)))
    && same (monomials (form 2 (bit 11))) (1 ∷ 3 ∷ [])
    && same (monomials (form 2 (bit 10))) (1 ∷ 3 ∷ [])
    )
unfolding computing
form-rows = tt

-- "by (count of ones, then mask)"
pub precedes-rows :
    T (precedes 4 3 && not (precedes 3 4) && precedes 1 2 && not (precedes 2 1) && precedes 0 1 && not (precedes 1 0) && not (precedes 3 3))
unfolding computing
precedes-rows = tt

-- "Listing by mask alone: for `01111000` the order is 1, 2, 4, 3.", coefficient word 30; "the constant, and all monomials"
pub listed-rows :
    T (
    is_listing false (1 ∷ 2 ∷ 4 ∷ 3 ∷ []) (listing 3 (30 ∷ []) 4)
    && is_listing true (1 ∷ 2 ∷ 4 ∷ 3 ∷ 5 ∷ 6 ∷ 7 ∷ []) (listing 3 (255 ∷ []) 7)
    && is_listing true [] (listing 3 (1 ∷ []) 0)
    && is_listing false (64 ∷ 3 ∷ []) (listing 7 (8 ∷ 1 ∷ []) 2)
    && same (insert 4 (1 ∷ 2 ∷ 3 ∷ [])) (1 ∷ 2 ∷ 4 ∷ 3 ∷ [])
    && same (ordered (7 ∷ 3 ∷ 4 ∷ 1 ∷ [])) (1 ∷ 4 ∷ 3 ∷ 7 ∷ [])
    )
unfolding computing is_listing
listed-rows = tt
