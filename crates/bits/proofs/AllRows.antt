-- Small rows of the definitions, computed with them: bits, ranges, choices, sums, places, bytes and recursion along a measure. The values are counted
-- by hand from what each definition's file says of it; nothing here came from a program.
use mathlib.Core.Bool.{true, false, not, ◌&&◌}
use mathlib.Core.List.{[], ◌∷◌}
use mathlib.Core.Path.{refl}
use Prim.Native.Nat.{ℕ, zero, suc, ◌+◌, ◌-◌, ◌*◌}
use native.Mathlib.Omega.{arith}
use lib.Dec.{T, eqb, ltb}
use Rattle.bits.specs.Bit.{◌⊕◌, digit, bit, within}
use Rattle.bits.specs.Fixed.{below, turns, fixed}
use Rattle.bits.specs.LowFirst.{low_first, low_bytes}
use Rattle.bits.specs.Part.{part}
use Rattle.bits.specs.Range.{from, upto, keep, all, any, mem, same, After, Ascending, Below}
use Rattle.bits.specs.Stored.{Room, Stored}
use Rattle.bits.specs.Sum.{sum, total, parity, union}
use Rattle.bits.specs.Word.{places, word}

-- ---- bits

pub truth-rows :
    T (not (false ⊕ false) && (false ⊕ true) && (true ⊕ false) && not (true ⊕ true) && eqb (digit true) 1 && eqb (digit false) 0)
truth-rows = tt

-- 6 is 110 and 5 is 101 in base two
pub bit-rows : T (not (bit 6 0) && bit 6 1 && bit 6 2 && not (bit 6 3) && bit 5 0 && not (bit 5 1) && bit 5 2)
unfolding bit
bit-rows = tt

pub within-rows : T (within 5 7 && not (within 7 5) && within 4 5 && not (within 5 4) && not (within 5 10) && within 0 0 && within 3 3)
unfolding within
within-rows = tt

-- ---- ranges and choices

pub same_rows :
    T (
    same [] []
    && same (1 ∷ 2 ∷ []) (1 ∷ 2 ∷ [])
    && not (same (1 ∷ 2 ∷ []) (2 ∷ 1 ∷ []))
    && not (same (1 ∷ []) (1 ∷ 2 ∷ []))
    && not (same (1 ∷ 2 ∷ []) (1 ∷ []))
    )
unfolding same
same_rows = tt

pub range-rows : T (same (from 3 4) (3 ∷ 4 ∷ 5 ∷ 6 ∷ []) && same (from 3 0) [] && same (upto 3) (0 ∷ 1 ∷ 2 ∷ []) && same (upto 0) [])
unfolding from same
range-rows = tt

pub choice-rows :
    T (
    same (keep (ltb 2) (5 ∷ 1 ∷ 2 ∷ 4 ∷ [])) (5 ∷ 4 ∷ [])
    && all (ltb 2) (5 ∷ 4 ∷ [])
    && not (all (ltb 2) (5 ∷ 1 ∷ []))
    && all (ltb 2) []
    && any (ltb 2) (1 ∷ 5 ∷ [])
    && not (any (ltb 2) (1 ∷ 2 ∷ []))
    && not (any (ltb 2) [])
    && mem 4 (5 ∷ 4 ∷ [])
    && not (mem 3 (5 ∷ 4 ∷ []))
    && not (mem 6 (5 ∷ 4 ∷ []))
    )
unfolding keep all any same
choice-rows = tt

-- ---- sums

-- 9 - (4 - (1 - 0)); 2 · 1 + 2 · 4; one, and two, elements above 2; 001, 100 and 101 together
pub sum_rows :
    T (
    eqb (sum ◌-◌ 0 (λ x. x) (9 ∷ 4 ∷ 1 ∷ [])) 6
    && eqb (total (λ x. 2 * x) (1 ∷ 4 ∷ [])) 10
    && parity (ltb 2) (1 ∷ 5 ∷ [])
    && not (parity (ltb 2) (3 ∷ 5 ∷ []))
    && not (parity (ltb 2) [])
    && eqb (union (1 ∷ 4 ∷ 5 ∷ [])) 5
    && eqb (union []) 0
    )
unfolding sum
sum_rows = tt

-- ---- places: 13 is 1101 in base two

pub place-rows :
    T (
    same (places 4 13) (0 ∷ 2 ∷ 3 ∷ [])
    && same (places 3 13) (0 ∷ 2 ∷ [])
    && eqb (word (0 ∷ 2 ∷ 3 ∷ [])) 13
    && eqb (word []) 0
    )
unfolding places word sum bit keep from same
place-rows = tt

-- ---- bytes: 197,121 is 1 + 2 · 256 + 3 · 65,536, 963 is 195 + 3 · 256, and 261 is 5 + 256

pub byte-rows :
    T (
    eqb (low_first (1 ∷ 2 ∷ 3 ∷ [])) 197121
    && eqb (low_first (7 ∷ [])) 7
    && eqb (low_first []) 0
    && same (low_bytes 2 963) (195 ∷ 3 ∷ [])
    && same (low_bytes 3 963) (195 ∷ 3 ∷ 0 ∷ [])
    && same (low_bytes 1 261) (5 ∷ [])
    && same (low_bytes 0 963) []
    )
unfolding low_first low_bytes same
byte-rows = tt

-- ---- parts: the elements from a place on, or what is left of them

pub part-rows :
    T (
    same (part (5 ∷ 6 ∷ 7 ∷ 8 ∷ []) 1 2) (6 ∷ 7 ∷ [])
    && same (part (5 ∷ 6 ∷ 7 ∷ 8 ∷ []) 3 2) (8 ∷ [])
    && same (part (5 ∷ 6 ∷ 7 ∷ 8 ∷ []) 4 2) []
    && same (part (5 ∷ 6 ∷ 7 ∷ 8 ∷ []) 0 0) []
    )
unfolding same
part-rows = tt

-- ---- recursion: k + (k - 1) + .. + 0, by a rule that asks for its value at k - 1; and a rule that asks for its value at k itself

unfoldable pub triangle : (ℕ → ℕ) → ℕ → ℕ
triangle g zero = 0
triangle g (suc k) = suc k + g k

unfoldable pub circular : (ℕ → ℕ) → ℕ → ℕ
circular g k = 1 + g k

-- 7 is the default; 4 + 3 + 2 and the default, at two turns nested in a third; 1 and the default, since k does not measure less than k
pub recursion-rows :
    T (
    eqb (below (λ k. k) 7 (λ x. x + 1) 5 4) 5
    && eqb (below (λ k. k) 7 (λ x. x + 1) 5 5) 7
    && eqb (turns (λ k. k) 7 triangle 0 4) 11
    && eqb (turns (λ k. k) 7 triangle 2 4) 16
    && eqb (fixed (λ k. k) 7 triangle 4) 10
    && eqb (fixed (λ k. k) 7 circular 4) 8
    )
unfolding below turns fixed triangle circular
recursion-rows = tt

-- ---- orders as types: each row with an element too many or too late for it

pub ascending-row : Ascending (1 ∷ 3 ∷ 7 ∷ [])
ascending-row = (omega arith, (omega arith, tt))

pub not-ascending : ¬ Ascending (1 ∷ 3 ∷ 3 ∷ [])
not-ascending h = omega (arith, h.1.0)

pub first-not-ascending : ¬ Ascending (3 ∷ 1 ∷ [])
first-not-ascending h = omega (arith, h.0)

pub not_after : ¬ After 3 (3 ∷ [])
not_after h = omega (arith, h.0)

pub below_row : Below 4 (3 ∷ 0 ∷ 3 ∷ [])
below_row = (omega arith, (omega arith, (omega arith, tt)))

pub not-below : ¬ Below 4 (3 ∷ 4 ∷ [])
not-below h = omega (arith, h.1.0)

-- ---- stores: two entries behind the first of a buffer of three, where they just fit, and not behind the second

pub room_row : Room (1 ∷ 2 ∷ []) 1 (7 ∷ 8 ∷ 9 ∷ [])
room_row = record { fits = omega arith }

pub no_room : ¬ Room (1 ∷ 2 ∷ []) 2 (7 ∷ 8 ∷ 9 ∷ [])
no_room h = omega (arith, h.fits)

pub stored_row : Stored (1 ∷ 2 ∷ []) 1 3 (7 ∷ 8 ∷ 9 ∷ []) (7 ∷ 1 ∷ 2 ∷ [])
stored_row = record { place = refl; within = omega arith; entries = refl }
