-- Request 1 of document 02, computed with the definitions: the settings of stars in the words of the flags, what the evaluation for 64 stars gives,
-- and its refusals in their order. The values are worked by hand from the request's sentences; nothing here came from a program.
use mathlib.Core.Bool.{◌&&◌}
use mathlib.Core.List.{List, [], ◌∷◌}
use Prim.Native.Nat.{ℕ, ◌+◌, ◌-◌, ◌^◌}
use lib.Dec.{T, eqb}
use Rattle.rules.specs.Ascii.{ascii}
use Rattle.rules.specs.Calls.{evaluate_stars}
use Rattle.rules.specs.Stars.{star_setting}
use Rattle.rules.proofs.Answers.{bytes_of, is_refusal, is_number}
use Rattle.rules.proofs.Computing.{computing}

-- flag 0 is set for the stars 2 and 3, flag 1 for the stars 1, 3 and 63
abbrev pub sent : List ℕ
sent = 12 ∷ (10 + 2 ^ 63) ∷ []

-- flag i is set for star i alone
abbrev pub six : List ℕ
six = 1 ∷ 2 ∷ 4 ∷ 8 ∷ 16 ∷ 32 ∷ []

-- "bit j for star j", "word i for flag i"; a word past the n first is no flag
pub setting-rows :
    T (
    eqb (star_setting 2 sent 0) 0
    && eqb (star_setting 2 sent 1) 2
    && eqb (star_setting 2 sent 2) 1
    && eqb (star_setting 2 sent 3) 3
    && eqb (star_setting 2 sent 63) 2
    && eqb (star_setting 1 sent 1) 0
    && eqb (star_setting 1 sent 3) 1
    && eqb (star_setting 0 sent 3) 0
    && eqb (star_setting 6 six 2) 4
    && eqb (star_setting 6 six 5) 32
    && eqb (star_setting 3 six 5) 0
    )
unfolding computing
setting-rows = tt

-- "a word whose bit j is the single evaluation of star j, for all 64. Constant 1 is then all ones."
pub star-rows :
    T (
    is_number (2 ^ 64 - 1) (evaluate_stars 0 [] (bytes_of "CO1"))
    && is_number 0 (evaluate_stars 2 sent (bytes_of "CO0"))
    && is_number 12 (evaluate_stars 2 sent (bytes_of "VA0"))
    && is_number 12 (evaluate_stars 1 sent (bytes_of "VA0"))
    && is_number (10 + 2 ^ 63) (evaluate_stars 2 sent (bytes_of "VA1"))
    && is_number 8 (evaluate_stars 2 sent (bytes_of "VA0 VA1 AN"))
    && is_number (14 + 2 ^ 63) (evaluate_stars 2 sent (bytes_of "VA0 VA1 OR"))
    && is_number (6 + 2 ^ 63) (evaluate_stars 2 sent (bytes_of "VA0 VA1 XO"))
    && is_number (2 ^ 64 - 1 - 12) (evaluate_stars 2 sent (bytes_of "VA0 NO"))
    && is_number 4 (evaluate_stars 2 sent (bytes_of "VA0 VA1 NO AN"))
    && is_number 44 (evaluate_stars 6 six (bytes_of "VA2 VA3 OR VA5 OR"))
    )
unfolding computing is_number bytes_of
star-rows = tt

-- "It refuses with 14, after number 1 and before the records are read, when fewer than n words are lent, place 0."
pub star-refusals :
    T (
    is_refusal 1 0 (evaluate_stars 7 [] [])
    && is_refusal 1 0 (evaluate_stars 7 (64 ∷ six) (bytes_of "CO1"))
    && is_refusal 1 0 (evaluate_stars 17 six (bytes_of "CO1"))
    && is_refusal 14 0 (evaluate_stars 6 (1 ∷ 2 ∷ 3 ∷ 4 ∷ 5 ∷ []) (ascii "?"))
    && is_refusal 14 0 (evaluate_stars 1 [] (bytes_of "CO1"))
    && is_refusal 10 0 (evaluate_stars 6 six [])
    && is_refusal 7 3 (evaluate_stars 1 sent (bytes_of "VA0 VA1 AN"))
    && is_refusal 6 0 (evaluate_stars 2 sent (ascii "?"))
    && is_refusal 8 3 (evaluate_stars 2 sent (bytes_of "VA0 AN"))
    && is_refusal 10 6 (evaluate_stars 2 sent (bytes_of "VA0 VA1"))
    )
unfolding computing is_refusal bytes_of
star-refusals = tt
