-- Rules on which a wrong tie, a wrong candidate or a forgotten constant would show, computed with the definitions, a test for each rule of the
-- cleanup. The expected words, records and costs are the original Rust's, as recorded for all tables of up to four flags in the data of
-- `replay_transforms` and `replay_rules`; none came from the definitions or from a program of this library.
use mathlib.Core.List.{List, [], ◌∷◌}
use lib.Dec.{T}
use Rattle.bits.specs.Range.{all}
use Rattle.rules.proofs.Computing.{computing}
use Rattle.rules.proofs.Rows.{Row, holds}

-- The raw form stands: "constant 1 first, then monomials in list order"; "splits t terms into t div 2 and the rest".
unfoldable pub raw-rules : List Row
raw-rules =
    record { flags = 2; bits = "1001"; coefficients = 7; text = "CO1 VA0 VA1 XO XO"; cost = 5; raw = 5 }
    ∷ record { flags = 2; bits = "1110"; coefficients = 9; text = "CO1 VA0 VA1 AN XO"; cost = 5; raw = 5 }
    ∷ record { flags = 3; bits = "01101001"; coefficients = 22; text = "VA0 VA1 VA2 XO XO"; cost = 5; raw = 5 }
    ∷ record { flags = 3; bits = "10010110"; coefficients = 23; text = "CO1 VA0 XO VA1 VA2 XO XO"; cost = 7; raw = 7 }
    ∷ record { flags = 3; bits = "00011110"; coefficients = 24; text = "VA2 VA0 VA1 AN XO"; cost = 5; raw = 5 }
    ∷ []

pub raw-rules-hold : T (all holds raw-rules)
unfolding computing holds raw-rules
raw-rules-hold = tt

-- Partial OR: the greatest saving, here M = 7 before 3; of the equal savings of M = 5 and 6, the smallest; the constant in the remainder; and
-- a common cube of the same cost, which does not replace it.
unfoldable pub partial-or-rules : List Row
partial-or-rules =
    record { flags = 4; bits = "0111111110000000"; coefficients = 510; text = "VA0 VA1 OR VA2 OR VA3 XO"; cost = 6; raw = 25 }
    ∷ record { flags = 3; bits = "10010000"; coefficients = 119; text = "VA0 VA2 OR CO1 VA1 VA2 NO AN XO XO"; cost = 10; raw = 15 }
    ∷ record { flags = 3; bits = "10010101"; coefficients = 87; text = "VA1 VA2 OR CO1 VA0 XO XO"; cost = 7; raw = 11 }
    ∷ record { flags = 3; bits = "11010100"; coefficients = 125; text = "VA1 VA2 OR VA0 VA1 VA2 XO AN CO1 XO XO"; cost = 11; raw = 17 }
    ∷ []

pub partial-or-rules-hold : T (all holds partial-or-rules)
unfolding computing holds partial-or-rules
partial-or-rules-hold = tt

-- Common cube: a cube that covers every monomial leaves the constant 1; the remainder is cleaned; the monomials that contain the whole cube, not
-- some of it; an emptied monomial as the inner form's constant 1; of the equal savings of the cubes 1, 2 and 3, the smallest; and twice a saving
-- of 0, which is no candidate, though in the last rule the form's constant would bring it above 0.
unfoldable pub cube-rules : List Row
cube-rules =
    record { flags = 3; bits = "11111001"; coefficients = 97; text = "VA2 VA0 VA1 XO AN CO1 XO"; cost = 7; raw = 9 }
    ∷ record { flags = 3; bits = "00011000"; coefficients = 120; text = "VA0 VA1 VA2 XO AN VA2 VA1 NO AN XO"; cost = 10; raw = 13 }
    ∷ record { flags = 3; bits = "11110100"; coefficients = 177; text = "VA0 VA2 VA1 NO AN AN CO1 VA2 XO XO"; cost = 10; raw = 13 }
    ∷ record { flags = 3; bits = "10000001"; coefficients = 127; text = "VA0 VA1 OR VA2 CO1 VA0 VA1 XO XO AN CO1 XO XO"; cost = 13; raw = 19 }
    ∷ record { flags = 4; bits = "0000000100010000"; coefficients = 2176; text = "VA0 VA1 VA2 VA3 XO AN AN"; cost = 7; raw = 11 }
    ∷ record { flags = 4; bits = "0110001101010000"; coefficients = 1062; text = "VA0 VA1 XO VA0 VA2 AN VA1 VA3 AN XO XO"; cost = 11; raw = 11 }
    ∷ record { flags = 4; bits = "1111001101011001"; coefficients = 849; text = "CO1 VA2 XO VA3 VA1 VA2 AN VA0 VA3 AN XO XO XO"; cost = 13; raw = 13 }
    ∷ []

pub cube-rules-hold : T (all holds cube-rules)
unfolding computing holds cube-rules
cube-rules-hold = tt

-- Absorption: "with constant 1, XO of CO 1 and that".
unfoldable pub absorption-rules : List Row
absorption-rules =
    record { flags = 2; bits = "1101"; coefficients = 13; text = "CO1 VA1 VA0 NO AN XO"; cost = 6; raw = 7 } ∷ []

pub absorption-rules-hold : T (all holds absorption-rules)
unfolding computing holds absorption-rules
absorption-rules-hold = tt
