-- What the functions that take the input apart and write the verdict's words promise each other.
--   rest_left b r        == the parts at b of the bytes r, where any are left
--   parts_left p          == the parts that are still to come
--   flag_name w i         == what is written for flag i at the setting w
use Rattle.std.specs.Prelude.{true, false, List, [], ◌++◌, Option, Some, None, ℕ}
use Rattle.std.specs.Borrow.{Bor}
use Rattle.bits.specs.Bit.{bit}
use Rattle.rules.specs.Ascii.{ascii}
use Rattle.rules.specs.Text.{decimal}
use Rattle.examination_text.specs.Notation.{split}
use Rattle.examination_text.specs.declared.parts.Parts.{Parts}

abbrev pub rest_left : ℕ → Option (Bor (List ℕ)) → List (List ℕ)
rest_left b (Some s) = split b s.now
rest_left b None = []

abbrev pub parts_left : Parts → List (List ℕ)
parts_left p = rest_left p.separator p.rest

unfoldable pub flag_name : ℕ → ℕ → List ℕ
flag_name w i = elim (bit w i) [ true ↦ ascii " " ++ decimal i | false ↦ [] ]
