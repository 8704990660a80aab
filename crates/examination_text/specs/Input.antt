-- What the examining command writes for what it reads. The input is two lines, each ended by a newline: a table's digits and a rule's records.
--   longest              == what the input has at most, in bytes
--   verdict_page s        == the whole output for the whole input s
use Rattle.std.specs.Prelude.{true, false, List, [], ◌∷◌, ◌++◌, ℕ, ltb, length}
use Rattle.std.proofs.Math.Option.{Option, none, some}
use Rattle.bits.specs.Range.{all}
use Rattle.rules.specs.Ascii.{ascii}
use Rattle.rules.specs.Calls.{examine}
use Rattle.rules.specs.Text.{flags_of}
use Rattle.text.specs.TableDigits.{is_digit, values}
use Rattle.examination_text.specs.Notation.{split, record_texts, is_record, expression}
use Rattle.examination_text.specs.Verdict.{verdict_text}

abbrev pub longest : ℕ
longest = 4095

abbrev pub too_long : List ℕ
too_long = ascii "the input is longer than 4095 bytes\n"

abbrev pub not_lines : List ℕ
not_lines = ascii "the input must be two lines: a table's digits, and a rule's records\n"

abbrev pub not_table : List ℕ
not_table = ascii "line 1 must be 1, 2, 4, 8, 16, 32 or 64 digits 0 or 1\n"

abbrev pub not_rule : List ℕ
not_rule = ascii "line 2 must be records such as VA0 VA1 OR, one space between two\n"

unfoldable pub of_rule : ℕ → List ℕ → List (List ℕ) → List ℕ
of_rule n table ts =
    elim (all is_record ts) [ true ↦ verdict_text n table ts (examine n table (expression ts)) ++ ascii "\n" | false ↦ not_rule ]

unfoldable pub of_table : List ℕ → List ℕ → Option ℕ → List ℕ
of_table one two none = not_table
of_table one two (some n) = elim (all is_digit one) [ true ↦ of_rule n (values one) (record_texts two) | false ↦ not_table ]

-- the parts at newlines: line one, line two, and nothing
unfoldable pub of_lines : List (List ℕ) → List ℕ
of_lines [] = not_lines
of_lines (one ∷ []) = not_lines
of_lines (one ∷ two ∷ []) = not_lines
of_lines (one ∷ two ∷ (x ∷ rest) ∷ ls) = not_lines
of_lines (one ∷ two ∷ [] ∷ l ∷ ls) = not_lines
of_lines (one ∷ two ∷ [] ∷ []) = of_table one two (flags_of (length one))

-- 10 is the newline
unfoldable pub verdict_page : List ℕ → List ℕ
verdict_page s = elim (ltb longest (length s)) [ true ↦ too_long | false ↦ of_lines (split 10 s) ]
