-- What the examining command writes, computed with the definitions: an accepted rule, each row that can refuse one, and input that is not two such
-- lines. The rows of the table 01 are document 01's unmarked examples.
--   accepted         == a rule that is accepted
--   refused          == the rows 13, 12, 10, 8, 7 and 6 for the table 01, row 12 with flags set, and 10 for no record
--   too_many         == row 9, for 386 records
--   other-input, long-input  == input that is no table, no rule or not two lines, and input of 4096 bytes
use mathlib.Core.Bool.{Bool}
use mathlib.Core.List.{List, [], ◌∷◌, ◌++◌}
use Prim.Native.Nat.{ℕ, zero, suc}
use Prim.Native.String.{String}
use lib.Count.{ones, ones_in}
use lib.Dec.{T}
use lib.ListN.{replicate}
use Rattle.bits.specs.Bit.{bit, within}
use Rattle.bits.specs.Fixed.{below, turns, fixed}
use Rattle.bits.specs.Range.{from, keep, all, any, same}
use Rattle.bits.specs.Sum.{sum}
use Rattle.bits.specs.Word.{places}
use Rattle.rules.specs.Ascii.{ascii}
use Rattle.rules.specs.Calls.{with_table, table_form, differences, judged, examine}
use Rattle.rules.specs.Coefficient.{coefficient}
use Rattle.rules.specs.Form.{term_cost, raw_cost}
use Rattle.rules.specs.Machine.{leaf, binary, unary, push, operands, record_turn, turn, finish, run, made}
use Rattle.rules.specs.Monomial.{form}
use Rattle.rules.specs.Record.{mark, marked, plain, loaded, record_at}
use Rattle.rules.specs.Text.{decimal_turn, decimal, first_of, flags_of}
use Rattle.rules.specs.Tree.{cost, value}
use Rattle.examination_text.specs.Input.{of_rule, of_table, of_lines, verdict_page}
use Rattle.examination_text.specs.Notation.{attach, split, record_texts, is_record, record_bytes, expression, record_of}
use Rattle.examination_text.specs.Verdict.{flag_names, difference, beyond_limit, above_raw, reason, verdict_text}

pub record Case : Type 0 where
  pub input : String
  pub output : String

pub writes : List ℕ → List ℕ → Bool
unfolding same ascii all any keep from sum bit within places below turns fixed ones ones_in coefficient form term_cost raw_cost
    with_table table_form differences judged examine leaf binary unary push operands record_turn turn finish run made mark marked plain
    loaded
    record_at
    decimal_turn decimal first_of flags_of cost value attach split record_texts is_record record_bytes expression record_of
    flag_names difference beyond_limit above_raw reason verdict_text of_rule of_table of_lines verdict_page
writes s out = same (verdict_page s) out

pub holds : Case → Bool
unfolding ascii writes
holds c = writes (ascii c.input) (ascii c.output)

pub accepted : T (holds record { input = "0111\nVA0 VA1 OR\n"; output = "accepted, cost 3\n" })
unfolding holds
accepted = tt

pub refused : T (all holds (
    record { input = "01\nVA0 VA0 AN\n"; output = "refused by row 13: cost 3 is above the raw cost 1\n" }
    ∷ record { input = "01\nCO0\n"; output = "refused by row 12: differs from the table at setting 1, flags set: 0\n" }
    ∷ record { input = "01\nVA0 VA0\n"; output = "refused by row 10: no record, or more than one operand left at the end\n" }
    ∷ record { input = "01\nAN\n"; output = "refused by row 8: too few operands, at record 1\n" }
    ∷ record { input = "01\nVA1\n"; output = "refused by row 7: payload missing or out of range, at record 1\n" }
    ∷ record { input = "01\nVA0 VB0 AN\n"; output = "refused by row 6: unknown mark, at record 2\n" }
    ∷ record { input = "01\nVA0 NO NO CO\n"; output = "refused by row 7: payload missing or out of range, at record 4\n" }
    ∷ record { input = "10\nCO0\n"; output = "refused by row 12: differs from the table at setting 0, flags set: none\n" }
    ∷ record { input = "01010001\nVA0\n"; output = "refused by row 12: differs from the table at setting 5, flags set: 0 2\n" }
    ∷ record { input = "01\n\n"; output = "refused by row 10: no record, or more than one operand left at the end\n" }
    ∷ []
    ))
unfolding all holds
refused = tt

pub negations : ℕ → List ℕ
unfolding ascii
negations zero = []
negations (suc k) = ascii " NO" ++ negations k

pub too_many : T (writes (ascii "01\nVA0" ++ negations 385 ++ ascii "\n") (ascii "refused by row 9: more than 385 records, at record 386\n"))
unfolding ascii writes negations
too_many = tt

pub other-input : T (all holds (
    record { input = "011\nVA0\n"; output = "line 1 must be 1, 2, 4, 8, 16, 32 or 64 digits 0 or 1\n" }
    ∷ record { input = "0121\nVA0\n"; output = "line 1 must be 1, 2, 4, 8, 16, 32 or 64 digits 0 or 1\n" }
    ∷ record { input = "01\nVA0  NO\n"; output = "line 2 must be records such as VA0 VA1 OR, one space between two\n" }
    ∷ record { input = "01\nVA0 \n"; output = "line 2 must be records such as VA0 VA1 OR, one space between two\n" }
    ∷ record { input = "01\nVA00\n"; output = "line 2 must be records such as VA0 VA1 OR, one space between two\n" }
    ∷ record { input = "01\nva0\n"; output = "line 2 must be records such as VA0 VA1 OR, one space between two\n" }
    ∷ record { input = "01\nVA0"; output = "the input must be two lines: a table's digits, and a rule's records\n" }
    ∷ record { input = "01\nVA0\n\n"; output = "the input must be two lines: a table's digits, and a rule's records\n" }
    ∷ record { input = ""; output = "the input must be two lines: a table's digits, and a rule's records\n" }
    ∷ []
    ))
unfolding all holds
other-input = tt

pub long-input : T (writes (replicate 4096 48) (ascii "the input is longer than 4095 bytes\n"))
unfolding ascii writes
long-input = tt
