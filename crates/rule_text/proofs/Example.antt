-- Document 01's example of the printing program, computed with the definitions, and inputs that are no line of a rule.
--   example          == "for `0111` it writes exactly" the three lines
--   other-input      == no input, an empty line, three digits, no newline, a byte after the newline, a byte that is no digit, 65 digits
use mathlib.Core.List.{[], ◌∷◌, ◌++◌}
use lib.Count.{ones, ones_in}
use lib.Dec.{T}
use lib.ListN.{replicate}
use Rattle.bits.specs.Bit.{bit, within}
use Rattle.bits.specs.Fixed.{below, turns, fixed}
use Rattle.bits.specs.Range.{from, keep, all, any, same}
use Rattle.bits.specs.Sum.{sum}
use Rattle.bits.specs.Word.{places, word}
use Rattle.rules.specs.Ascii.{ascii}
use Rattle.rules.specs.Calls.{compiled, table_form}
use Rattle.rules.specs.Cleanup.{family, atop, better, greatest, singles, is_family, is_partial, best_family, partial_at, partial_or}
use Rattle.rules.specs.Cleanup.{meets, covered, stripped, is_cube, cube_saving, best_cube, with_rest, cube_at, common_cube}
use Rattle.rules.specs.Cleanup.{absorb, absorption, cheaper, contest, turn, cleanup}
use Rattle.rules.specs.Coefficient.{coefficient, word_count, word_of, words}
use Rattle.rules.specs.Form.{chain, halves, raw_form, term_cost, raw_cost}
use Rattle.rules.specs.Monomial.{form, precedes, insert, ordered}
use Rattle.rules.specs.Text.{decimal_turn, decimal, records, report, first_of, flags_of, is_line, printed_as, printed}
use Rattle.rules.specs.Tree.{cost, size, value}

pub example : T (same (printed (ascii "0111\n")) (ascii "flags 2\nVA0 VA1 OR\ncost 3 raw 7\n"))
unfolding same ascii all any keep from sum bit within places word below turns fixed ones ones_in
    coefficient word_count word_of words chain halves raw_form term_cost raw_cost form precedes insert ordered cost size value
    family atop better greatest singles is_family is_partial best_family partial_at partial_or meets covered stripped is_cube cube_saving best_cube
    with_rest cube_at common_cube absorb absorption cheaper contest turn cleanup table_form compiled
    decimal_turn decimal records report first_of flags_of is_line printed_as printed
example = tt

pub other-input : T (all (λ s. same (printed s) (ascii "bad line\n"))
    ([] ∷ ascii "\n" ∷ ascii "011\n" ∷ ascii "0111" ∷ ascii "0111\n\n" ∷ ascii "0121\n" ∷ (replicate 65 49 ++ ascii "\n") ∷ []))
unfolding same ascii all keep from first_of flags_of is_line printed_as printed
other-input = tt
