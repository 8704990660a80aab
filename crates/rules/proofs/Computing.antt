-- Opens the documents' definitions to the computed rows beside this file: a row with `unfolding computing` computes through all of them. It says
-- nothing of its own.
use lib.Count.{ones, ones_in}
use Rattle.bits.specs.Bit.{bit, within}
use Rattle.bits.specs.Fixed.{below, turns, fixed}
use Rattle.bits.specs.Range.{from, keep, all, any, same}
use Rattle.bits.specs.Sum.{sum}
use Rattle.bits.specs.Word.{places, word}
use Rattle.rules.specs.Ascii.{ascii}
use Rattle.rules.specs.Calls.{with_table, with_coefficients, with_room, fill, transform, way_back, listed, listing, terms, raw_costing}
use Rattle.rules.specs.Calls.{table_form, compiled, compilation, compile, read, parse, evaluate, costing, smaller, cheaper_of, cheaper_of_two}
use Rattle.rules.specs.Calls.{evaluate_stars, differences, judged, examine}
use Rattle.rules.specs.Cleanup.{family, atop, better, greatest, singles, is_family, is_partial, best_family, partial_at, partial_or}
use Rattle.rules.specs.Cleanup.{meets, covered, stripped, is_cube, cube_saving, best_cube, with_rest, cube_at, common_cube}
use Rattle.rules.specs.Cleanup.{absorb, absorption, cheaper, contest, turn, cleanup}
use Rattle.rules.specs.Coefficient.{coefficient, word_count, packed, stray, word_of, words}
use Rattle.rules.specs.Console.{entry_at, entries}
use Rattle.rules.specs.Form.{chain, halves, raw_form, term_cost, raw_cost}
use Rattle.rules.specs.Machine.{leaf, binary, unary, push, operands, record_turn, turn as machine_turn, finish, run, made, node_from}
use Rattle.rules.specs.Monomial.{form, precedes, insert, ordered}
use Rattle.rules.specs.Nodes.{nodes, sought}
use Rattle.rules.specs.Polynomial.{product, polynomial}
use Rattle.rules.specs.Record.{mark, marked, plain, loaded, record_at}
use Rattle.rules.specs.Stars.{star_setting, star_values}
use Rattle.rules.specs.Table.{word_table}
use Rattle.rules.specs.Text.{decimal_turn, decimal, records, report, first_of, flags_of, is_line, printed_as, printed}
use Rattle.rules.specs.Tree.{value, cost, size, depth, write, mentioned}

unfoldable pub computing : Unit {0}
unfolding bit within below turns fixed from keep all any same sum places word ones ones_in ascii with_table with_coefficients with_room fill transform
    way_back listed listing terms raw_costing table_form compiled compilation compile read parse evaluate costing smaller cheaper_of cheaper_of_two
    differences judged examine family atop better greatest singles is_family is_partial best_family partial_at partial_or meets covered stripped
    is_cube
    cube_saving best_cube with_rest cube_at common_cube absorb absorption cheaper contest turn cleanup coefficient word_count packed stray word_of
    words
    entry_at entries chain halves raw_form term_cost raw_cost leaf binary unary push operands record_turn machine_turn finish run made node_from
    nodes sought form precedes insert ordered product polynomial
    mark marked plain loaded record_at decimal_turn decimal records report first_of flags_of is_line printed_as printed value cost size depth write
    mentioned star_setting star_values evaluate_stars word_table
computing = tt
