-- Computed rows of the definitions of Block and Numbers: blocks with no room, with room for a part of an answer, for all of it and for more; and the
-- numbers of each kind of answer. They are worked by hand from the description of the calls for C (include/guide_rules.h) and from document 01's
-- examples.
use mathlib.Core.Bool.{true, ◌&&◌}
use mathlib.Core.List.{[], ◌∷◌}
use mathlib.Core.Option.{none, some}
use lib.Dec.{T, eqb}
use Rattle.std.specs.Prelude.{None, Some}
use Rattle.bits.specs.Range.{same}
use Rattle.rules.specs.Calls.{compile, costing, read}
use Rattle.rules.specs.Limits.{byte_limit}
use Rattle.rules.specs.Outcome.{gives, refuses}
use Rattle.rules.proofs.Answers.{entries_of, bytes_of}
use Rattle.rules.proofs.Computing.{computing}
use Rattle.answer_block.specs.Block.{stored, numbers, or_end}
use Rattle.answer_block.specs.Numbers.{alone, entries, listing, compilation, reading, package_reading, costs, cheaper}

-- "As many of them are stored as there is room for, and nothing else of the block changes"
pub block-rows :
    T (
    same (stored [] (1 ∷ 2 ∷ [])) []
    && same (stored (9 ∷ []) (1 ∷ 2 ∷ [])) (1 ∷ [])
    && same (stored (9 ∷ 8 ∷ []) (1 ∷ 2 ∷ [])) (1 ∷ 2 ∷ [])
    && same (stored (9 ∷ 8 ∷ 7 ∷ []) (1 ∷ 2 ∷ [])) (1 ∷ 2 ∷ 7 ∷ [])
    )
unfolding stored same
block-rows = tt

-- "the call's results in the order told with it, or after a refusal the place alone"
pub answer-rows :
    T (
    same (numbers alone (gives 9)) (9 ∷ [])
    && same (numbers alone (refuses 12 3)) (3 ∷ [])
    && same (numbers entries (gives (14 ∷ 7 ∷ []))) (2 ∷ [])
    && same (numbers listing (gives (record { constant = true; masks = 3 ∷ 5 ∷ 6 ∷ [] }))) (1 ∷ 3 ∷ [])
    && same (numbers compilation (compile 2 (entries_of "0111") byte_limit)) (8 ∷ 3 ∷ 3 ∷ 7 ∷ [])
    && same (numbers compilation (compile 2 (entries_of "0111") 7)) (8 ∷ [])
    && same (numbers costs (costing 3 (bytes_of "VA0 VA1 OR VA2 OR"))) (4 ∷ 5 ∷ 3 ∷ [])
    && same (numbers costs (costing 1 (bytes_of "VA0 VA0"))) (6 ∷ [])
    )
unfolding computing entries_of bytes_of
answer-rows = tt

-- "the kind, and nothing more at the end; the payload, 0 where there is none; the next place; the start of the first operand; that of the second;
-- each of these two is 0 where there is none", and `enum guide_rules_kind`. In the longest row AN at 6 takes the operands at 0 and 3, OR at 14 those
-- at 8 and 11, XO at 19 the one that OR leaves and that at 16, and NO at 21 the one that XO leaves. A flag past the last is refused at its own place,
-- also from a place behind it, and a place inside a record by itself.
pub reading-rows :
    T (
    same (numbers reading (read 4 (bytes_of "CO1") 0)) (1 ∷ 1 ∷ 3 ∷ 0 ∷ 0 ∷ [])
    && same (numbers reading (read 4 (bytes_of "VA0 VA3 AN") 3)) (2 ∷ 3 ∷ 6 ∷ 0 ∷ 0 ∷ [])
    && same (numbers reading (read 4 (bytes_of "VA0 VA1 AN") 6)) (3 ∷ 0 ∷ 8 ∷ 0 ∷ 3 ∷ [])
    && same (numbers reading (read 4 (bytes_of "VA0 VA1 AN CO1 VA2 OR VA3 XO NO") 14)) (4 ∷ 0 ∷ 16 ∷ 8 ∷ 11 ∷ [])
    && same (numbers reading (read 4 (bytes_of "VA0 VA1 AN CO1 VA2 OR VA3 XO NO") 19)) (5 ∷ 0 ∷ 21 ∷ 8 ∷ 16 ∷ [])
    && same (numbers reading (read 4 (bytes_of "VA0 VA1 AN CO1 VA2 OR VA3 XO NO") 21)) (6 ∷ 0 ∷ 23 ∷ 8 ∷ 0 ∷ [])
    && same (numbers reading (read 4 (bytes_of "VA0 VA1 AN") 8)) (0 ∷ [])
    && same (numbers reading (read 4 (bytes_of "VA0 VA4 AN") 6)) (3 ∷ [])
    && same (numbers reading (read 4 (bytes_of "VA0 VA1 AN") 7)) (7 ∷ [])
    )
unfolding computing bytes_of
reading-rows = tt

-- "the kind, and nothing more at the end; the flag count; the table word; the start of the expression; its length; the next place", and
-- `enum guide_rules_package_kind`
pub package-rows :
    T (
    same (numbers package_reading (gives (some (record { flags = 2; table = 14; start = 13; length = 8; next = 21 }))))
    (1 ∷ 2 ∷ 14 ∷ 13 ∷ 8 ∷ 21 ∷ [])
    && same (numbers package_reading (gives none)) (0 ∷ [])
    && same (numbers package_reading (refuses 15 21)) (21 ∷ [])
    )
unfolding same
package-rows = tt

-- the numbers of what was read, "and nothing more at the end" than the kind, 0
pub end-rows : T (same (or_end (Some (1 ∷ 1 ∷ 3 ∷ 0 ∷ 0 ∷ []))) (1 ∷ 1 ∷ 3 ∷ 0 ∷ 0 ∷ []) && same (or_end None) (0 ∷ []))
unfolding same
end-rows = tt

-- "Returns 0 where rule_cost refuses n or either expression; else 2 where the second has the smaller size, or the same size and the smaller depth;
-- else 1"
pub cheaper-rows :
    T (
    eqb (cheaper 1 (bytes_of "VA0 NO NO") (bytes_of "VA0")) 2
    && eqb (cheaper 1 (bytes_of "VA0") (bytes_of "VA0 NO NO")) 1
    && eqb (cheaper 1 (bytes_of "VA0") (bytes_of "CO1")) 1
    && eqb (cheaper 1 (bytes_of "VA1") (bytes_of "CO1")) 0
    && eqb (cheaper 1 (bytes_of "CO1") (bytes_of "VA1")) 0
    && eqb (cheaper 7 (bytes_of "VA0") (bytes_of "VA0")) 0
    )
unfolding computing bytes_of cheaper
cheaper-rows = tt
