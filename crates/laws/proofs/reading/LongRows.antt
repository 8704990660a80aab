-- Document 01's unmarked examples with as many records as there may be, and with one more, computed with the definitions: "VA0 and 384 NO 13, place
-- 385; with 385 NO 9, place 771", and what the reader answers at and around these records. They stand apart from rules' rows because they took a
-- third of every check of `rules`.
use mathlib.Core.Bool.{◌&&◌}
use mathlib.Core.List.{List, [], ◌++◌}
use Prim.Native.Nat.{ℕ, zero, suc}
use lib.Dec.{T}
use Rattle.rules.specs.Ascii.{ascii}
use Rattle.rules.specs.Calls.{read}
use Rattle.rules.proofs.Answers.{bytes_of, is_refusal, is_record, is_end}
use Rattle.rules.proofs.Computing.{computing}
use Rattle.rules.proofs.Rows.{examined}

unfoldable pub negations : ℕ → List ℕ
unfolding computing
negations zero = []
negations (suc k) = ascii "NO" ++ negations k

-- flag 0 and k times NO
unfoldable pub negated : ℕ → List ℕ
unfolding bytes_of negations
negated k = bytes_of "VA0" ++ negations k

pub long-rows-hold : T (is_refusal 13 385 (examined (negated 384)) && is_refusal 9 771 (examined (negated 385)))
unfolding examined bytes_of negated is_refusal
long-rows-hold = tt

-- the 385th record is read, whatever stands behind it; the 386th is refused, also from behind, and a place inside the 385th is no record
pub long-reads-hold :
    T (
    is_record "NO" 0 0 771 (read 1 (negated 384) 769)
    && is_record "NO" 0 0 771 (read 1 (negated 385) 769)
    && is_end (read 1 (negated 384) 771)
    && is_refusal 9 771 (read 1 (negated 385) 771)
    && is_refusal 9 771 (read 1 (negated 385) 772)
    && is_refusal 9 771 (read 1 (negated 385) 773)
    && is_refusal 8 770 (read 1 (negated 385) 770)
    )
unfolding computing negated is_refusal is_record is_end
long-reads-hold = tt
