-- Document 01's examples, computed with the definitions: the eleven marked rules as one test, and the unmarked line of examples as a second.
-- The rows are the document's; nothing here came from a program.
use mathlib.Core.Bool.{Bool, not, ◌&&◌}
use mathlib.Core.List.{List, [], ◌∷◌}
use Prim.Native.Nat.{ℕ}
use Prim.Native.String.{String}
use lib.Dec.{T, eqb}
use Rattle.bits.specs.Range.{all, same}
use Rattle.rules.specs.Calls.{transform, compile, compiled, table_form, examine}
use Rattle.rules.specs.Coefficient.{coefficient, words}
use Rattle.rules.specs.Form.{raw_cost}
use Rattle.rules.specs.Outcome.{Outcome}
use Rattle.rules.specs.Table.{entry}
use Rattle.rules.specs.Tree.{cost}
use Rattle.rules.proofs.Answers.{entries_of, bytes_of, is_tree, is_refusal}
use Rattle.rules.proofs.Computing.{computing}

-- ---- "Marked examples of rules": bits from setting 0; coefficient word; records; cost, raw

pub record Row : Type 0 where
  pub flags : ℕ
  pub bits : String
  pub coefficients : ℕ
  pub text : String
  pub cost : ℕ
  pub raw : ℕ

unfoldable pub holds : Row → Bool
unfolding computing entries_of is_tree
holds r =
    same (words r.flags (coefficient r.flags (entry (entries_of r.bits)))) (r.coefficients ∷ [])
    && is_tree r.text (compiled r.flags (entries_of r.bits))
    && eqb (cost (compiled r.flags (entries_of r.bits))) r.cost
    && eqb (raw_cost (table_form r.flags (entries_of r.bits))) r.raw

unfoldable pub marked-rows : List Row
marked-rows =
    record { flags = 0; bits = "0"; coefficients = 0; text = "CO0"; cost = 1; raw = 1 }
    ∷ record { flags = 0; bits = "1"; coefficients = 1; text = "CO1"; cost = 1; raw = 1 }
    ∷ record { flags = 1; bits = "10"; coefficients = 3; text = "CO1 VA0 XO"; cost = 3; raw = 3 }
    ∷ record { flags = 2; bits = "0110"; coefficients = 6; text = "VA0 VA1 XO"; cost = 3; raw = 3 }
    ∷ record { flags = 2; bits = "0111"; coefficients = 14; text = "VA0 VA1 OR"; cost = 3; raw = 7 }
    ∷ record { flags = 2; bits = "0100"; coefficients = 10; text = "VA0 VA1 NO AN"; cost = 4; raw = 5 }
    ∷ record { flags = 3; bits = "00010000"; coefficients = 136; text = "VA0 VA1 VA2 NO AN AN"; cost = 6; raw = 9 }
    ∷ record { flags = 3; bits = "00010111"; coefficients = 104; text = "VA0 VA1 VA2 XO AN VA1 VA2 AN XO"; cost = 9; raw = 11 }
    ∷ record { flags = 3; bits = "01111111"; coefficients = 254; text = "VA0 VA1 OR VA2 OR"; cost = 4; raw = 23 }
    ∷ record { flags = 3; bits = "01111000"; coefficients = 30; text = "VA0 VA1 OR VA2 XO"; cost = 5; raw = 9 }
    ∷ record { flags = 3; bits = "10000000"; coefficients = 255; text = "CO1 VA0 VA1 OR VA2 OR XO"; cost = 6; raw = 25 }
    ∷ []

pub marked-rows-hold : T (all holds marked-rows)
unfolding computing holds marked-rows
marked-rows-hold = tt

-- ---- "Unmarked, table 01": what the examiner answers for some expressions of one flag; the two with 384 and 385 NO, which take longest to compute,
-- stand in laws, LongRows

unfoldable pub examined : List ℕ → Outcome ℕ
unfolding computing entries_of
examined s = examine 1 (entries_of "01") s

pub unmarked-rows-hold :
    T (
    is_refusal 13 3 (examined (bytes_of "VA0 VA0 AN"))
    && is_refusal 12 1 (examined (bytes_of "CO0"))
    && is_refusal 6 3 (examined (bytes_of "VA0 V"))
    && is_refusal 10 6 (examined (bytes_of "VA0 VA0"))
    && is_refusal 8 0 (examined (bytes_of "AN"))
    && is_refusal 7 0 (examined (bytes_of "VA1"))
    )
unfolding examined bytes_of is_refusal
unmarked-rows-hold = tt

-- "Entries 2, 3 read as 0, 1."
pub entries-read : T (not (entry (2 ∷ 3 ∷ []) 0) && entry (2 ∷ 3 ∷ []) 1)
unfolding computing
entries-read = tt

-- "Flags 16 transform, 17 don't; 6 compile, 7 don't.": what row 1 lets pass is here refused for its table, by row 2. For every table it is said
-- in proofs/UnmarkedFlags.
pub flag-limits :
    T (
    is_refusal 2 0 (transform 16 [] 0)
    && is_refusal 1 0 (transform 17 [] 0)
    && is_refusal 2 0 (compile 6 [] 0)
    && is_refusal 1 0 (compile 7 [] 0)
    )
unfolding computing is_refusal
flag-limits = tt
