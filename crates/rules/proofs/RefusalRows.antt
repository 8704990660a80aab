-- Document 01's table of refusals, computed with the definitions: each row at its edges for each call that makes the check, with number and
-- place, and the order of rows that both apply. The values are read from the table and the sentences under it; nothing here came from a program.
use mathlib.Core.Bool.{Bool, true, false, ◌&&◌}
use mathlib.Core.List.{List, [], ◌∷◌}
use Prim.Native.Nat.{ℕ, ◌^◌}
use lib.Dec.{T, eqb}
use Rattle.bits.specs.Range.{same}
use Rattle.rules.specs.Ascii.{ascii}
use Rattle.rules.specs.Calls.{transform, way_back, listing, raw_costing, compile, read, evaluate, costing, cheaper_of_two, examine}
use Rattle.rules.specs.Limits.{package_limit, package_flags, bad_rule_mark, past_end, stray_table_bit}
use Rattle.rules.specs.Machine.{Operand, run}
use Rattle.rules.specs.Tree.{VA}
use Rattle.rules.proofs.Answers.{entries_of, bytes_of, is_refusal, is_number, is_list, is_listing, is_compilation, is_parsed, is_end}
use Rattle.rules.proofs.Computing.{computing}

-- ---- row 1: "above 16 (transform, way back, listing); above 6 (all others)"; what the limit lets pass is refused by a later row, or answered

pub flag-rows-of-forms :
    T (
    is_refusal 1 0 (transform 17 [] 0)
    && is_refusal 2 0 (transform 16 [] 0)
    && is_refusal 1 0 (way_back 17 [] 0)
    && is_refusal 3 0 (way_back 16 [] 0)
    && is_refusal 1 0 (listing 17 [] 0)
    && is_refusal 3 0 (listing 16 [] 0)
    )
unfolding computing is_refusal
flag-rows-of-forms = tt

pub flag-rows-of-rules :
    T (
    is_refusal 1 0 (raw_costing 7 [])
    && is_refusal 3 0 (raw_costing 6 [])
    && is_refusal 1 0 (compile 7 [] 0)
    && is_refusal 2 0 (compile 6 [] 0)
    && is_refusal 1 0 (read 7 [] 0)
    && is_end (read 6 [] 0)
    && is_refusal 1 0 (evaluate 7 [] 128)
    && is_refusal 11 0 (evaluate 6 [] 64)
    && is_refusal 1 0 (costing 7 [])
    && is_refusal 10 0 (costing 6 [])
    && is_refusal 1 0 (examine 7 [] [])
    && is_refusal 2 0 (examine 6 [] [])
    && same (cheaper_of_two 7 (bytes_of "VA0") (bytes_of "VA0")) []
    && same (cheaper_of_two 6 (bytes_of "VA0") (bytes_of "VA0")) (bytes_of "VA0")
    )
unfolding computing is_refusal is_end bytes_of
flag-rows-of-rules = tt

-- ---- row 2: "fewer than 2^n entries", before row 5 and before the records

pub table-refusals :
    T (
    is_refusal 2 0 (transform 2 (entries_of "011") 0)
    && is_list (14 ∷ []) (transform 2 (entries_of "0111") 1)
    && is_list (14 ∷ []) (transform 2 (entries_of "01110") 1)
    && is_refusal 2 0 (compile 2 (entries_of "011") 0)
    && is_refusal 2 0 (examine 2 (entries_of "011") (ascii "?"))
    && is_number 3 (examine 2 (entries_of "01111") (bytes_of "VA0 VA1 OR"))
    )
unfolding computing is_refusal is_list is_number entries_of bytes_of
table-refusals = tt

-- ---- rows 3 and 4: "fewer words than needed"; "a bit at 2^n or above in the needed words"; before row 5

pub word-refusals :
    T (
    is_refusal 3 0 (way_back 0 [] 0)
    && is_refusal 3 0 (listing 7 (1 ∷ []) 0)
    && is_listing true [] (listing 7 (1 ∷ 0 ∷ []) 0)
    && is_refusal 3 0 (raw_costing 2 [])
    && is_number 7 (raw_costing 2 (14 ∷ []))
    && is_number 7 (raw_costing 2 (14 ∷ 1 ∷ []))
    )
unfolding computing is_refusal is_listing is_number
word-refusals = tt

pub stray-refusals :
    T (
    is_refusal 4 0 (way_back 2 (16 ∷ []) 0)
    && is_list (entries_of "0111") (way_back 2 (14 ∷ 16 ∷ []) 4)
    && is_refusal 4 0 (listing 2 (30 ∷ []) 0)
    && is_listing false (63 ∷ []) (listing 6 (2 ^ 63 ∷ []) 1)
    && is_refusal 4 0 (raw_costing 5 (2 ^ 32 ∷ []))
    && is_number 9 (raw_costing 5 (2 ^ 31 ∷ []))
    )
unfolding computing is_refusal is_list is_listing is_number entries_of
stray-refusals = tt

-- ---- row 11: "2^n or more", before the records

pub setting-refusals :
    T (
    is_refusal 11 0 (evaluate 1 (bytes_of "VA0") 2)
    && is_number 1 (evaluate 1 (bytes_of "VA0") 1)
    && is_refusal 11 0 (evaluate 0 (bytes_of "CO1") 1)
    && is_number 1 (evaluate 0 (bytes_of "CO1") 0)
    && is_refusal 11 0 (evaluate 1 (ascii "?") 2)
    )
unfolding computing is_refusal is_number bytes_of
setting-refusals = tt

-- ---- rows 9, 6, 7, 8 and 10

-- what evaluation, costing and the examiner, which all read the whole expression, answer with n flags: that refusal
unfoldable pub refused_by : ℕ → ℕ → ℕ → List ℕ → Bool
unfolding computing is_refusal
refused_by n k p s = is_refusal k p (evaluate n s 0) && is_refusal k p (costing n s) && is_refusal k p (examine n (0 ∷ 0 ∷ 0 ∷ 0 ∷ []) s)

-- the stack after `VA0` at byte 0
abbrev pub flag_first : List Operand
flag_first = record { tree = VA 0; start = 0 } ∷ []

-- "a 386th record begins", its first byte: where no more records may begin, one that does is refused, also where it is no record, and the end is
-- still the end. Document 01's unmarked examples have the 385th and the 386th (laws, LongRows).
pub record-refusals :
    T (
    is_refusal 9 3 (run 0 1 (bytes_of "VA0 NO") 3 flag_first)
    && is_refusal 9 3 (run 0 1 (bytes_of "VA0 ?") 3 flag_first)
    && is_parsed "VA0" (run 0 1 (bytes_of "VA0") 3 flag_first)
    && is_parsed "VA0 NO" (run 1 1 (bytes_of "VA0 NO") 3 flag_first)
    )
unfolding computing bytes_of is_refusal is_parsed
record-refusals = tt

-- "one byte left, or an unknown mark", the record's first byte
pub mark-refusals :
    T (
    refused_by 2 6 0 (ascii "V")
    && refused_by 2 6 3 (bytes_of "VA0 N")
    && refused_by 2 6 0 (ascii "XX")
    && refused_by 2 6 0 (bytes_of "AV0")
    && refused_by 2 6 0 (bytes_of "va0")
    && refused_by 2 6 6 (bytes_of "VA0 VA1 RO")
    )
unfolding computing refused_by bytes_of
mark-refusals = tt

-- "absent, constant above 1, index n or more", the record's first byte
pub payload-refusals :
    T (
    refused_by 2 7 0 (ascii "CO")
    && refused_by 2 7 3 (bytes_of "VA0 VA")
    && refused_by 2 7 0 (bytes_of "CO2")
    && is_number 1 (evaluate 2 (bytes_of "CO1") 0)
    && refused_by 2 7 3 (bytes_of "VA1 VA2")
    && is_number 1 (evaluate 2 (bytes_of "VA1") 2)
    && refused_by 0 7 0 (bytes_of "VA0")
    )
unfolding computing refused_by is_number bytes_of
payload-refusals = tt

-- operands "too few", the record's first byte
pub operand-refusals :
    T (
    refused_by 2 8 0 (bytes_of "NO")
    && refused_by 2 8 3 (bytes_of "VA0 AN")
    && refused_by 2 8 3 (bytes_of "VA0 OR")
    && refused_by 2 8 3 (bytes_of "VA0 XO")
    && refused_by 2 8 8 (bytes_of "VA0 VA1 AN OR")
    )
unfolding computing refused_by bytes_of
operand-refusals = tt

-- "no bytes, or more than one operand left", the byte length
pub end-refusals :
    T (refused_by 2 10 0 [] && refused_by 2 10 6 (bytes_of "VA0 VA1") && refused_by 2 10 16 (bytes_of "VA0 VA1 VA1 NO XO CO1"))
unfolding computing refused_by bytes_of
end-refusals = tt

-- "Rows 9, 6, 7, 8 run record by record, before 10.": the first bad record is refused, and before what is left at the end
pub order-of-records :
    T (
    refused_by 2 8 0 (bytes_of "AN ?")
    && refused_by 2 8 0 (bytes_of "NO VA9")
    && refused_by 2 7 0 (bytes_of "VA9 AN")
    && refused_by 2 6 0 (bytes_of "?? VA9")
    && refused_by 2 6 6 (bytes_of "VA0 VA1 ?")
    && refused_by 2 7 6 (bytes_of "VA0 VA1 CO2")
    )
unfolding computing refused_by bytes_of
order-of-records = tt

-- ---- rows 12 and 13: "differs from the table", "smallest such setting"; "cost above raw cost", "the cost": of the last, 4 with its discount

pub examination-refusals :
    T (
    is_refusal 12 1 (examine 2 (entries_of "0110") (bytes_of "CO0"))
    && is_refusal 12 3 (examine 2 (entries_of "0110") (bytes_of "VA0 VA1 OR"))
    && is_refusal 12 0 (examine 1 (entries_of "01") (bytes_of "VA0 NO NO NO"))
    && is_refusal 13 5 (examine 2 (entries_of "0101") (bytes_of "VA0 NO NO NO NO"))
    && is_refusal 13 4 (examine 1 (entries_of "01") (bytes_of "VA0 VA0 OR VA0 OR"))
    )
unfolding computing is_refusal entries_of bytes_of
examination-refusals = tt

-- ---- row 5: "shorter than the result", the length needed, "in the buffer's own entries"

pub output-refusals :
    T (
    is_refusal 5 1 (transform 2 (entries_of "0111") 0)
    && is_refusal 5 4 (way_back 2 (14 ∷ []) 3)
    && is_refusal 5 3 (listing 2 (15 ∷ []) 2)
    && is_listing true (1 ∷ 2 ∷ 3 ∷ []) (listing 2 (15 ∷ []) 3)
    && is_refusal 5 8 (compile 2 (entries_of "0111") 7)
    && is_compilation (bytes_of "VA0 VA1 OR") 3 3 7 (compile 2 (entries_of "0111") 8)
    )
unfolding computing is_refusal is_listing is_compilation entries_of bytes_of
output-refusals = tt

-- ---- request 4: "at most 65,536 bytes"; more than six flags are refused by 1; "15 when the mark is wrong or cut", "16 when header or expression
-- runs past the end or the package is longer than allowed", "17 when a table bit stands at 2^n or above"; the calls are in rule_package

pub package-limits :
    T (eqb package_limit 65536 && eqb package_flags 6 && eqb bad_rule_mark 15 && eqb past_end 16 && eqb stray_table_bit 17)
package-limits = tt
