-- The examiner's verdict in words.
--   flag_names l              == the flags l, each after a space, or that there is none
--   reason n table ts k p    == why refusal number k with place p, for the table of n flags and the records of the texts ts
--   verdict_text n table ts o == the verdict o
use Rattle.std.specs.Prelude.{true, false, List, [], ◌∷◌, ◌++◌, ℕ, eqb}
use Rattle.bits.specs.Sum.{sum}
use Rattle.bits.specs.Word.{places}
use Rattle.rules.specs.Ascii.{ascii}
use Rattle.rules.specs.Calls.{table_form}
use Rattle.rules.specs.Form.{raw_cost}
use Rattle.rules.specs.Limits.{record_limit, bad_mark, bad_payload, few_operands, many_records, bad_end, differs}
use Rattle.rules.specs.Outcome.{Outcome, gives, refuses}
use Rattle.rules.specs.Text.{decimal}
use Rattle.examination_text.specs.Notation.{record_of}

abbrev pub named : List ℕ → List ℕ
named l = sum ◌++◌ [] (λ i. ascii " " ++ decimal i) l

unfoldable pub flag_names : List ℕ → List ℕ
flag_names [] = ascii " none"
flag_names (i ∷ l) = named (i ∷ l)

-- "differs from the table", place "smallest such setting"
unfoldable pub difference : ℕ → ℕ → List ℕ
difference n p = ascii "differs from the table at setting " ++ decimal p ++ ascii ", flags set:" ++ flag_names (places n p)

-- "cost above raw cost", place "the cost"
unfoldable pub above_raw : ℕ → ℕ → List ℕ
above_raw raw p = ascii "cost " ++ decimal p ++ (ascii " is above the raw cost " ++ decimal raw)

-- "a 386th record begins"
unfoldable pub beyond_limit : ℕ → List ℕ
beyond_limit i = ascii "more than " ++ decimal record_limit ++ (ascii " records, at record " ++ decimal i)

-- by the rows 6, 7, 8, 9, 10 and 12, and else by 13: no other row refuses a rule for a table of up to six flags (proofs/Rows)
unfoldable pub reason : ℕ → List ℕ → List (List ℕ) → ℕ → ℕ → List ℕ
reason n table ts k p =
    elim (eqb k bad_mark) [
      | true ↦ ascii "unknown mark, at record " ++ decimal (record_of ts p)
      | false ↦ elim (eqb k bad_payload) [
        | true ↦ ascii "payload missing or out of range, at record " ++ decimal (record_of ts p)
        | false ↦ elim (eqb k few_operands) [
          | true ↦ ascii "too few operands, at record " ++ decimal (record_of ts p)
          | false ↦ elim (eqb k many_records) [
            | true ↦ beyond_limit (record_of ts p)
            | false ↦ elim (eqb k bad_end) [
              | true ↦ ascii "no record, or more than one operand left at the end"
              | false ↦ elim (eqb k differs) [ true ↦ difference n p | false ↦ above_raw (raw_cost (table_form n table)) p ]
            ]
          ]
        ]
      ]
    ]

unfoldable pub verdict_text : ℕ → List ℕ → List (List ℕ) → Outcome ℕ → List ℕ
verdict_text n table ts (gives c) = ascii "accepted, cost " ++ decimal c
verdict_text n table ts (refuses k p) = ascii "refused by row " ++ decimal k ++ ascii ": " ++ reason n table ts k p
