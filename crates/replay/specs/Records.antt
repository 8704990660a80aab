-- An expression as the recorded files hold it, a code of four bits a record, two codes a byte, the earlier low.
--   code_at s i      == the code of record i of s
--   record_of c      == the bytes of the record with the code c, or of none
--   expression s n   == the bytes of the first n records of s
use Rattle.std.specs.Prelude.{ℕ, zero, suc, ◌*◌, ◌/◌, ◌%◌, ◌^◌, List, [], ◌∷◌, ◌++◌, get_or, slice_index_or}

abbrev pub code_at : List ℕ → ℕ → ℕ
code_at s i = get_or s (i / 2) 0 / 2 ^ (4 * (i % 2)) % 16

abbrev pub loaded : ℕ → ℕ → ℕ → List ℕ
loaded a b n = a ∷ b ∷ n ∷ []

abbrev pub plain : ℕ → ℕ → List ℕ
plain a b = a ∷ b ∷ []

abbrev pub records : List (List ℕ)
records =
    loaded 67 79 0 ∷ loaded 67 79 1
    ∷ loaded 86 65 0 ∷ loaded 86 65 1 ∷ loaded 86 65 2 ∷ loaded 86 65 3
    ∷ loaded 86 65 4 ∷ loaded 86 65 5 ∷ loaded 86 65 6 ∷ loaded 86 65 7
    ∷ plain 65 78 ∷ plain 79 82 ∷ plain 88 79 ∷ plain 78 79 ∷ []

abbrev pub record_of : ℕ → List ℕ
record_of c = slice_index_or records c (plain 63 63)

abbrev pub expression : List ℕ → ℕ → List ℕ
expression s zero = []
expression s (suc n) = expression s n ++ record_of (code_at s n)
