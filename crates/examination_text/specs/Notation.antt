-- A rule as people write it: the records of an expression in document 01's printed notation, with one space between two.
--   split b s            == the parts of the bytes s before, between and after the bytes b in it
--   record_texts l        == the texts of the records of the line l
--   is_record t           == the text is two capital letters and, optionally, one digit
--   record_bytes t        == its bytes in an expression
--   expression ts        == the bytes of the expression whose records have the texts ts
--   record_of ts p        == the number, from 1, of the record in whose bytes the place p lies
use Rattle.std.specs.Prelude.{Bool, true, false, ◌&&◌, List, [], ◌∷◌, ◌++◌, map, ℕ, suc, ◌-◌, ltb, leb, eqb, length, take, drop}
use Rattle.bits.specs.Range.{all}
use Rattle.bits.specs.Sum.{sum}

-- one byte more at the front of the first part
unfoldable pub attach : ℕ → List (List ℕ) → List (List ℕ)
attach x [] = (x ∷ []) ∷ []
attach x (t ∷ ts) = (x ∷ t) ∷ ts

unfoldable pub split : ℕ → List ℕ → List (List ℕ)
split b [] = [] ∷ []
split b (x ∷ s) = elim (eqb x b) [ true ↦ [] ∷ split b s | false ↦ attach x (split b s) ]

-- the empty line has no record; 32 is the space
unfoldable pub record_texts : List ℕ → List (List ℕ)
record_texts [] = []
record_texts (x ∷ l) = split 32 (x ∷ l)

abbrev pub is_capital : ℕ → Bool
is_capital b = leb 65 b && leb b 90

abbrev pub is_numeral : ℕ → Bool
is_numeral b = leb 48 b && leb b 57

unfoldable pub is_record : List ℕ → Bool
is_record t = (leb 2 (length t) && leb (length t) 3) && (all is_capital (take 2 t) && all is_numeral (drop 2 t))

-- the letters as they are, and the digit's value
unfoldable pub record_bytes : List ℕ → List ℕ
record_bytes t = take 2 t ++ map (λ b. b - 48) (drop 2 t)

unfoldable pub expression : List (List ℕ) → List ℕ
expression ts = sum ◌++◌ [] record_bytes ts

-- the places of the rows 6, 7, 8 and 9 lie in the expression (proofs/Rows); a place behind it is taken for the last record's
unfoldable pub record_of : List (List ℕ) → ℕ → ℕ
record_of [] p = 0
record_of (t ∷ ts) p =
    elim (ltb p (length (record_bytes t))) [ true ↦ 1 | false ↦ suc (record_of ts (p - length (record_bytes t))) ]
