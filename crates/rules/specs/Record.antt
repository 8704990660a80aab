-- One record of an expression's bytes.
--   Kind             == what a record is, with its payload
--   Found            == a record with its kind, and the next place
--   FlagBelow n k    == a record of the kind names no flag at n or above
--   operand_count k   == how many operands a record of the kind has
--   record_at n s p   == the record that begins at byte p of s with n flags: its kind and the next place, or the refusal of its mark or payload
use Rattle.std.specs.Prelude.{Bool, true, false, List, ℕ, ◌+◌, ◌*◌, ◌<◌, ltb, leb, eqb, length, get_or, drop}
use Prim.Native.String.{String}
use Rattle.rules.specs.Ascii.{ascii}
use Rattle.rules.specs.Limits.{bad_mark, bad_payload}
use Rattle.rules.specs.Outcome.{Outcome, gives, refuses, refuse}

pub data Kind : Type 0 where
  Constant : Bool → Kind
  Flag : ℕ → Kind
  And Or Xor Not : Kind

abbrev pub FlagBelow : ℕ → Kind → Type 0
FlagBelow n (Constant b) = Unit
FlagBelow n (Flag i) = i < n
FlagBelow n And = Unit
FlagBelow n Or = Unit
FlagBelow n Xor = Unit
FlagBelow n Not = Unit

-- "`AN`, `OR`, `XO`: two operands"; "`NO`: one operand"
abbrev pub operand_count : Kind → ℕ
operand_count (Constant b) = 0
operand_count (Flag i) = 0
operand_count And = 2
operand_count Or = 2
operand_count Xor = 2
operand_count Not = 1

pub record Found : Type 0 where
  pub kind : Kind
  pub next : ℕ

-- two letters as one number, the first letter high
unfoldable pub mark : List ℕ → ℕ
mark s = get_or s 0 0 * 256 + get_or s 1 0

-- "Each record starts with a two-byte ASCII mark"
unfoldable pub marked : List ℕ → ℕ → String → Bool
marked s p t = eqb (mark (drop p s)) (mark (ascii t))

-- a record of two bytes
unfoldable pub plain : Kind → ℕ → Outcome Found
plain k p = gives (record { kind = k; next = p + 2 })

-- a record of three bytes: "absent, constant above 1, index n or more" is refused at the record's first byte
unfoldable pub loaded : List ℕ → ℕ → Bool → Kind → Outcome Found
loaded s p fits k =
    refuse (ltb (length s) (p + 3)) bad_payload p
    (elim fits [ true ↦ gives (record { kind = k; next = p + 3 }) | false ↦ refuses bad_payload p ])

-- "one byte left, or an unknown mark" is refused at the record's first byte; CO, VA, AN, OR, XO, NO are the marks
unfoldable pub record_at : ℕ → List ℕ → ℕ → Outcome Found
record_at n s p =
    refuse (ltb (length s) (p + 2)) bad_mark p
    (elim (marked s p "CO") [
      | true ↦ loaded s p (leb (get_or s (p + 2) 0) 1) (Constant (eqb (get_or s (p + 2) 0) 1))
      | false ↦ elim (marked s p "VA") [
        | true ↦ loaded s p (ltb (get_or s (p + 2) 0) n) (Flag (get_or s (p + 2) 0))
        | false ↦ elim (marked s p "AN") [
          | true ↦ plain And p
          | false ↦ elim (marked s p "OR") [
            | true ↦ plain Or p
            | false ↦ elim (marked s p "XO") [
              | true ↦ plain Xor p
              | false ↦ elim (marked s p "NO") [ true ↦ plain Not p | false ↦ refuses bad_mark p ]
            ]
          ]
        ]
      ]
    ])
