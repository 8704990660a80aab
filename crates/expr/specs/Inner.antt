-- The parts of the reading of one record, for the contracts of inner functions.
--   or_of k           == a record of the kind is an OR
--   over d p r           == a record r at place p that rows 6 and 7 pass, refused where d operands are too few
--   record_over n s d p   == the record that begins at place p, where d operands are left by those before it: rows 6, 7 and 8
--   operator_at k few p q == an operator of kind k at place p, whose operands may be too few, with the next place q
--   constant_at s p   == what begins at place p of the mark CO
--   flag_at n s p     == what begins at place p of the mark VA
use Rattle.std.specs.Prelude.{Bool, true, false, List, ℕ, ◌+◌, eqb, leb, ltb, get_or}
use Rattle.rules.specs.Limits.{few_operands}
use Rattle.rules.specs.Outcome.{Outcome, gives, refuse, ◌then◌}
use Rattle.rules.specs.Record as paper

-- "an OR": the discount asks for the first operand's kind
abbrev pub or_of : paper.Kind → Bool
or_of (paper.Constant b) = false
or_of (paper.Flag i) = false
or_of paper.And = false
or_of paper.Or = true
or_of paper.Xor = false
or_of paper.Not = false

-- operands "too few" are refused at the record's first byte
abbrev pub over : ℕ → ℕ → paper.Found → Outcome paper.Found
over d p r = refuse (ltb d (paper.operand_count r.kind)) few_operands p (gives r)

unfoldable pub record_over : ℕ → List ℕ → ℕ → ℕ → Outcome paper.Found
record_over n s d p = paper.record_at n s p then over d p

abbrev pub operator_at : paper.Kind → Bool → ℕ → ℕ → Outcome paper.Found
operator_at k few p q = refuse few few_operands p (gives (record { kind = k; next = q }))

-- "`CO`, then one byte, 0 or 1"
unfoldable pub constant_at : List ℕ → ℕ → Outcome paper.Found
constant_at s p = paper.loaded s p (leb (get_or s (p + 2) 0) 1) (paper.Constant (eqb (get_or s (p + 2) 0) 1))

-- "`VA`, then one byte, a flag index below n"
unfoldable pub flag_at : ℕ → List ℕ → ℕ → Outcome paper.Found
flag_at n s p = paper.loaded s p (ltb (get_or s (p + 2) 0) n) (paper.Flag (get_or s (p + 2) 0))
