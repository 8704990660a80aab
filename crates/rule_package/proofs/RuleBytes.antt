-- The bytes of one rule: what stands where in them, wherever they stand in a package, and that the rule which a marked header tells of has the bytes
-- that it was read from. It rests on numbers in bytes and parts of a list (bits, LowFirst and Part) and on the library's laws of lists.
--   length-rule_bytes               == a rule is 13 bytes and its expression
--   mark-rule_bytes, rule_at-rule_bytes, rule_in-rule_bytes == a rule's bytes in a package: their mark, what their header says, and the rule in them
--   rule_bytes-rule_in               == the rule of a marked header has the bytes of header and expression
use mathlib.Core.List.{List, ◌++◌}
use mathlib.Core.Path.{◌≡◌, refl, sym, ap, ◌∙◌}
use Prim.Native.Nat.{ℕ, ◌+◌, ◌^◌, ◌≤◌, ◌<◌}
use native.Mathlib.Nat.{add_assoc}
use native.Mathlib.Omega.{arith}
use lib.ListN.{length, get_or, take}
use lib.Seq.{drop-append_seam, get_or-append-add, take-append_seam}
use Rattle.bits.specs.LowFirst.{low_first, low_bytes}
use Rattle.bits.specs.Part.{part}
use Rattle.bits.specs.Range.{Below}
use Rattle.bits.proofs.LowFirst.{low_first-low_bytes, number-again}
use Rattle.bits.proofs.Part.{part-append, part-add, part-one, length_part}
use Rattle.rules.specs.Ascii.{ascii}
use Rattle.rules.specs.Limits.{word_bits}
use Rattle.rule_package.specs.Calls.{rule_at, rule_from, rule_in}
use Rattle.rule_package.specs.Rule.{Rule, header_length, rule_bytes}

pub length-rule_bytes : (r : Rule) → length (rule_bytes r) ≡ header_length + length r.expression
unfolding rule_bytes ascii low_bytes
length-rule_bytes r = omega arith

-- what stands at the front of a rule's bytes and whatever follows them
module _ (r : Rule) (b : List ℕ) where
  front-mark : part (rule_bytes r ++ b) 0 2 ≡ ascii "RU"
  unfolding rule_bytes ascii low_bytes
  front-mark = refl

  front-flags : get_or (rule_bytes r ++ b) 2 0 ≡ r.flags
  unfolding rule_bytes ascii low_bytes
  front-flags = refl

  front_length : part (rule_bytes r ++ b) 3 2 ≡ low_bytes 2 (length r.expression)
  unfolding rule_bytes ascii low_bytes
  front_length = refl

  front-table : part (rule_bytes r ++ b) 5 8 ≡ low_bytes 8 r.table
  unfolding rule_bytes ascii low_bytes
  front-table = refl

  front-expression : part (rule_bytes r ++ b) header_length (length r.expression) ≡ r.expression
  unfolding rule_bytes ascii low_bytes
  front-expression = take-append_seam r.expression b

module _ (r : Rule) (a b : List ℕ) where
  pub mark-rule_bytes : part (a ++ (rule_bytes r ++ b)) (length a) 2 ≡ ascii "RU"
  mark-rule_bytes = ap (take 2) (drop-append_seam a (rule_bytes r ++ b)) ∙ front-mark r b

  flags-rule_bytes : get_or (a ++ (rule_bytes r ++ b)) (length a + 2) 0 ≡ r.flags
  flags-rule_bytes = get_or-append-add a (rule_bytes r ++ b) 2 0 ∙ front-flags r b

  pair-rule_bytes : length r.expression < 256 ^ 2 → low_first (part (a ++ (rule_bytes r ++ b)) (length a + 3) 2) ≡ length r.expression
  pair-rule_bytes h = ap low_first (part-append a (rule_bytes r ++ b) 3 2 ∙ front_length r b) ∙ low_first-low_bytes 2 (length r.expression) h

  word-rule_bytes : r.table < 2 ^ word_bits → low_first (part (a ++ (rule_bytes r ++ b)) (length a + 5) 8) ≡ r.table
  word-rule_bytes h = ap low_first (part-append a (rule_bytes r ++ b) 5 8 ∙ front-table r b) ∙ low_first-low_bytes 8 r.table h

  pub rule_at-rule_bytes : length r.expression < 256 ^ 2 → r.table < 2 ^ word_bits
      → rule_at (a ++ (rule_bytes r ++ b)) (length a) ≡ rule_from (length a) r
  unfolding rule_at rule_from
  rule_at-rule_bytes short word = rw (flags-rule_bytes, word-rule_bytes word, pair-rule_bytes short, length-rule_bytes r, add_assoc)

  pub rule_in-rule_bytes : rule_in (a ++ (rule_bytes r ++ b)) (rule_from (length a) r) ≡ r
  unfolding rule_from rule_in
  rule_in-rule_bytes = rw (part-append a (rule_bytes r ++ b) header_length (length r.expression), front-expression r b)

-- ---- from the bytes to the rule and back

module _ (s : List ℕ) (small : Below 256 s) where
  pub rule_bytes-rule_in : (p : ℕ) → part s p 2 ≡ ascii "RU" → p + header_length ≤ length s → (rule_at s p).next ≤ length s
      → rule_bytes (rule_in s (rule_at s p)) ≡ part s p (header_length + (rule_at s p).length)
  unfolding rule_bytes rule_in rule_at
  rule_bytes-rule_in p mark whole fits =
      let k : ℕ = low_first (part s (p + 3) 2) in
      rw (
        length_part s (p + header_length) k fits,
        number-again s (p + 3) small 2 (omega arith),
        number-again s (p + 5) small 8 (omega arith),
        ← mark,
      )
      (rw (← part-one s (p + 2) (omega arith), ← part-add s p 2 1, ← part-add s p 3 2, ← part-add s p 5 8) (sym (part-add s p header_length k)))
