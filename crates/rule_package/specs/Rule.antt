-- The rules of a package and their bytes, by request 4 of document 02.
--   Rule                 == a rule: its flag count, the word of its table and its expression
--   Held r               == the table and the expression of r are what the code's types hold
--   header_length         == the bytes before the expression
--   rule_bytes r          == a rule's bytes
--   package_bytes rs      == the bytes of rules end to end
--   stray_bit n w         == a bit of the table word w stands at 2^n or above
--   examine_rule r        == the examination of a rule's expression against its own table
use Rattle.std.specs.Prelude.{Bool, List, [], ◌∷◌, ◌++◌, ℕ, ◌-◌, ◌^◌, ◌<◌, length}
use Rattle.bits.specs.Bit.{bit}
use Rattle.bits.specs.LowFirst.{low_bytes}
use Rattle.bits.specs.Range.{from, any, Below}
use Rattle.rules.specs.Ascii.{ascii}
use Rattle.rules.specs.Calls.{examine}
use Rattle.rules.specs.Limits.{word_bits}
use Rattle.rules.specs.Outcome.{Outcome}
use Rattle.rules.specs.Table.{word_table}

pub record Rule : Type 0 where
  pub flags : ℕ
  pub table : ℕ
  pub expression : List ℕ

-- what the code's types say of a rule: its table is a word of 64 bits, and its expression bytes
pub record Held (r : Rule) : Type 0 where
  pub word : r.table < 2 ^ word_bits
  pub bytes : Below 256 r.expression

-- the mark, the flag count, the length and the table: 2 + 1 + 2 + 8 bytes
abbrev pub header_length : ℕ
header_length = 13

-- "Each rule is the mark `RU`, one byte of flag count, two bytes of expression length (low byte first), eight table bytes (low first, bit s for
-- setting s), then the expression."
unfoldable pub rule_bytes : Rule → List ℕ
rule_bytes r =
    ascii "RU" ++ (r.flags ∷ []) ++ low_bytes 2 (length r.expression) ++ low_bytes 8 r.table ++ r.expression

-- "A package is rules end to end, at most 65,536 bytes; none is a valid count of rules."
unfoldable pub package_bytes : List Rule → List ℕ
package_bytes [] = []
package_bytes (r ∷ rs) = rule_bytes r ++ package_bytes rs

-- "with 17 when a table bit stands at 2^n or above"
unfoldable pub stray_bit : ℕ → ℕ → Bool
stray_bit n w = any (bit w) (from (2 ^ n) (word_bits - 2 ^ n))

-- "Each rule read is one the examiner accepts against its own table."
unfoldable pub examine_rule : Rule → Outcome ℕ
examine_rule r = examine r.flags (word_table r.flags r.table) r.expression
