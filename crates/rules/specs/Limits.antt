-- The limits and the numbers of the refusals of documents 01 and 02, each named once.
--   form_flags, rule_flags     == the most flags of the transform, the way back and the listing, and of all other calls
--   record_limit, byte_limit   == the most records of an expression, and the bytes that suffice for a compiled one
--   word_bits                 == the bits of a word: its coefficients, its stars, or a table's entries
--   package_flags, package_limit   == the most flags of a package's rule, and the most bytes of a package
--   too_many_flags .. stray_table_bit   == the refusals' numbers, 1 to 17, by their conditions
use Rattle.std.specs.Prelude.{ℕ}

-- "above 16 (transform, way back, listing); above 6 (all others)"
abbrev pub form_flags : ℕ
form_flags = 16

abbrev pub rule_flags : ℕ
rule_flags = 6

-- "It is well formed if it has 1 to 385 records"
abbrev pub record_limit : ℕ
record_limit = 385

-- "963 bytes always suffice."
abbrev pub byte_limit : ℕ
byte_limit = 963

-- "Coefficients are 64-bit words: coefficient m is bit m mod 64 of word m div 64"; request 1: "one 64-bit word per flag, bit j for star j"
abbrev pub word_bits : ℕ
word_bits = 64

-- request 4: refused "by 1" are more flags than six, as document 01 has it for all calls but three; by a name of its own, because packages keep
-- that limit (docs/DECISIONS.md)
abbrev pub package_flags : ℕ
package_flags = 6

-- request 4: "A package is rules end to end, at most 65,536 bytes"
abbrev pub package_limit : ℕ
package_limit = 65536

-- "Refusals by place of check": the column "No.", by the condition.
abbrev pub too_many_flags : ℕ
too_many_flags = 1

abbrev pub short_table : ℕ
short_table = 2

abbrev pub short_coefficients : ℕ
short_coefficients = 3

abbrev pub stray_coefficient : ℕ
stray_coefficient = 4

abbrev pub short_output : ℕ
short_output = 5

abbrev pub bad_mark : ℕ
bad_mark = 6

abbrev pub bad_payload : ℕ
bad_payload = 7

abbrev pub few_operands : ℕ
few_operands = 8

abbrev pub many_records : ℕ
many_records = 9

abbrev pub bad_end : ℕ
bad_end = 10

abbrev pub bad_setting : ℕ
bad_setting = 11

abbrev pub differs : ℕ
differs = 12

abbrev pub too_costly : ℕ
too_costly = 13

-- request 1: "It refuses with 14 .. when fewer than n words are lent"
abbrev pub short_stars : ℕ
short_stars = 14

-- request 4: "It refuses with 15 when the mark is wrong or cut, with 16 when header or expression runs past the end or the package is longer than
-- allowed, and with 17 when a table bit stands at 2^n or above."
abbrev pub bad_rule_mark : ℕ
bad_rule_mark = 15

abbrev pub past_end : ℕ
past_end = 16

abbrev pub stray_table_bit : ℕ
stray_table_bit = 17
