-- The writer and the reader of a package on paper, by request 4 of document 02; each makes its checks in the order of its sentences.
--   write_rule r room     == the writer: the bytes of a rule, for a buffer of that many bytes
--   Writes rs s          == the writer gives the bytes s for the rules rs, one behind the other
--   RuleAt, rule_at s p   == a rule in a package: flag count, table word, where the expression starts, how long it is, and the next place
--   rule_in s r           == that rule, with its expression
--   rule_from p r, placed p rs   == the rule r as it stands in a package at place p; the rules rs end to end from p on
--   headed s p           == the rule whose header stands at p, by 15, 16, 1 and 17
--   in_package at o       == an examination of the bytes from `at` on, with its byte places counted from the package's first byte
--   read_rule s p         == the reader: the rule at a place, or the end, which is none
--   Reads s p rs         == rs are the rules of s from place p on, and after the last of them is the end
use Rattle.std.specs.Prelude.{true, false, not, ◌||◌, List, [], ◌∷◌, ◌++◌, ◌≡◌, ℕ, ◌+◌, ltb, eqb, length, get_or}
use Rattle.std.proofs.Math.Option.{Option, none, some}
use Rattle.bits.specs.LowFirst.{low_first}
use Rattle.bits.specs.Part.{part}
use Rattle.bits.specs.Range.{same}
use Rattle.rules.specs.Ascii.{ascii}
use Rattle.rules.specs.Calls.{fill}
use Rattle.rules.specs.Limits.{package_flags, package_limit, too_many_flags, differs, too_costly, bad_rule_mark, past_end, stray_table_bit}
use Rattle.rules.specs.Outcome.{Outcome, gives, refuses, refuse, ◌then◌}
use Rattle.rule_package.specs.Rule.{Rule, header_length, rule_bytes, stray_bit, examine_rule}

-- ---- the writer

-- "The writer puts one rule (flag count, table word, expression) at the front of a lent buffer, refusing by 1 and 17 at place 0, the examiner's
-- numbers, then 5."; "The writer answers the rule's length": that of what it gives
unfoldable pub write_rule : Rule → ℕ → Outcome (List ℕ)
write_rule r room =
    refuse (ltb package_flags r.flags) too_many_flags 0
    (refuse (stray_bit r.flags r.table) stray_table_bit 0
    (examine_rule r then (λ c. fill room (rule_bytes r))))

-- rules written one behind the other: each into what is left of a buffer behind those before it, whatever the room there
abbrev pub Writes : List Rule → List ℕ → Type 0
Writes [] s = s ≡ []
Writes (r ∷ rs) s = (room : ℕ) × (l : List ℕ) × (rest : List ℕ) × (write_rule r room ≡ gives l) × (s ≡ l ++ rest) × Writes rs rest

-- ---- a rule in a package

pub record RuleAt : Type 0 where
  pub flags : ℕ
  pub table : ℕ
  pub start : ℕ
  pub length : ℕ
  pub next : ℕ

-- "the mark `RU`, one byte of flag count, two bytes of expression length (low byte first), eight table bytes (low first ..), then the expression"
unfoldable pub rule_at : List ℕ → ℕ → RuleAt
rule_at s p = record {
  flags = get_or s (p + 2) 0;
  table = low_first (part s (p + 5) 8);
  start = p + header_length;
  length = low_first (part s (p + 3) 2);
  next = p + header_length + low_first (part s (p + 3) 2);
}

unfoldable pub rule_in : List ℕ → RuleAt → Rule
rule_in s r = record { flags = r.flags; table = r.table; expression = part s r.start r.length }

-- the other way round: a rule as it stands in a package at place p, and rules end to end from there on
unfoldable pub rule_from : ℕ → Rule → RuleAt
rule_from p r = record {
  flags = r.flags;
  table = r.table;
  start = p + header_length;
  length = length r.expression;
  next = p + length (rule_bytes r);
}

unfoldable pub placed : ℕ → List Rule → List RuleAt
placed p [] = []
placed p (r ∷ rs) = rule_from p r ∷ placed (rule_from p r).next rs

-- "Per rule the order is 15, 16, 1, 17, all at the rule's first byte": "15 when the mark is wrong or cut", "16 when header or expression runs past
-- the end"
unfoldable pub headed : List ℕ → ℕ → Outcome RuleAt
headed s p =
    refuse (not (same (part s p 2) (ascii "RU"))) bad_rule_mark p
    (refuse (ltb (length s) (p + header_length) || ltb (length s) (rule_at s p).next) past_end p
    (refuse (ltb package_flags (rule_at s p).flags) too_many_flags p
    (refuse (stray_bit (rule_at s p).flags (rule_at s p).table) stray_table_bit p
    (gives (rule_at s p)))))

-- ---- the reader

-- "then the examiner's numbers, byte places counted from the package start and those of 12 and 13 as before"
unfoldable pub in_package : {A : Type 0} → ℕ → Outcome A → Outcome A
in_package at (gives a) = gives a
in_package at (refuses k p) = refuses k (elim (eqb k differs || eqb k too_costly) [ true ↦ p | false ↦ at + p ])

-- "The reader takes a package and a place and gives the rule there with the next place, or the end at or past the package's length."; "An overlong
-- package is refused first, at place 0."; "16 when .. the package is longer than allowed"
unfoldable pub read_rule : List ℕ → ℕ → Outcome (Option RuleAt)
read_rule s p =
    refuse (ltb package_limit (length s)) past_end 0
    (elim (ltb p (length s)) [
      | true ↦ headed s p then (λ r. in_package r.start (examine_rule (rule_in s r)) then (λ c. gives (some r)))
      | false ↦ gives none
    ])

-- "reading written rules, end to end in at most 65,536 bytes, gives the same rules": a reading goes from each rule to its next place, up to the end
abbrev pub Reads : List ℕ → ℕ → List RuleAt → Type 0
Reads s p [] = read_rule s p ≡ gives none
Reads s p (r ∷ rs) = (read_rule s p ≡ gives (some r)) × Reads s r.next rs
