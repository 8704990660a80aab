-- Every refusal of the writer and of the reader has a number above 0, so that a number 0 means a result. It rests on the rows of the two and on the
-- numbers by which an outcome refuses (laws, Refused and Numbered).
--   numbered-examine_rule                       == so for the examination of a rule
--   numbered-write_rule, numbered-read_rule      == for the writer and the reader
use mathlib.Core.Bool.{not, ◌||◌}
use mathlib.Core.List.{List}
use Prim.Native.Nat.{ℕ, ◌+◌}
use native.Mathlib.Omega.{arith}
use lib.Dec.{ltb}
use lib.ListN.{length}
use Rattle.bits.specs.Range.{same}
use Rattle.rules.specs.Ascii.{ascii}
use Rattle.rules.specs.Calls.{with_room, fill}
use Rattle.rules.specs.Limits.{package_flags, package_limit}
use Rattle.rules.specs.Outcome.{Outcome, gives, refuses}
use Rattle.rules.specs.Table.{word_table}
use Rattle.laws.proofs.calls.Numbered.{Positive, Numbered, numbered-examine}
use Rattle.laws.proofs.calls.Refused.{by_row, by-step, by-choice}
use Rattle.bits.specs.Part.{part}
use Rattle.rule_package.specs.Calls.{rule_at, rule_in, headed, in_package, write_rule, read_rule}
use Rattle.rule_package.specs.Rule.{Rule, header_length, rule_bytes, stray_bit, examine_rule}

numbered-examine_rule : (r : Rule) → Numbered (examine_rule r)
unfolding examine_rule
numbered-examine_rule r = numbered-examine r.flags (word_table r.flags r.table) r.expression

pub numbered-write_rule : (r : Rule) (room : ℕ) → Numbered (write_rule r room)
unfolding write_rule fill with_room
numbered-write_rule r room =
    by_row Positive (ltb package_flags r.flags) _ _ _ (omega arith)
    (by_row Positive (stray_bit r.flags r.table) _ _ _ (omega arith)
    (by-step Positive (examine_rule r) _ (numbered-examine_rule r)
    (λ c. by_row Positive (ltb room (length (rule_bytes r))) _ _ _ (omega arith) tt)))

numbered-headed : (s : List ℕ) (p : ℕ) → Numbered (headed s p)
unfolding headed
numbered-headed s p =
    by_row Positive (not (same (part s p 2) (ascii "RU"))) _ _ _ (omega arith)
    (by_row Positive (ltb (length s) (p + header_length) || ltb (length s) (rule_at s p).next) _ _ _ (omega arith)
    (by_row Positive (ltb package_flags (rule_at s p).flags) _ _ _ (omega arith)
    (by_row Positive (stray_bit (rule_at s p).flags (rule_at s p).table) _ _ _ (omega arith) tt)))

numbered-in_package : {A : Type 0} (at : ℕ) (o : Outcome A) → Numbered o → Numbered (in_package at o)
unfolding in_package
numbered-in_package at (gives a) h = tt
numbered-in_package at (refuses k p) h = h

pub numbered-read_rule : (s : List ℕ) (p : ℕ) → Numbered (read_rule s p)
unfolding read_rule
numbered-read_rule s p =
    by_row Positive (ltb package_limit (length s)) _ _ _ (omega arith)
    (by-choice Positive (ltb p (length s)) _ _
    (by-step Positive (headed s p) _ (numbered-headed s p)
    (λ r. by-step Positive (in_package r.start (examine_rule (rule_in s r))) _
    (numbered-in_package r.start (examine_rule (rule_in s r)) (numbered-examine_rule (rule_in s r))) (λ c. tt)))
    tt)
