-- Request 4 of document 02, computed with the definitions: a rule's bytes, its examination, and the writer with its refusals in their order. The
-- values are worked by hand from the request's sentences, which the comments quote, and from how its open points are read; nothing here came from
-- a program.
use mathlib.Core.Bool.{not, ◌&&◌}
use mathlib.Core.List.{[], ◌∷◌, ◌++◌}
use Prim.Native.Nat.{◌+◌, ◌-◌, ◌^◌}
use lib.Dec.{T, eqb}
use lib.ListN.{length, take, drop}
use Rattle.bits.specs.Range.{same}
use Rattle.rules.proofs.Answers.{is_refusal, is_number, is_list}
use Rattle.rule_package.specs.Calls.{write_rule}
use Rattle.rule_package.specs.Rule.{rule_bytes, package_bytes, stray_bit, examine_rule}
use Rattle.rule_package.proofs.Answers.{packaging, rule, bytes, two, long}

-- ---- a rule's bytes

-- "Each rule is the mark `RU`, one byte of flag count, two bytes of expression length (low byte first), eight table bytes (low first, bit s for
-- setting s), then the expression."; C is 67. VA0 VA3 OR is 1 at the settings 1, 3, 5, 7, 2 + 8 + 32 + 128 = 170, and from 8 to 15.
pub rule-bytes-rows :
    T (
    same (rule_bytes (rule 2 14 "VA0 VA1 OR"))
    (82 ∷ 85 ∷ 2 ∷ 8 ∷ 0 ∷ 14 ∷ 0 ∷ 0 ∷ 0 ∷ 0 ∷ 0 ∷ 0 ∷ 0 ∷ 86 ∷ 65 ∷ 0 ∷ 86 ∷ 65 ∷ 1 ∷ 79 ∷ 82 ∷ [])
    && same (rule_bytes (rule 0 1 "CO1")) (82 ∷ 85 ∷ 0 ∷ 3 ∷ 0 ∷ 1 ∷ 0 ∷ 0 ∷ 0 ∷ 0 ∷ 0 ∷ 0 ∷ 0 ∷ 67 ∷ 79 ∷ 1 ∷ [])
    && same (rule_bytes (rule 4 65450 "VA0 VA3 OR"))
    (82 ∷ 85 ∷ 4 ∷ 8 ∷ 0 ∷ 170 ∷ 255 ∷ 0 ∷ 0 ∷ 0 ∷ 0 ∷ 0 ∷ 0 ∷ 86 ∷ 65 ∷ 0 ∷ 86 ∷ 65 ∷ 3 ∷ 79 ∷ 82 ∷ [])
    && same (rule_bytes (rule 6 (2 ^ 63 + 1) "")) (82 ∷ 85 ∷ 6 ∷ 0 ∷ 0 ∷ 1 ∷ 0 ∷ 0 ∷ 0 ∷ 0 ∷ 0 ∷ 0 ∷ 128 ∷ [])
    && same (rule_bytes (rule 6 0x0807060504030201 "CO0")) (82 ∷ 85 ∷ 6 ∷ 3 ∷ 0 ∷ 1 ∷ 2 ∷ 3 ∷ 4 ∷ 5 ∷ 6 ∷ 7 ∷ 8 ∷ 67 ∷ 79 ∷ 0 ∷ [])
    && same (take 13 (rule_bytes long)) (82 ∷ 85 ∷ 5 ∷ 7 ∷ 1 ∷ 254 ∷ 255 ∷ 255 ∷ 255 ∷ 0 ∷ 0 ∷ 0 ∷ 0 ∷ [])
    && eqb (length (rule_bytes long)) 276
    )
unfolding packaging rule long
rule-bytes-rows = tt

-- "A package is rules end to end ..; none is a valid count of rules."
pub package-rows :
    T (
    same (package_bytes []) []
    && same (package_bytes (rule 2 14 "VA0 VA1 OR" ∷ [])) (take 21 two)
    && same (package_bytes (rule 2 14 "VA0 VA1 OR" ∷ rule 1 1 "VA0 NO" ∷ [])) two
    && same (package_bytes (rule 1 1 "VA0 NO" ∷ rule 1 1 "VA0 NO" ∷ [])) (drop 21 two ++ drop 21 two)
    )
unfolding packaging rule
package-rows = tt

-- "when a table bit stands at 2^n or above": with no flag only the words 0 and 1 pass; the word 14 is above 2^2, and its bits stand below it
pub stray-rows :
    T (
    not (stray_bit 0 0)
    && not (stray_bit 0 1)
    && stray_bit 0 2
    && stray_bit 0 3
    && stray_bit 0 (2 ^ 63)
    && not (stray_bit 1 3)
    && stray_bit 1 4
    && not (stray_bit 2 14)
    && not (stray_bit 2 15)
    && stray_bit 2 16
    && stray_bit 2 33
    && stray_bit 2 (2 ^ 63)
    && not (stray_bit 5 (2 ^ 32 - 1))
    && stray_bit 5 (2 ^ 32)
    && stray_bit 5 (2 ^ 63)
    && not (stray_bit 6 (2 ^ 64 - 1))
    )
unfolding packaging
stray-rows = tt

-- "Each rule read is one the examiner accepts against its own table.": the cost, or the examiner's refusal with its own place. 0110 is the word 6,
-- 0101 the word 10, and VA5 alone is 1 at the settings from 32 on.
pub examination-rows :
    T (
    is_number 3 (examine_rule (rule 2 14 "VA0 VA1 OR"))
    && is_number 2 (examine_rule (rule 1 1 "VA0 NO"))
    && is_number 1 (examine_rule (rule 0 1 "CO1"))
    && is_number 3 (examine_rule (rule 4 65450 "VA0 VA3 OR"))
    && is_number 1 (examine_rule (rule 6 (2 ^ 64 - 2 ^ 32) "VA5"))
    && is_refusal 12 3 (examine_rule (rule 2 6 "VA0 VA1 OR"))
    && is_refusal 12 0 (examine_rule (rule 2 15 "VA0 VA1 OR"))
    && is_refusal 13 5 (examine_rule (rule 2 10 "VA0 NO NO NO NO"))
    && is_refusal 7 3 (examine_rule (rule 2 14 "VA0 VA2 OR"))
    && is_refusal 10 6 (examine_rule (rule 2 14 "VA0 VA1"))
    )
unfolding packaging rule is_number is_refusal
examination-rows = tt

-- ---- the writer

-- "The writer puts one rule (flag count, table word, expression) at the front of a lent buffer"; "The writer answers the rule's length"
pub writer-rows :
    T (
    is_list (take 21 two) (write_rule (rule 2 14 "VA0 VA1 OR") 21)
    && is_list (take 21 two) (write_rule (rule 2 14 "VA0 VA1 OR") 65537)
    && is_list (drop 21 two) (write_rule (rule 1 1 "VA0 NO") 18)
    && is_list (bytes 0 3 1 "CO1") (write_rule (rule 0 1 "CO1") 16)
    )
unfolding packaging rule bytes is_list
writer-rows = tt

-- "refusing by 1 and 17 at place 0, the examiner's numbers, then 5": each with what a later row would refuse too; the examiner's byte places are the
-- expression's own, and 5 gives the rule's length
pub writer-refusals :
    T (
    is_refusal 1 0 (write_rule (rule 7 14 "VA0 VA1 OR") 21)
    && is_refusal 1 0 (write_rule (rule 7 (2 ^ 63) "VA0 ?") 0)
    && is_refusal 1 0 (write_rule (rule 64 2 "CO0") 16)
    && is_refusal 17 0 (write_rule (rule 2 30 "VA0 VA1 OR") 21)
    && is_refusal 17 0 (write_rule (rule 2 16 "VA0 ?") 0)
    && is_refusal 17 0 (write_rule (rule 0 2 "CO0") 16)
    && is_refusal 17 0 (write_rule (rule 5 (2 ^ 32) "CO0") 16)
    && is_refusal 6 3 (write_rule (rule 2 14 "VA0 ?") 0)
    && is_refusal 7 3 (write_rule (rule 2 14 "VA0 VA2 OR") 0)
    && is_refusal 8 3 (write_rule (rule 2 14 "VA0 OR") 0)
    && is_refusal 10 6 (write_rule (rule 2 14 "VA0 VA1") 0)
    && is_refusal 10 0 (write_rule (rule 2 14 "") 0)
    && is_refusal 12 3 (write_rule (rule 2 6 "VA0 VA1 OR") 0)
    && is_refusal 12 63 (write_rule (rule 6 (2 ^ 63) "CO0") 0)
    && is_refusal 13 5 (write_rule (rule 2 10 "VA0 NO NO NO NO") 0)
    && is_refusal 5 21 (write_rule (rule 2 14 "VA0 VA1 OR") 0)
    && is_refusal 5 21 (write_rule (rule 2 14 "VA0 VA1 OR") 20)
    && is_refusal 5 18 (write_rule (rule 1 1 "VA0 NO") 17)
    && is_refusal 5 276 (write_rule long 275)
    )
unfolding packaging rule long is_refusal
writer-refusals = tt
