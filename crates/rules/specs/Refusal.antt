-- The answers of the calls on paper: a result, or one refusal with its number and its place.
--   number r          == the number by which the documents know a condition
--   outcome_of f r    == the outcome that the answer r tells, where f is what its result is on paper
use Rattle.std.specs.Prelude.{ℕ, Result, Ok, Err}
use Rattle.rules.specs.Limits.{too_many_flags, short_table, short_coefficients, stray_coefficient, short_output, bad_mark, bad_payload, few_operands}
use Rattle.rules.specs.Limits.{many_records, bad_end, bad_setting, differs, too_costly, short_stars, bad_rule_mark, past_end, stray_table_bit}
use Rattle.rules.specs.Outcome.{Outcome, gives, refuses}
use Rattle.rules.specs.declared.refusal.Reason.{Reason}
use Rattle.rules.specs.declared.refusal.Reason.TheVariants as reason
use Rattle.rules.specs.declared.refusal.Refusal.{Refusal}

abbrev pub number : Reason → ℕ
number reason.TooManyFlags = too_many_flags
number reason.ShortTable = short_table
number reason.ShortCoefficients = short_coefficients
number reason.StrayCoefficient = stray_coefficient
number reason.ShortOutput = short_output
number reason.BadMark = bad_mark
number reason.BadPayload = bad_payload
number reason.FewOperands = few_operands
number reason.ManyRecords = many_records
number reason.BadEnd = bad_end
number reason.BadSetting = bad_setting
number reason.Differs = differs
number reason.TooCostly = too_costly
number reason.ShortStars = short_stars
number reason.BadRuleMark = bad_rule_mark
number reason.PastEnd = past_end
number reason.StrayTableBit = stray_table_bit

abbrev pub outcome_of : {A B : Type 0} → (A → B) → Result A Refusal → Outcome B
outcome_of f (Ok a) = gives (f a)
outcome_of f (Err r) = refuses (number r.reason) r.place
