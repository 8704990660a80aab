-- Equal numbers have equal answers, so what the replay compares tells a result from a refusal. It rests on the definitions of specs/Answers, and for
-- the examiner and raw costing on their answers' meanings (examiner and anf_form, Injective) and on that of an outcome that is a number (recorded,
-- Injective).
--   compiled_by-injective   == the answers of the compiler
--   examined-injective     == the answers of the examiner
--   raw_costed-injective    == the answers of raw costing
use Rattle.std.specs.Prelude.{◌≡◌, ℕ, Result, get_or, refl}
use Rattle.rules.specs.declared.refusal.Refusal.{Refusal}
use Rattle.anf_form.specs.Answers.{raw_cost_of}
use Rattle.anf_form.proofs.Injective.{raw_cost_of-injective}
use Rattle.compiler.specs.declared.Expression.{Expression}
use Rattle.examiner.specs.Answers.{examination_of}
use Rattle.examiner.proofs.Injective.{examination_of-injective}
use Rattle.comparison.proofs.Told.{answer_of-injective}
use Rattle.recorded.specs.Results.{number_of}
use Rattle.recorded.proofs.Injective.{number_of-injective}
use Rattle.recorded_rules.specs.Answers.{numbers_of, compiled_by}

pub compiled_by-injective : (a b : Result Expression Refusal) → compiled_by a ≡ compiled_by b → a ≡ b
compiled_by-injective =
    answer_of-injective numbers_of (λ l. record { bytes = get_or l 3 0; records = get_or l 2 0; cost = get_or l 0 0; raw = get_or l 1 0 }) (λ e. refl)

pub examined-injective : (a b : Result ℕ Refusal) → number_of (examination_of a) ≡ number_of (examination_of b) → a ≡ b
examined-injective a b e = examination_of-injective a b (number_of-injective (examination_of a) (examination_of b) e)

pub raw_costed-injective : (a b : Result ℕ Refusal) → number_of (raw_cost_of a) ≡ number_of (raw_cost_of b) → a ≡ b
raw_costed-injective a b e = raw_cost_of-injective a b (number_of-injective (raw_cost_of a) (raw_cost_of b) e)
