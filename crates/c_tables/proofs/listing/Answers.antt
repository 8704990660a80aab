-- `c_tables::listing` meets its contract: the length of the buffer's front is the count that is stored. From the law of answers (answer_block,
-- Answered).
use Rattle.std.specs.Prelude.{◌≡◌, [], ◌∷◌, ℕ}
use Rattle.std.proofs.Common.{rules}
use mathlib.Core.Path.{sym, ap, ◌∙◌}
use Rattle.bits.specs.Bit.{digit}
use Rattle.rules.specs.Outcome.{front}
use Rattle.laws.proofs.calls.Outcome.{length_front}
use Rattle.answer_block.proofs.Answered.{answered}
use Rattle.answer_block.specs.Numbers.{listing}
use Rattle.c_tables.proofs.listing.Goals as goal

pub returns-clause-answer : goal.returns-clause-answer
returns-clause-answer c =
    let out = c.from_anf_coeffs.new.out in
    answered (λ f. record { constant = f.constant; masks = front f.count out }) listing _ _ _ _ _ c.from_anf_coeffs.ensures.answer c.map.ensures.cases
    c.answer.ensures
    (λ f l p. let e : l ≡ digit f.constant ∷ f.count ∷ [] = search rules in
    e ∙ ap (λ (n : ℕ). digit f.constant ∷ n ∷ []) (sym (length_front f.count out)))
