-- `c_tables::compile` meets its contract: the length of the buffer's front is the count that is stored. From the law of answers (answer_block,
-- Answered).
use Rattle.std.specs.Prelude.{◌≡◌, [], ◌∷◌, ℕ}
use Rattle.std.proofs.Common.{rules}
use mathlib.Core.Path.{sym, ap, ◌∙◌}
use Rattle.laws.proofs.calls.Outcome.{length_front}
use Rattle.compiler.specs.Answers.{expression_of}
use Rattle.answer_block.proofs.Answered.{answered}
use Rattle.answer_block.specs.Numbers.{compilation}
use Rattle.c_tables.proofs.compile.Goals as goal

pub returns-clause-answer : goal.returns-clause-answer
returns-clause-answer c =
    let out = c.build_anf_expr.new.out in
    answered (expression_of out) compilation _ _ _ _ _ c.build_anf_expr.ensures.answer c.map.ensures.cases c.answer.ensures
    (λ x l p. let e : l ≡ x.bytes ∷ x.records ∷ x.cost ∷ x.raw ∷ [] = search rules in
    e ∙ ap (λ (n : ℕ). n ∷ x.records ∷ x.cost ∷ x.raw ∷ []) (sym (length_front x.bytes out)))
