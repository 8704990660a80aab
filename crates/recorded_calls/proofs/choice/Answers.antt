-- `recorded_calls::choice` meets its contract, by the comparisons that led to each answer.
use Rattle.std.proofs.Common.{sym, ◌∙◌, rules}
use Rattle.std.specs.Cmp.Lexicographic.{same_text, other_text}
use Rattle.cheaper.proofs.Compared.{cheaper-contents}
use Rattle.recorded_calls.proofs.Chosen.{chosen_none, chosen-first, chosen-second, chosen-other}
use Rattle.recorded_calls.proofs.choice.Goals as goal

pub returns-then-is_empty : goal.returns-then-is_empty
returns-then-is_empty c = c.one.ensures ∙ chosen_none _ _ _ (cheaper-contents _ _ _ _ c.cheaper-chosen.ensures) (search rules)

pub returns-then-eq : goal.returns-then-eq
returns-then-eq c =
    c.one-then-eq.ensures
    ∙ chosen-first _ _ _ (cheaper-contents _ _ _ _ c.cheaper-chosen.ensures) (search rules) (same_text _ _ (sym c.if-eq.true ∙ c.eq.ensures))

pub returns-then-eq-2 : goal.returns-then-eq-2
returns-then-eq-2 c =
    c.one-then-eq-2.ensures
    ∙ chosen-second _ _ _ (cheaper-contents _ _ _ _ c.cheaper-chosen.ensures) (search rules) (other_text _ _ (sym c.if-eq.false ∙ c.eq.ensures))

pub returns : goal.returns
returns c =
    chosen-other _ _ _ (cheaper-contents _ _ _ _ c.cheaper-chosen.ensures) (search rules)
    (other_text _ _ (sym c.if-eq.false ∙ c.eq.ensures)) (other_text _ _ (sym c.if-eq-2.false ∙ c.eq-2.ensures))
