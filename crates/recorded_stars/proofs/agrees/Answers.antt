-- `recorded_stars::agrees` meets its contract: what is compared is the call on paper, with the head's flag count and number of words, and the
-- recorded outcome.
use Rattle.std.proofs.Common.{ℕ, ap₂, ◌∙◌}
use Rattle.rules.specs.Calls.{evaluate_stars}
use Rattle.comparison.proofs.Same.{same-said}
use Rattle.recorded.specs.Numbers.{words_in}
use Rattle.recorded.specs.Results.{number_of}
use Rattle.recorded_stars.proofs.agrees.Goals as goal

pub returns : goal.returns
returns c =
    let a = c.args in
    let asked = ap₂ (λ (n k : ℕ). number_of (evaluate_stars n (words_in k a.lent.now) a.bytes.now)) c.word_at-flags.ensures c.byte_at.ensures in
    same-said c.eq.ensures (c.asked.ensures ∙ asked) c.expected.ensures
