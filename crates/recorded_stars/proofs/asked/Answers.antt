-- `recorded_stars::asked` meets its contract: the words that are lent are those on paper, and the numbers are the answer's.
use Rattle.std.proofs.Common.{◌≡◌, List, ℕ, ap, ◌∙◌, rules}
use Rattle.comparison.specs.Outcome.{alone}
use Rattle.comparison.proofs.Told.{told-of}
use Rattle.rules.specs.Calls.{evaluate_stars}
use Rattle.recorded.specs.Numbers.{words_in}
use Rattle.recorded_stars.proofs.asked.Goals as goal

pub returns : goal.returns
returns c =
    let a = c.args in
    let lent : c.set_words.new.words ≡ words_in a.count a.lent.now = c.set_words.ensures ∙ ap (λ (k : ℕ). words_in k a.lent.now) (search rules) in
    let answer = c.evaluate_stars-answer.ensures ∙ ap (λ (w : List ℕ). evaluate_stars a.flags w a.bytes.now) lent in
    told-of alone (λ x. x) _ answer _ c.from-2.ensures c.map.ensures.cases (λ x t p. search rules)
