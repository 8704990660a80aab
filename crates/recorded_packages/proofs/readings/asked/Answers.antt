-- `recorded_packages::readings::asked` meets its contract: the numbers compared are the reader's on paper, at the place of the head, and the
-- recorded.
use Rattle.std.proofs.Common.{◌∙◌}
use Rattle.comparison.proofs.Same.{pointwise-same}
use Rattle.recorded_packages.proofs.readings.asked.Goals as goal

pub returns : goal.returns
returns c =
    rw (← c.word_at.ensures, ← c.read_rule-reading.ensures, ← c.numbers.ensures, ← c.recorded.ensures)
    (c.eq.ensures ∙ pointwise-same c.numbers.result c.recorded.result)
