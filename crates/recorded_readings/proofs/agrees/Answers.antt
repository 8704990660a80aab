-- `recorded_readings::agrees` meets its contract: what is compared is the call on paper and the recorded outcome.
use Rattle.comparison.proofs.Same.{same-said}
use Rattle.recorded_readings.proofs.agrees.Goals as goal

pub returns : goal.returns
returns c =
    rw (← c.word_at-place.ensures, ← c.word_at-flags.ensures) (same-said c.eq.ensures c.answer.ensures c.expected.ensures)
