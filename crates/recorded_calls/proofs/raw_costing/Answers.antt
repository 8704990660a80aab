-- `recorded_calls::raw_costing` meets its contract: the words that are lent are the part on paper.
use Rattle.std.proofs.Common.{ap, ◌∙◌}
use Rattle.recorded.specs.Results.{number_of}
use Rattle.recorded_calls.proofs.Lent.{raw-past, raw-said}
use Rattle.recorded_calls.proofs.raw_costing.Goals as goal

pub returns-then-entries-gt-ENTRIES : goal.returns-then-entries-gt-ENTRIES
returns-then-entries-gt-ENTRIES c = raw-past _ _ _ c.if-entries-gt-ENTRIES.true

pub returns : goal.returns
returns c =
    raw-said _ _ _ c.if-entries-gt-ENTRIES.false c.word_at.ensures (c.from.ensures ∙ ap number_of c.raw_anf_cost.ensures)
