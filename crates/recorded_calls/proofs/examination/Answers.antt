-- `recorded_calls::examination` meets its contract: the table that is lent is the part on paper.
use Rattle.std.proofs.Common.{ap, ◌∙◌}
use Rattle.recorded.specs.Results.{number_of}
use Rattle.recorded_calls.proofs.Lent.{examined-past, examined-said}
use Rattle.recorded_calls.proofs.examination.Goals as goal

pub returns-then-entries-gt-ENTRIES : goal.returns-then-entries-gt-ENTRIES
returns-then-entries-gt-ENTRIES c = examined-past _ _ _ _ c.if-entries-gt-ENTRIES.true

pub returns : goal.returns
returns c =
    examined-said _ _ _ _ c.if-entries-gt-ENTRIES.false c.set_table.ensures (c.from.ensures ∙ ap number_of c.examine.ensures)
