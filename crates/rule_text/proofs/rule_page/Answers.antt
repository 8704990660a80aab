-- `rule_text::rule_page` meets its contract: the parts pushed are the three lines, and short enough (Report).
use Rattle.text.proofs.Shown.{shows-eq, written-then, written-shows}
use Rattle.rules.specs.Ascii.{ascii}
use Rattle.rule_text.specs.inner.Parts.{lines}
use Rattle.rule_text.proofs.Report.{length-printed}
use Rattle.rule_text.proofs.rule_page.Goals as goal

pub returns : goal.returns
unfolding ascii lines
returns c =
    let second = written-then (written-then c.push_number.ensures c.push.ensures) c.push_records.ensures in
    let third = written-then (written-then (written-then second c.push_number-2.ensures) c.push_number-3.ensures) c.push-2.ensures in
    written-shows third c.new-lines.ensures (length-printed c.requires) (shows-eq c.deref.ensures.0 c.page_of.ensures)
