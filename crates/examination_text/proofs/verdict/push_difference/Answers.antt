-- `examination_text::verdict::push_difference` meets its contract: the text with the setting, and the flags' names.
use Rattle.std.proofs.Common.{ap}
use Rattle.rules.specs.Ascii.{ascii}
use Rattle.text.proofs.Shown.{written-eq, written-then}
use Rattle.examination_text.specs.Verdict.{flag_names, difference}
use Rattle.examination_text.proofs.verdict.push_difference.Goals as goal

pub returns : goal.returns
unfolding ascii difference
returns c =
    written-then (written-then c.push_number.ensures c.push.ensures) (written-eq (ap flag_names c.set_flags.ensures) c.push_flag_names.ensures)
