-- `text::table::flag_count` meets its contract: each number that is matched has the flag count answered, and another number has none.
use mathlib.Core.Option.{some}
use mathlib.Core.Path.{sym, ap, ◌∙◌}
use native.Mathlib.Omega.{arith}
use Rattle.bits.specs.Range.{from, keep}
use Rattle.rules.specs.Text.{flags_of, first_of}
use Rattle.text.proofs.FlagCount.{flags-none}
use Rattle.text.proofs.table.flag_count.Goals as goal
use Rattle.text.proofs.table.flag_count.Goals.{in-1, in-2, in-4, in-8, in-16, in-32, in-64}

pub returns : goal.returns
unfolding flags_of first_of keep from
returns c = elim c.match-digits.branch [
  | in-1 w ↦ ap some w.count-is ∙ sym (ap flags_of w.in-1.is)
  | in-2 w ↦ ap some w.count-is ∙ sym (ap flags_of w.in-2.is)
  | in-4 w ↦ ap some w.count-is ∙ sym (ap flags_of w.in-4.is)
  | in-8 w ↦ ap some w.count-is ∙ sym (ap flags_of w.in-8.is)
  | in-16 w ↦ ap some w.count-is ∙ sym (ap flags_of w.in-16.is)
  | in-32 w ↦ ap some w.count-is ∙ sym (ap flags_of w.in-32.is)
  | in-64 w ↦ ap some w.count-is ∙ sym (ap flags_of w.in-64.is)
]

pub returns-in_default : goal.returns-in_default
returns-in_default c =
    sym (flags-none c.args.digits (omega arith) (omega arith) (omega arith) (omega arith) (omega arith) (omega arith) (omega arith))
