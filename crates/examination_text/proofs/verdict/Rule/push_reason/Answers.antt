-- `examination_text::verdict::Rule::push_reason` meets its contract: each condition's reason is one law of Reasons, of which the number that was
-- pushed must be the record's.
use Rattle.std.proofs.Common.{sym}
use Rattle.rules.specs.Ascii.{ascii}
use Rattle.text.proofs.Shown.{written-eq, written-then}
use Rattle.examination_text.specs.Verdict.{beyond_limit}
use Rattle.examination_text.proofs.Reasons.{told-mark, told-payload, told-operands, told-records}
use Rattle.examination_text.proofs.Reasons.{told-end, told-differs, told-costly, told-other}
use Rattle.examination_text.proofs.verdict.Rule.push_reason.Goals as goal

pub returns-in-BadMark : goal.returns-in-BadMark
unfolding ascii
returns-in-BadMark c = written-eq (sym (told-mark _ _ _ _ _ c.in-BadMark.is _ cc)) c.push_number.ensures

pub returns-in-BadPayload : goal.returns-in-BadPayload
unfolding ascii
returns-in-BadPayload c = written-eq (sym (told-payload _ _ _ _ _ c.in-BadPayload.is _ cc)) c.push_number-in-BadPayload.ensures

pub returns-in-FewOperands : goal.returns-in-FewOperands
unfolding ascii
returns-in-FewOperands c = written-eq (sym (told-operands _ _ _ _ _ c.in-FewOperands.is _ cc)) c.push_number-in-FewOperands.ensures

pub returns-in-ManyRecords : goal.returns-in-ManyRecords
unfolding ascii beyond_limit
returns-in-ManyRecords c =
    written-eq (sym (told-records _ _ _ _ _ c.in-ManyRecords.is _ cc))
    (written-then c.push_number-in-ManyRecords.ensures c.push_number-in-ManyRecords-2.ensures)

pub returns-in-BadEnd : goal.returns-in-BadEnd
unfolding ascii
returns-in-BadEnd c = written-eq (sym (told-end _ _ _ _ _ c.in-BadEnd.is)) c.push.ensures

pub returns-in-Differs : goal.returns-in-Differs
returns-in-Differs c = written-eq (sym (told-differs _ _ _ _ _ c.in-Differs.is)) c.push_difference.ensures

pub returns-in-TooCostly : goal.returns-in-TooCostly
returns-in-TooCostly c = written-eq (sym (told-costly _ _ _ _ _ c.in-TooCostly.is)) c.push_costs.ensures

pub returns-in_default : goal.returns-in_default
returns-in_default c =
    let d = c.in_default in
    written-eq (sym (told-other _ _ _ _ _ d.not-BadMark d.not-BadPayload d.not-FewOperands d.not-ManyRecords d.not-BadEnd d.not-Differs))
    c.push_costs-in_default.ensures
