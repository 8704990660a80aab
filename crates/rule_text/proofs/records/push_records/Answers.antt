-- `rule_text::records::push_records` meets its contract. Where bytes are left a record is read. From the laws of Left and of expr's ReadRecord.
use mathlib.Core.Path.{sym, ap, ◌∙◌}
use native.Mathlib.Omega.{arith}
use Rattle.bits.proofs.Below.{get_or-below}
use Rattle.expr.specs.Answers.{record_of, found_of}
use Rattle.expr.proofs.ReadRecord.{read-index}
use Rattle.rule_text.proofs.Left.{Next, left-start, left-next, left-found, left_end, left_step}
use Rattle.rule_text.proofs.records.push_records.Goals as goal
use Rattle.rule_text.proofs.records.push_records.Goals.{In-Ok}

-- the record that was read is the next
next : (c : In-Ok) → Next c.loop-place.invariant (record_of c.in-Ok.read)
next c = left-next c.loop-place.invariant c.loop-place-test.true (record_of c.in-Ok.read) (sym c.record_at.ensures ∙ ap found_of c.in-Ok.is)

pub loop-place-init : goal.loop-place-init
loop-place-init c =
    left-start c.args.flags.count c.args.expression.now c.args.page.now c.requires
    (get_or-below 256 c.args.expression.now 0 (λ i. (c.type_inv.expression i).fits))

pub returns-in_default : goal.returns-in_default
returns-in_default c =
    absurd (left-found c.loop-place.invariant c.loop-place-test.true (sym c.record_at.ensures ∙ ap found_of c.in_default.is))

pub push_kind-requires : goal.push_kind-requires
push_kind-requires c = read-index (next (goal.at.push_kind-requires c).In-Ok).read 10 (omega arith)

pub loop-place-smaller : goal.loop-place-smaller
loop-place-smaller c = omega (arith, (next (goal.at.loop-place-smaller c).In-Ok).read.after, c.loop-place-test.true)

pub loop-place-preserved : goal.loop-place-preserved
loop-place-preserved c = left_step c.loop-place.invariant (next (goal.at.loop-place-preserved c).In-Ok) c.push_gap.ensures c.push_kind.ensures

pub returns : goal.returns
returns c = left_end c.loop-place.invariant c.loop-place-test.false
