-- `compiler::compile_table` meets its contract: row 5 of the refusal table, or the expression that `emit` wrote into the call's own buffer stands
-- at the front of the lent one (Written). That buffer is long enough.
use Rattle.std.proofs.Common.{ℕ, ap, sym, ◌∙◌, arith, List, length}
use Rattle.rules.specs.Cleanup.{cleanup}
use Rattle.rules.specs.Coefficient.{coefficient}
use Rattle.form.specs.Masks.{masks}
use Rattle.table.specs.Truth.{truth}
use Rattle.postfix.specs.Written.{Written, with_tree}
use Rattle.compiler.specs.Truth.{compile_form, compile_truth}
use Rattle.compiler.proofs.Written.{form-room, told-room, told-expression}
use Rattle.compiler.proofs.compile_table.Goals as goal

pub emit-requires : goal.emit-requires
emit-requires c =
    let t = c.args.table in
    let room = form-room t.flags.count (coefficient t.flags.count (truth t)) t.flags.within in
    let planned = c.cleanup-plan.ensures in (
      omega arith,
      (
        rw (c.from-choices.ensures) (record { right = record { makes = planned.makes; allowed = planned.allowed }; parts = planned.parts }),
        rw (c.new-written.ensures, c.form-form.ensures) (record { room = omega (arith, room) }),
      ),
    )

pub returns-then-out-bytes : goal.returns-then-out-bytes
unfolding compile_truth
returns-then-out-bytes c =
    let out = c.args.out.now in
    let same = ap (λ (l : List ℕ). compile_form l (length out)) (sym c.form-form.ensures) in
    let writes = c.emit.ensures ∙ ap (λ (w : Written). with_tree w (cleanup (masks c.form-form.result))) c.new-written.ensures in
    rw (c.at.ensures, c.bytes-bytes.ensures) (told-room _ out _ same _ writes (rw c.bytes-bytes.ensures at c.if-out-bytes.true))

pub returns : goal.returns
unfolding compile_truth
returns c =
    let out = c.args.out.now in
    let same = ap (λ (l : List ℕ). compile_form l (length out)) (sym c.form-form.ensures) in
    let writes = c.emit.ensures ∙ ap (λ (w : Written). with_tree w (cleanup (masks c.form-form.result))) c.new-written.ensures in
    let room = rw c.bytes-bytes.ensures at c.if-out-bytes.false in
    rw (c.copy_from_slice.ensures.after, c.bytes-bytes.ensures)
    (told-expression _ out _ same _ writes _ _ _ room c.records.ensures c.cleanup-plan.ensures.costs c.raw_cost-raw.ensures)
