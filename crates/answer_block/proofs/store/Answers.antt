-- `answer_block::store` meets its contract: a store past the end of the block changes nothing (lib.Seq). From the laws of Stored.
use mathlib.Core.Path.{sym, ap, ◌∙◌}
use native.Mathlib.Omega.{arith}
use lib.Seq.{set_out, take_all}
use Rattle.answer_block.specs.Block.{stored}
use Rattle.answer_block.proofs.Stored.{stored-none, stored_step}
use Rattle.answer_block.proofs.store.Goals as goal
use Rattle.answer_block.proofs.store.Goals.{then-place-block, else-place-block}

pub loop-place-init : goal.loop-place-init
loop-place-init g c = sym (stored-none c.args.block.now)

pub loop-place-preserved : goal.loop-place-preserved
loop-place-preserved g c =
    let more = stored_step c.args.block.now c.args.numbers c.loop-place.place (omega arith) c.loop-place.invariant in
    elim c.if-place-block.branch [
      | then-place-block w ↦ w.block-is ∙ more
      | else-place-block w ↦ w.block-is ∙ sym (set_out c.loop-place.block c.loop-place.place _ (omega arith)) ∙ more
    ]

pub returns : goal.returns
returns g c = c.loop-place.invariant ∙ ap (stored c.args.block.now) (take_all c.loop-place.place c.args.numbers (omega arith))
