-- `examination_text::notation::record_number` meets its contract: the place lies in the next part, or behind it (Records).
use mathlib.Core.List.{List}
use mathlib.Core.Path.{ap, ◌∙◌}
use Prim.Native.Nat.{ℕ}
use native.Mathlib.Omega.{arith}
use lib.ListN.{length}
use Rattle.examination_text.specs.Notation.{record_of}
use Rattle.examination_text.specs.inner.Parts.{parts_left}
use Rattle.examination_text.proofs.Records.{length-texts, number-here, number_more}
use Rattle.examination_text.proofs.notation.record_number.Goals as goal

pub loop-text-init : goal.loop-text-init
loop-text-init c =
    let e = ap parts_left c.into_iter-text-iterator.ensures.into_iter_gives ∙ c.records-text-items.ensures in (
      tt,
      tt,
      omega (arith, ap length e, length-texts c.args.line.now),
      omega (arith, ap (λ (ts : List (List ℕ)). record_of ts c.args.place) e),
    )

pub returns-then-left-text : goal.returns-then-left-text
returns-then-left-text c = omega (arith, c.loop-text.invariant.3, number-here c.in-Some.ensures.steps c.loop-text.left c.if-left-text.true)

pub loop-text-preserved : goal.loop-text-preserved
loop-text-preserved c =
    let w = c.loop-text.invariant in
    let e = c.in-Some.ensures.steps in
    (tt, tt, omega (arith, w.2, ap length e), omega (arith, w.3, number_more e c.loop-text.left c.if-left-text.false))

pub returns : goal.returns
unfolding record_of
returns c = omega (arith, c.loop-text.invariant.3, ap (λ (ts : List (List ℕ)). record_of ts c.loop-text.left) c.in-None.ensures.steps.0)
