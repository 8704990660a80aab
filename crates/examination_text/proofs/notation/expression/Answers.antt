-- `examination_text::notation::expression` meets its contract: the next part is a record, whose bytes are pushed, or none (Records).
use mathlib.Core.List.{List, ◌++◌, append_assoc, append-nil}
use mathlib.Core.Path.{sym, ap, ◌∙◌}
use Prim.Native.Nat.{ℕ}
use native.Mathlib.Omega.{arith}
use lib.ListN.{length, length-append}
use Rattle.bits.specs.Range.{all}
use Rattle.bits.specs.Sum.{sum}
use Rattle.examination_text.specs.Notation.{is_record, expression}
use Rattle.examination_text.proofs.Records.{rule-first, expression-first, length-expression}
use Rattle.examination_text.proofs.notation.expression.Goals as goal

pub returns-then-not-is_record-clause-none : goal.returns-then-not-is_record-clause-none
returns-then-not-is_record-clause-none c =
    c.loop-text.invariant.2 ∙ rule-first c.in-Some.ensures.steps _ (sym c.is_record.ensures ∙ c.if-not-is_record.true)

pub push_record-requires : goal.push_record-requires
push_record-requires c =
    let e = c.in-Some.ensures.steps in (
      sym c.is_record.ensures ∙ c.if-not-is_record.false,
      omega (
        arith,
        ap length c.loop-text.invariant.3,
        ap length (expression-first e),
        length-append {A = ℕ},
        length-expression c.args.line.now,
      ),
    )

pub loop-text-preserved : goal.loop-text-preserved
loop-text-preserved c =
    let w = c.loop-text.invariant in
    let e = c.in-Some.ensures.steps in
    let l = c.loop-text.bytes.items in (
      tt,
      tt,
      w.2 ∙ rule-first e _ (sym c.is_record.ensures ∙ c.if-not-is_record.false),
      rw (c.push_record.ensures, append_assoc) (ap (λ (s : List ℕ). l ++ s) (sym (expression-first e)) ∙ w.3),
    )

pub returns-clause-some : goal.returns-clause-some
unfolding expression sum all
returns-clause-some c =
    let w = c.loop-text.invariant in
    let none = c.in-None.ensures.steps.0 in
    let l = c.loop-text.bytes.items in (
      w.2 ∙ ap (all is_record) none,
      sym (append-nil l) ∙ ap (λ (ts : List (List ℕ)). l ++ expression ts) (sym none) ∙ w.3,
    )
