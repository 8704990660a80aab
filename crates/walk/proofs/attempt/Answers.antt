-- `walk::attempt` meets its contract. The loop's invariant: the records so far are read as the machine reads them, the stack holds the values of its
-- trees, the arrays beside it which of them are ORs and where they begin, and `saved` is what the ORs save. The measure is the number of records
-- that may still begin. A full stack has no more entries than there may be records, since no more operands than records stand on it.
use mathlib.Core.Path.{refl, sym, ap, ◌∙◌}
use Prim.Native.Nat.{◌-◌}
use native.Mathlib.Nat.{le_of_eq}
use native.Mathlib.Omega.{arith}
use Rattle.std.specs.Prelude.{Ok}
use Rattle.std.proofs.lemmas.List.{length-replicate}
use Rattle.reader.proofs.Costed.{costed-start, costed-reached, costed-less, costed-fits, costed-step}
use Rattle.expr.specs.Answers.{kind_of}
use Rattle.reader.proofs.Turn.{Stepped, answer-found, answer-end, answer-refused}
use Rattle.reader.proofs.Walk.{walk-fits}
use Rattle.walk.proofs.Applied.{applied, walked-refused, walked_end}
use Rattle.walk.proofs.Small.{offset-fits}
use Rattle.walk.proofs.attempt.Goals as goal
use Rattle.walk.proofs.attempt.Goals.{In-Ok-Some}

-- the record that the reader answered
stepped : (g : _) (c : In-Ok-Some g) → (let r = c.loop-node.reader in let node = c.in-Ok-Some.node in
    Stepped r.flags.count r.bytes.now r.depth r.place r.count (record { kind = kind_of node.kind; next = node.next }))
stepped g c =
    answer-found c.loop-node.invariant.2.walk c.loop-node.reader.flags.within (c.in-Ok-Some.is ∙ ap Ok c.in-Ok-Some.field-0-is) c.step.ensures

pub loop-node-init : goal.loop-node-init
loop-node-init g c =
    rw c.new-reader.ensures (
      c.flags.ensures,
      refl,
      costed-start (g.V.Values.value c.args.values.now) c.flags.result.count c.args.bytes.now _ _ _ _ (length-replicate _ _)
          (length-replicate _ _) (length-replicate _ _),
    )

pub shared_whole_as_slice-step : goal.shared_whole_as_slice-step
shared_whole_as_slice-step g c = omega (arith, c.requires)

pub step-requires : goal.step-requires
step-requires g c = costed-reached c.loop-node.invariant.2 c.loop-node.reader.flags.within

pub overflow_sub-seen : goal.overflow_sub-seen
overflow_sub-seen g c = costed-less c.loop-node.invariant.2

pub returns-in-Ok-None : goal.returns-in-Ok-None
returns-in-Ok-None g c =
    let (flags, bytes, w) = c.loop-node.invariant in
    let past = answer-end w.walk c.loop-node.reader.flags.within (c.in-Ok-None.is ∙ ap Ok c.in-Ok-None.field-0-is) c.step.ensures in
    rw (← flags, ← bytes) (c.finished.ensures ∙ sym (walked_end w past _))

pub returns-in-Err : goal.returns-in-Err
returns-in-Err g c =
    let (flags, bytes, w) = c.loop-node.invariant in
    rw (← flags, ← bytes) (sym (walked-refused _ _ _ (answer-refused w.walk c.loop-node.reader.flags.within c.in-Err.is c.step.ensures)))

pub overflow_sub-base : goal.overflow_sub-base
overflow_sub-base g c =
    let w = c.loop-node.invariant.2 in
    let found = stepped g (goal.at.overflow_sub-base g c).In-Ok-Some in
    omega (arith, c.arity.ensures, found.enough)

pub overflow_add-second : goal.overflow_add-second
overflow_add-second g c =
    let w = c.loop-node.invariant.2 in
    let found = stepped g (goal.at.overflow_add-second g c).In-Ok-Some in
    omega (arith, w.walk.high, found.more)

pub returns-then-second : goal.returns-then-second
returns-then-second g c =
    let w = c.loop-node.invariant.2 in
    let found = stepped g (goal.at.returns-then-second g c).In-Ok-Some in
    omega (arith, w.walk.high, found.more, c.arity.ensures, c.if-second.true)

pub offset_bounds-stack-base : goal.offset_bounds-stack-base
offset_bounds-stack-base g c = offset-fits (omega (arith, c.if-second.false, c.requires.1)) g.met.V.Values.small

pub offset_bounds-stack-second : goal.offset_bounds-stack-second
offset_bounds-stack-second g c = offset-fits (omega (arith, c.if-second.false, c.requires.1)) g.met.V.Values.small

pub offset_bounds-stack-base-in-loop-node : goal.offset_bounds-stack-base-in-loop-node
offset_bounds-stack-base-in-loop-node g c = offset-fits (omega (arith, c.if-second.false, c.requires.1)) g.met.V.Values.small

pub overflow_add-saved : goal.overflow_add-saved
overflow_add-saved g c = search (costed-fits c.loop-node.invariant.2)

pub apply-value-requires : goal.apply-value-requires
apply-value-requires g c =
    let (flags, bytes, w) = c.loop-node.invariant in
    let found = stepped g (goal.at.apply-value-requires g c).In-Ok-Some in
    (_, _, applied w found _ (omega (arith, c.arity.ensures, found.enough)) _ (le_of_eq flags) _ _)

pub whole_as_slice-pass : goal.whole_as_slice-pass
whole_as_slice-pass g c = omega (arith, c.requires)

pub pass-requires : goal.pass-requires
pass-requires g c =
    let w = c.loop-node.invariant.2 in
    let found = stepped g (goal.at.pass-requires g c).In-Ok-Some in
    (found.enough, omega (arith, w.lines, c.if-second.false, c.arity.ensures), walk-fits w.walk, omega (arith, found.more))

pub loop-node-smaller : goal.loop-node-smaller
loop-node-smaller g c =
    let w = c.loop-node.invariant.2 in
    let found = stepped g (goal.at.loop-node-smaller g c).In-Ok-Some in
    rw c.pass.ensures.reader (omega (arith, found.more))

pub loop-node-preserved : goal.loop-node-preserved
loop-node-preserved g c =
    let (flags, bytes, w) = c.loop-node.invariant in
    let found = stepped g (goal.at.loop-node-preserved g c).In-Ok-Some in
    let value = c.apply-value.ensures _ _ (applied w found _ (omega (arith, c.arity.ensures, found.enough)) _ (le_of_eq flags) _ _) in
    let same = ap (λ i. c.loop-node.reader.depth - i) (sym c.arity.ensures) in
    rw (c.pass.ensures.reader, c.pass.ensures.starts, same) (
      flags,
      bytes,
      costed-step w found _ (omega (arith, c.arity.ensures, found.enough)) (omega (arith, c.if-second.false)) _ value _
          c.is_or-or.ensures,
    )
