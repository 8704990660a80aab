-- `anf_transform::pack::pack` meets its contract: the next 64 entries are one word more of the table's (Chunk).
use Rattle.std.proofs.Common.{◌∙◌, ℕ, min, ap, arith, length}
use lib.ListN.{length-set}
use lib.Seq.{take_all}
use Rattle.rules.specs.Coefficient.{words}
use Rattle.rules.specs.Table.{entry}
use Rattle.laws.proofs.transform.Packed.{length-words}
use Rattle.bits.proofs.Stores.{front-more, front-all}
use Rattle.anf_transform.proofs.Chunk.{next-word, chunks-all}
use Rattle.anf_transform.proofs.pack.pack.Goals as goal

pub bounds-out-i : goal.bounds-out-i
bounds-out-i c =
    let l = c.loop-i in
    let step = c.in-Some.ensures.steps in
    let size = step.0.1.1 ∙ ap (λ (k : ℕ). min k (length l.i-iterator.iter.rest.now)) l.invariant.0 in
    let next = next-word _ _ _ _ c.args.table.complete l.invariant.1 _ _ step.0.1.0 size step.0.1.2 in
    omega (arith, next.place)

pub loop-i-preserved : goal.loop-i-preserved
loop-i-preserved c =
    let l = c.loop-i in
    let step = c.in-Some.ensures.steps in
    let size = step.0.1.1 ∙ ap (λ (k : ℕ). min k (length l.i-iterator.iter.rest.now)) l.invariant.0 in
    let next = next-word _ _ _ _ c.args.table.complete l.invariant.1 _ _ step.0.1.0 size step.0.1.2 in
    let i = l.i-iterator.count in
    let ws = words c.args.table.flags.count (entry c.args.table.entries.now) in
    let many = length-words c.args.table.flags.count (entry c.args.table.entries.now) in
    rw (step.1, step.2) (
      step.0.0 ∙ l.invariant.0,
      next.rest,
      length-set l.out i c.pack_word.result ∙ l.invariant.2,
      front-more l.out ws i c.pack_word.result 0 (omega (arith, next.place)) (omega (arith, next.place, many)) (c.pack_word.ensures ∙ next.word_is)
          l.invariant.3,
    )

pub returns : goal.returns
returns c =
    let l = c.loop-i in
    let n = c.args.table.flags.count in
    let ws = words n (entry c.args.table.entries.now) in
    let all = chunks-all n l.i-iterator.count _ _ c.args.table.complete l.invariant.1 c.in-None.ensures.steps.0.1.0 in
    front-all l.out ws l.i-iterator.count (omega (arith, all)) l.invariant.3
    ∙ take_all _ ws (omega (arith, all, length-words n (entry c.args.table.entries.now)))
