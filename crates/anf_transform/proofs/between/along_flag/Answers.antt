-- `anf_transform::between::along_flag` meets its contract: a pair of halves is in the words, and when it is joined, one pair more is (AcrossWords).
use Rattle.std.proofs.Common.{◌≡◌, ℕ, ◌-◌, ◌*◌, ◌^◌, ◌∙◌, ap, sym, arith, length}
use Rattle.anf_transform.proofs.AcrossWords.{pairs-room, pairs-all, joined-part}
use Rattle.anf_transform.proofs.between.along_flag.Goals as goal

pub slice_bounds-join_halves-end : goal.slice_bounds-join_halves-end
slice_bounds-join_halves-end c =
    let l = c.loop-i in
    omega (arith, ap (λ (n : ℕ). 2 * n * l.i) l.invariant.0, pairs-room c.args.j c.args.count (omega arith) l.i (omega arith))

pub loop-i-preserved : goal.loop-i-preserved
loop-i-preserved c =
    let l = c.loop-i in
    let base = ap (λ (n : ℕ). 2 * n * l.i) l.invariant.0 in
    let room = pairs-room c.args.j c.args.count (omega arith) l.i (omega arith) in (
      l.invariant.0,
      l.invariant.1,
      joined-part c.args.j l.i _ _ _ c.args.words.now l.words c.join_halves.new.words l.invariant.2 base l.invariant.0 (omega arith)
          (omega (arith, room, base)) c.join_halves.ensures,
    )

pub returns : goal.returns
returns c =
    let l = c.loop-i in
    let last : l.i ≡ 2 ^ (c.args.count - 1 - c.args.j) = omega arith in
    let all : 2 * 2 ^ c.args.j * l.i ≡ length c.args.words.now =
    ap (λ (k : ℕ). 2 * 2 ^ c.args.j * k) last ∙ pairs-all c.args.j c.args.count (omega arith) ∙ sym c.requires.2 in
    rw all at l.invariant.2
