-- `anf_transform::pack::unpack` meets its contract: a word's entries are among all (WordByWord), and one word more gives way to its bits (Unpacked).
use Rattle.std.proofs.Common.{◌≡◌, ◌+◌, ◌-◌, ◌∙◌, ℕ, refl, sym, ap, arith, min}
use Rattle.packed_anf.proofs.Room.{word_count-le}
use Rattle.anf_transform.proofs.Unpacked.{unpacked, unpacked-none, unpacked-next}
use Rattle.anf_transform.proofs.WordByWord.{part-room}
use Rattle.anf_transform.proofs.pack.unpack.Goals as goal

pub loop-i-init : goal.loop-i-init
loop-i-init c =
    let n = c.args.flags.count in (
      c.min-count.ensures ∙ ap (λ (k : ℕ). min k 64) c.setting_count.ensures,
      unpacked-none n c.args.out.now ∙ ap (unpacked n c.args.out.now) (sym c.word_count-i.ensures),
    )

pub offset_bounds-out-i : goal.offset_bounds-out-i
offset_bounds-out-i c = omega (arith, part-room _ (c.loop-i.i - 1) (omega arith) _ c.loop-i.invariant.0)

pub bounds-out-i : goal.bounds-out-i
bounds-out-i c =
    let n = c.args.flags.count in
    omega (arith, part-room n (c.loop-i.i - 1) (omega arith) _ c.loop-i.invariant.0, word_count-le n)

pub overflow_mul-first : goal.overflow_mul-first
overflow_mul-first c = omega (arith, part-room _ (c.loop-i.i - 1) (omega arith) _ c.loop-i.invariant.0)

pub overflow_add-first : goal.overflow_add-first
overflow_add-first c = omega (arith, part-room _ (c.loop-i.i - 1) (omega arith) _ c.loop-i.invariant.0)

pub offset_bounds-out-first : goal.offset_bounds-out-first
offset_bounds-out-first c = omega (arith, part-room _ (c.loop-i.i - 1) (omega arith) _ c.loop-i.invariant.0)

pub slice_bounds-unpack_word-end : goal.slice_bounds-unpack_word-end
slice_bounds-unpack_word-end c = omega (arith, part-room _ (c.loop-i.i - 1) (omega arith) _ c.loop-i.invariant.0)

pub loop-i-preserved : goal.loop-i-preserved
loop-i-preserved c =
    let n = c.args.flags.count in
    let o = c.args.out.now in
    let l = c.loop-i in
    let e : l.i ≡ l.i - 1 + 1 = omega arith in
    let before = l.invariant.1 ∙ ap (unpacked n o) e in
    (l.invariant.0, unpacked-next n o (l.i - 1) _ _ l.out _ (omega arith) (omega arith) before refl (omega arith) c.unpack_word.ensures)
