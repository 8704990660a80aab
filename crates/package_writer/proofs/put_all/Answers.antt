-- `package_writer::put_all` meets its contract. The loop's invariant: the first i bytes are those of the slice.
-- The measure is what is left of the length.
use mathlib.Core.Path.{◌≡◌, refl, ap, ◌∙◌}
use Prim.Native.Nat.{ℕ}
use native.Mathlib.Omega.{arith}
use borrow.Author.Rules.{rules}
use lib.ListN.{length, take, get_or, length-set}
use lib.Seq.{take_all}
use Rattle.bits.proofs.Stores.{front-more, front-all}
use Rattle.package_writer.proofs.put_all.Goals as goal

pub loop-i-preserved : goal.loop-i-preserved
loop-i-preserved c =
    let l = c.loop-i in
    let t = c.args.bytes.now in (
      search rules,
      search rules,
      length-set l.out l.i (get_or t l.i 0) ∙ l.invariant.2,
      front-more l.out t l.i (get_or t l.i 0) 0 (search rules) (search rules) refl l.invariant.3,
    )

pub returns : goal.returns
returns c =
    let l = c.loop-i in
    let t = c.args.bytes.now in
    front-all l.out t l.i (omega arith) l.invariant.3 ∙ take_all l.i t (omega arith)
