-- `anf_transform::pack::copy` meets its contract. The loop's invariant: the first i words are those of `from`.
-- The measure is what is left of the length.
use mathlib.Core.Path.{◌≡◌, refl, ap, ◌∙◌}
use Prim.Native.Nat.{ℕ}
use native.Mathlib.Omega.{arith}
use borrow.Author.Rules.{rules}
use lib.ListN.{length, take, get_or, length-set}
use Rattle.bits.proofs.Stores.{front-more, front-all}
use Rattle.anf_transform.proofs.pack.copy.Goals as goal

pub loop-i-preserved : goal.loop-i-preserved
loop-i-preserved c =
    let l = c.loop-i in
    let t = c.args.from.now in (
      search rules,
      search rules,
      length-set l.words l.i (get_or t l.i 0) ∙ l.invariant.2,
      front-more l.words t l.i (get_or t l.i 0) 0 (search rules) (search rules) refl l.invariant.3,
    )

pub returns : goal.returns
returns c =
    let l = c.loop-i in
    let t = c.args.from.now in
    let n : l.i ≡ length c.args.words.now = omega arith in
    front-all l.words t l.i (omega arith) l.invariant.3 ∙ ap (λ (k : ℕ). take k t) n
