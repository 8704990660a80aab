-- `packed_anf::is_stray` meets its contract by the laws of stray coefficients (Stray): with six flags or more there is none, and with fewer the first
-- word is greater than its low bits exactly where there is one.
use mathlib.Core.Path.{sym, ap, ◌∙◌}
use Prim.Native.Nat.{ℕ}
use native.Mathlib.Omega.{arith}
use borrow.Author.Rules.{rules}
use lib.Dec.{ltb}
use lib.ListN.{get_or}
use Rattle.laws.proofs.transform.Packed.{word_count-pos}
use Rattle.packed_anf.proofs.Stray.{stray-none, stray-first}
use Rattle.packed_anf.proofs.is_stray.Goals as goal

pub returns-then-flags-gt5 : goal.returns-then-flags-gt5
returns-then-flags-gt5 g c =
    let a = c.args in
    sym (stray-none a.flags.count a.words.now (search rules))

pub bounds-words-0 : goal.bounds-words-0
bounds-words-0 g c = omega (arith, word_count-pos c.args.flags.count)

pub bounds-words-0-2 : goal.bounds-words-0-2
bounds-words-0-2 g c = omega (arith, word_count-pos c.args.flags.count)

pub returns : goal.returns
returns g c =
    let a = c.args in
    ap (λ (k : ℕ). ltb k (get_or a.words.now 0 0)) c.low_bits.ensures
    ∙ sym (stray-first a.flags.count a.words.now (omega arith) (c.type_inv.words 0).fits)
