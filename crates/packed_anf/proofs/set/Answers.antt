-- `packed_anf::set` meets its contract: the one that it puts in stands inside the word, so nothing of it is lost, and the store is that of Raised.
use mathlib.Core.Path.{sym, ap, ap₂, subst, ◌∙◌}
use Prim.Native.Nat.{ℕ, ◌*◌, ◌/◌, ◌%◌, ◌^◌}
use native.Mathlib.Omega.{arith}
use lib.Bits.{bit_or}
use lib.ListN.{get_or, set}
use Rattle.bits.proofs.Shift.{one_shl}
use Rattle.packed_anf.specs.Raised.{Raised}
use Rattle.packed_anf.proofs.Raised.{raised}
use Rattle.packed_anf.proofs.set.Goals as goal

pub returns : goal.returns
returns c =
    let m = c.args.m in
    let ws = c.args.words.now in
    subst (Raised ws m)
    (sym
    (ap₂ (λ (j k : ℕ). set ws j (bit_or (get_or ws j 0) (1 * 2 ^ k % 2 ^ 64))) c.word_index.ensures c.bit_index.ensures
    ∙ ap (λ (x : ℕ). set ws (m / 64) (bit_or (get_or ws (m / 64) 0) x)) (one_shl 64 (m % 64) (omega arith))))
    (raised ws m c.requires)
