-- The closure of `table::Table::of_bytes` meets its contract: bit 0 of an entry is bit 0 of its low byte (Entries).
use mathlib.Core.Path.{sym, ◌∙◌}
use Prim.Native.Nat.{◌*◌}
use native.Mathlib.Omega.{arith}
use lib.ListN.{get_or}
use mir.Syntax.{w8}
use Rattle.bits.specs.Bit.{bit}
use Rattle.bits.proofs.Bit.{digit-is, digit-bit}
use Rattle.bits.proofs.Quotient.{shift-mask}
use Rattle.table.proofs.Entries.{entry-entries}
use Rattle.table.proofs.fn.Table.of_bytes.set.Goals as goal

pub returns : goal.returns
returns c =
    let b = c.captures.bytes.now in
    let s = c.args.setting in
    let low = get_or b (8 * s) 0 in
    digit-is (bit low 0) _ (omega (arith, (shift-mask w8 low 1).remainder, digit-bit low 0)) ∙ sym (entry-entries b s c.requires)
