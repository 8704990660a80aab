-- `table::Table::of_bytes` meets its contract: there are an entry's eight bytes for each setting, of which there are few (Entries).
use mathlib.Core.Path.{ap, ◌∙◌}
use Prim.Native.Nat.{ℕ}
use native.Mathlib.Omega.{arith}
use Rattle.bits.specs.Range.{keep, upto}
use Rattle.bits.specs.Word.{word}
use Rattle.rules.specs.Console.{entries}
use Rattle.rules.specs.Table.{entry}
use Rattle.table.specs.declared.Table.{Table}
use Rattle.table.proofs.Entries.{settings-few}
use Rattle.table.proofs.Table.of_bytes.Goals as goal

pub chosen-bits-requires : goal.chosen-bits-requires
chosen-bits-requires c =
    let n = c.args.flags in
    (omega (arith, settings-few n.count n.within), λ i h. omega arith)

pub returns : goal.returns
returns c =
    let f = entry (entries c.args.bytes.now) in
    ap {B = Table} (λ (b : ℕ). record { flags = c.args.flags; bits = b })
    (c.chosen-bits.ensures f (λ i b h e. e) ∙ ap (λ (k : ℕ). word (keep f (upto k))) c.setting_count.ensures)
