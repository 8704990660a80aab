-- `table::Table::of_entries` meets its contract: up to six flags one word holds the whole table (Entries).
use mathlib.Core.Path.{ap, ◌∙◌}
use Prim.Native.Nat.{ℕ}
use native.Mathlib.Omega.{arith}
use Rattle.bits.specs.Range.{keep, upto}
use Rattle.bits.specs.Word.{word}
use Rattle.rules.specs.Table.{entry}
use Rattle.std.proofs.lemmas.List.{length-take-le}
use Rattle.table.specs.declared.Table.{Table}
use Rattle.table.proofs.Entries.{settings-few, entries-front}
use Rattle.table.proofs.Table.of_entries.Goals as goal

pub pack_word-bits-requires : goal.pack_word-bits-requires
pack_word-bits-requires c =
    let t = c.args.table in
    omega (
      arith,
      t.complete,
      length-take-le c.setting_count-settings.result t.entries.now (omega (arith, t.complete)),
      settings-few t.flags.count t.flags.within,
    )

pub returns : goal.returns
returns c =
    let t = c.args.table in
    let front = entries-front t.entries.now c.setting_count-settings.result (omega (arith, t.complete)) in
    ap {B = Table} (λ (b : ℕ). record { flags = t.flags; bits = b })
    (c.pack_word-bits.ensures ∙ front ∙ ap (λ (k : ℕ). word (keep (entry t.entries.now) (upto k))) c.setting_count-settings.ensures)
