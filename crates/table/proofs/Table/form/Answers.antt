-- `table::Table::form` meets its contract: the low bits of the transformed word are the coefficients (Truth).
use mathlib.Core.Path.{ap, ◌∙◌}
use Prim.Native.Nat.{ℕ, ◌%◌, ◌^◌}
use Rattle.bits.specs.Word.{places}
use Rattle.table.proofs.Truth.{form-word}
use Rattle.table.proofs.Table.form.Goals as goal

pub returns : goal.returns
returns c =
    let t = c.args.self in
    c.of_coefficients.ensures
    ∙ ap (places 64) (c.low_settings-word.ensures ∙ ap (λ (w : ℕ). w % 2 ^ (2 ^ t.flags.count)) c.transform_word.ensures)
    ∙ form-word t.flags.count t.flags.within t.bits
