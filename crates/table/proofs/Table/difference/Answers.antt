-- `table::Table::difference` meets its contract: the ones of the XOR are the settings that differ, and its lowest one is the first (Truth).
use mathlib.Core.Path.{ap, ◌∙◌}
use Rattle.bits.specs.Word.{places}
use Rattle.mask_words.specs.declared.Ones.{Ones}
use Rattle.table.specs.Truth.{first}
use Rattle.table.proofs.Truth.{apart-word, first-given}
use Rattle.table.proofs.Table.difference.Goals as goal

pub returns : goal.returns
returns c =
    let t = c.args.self in
    let apart = ap (λ (o : Ones). places 64 o.left) c.of.ensures ∙ ap (places 64) c.low_settings.ensures in
    first-given c.next.result _ _ c.next.ensures.steps ∙ ap first (apart ∙ apart-word t.flags.count t.flags.within c.args.values t.bits)
