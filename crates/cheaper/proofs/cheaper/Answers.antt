-- `cheaper::cheaper` meets its contract: the part that it hands back is the one that `compare`'s answer stands for. From the laws of Compared.
use mathlib.Core.Path.{sym, ap, ◌∙◌}
use Rattle.std.specs.Prelude.{Some, None}
use Rattle.cheaper.specs.declared.Which.TheVariants.{First, Second}
use Rattle.cheaper.proofs.Compared.{cheaper-part}
use Rattle.cheaper.proofs.cheaper.Goals as goal

pub returns-in-Some-First : goal.returns-in-Some-First
returns-in-Some-First c =
    let a = c.args in
    cheaper-part a.flags a.first a.second (Some First) (sym (c.in-Some-First.is ∙ ap Some c.in-Some-First.field-0-is) ∙ c.compare.ensures)

pub returns-in-Some-Second : goal.returns-in-Some-Second
returns-in-Some-Second c =
    let a = c.args in
    cheaper-part a.flags a.first a.second (Some Second) (sym (c.in-Some-Second.is ∙ ap Some c.in-Some-Second.field-0-is) ∙ c.compare.ensures)

pub returns-in-None : goal.returns-in-None
returns-in-None c =
    let a = c.args in
    c.empty.ensures ∙ cheaper-part a.flags a.first a.second None (sym c.in-None.is ∙ c.compare.ensures)
