-- `c_expressions::cheaper` meets its contract: each arm names what `compare` answers. From the law of Which.
use Rattle.std.specs.Prelude.{Some, None}
use mathlib.Core.Path.{sym, ap, ◌∙◌}
use Rattle.cheaper.specs.declared.Which.TheVariants.{First, Second}
use Rattle.c_expressions.proofs.Which.{cheaper-number}
use Rattle.c_expressions.proofs.cheaper.Goals as goal

pub returns-in-Some-First : goal.returns-in-Some-First
returns-in-Some-First c = cheaper-number _ _ _ (Some First) (sym (c.in-Some-First.is ∙ ap Some c.in-Some-First.field-0-is) ∙ c.compare.ensures)

pub returns-in-Some-Second : goal.returns-in-Some-Second
returns-in-Some-Second c = cheaper-number _ _ _ (Some Second) (sym (c.in-Some-Second.is ∙ ap Some c.in-Some-Second.field-0-is) ∙ c.compare.ensures)

pub returns-in-None : goal.returns-in-None
returns-in-None c = cheaper-number _ _ _ None (sym c.in-None.is ∙ c.compare.ensures)
