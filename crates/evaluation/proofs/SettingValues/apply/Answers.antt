-- `evaluation::SettingValues::apply` meets its contract: each arm is told the kind, and a law of Evaluated says that it makes the record's value.
use mathlib.Core.Path.{◌∙◌}
use Rattle.bits.specs.Bit.{bit}
use Rattle.evaluation.proofs.Evaluated.{unlike, value-told}
use Rattle.evaluation.proofs.SettingValues.apply.Goals as goal

pub returns-in-Constant : goal.returns-in-Constant
returns-in-Constant c x y p = value-told _ _ c.in-Constant.is p

pub returns-in-Variable : goal.returns-in-Variable
unfolding bit
returns-in-Variable c x y p = value-told _ _ c.in-Variable.is p

pub returns-in-And : goal.returns-in-And
returns-in-And c x y p = value-told _ _ c.in-And.is p

pub returns-in-Or : goal.returns-in-Or
returns-in-Or c x y p = value-told _ _ c.in-Or.is p

pub returns-in-Xor : goal.returns-in-Xor
returns-in-Xor c x y p = unlike c.args.first c.args.second ∙ value-told _ _ c.in-Xor.is p

pub returns-in-Not : goal.returns-in-Not
returns-in-Not c x y p = value-told _ _ c.in-Not.is p
