-- `lanes::LanesValues::apply` meets its contract: each arm is told the kind, and a law of InLanes says that it makes the record's lanes.
use mathlib.Core.Path.{◌∙◌}
use native.Mathlib.Omega.{arith}
use Rattle.lanes.proofs.InLanes.{lanes-told}
use Rattle.lanes.proofs.LanesValues.apply.Goals as goal

pub returns-in-Constant : goal.returns-in-Constant
returns-in-Constant c x y p = c.all.ensures ∙ lanes-told _ _ c.in-Constant.is tt p

pub returns-in-Variable : goal.returns-in-Variable
returns-in-Variable c x y p = c.word.ensures ∙ lanes-told _ _ c.in-Variable.is (omega (arith, c.word.ensures, c.word.type_inv)) p

pub returns-in-And : goal.returns-in-And
returns-in-And c x y p = lanes-told _ _ c.in-And.is tt p

pub returns-in-Or : goal.returns-in-Or
returns-in-Or c x y p = lanes-told _ _ c.in-Or.is tt p

pub returns-in-Xor : goal.returns-in-Xor
returns-in-Xor c x y p = lanes-told _ _ c.in-Xor.is tt p

pub returns-in-Not : goal.returns-in-Not
returns-in-Not c x y p = lanes-told _ _ c.in-Not.is tt p
