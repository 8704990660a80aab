-- `rule_package::is_stray` meets its contract: the word is the one needed word of coefficients (Stray).
use mathlib.Core.Path.{◌∙◌}
use native.Mathlib.Omega.{arith}
use Rattle.laws.proofs.transform.Packed.{word_count-small}
use Rattle.rule_package.proofs.Stray.{stray-bit}
use Rattle.rule_package.proofs.is_stray.Goals as goal

pub is_stray-requires : goal.is_stray-requires
is_stray-requires c = let f = c.args.flags in (omega arith, omega (arith, word_count-small f.count f.within))

pub returns : goal.returns
returns c = let f = c.args.flags in c.is_stray.ensures ∙ stray-bit f.count c.args.table f.within
