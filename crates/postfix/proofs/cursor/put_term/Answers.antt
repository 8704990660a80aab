-- `postfix::cursor::put_term` meets its contract: the product of no flag is the constant 1.
use mathlib.Core.Bool.{true}
use mathlib.Core.Path.{◌≡◌, sym}
use native.Mathlib.Omega.{arith}
use Rattle.rules.specs.Form.{cube}
use Rattle.rules.specs.Tree.{CO}
use Rattle.postfix.proofs.Chains.{cube-zero}
use Rattle.postfix.proofs.Writes.{room_of, writes-of}
use Rattle.postfix.proofs.cursor.put_term.Goals as goal

pub put_constant-requires : goal.put_constant-requires
put_constant-requires c =
    let constant : cube c.args.mask ≡ CO true = cube-zero c.args.mask c.if-mask-eq0.true in
    (omega arith, room_of constant c.requires)

pub returns-then-mask-eq0 : goal.returns-then-mask-eq0
returns-then-mask-eq0 c =
    let constant : cube c.args.mask ≡ CO true = cube-zero c.args.mask c.if-mask-eq0.true in
    writes-of (sym constant) c.put_constant.ensures
