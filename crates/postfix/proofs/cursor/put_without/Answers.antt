-- `postfix::cursor::put_without` meets its contract: a product, another with NO after it, and AN.
use Rattle.rules.specs.Form.{cube}
use Rattle.rules.specs.Tree.{Tree, NO}
use Rattle.postfix.proofs.Writes.{an, room-left, room-right, room-mark, writes-join, room-operand, room-no, writes-no}
use Rattle.postfix.proofs.cursor.put_without.Goals as goal

pub put_term-product-requires : goal.put_term-product-requires
put_term-product-requires c =
    let x : Tree = cube c.args.mask in
    let y : Tree = cube c.args.other in
    room-left an x (NO y) c.requires

pub put_term-excluded-requires : goal.put_term-excluded-requires
put_term-excluded-requires c =
    let x : Tree = cube c.args.mask in
    let y : Tree = cube c.args.other in
    room-operand y (room-right an x (NO y) c.put_term-product.ensures c.requires)

pub put_mark-turned-requires : goal.put_mark-turned-requires
put_mark-turned-requires c =
    let x : Tree = cube c.args.mask in
    let y : Tree = cube c.args.other in
    room-no y c.put_term-excluded.ensures (room-right an x (NO y) c.put_term-product.ensures c.requires)

pub put_mark-requires : goal.put_mark-requires
put_mark-requires c =
    let x : Tree = cube c.args.mask in
    let y : Tree = cube c.args.other in
    room-mark an x (NO y) c.put_term-product.ensures (writes-no y c.put_term-excluded.ensures c.put_mark-turned.ensures) c.requires

pub returns : goal.returns
returns c =
    let x : Tree = cube c.args.mask in
    let y : Tree = cube c.args.other in
    writes-join an x (NO y) c.put_term-product.ensures (writes-no y c.put_term-excluded.ensures c.put_mark-turned.ensures) c.put_mark.ensures
