-- `postfix::cursor::put_constant` meets its contract: the leaf that it puts is the constant's record.
use mathlib.Core.Path.{refl, sym}
use Rattle.rules.specs.Tree.{size}
use Rattle.postfix.proofs.Put.{put-eq, room-eq}
use Rattle.postfix.proofs.Writes.{write-constant}
use Rattle.postfix.proofs.cursor.put_constant.Goals as goal

pub put_leaf-requires : goal.put_leaf-requires
put_leaf-requires c = room-eq (write-constant c.args.bit c.requires.0) c.requires.1

pub returns : goal.returns
unfolding size
returns c = put-eq (sym (write-constant c.args.bit c.requires.0)) refl c.put_leaf.ensures
