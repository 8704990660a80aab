-- `postfix::cursor::put_product` meets its contract: the chain that it puts is what the product is written as.
use mathlib.Core.Path.{sym}
use Rattle.postfix.proofs.Chains.{write-cube, records-cube}
use Rattle.postfix.proofs.Put.{put-eq, room-eq}
use Rattle.postfix.proofs.cursor.put_product.Goals as goal

pub put_chain-requires : goal.put_chain-requires
put_chain-requires c = (c.requires.0, room-eq (write-cube c.args.mask c.requires.0) c.requires.1)

pub returns : goal.returns
returns c = put-eq (sym (write-cube c.args.mask c.requires.0)) (sym (records-cube c.args.mask c.requires.0)) c.put_chain.ensures
