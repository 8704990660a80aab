-- `postfix::cursor::put_or_chain` meets its contract: the chain that it puts is what the OR of the flags is written as.
use mathlib.Core.Path.{sym}
use Rattle.postfix.proofs.Chains.{write-or_chain, records-or_chain}
use Rattle.postfix.proofs.Put.{put-eq, room-eq}
use Rattle.postfix.proofs.cursor.put_or_chain.Goals as goal

pub put_chain-requires : goal.put_chain-requires
put_chain-requires c = (c.requires.0, room-eq (write-or_chain c.args.mask c.requires.0) c.requires.1)

pub returns : goal.returns
returns c =
    put-eq (sym (write-or_chain c.args.mask c.requires.0)) (sym (records-or_chain c.args.mask c.requires.0))
    c.put_chain.ensures
