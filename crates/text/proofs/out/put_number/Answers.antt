-- `text::out::put_number` meets its contract: the text and the digits from where it ends are one text.
use Rattle.rules.specs.Text.{decimal}
use Rattle.bits.proofs.Stored.{stored-append, room-first, room_next}
use Rattle.text.proofs.out.put_number.Goals as goal

pub put_text-digits-requires : goal.put_text-digits-requires
put_text-digits-requires c = room-first (decimal c.args.number) c.requires

pub put_decimal-requires : goal.put_decimal-requires
put_decimal-requires c = room_next (decimal c.args.number) c.requires c.put_text-digits.ensures

pub returns : goal.returns
returns c = stored-append c.put_text-digits.ensures c.put_decimal.ensures
