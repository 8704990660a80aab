-- `text::out::put_numbers` meets its contract: a text with its number and another from where it ends are one text.
use mathlib.Core.List.{◌++◌}
use Rattle.rules.specs.Text.{decimal}
use Rattle.bits.proofs.Stored.{stored-append, room-first, room_next}
use Rattle.text.proofs.out.put_numbers.Goals as goal

pub put_number-next-requires : goal.put_number-next-requires
put_number-next-requires c = room-first (c.args.second.now ++ decimal c.args.other) c.requires

pub put_number-requires : goal.put_number-requires
put_number-requires c = room_next (c.args.second.now ++ decimal c.args.other) c.requires c.put_number-next.ensures

pub returns : goal.returns
returns c = stored-append c.put_number-next.ensures c.put_number.ensures
