-- `text::out::put_decimal` meets its contract: the library's digits are the number's (Decimal). That the number itself is handed to the library is
-- left to arithmetic, so that the answers hold for any text of the number with the same value.
use Rattle.std.proofs.Common.{sym, ap, ◌∙◌, arith}
use Rattle.std.specs.Fmt as library
use Rattle.bits.proofs.Stored.{stored-eq, room-eq}
use Rattle.text.proofs.Decimal.{decimal-printed}
use Rattle.text.proofs.out.put_decimal.Goals as goal

pub put_text-requires : goal.put_text-requires
put_text-requires c =
    let printed = decimal-printed c.args.number c.ranges.number.fits in
    let digits = c.as_bytes.ensures.value ∙ c.format.ensures.text ∙ ap library.decimal (omega arith) ∙ printed in
    room-eq (sym digits) c.requires

pub returns : goal.returns
returns c =
    let printed = decimal-printed c.args.number c.ranges.number.fits in
    let digits = c.as_bytes.ensures.value ∙ c.format.ensures.text ∙ ap library.decimal (omega arith) ∙ printed in
    stored-eq digits c.put_text.ensures
