-- `text::push_number` meets its contract: the library's digits are the number's (Decimal). That the number itself is handed to the library is left to
-- arithmetic, so that the answer holds for any text of the number with the same value.
use Rattle.std.proofs.Common.{ap, ◌∙◌, arith}
use Rattle.std.specs.Fmt as library
use Rattle.text.proofs.Decimal.{decimal-printed}
use Rattle.text.proofs.Shown.{written-eq, written-then}
use Rattle.text.proofs.push_number.Goals as goal

pub returns : goal.returns
returns g c =
    let printed = decimal-printed c.args.number c.ranges.number.fits in
    let digits = c.as_bytes.ensures.value ∙ c.format.ensures.text ∙ ap library.decimal (omega arith) ∙ printed in
    written-then c.push.ensures (written-eq digits c.push-2.ensures)
