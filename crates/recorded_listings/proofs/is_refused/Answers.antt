-- `recorded_listings::is_refused` meets its contract: the part that is lent, and compared with, holds the pattern.
use mathlib.Core.Path.{refl}
use borrow.Author.Rules.{rules}
use Rattle.recorded.specs.Pattern.{mask}
use Rattle.recorded.proofs.Part.{part-repeated}
use Rattle.recorded_listings.proofs.Form.{refused-said}
use Rattle.recorded_listings.proofs.is_refused.Goals as goal

pub returns : goal.returns
returns c =
    let room = c.args.room in
    let part = part-repeated {n = 65539} {k = room} (search rules) mask refl in
    refused-said _ _ room _ part part c.lists_as.ensures
