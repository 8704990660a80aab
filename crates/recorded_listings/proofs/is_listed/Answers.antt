-- `recorded_listings::is_listed` meets its contract: the parts that are lent hold the pattern, and the list that is compared with is the recorded
-- one, with the pattern after it.
use native.Mathlib.Omega.{arith}
use borrow.Author.Rules.{rules}
use mathlib.Core.Path.{refl, ◌∙◌}
use Rattle.recorded.specs.Pattern.{mask}
use Rattle.recorded.proofs.Part.{part-repeated}
use Rattle.recorded_listings.proofs.Form.{listed-past, listed-said, masks-set}
use Rattle.recorded_listings.proofs.is_listed.Goals as goal

pub returns-then-count-room : goal.returns-then-count-room
returns-then-count-room c = listed-past _ _ _ _ _ (omega arith)

pub returns : goal.returns
returns c =
    let room = c.args.room in
    let part = part-repeated {n = 65539} {k = room} (search rules) mask refl in
    let count = c.from-count.ensures ∙ c.pair_at.ensures in
    listed-said _ _ _ _ _ (omega arith) count (c.from.ensures ∙ c.byte_at.ensures) part
    (masks-set c.from-count.result room c.args.masks.now _ (search rules) c.set_masks.ensures part) refl c.lists_as.ensures
