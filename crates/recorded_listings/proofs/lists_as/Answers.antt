-- `recorded_listings::lists_as` meets its contract: the answer is the call's on paper, and so is the buffer that is left.
use Rattle.std.proofs.Common.{arith}
use Rattle.comparison.proofs.Called.{came}
use Rattle.comparison.proofs.Same.{outcome-same}
use Rattle.recorded_listings.specs.Listings.{listed_of, masks_after}
use Rattle.recorded_listings.proofs.Form.{listed-told}
use Rattle.recorded_listings.proofs.lists_as.Goals as goal

pub returns : goal.returns
returns c =
    let call = c.from_anf_coeffs-answer.ensures in
    came listed_of masks_after _ _ _ _ (listed-told _ _ _ call.answer c.from-told.ensures c.map.ensures.cases) call.lent (grind (arith, outcome-same))
