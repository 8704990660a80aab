-- `recorded_listings::agrees` meets its contract: the form is asked for three times.
use mathlib.Core.Path.{◌∙◌}
use native.Mathlib.Omega.{arith}
use Rattle.recorded_listings.proofs.Form.{agrees-said, refused-at}
use Rattle.recorded_listings.proofs.agrees.Goals as goal

pub returns : goal.returns
returns c =
    agrees-said _ _ _ _ _ _ (omega (arith, c.entries-room.ensures.0)) (c.from-count.ensures ∙ c.pair_at.ensures)
    (c.from-refused.ensures ∙ refused-at c.at.ensures)
    c.is_refused.ensures c.is_short_refused.ensures c.is_listed.ensures
