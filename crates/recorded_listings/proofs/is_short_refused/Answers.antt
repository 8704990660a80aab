-- `recorded_listings::is_short_refused` meets its contract, by the test of the number of monomials.
use mathlib.Core.Path.{◌∙◌}
use Rattle.recorded_listings.proofs.Form.{short_none, short-said, refused-at}
use Rattle.recorded_listings.proofs.is_short_refused.Goals as goal

pub returns-then-count-lacking : goal.returns-then-count-lacking
returns-then-count-lacking c = short_none _ _ _ _ c.if-count-lacking.true

pub returns : goal.returns
returns c = short-said _ _ _ _ c.if-count-lacking.false (c.from-refused.ensures ∙ refused-at c.at.ensures) c.is_refused.ensures
