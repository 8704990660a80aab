-- `anf_transform::inside::transform_word` meets its contract: its six lines are the six turns of `joined_word`.
use Rattle.anf_transform.proofs.InWord.{joined-six}
use Rattle.anf_transform.proofs.inside.transform_word.Goals as goal

pub returns : goal.returns
returns c = joined-six c.args.word c.ranges.word.fits
