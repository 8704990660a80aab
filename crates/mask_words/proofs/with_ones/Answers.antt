-- `mask_words::with_ones` meets its contract: its constants are the layers, and no mask below 64 has more than six ones (Layer).
use Rattle.mask_words.proofs.Layer.{layer-looked}
use Rattle.mask_words.proofs.with_ones.Goals as goal

pub returns : goal.returns
returns c = rw (c.unwrap_or.ensures, c.copied.ensures) (layer-looked c.args.count c.get.result c.get.ensures.lookup.0 c.get.ensures.lookup.1)
