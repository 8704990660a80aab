-- `mask_words::flag_count` meets its contract: a word of 64 digits has at most 64 ones.
use mathlib.Core.Path.{refl}
use native.Mathlib.Omega.{arith}
use lib.Count.{ones-le}
use Rattle.mask_words.proofs.flag_count.Goals as goal

pub overflow_cast-result : goal.overflow_cast-result
overflow_cast-result c = omega (arith, ones-le 64 c.args.mask c.ranges.mask.fits)

pub returns : goal.returns
returns c = (refl, ones-le 64 c.args.mask c.ranges.mask.fits)
