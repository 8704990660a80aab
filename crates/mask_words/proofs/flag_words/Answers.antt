-- `mask_words::flag_words` meets its contract: antt computes the word of each flag.
use mathlib.Core.Path.{refl}
use Rattle.bits.specs.Bit.{bit}
use Rattle.bits.specs.Range.{from, keep}
use Rattle.bits.specs.Sum.{sum}
use Rattle.bits.specs.Word.{word}
use Rattle.mask_words.specs.Lookup.{flag_word}
use Rattle.mask_words.proofs.flag_words.Goals as goal

pub returns : goal.returns
unfolding flag_word bit from keep sum word
returns c = refl
