-- `Lookup::new` meets its contract: antt computes the word of each mask's nonempty subsets and of each mask's supersets, and each is the
-- word of its table.
use mathlib.Core.Path.{refl}
use Rattle.bits.specs.Bit.{within}
use Rattle.bits.specs.Range.{from, keep}
use Rattle.bits.specs.Sum.{sum}
use Rattle.bits.specs.Word.{word}
use Rattle.rules.specs.Cleanup.{family}
use Rattle.mask_words.specs.Lookup.{subset_word, superset_word}
use Rattle.mask_words.proofs.lookup.Lookup.new.Goals as goal

pub invariant_of-result : goal.invariant_of-result
unfolding subset_word superset_word family within from keep sum word
invariant_of-result c = record { subsets_right = refl; supersets_right = refl }
