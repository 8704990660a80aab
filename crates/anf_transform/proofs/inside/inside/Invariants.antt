-- `anf_transform::inside::inside` meets its contract. The loop's invariant: the words before the next one are transformed, and the others are as they
-- were.
use Rattle.std.proofs.Common.{get_or}
use Rattle.anf_transform.specs.inner.Change.{Changed}
use Rattle.anf_transform.specs.inner.Flag.{in_word}
use Rattle.anf_transform.proofs.inside.inside.Given as goal

abbrev pub invariant-loop-word : goal.invariant-loop-word
invariant-loop-word l = Changed 0 l.word-index (λ n. in_word (get_or l.initial.words n 0)) l.initial.words l.words
