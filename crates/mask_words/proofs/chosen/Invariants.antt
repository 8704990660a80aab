-- `mask_words::chosen` meets its contract. The loop's invariant: for every test on paper that says what the function says, the word has the places
-- below this one that pass.
use Rattle.std.proofs.Common.{Bool, ◌≡◌, ℕ, ◌<◌}
use Rattle.bits.specs.Range.{keep, upto}
use Rattle.bits.specs.Word.{word}
use Rattle.mask_words.proofs.chosen.Given as goal

abbrev pub invariant-loop-place : goal.invariant-loop-place
invariant-loop-place g l =
    (p : ℕ → Bool) → ((i : ℕ) (b : Bool) → i < l.fn.count → goal.F-post g l.fn.test i b → b ≡ p i) → l.word ≡ word (keep p (upto l.place))
