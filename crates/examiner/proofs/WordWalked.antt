-- The examination against the table that a word holds, read off the walk's answer with the words of the flags. No proof of a function needs it today.
-- It rests on the laws of Examined.
--   examine-word-walked   == past the rows 1 and 2, it is the judgment of what the walk saw, against the word's bits
use mathlib.Core.List.{List, map}
use mathlib.Core.Path.{◌≡◌, sym, ◌∙◌}
use Prim.Native.Nat.{ℕ, ◌≤◌}
use Rattle.std.specs.Prelude.{Result}
use Rattle.bits.specs.Bit.{bit}
use Rattle.bits.specs.Range.{upto}
use Rattle.rules.specs.Calls.{examine}
use Rattle.rules.specs.Limits.{rule_flags}
use Rattle.rules.specs.Outcome.{◌then◌}
use Rattle.rules.specs.Table.{word_table}
use Rattle.rules.specs.declared.refusal.Refusal.{Refusal}
use Rattle.mask_words.specs.Lookup.{flag_word}
use Rattle.lanes.specs.Lanes.{seen}
use Rattle.walk.specs.Walked.{walked_of}
use Rattle.walk.specs.declared.Seen.{Seen}
use Rattle.examiner.specs.Inner.{judgment}
use Rattle.examiner.proofs.Examined.{examine-word, examine-walked}

module _ (n : ℕ) (few : n ≤ rule_flags) where
  pub examine-word-walked : (ws : List ℕ) → ws ≡ map flag_word (upto rule_flags) → (w : ℕ) (s : List ℕ) (o : Result (Seen ℕ) Refusal)
      → walked_of o ≡ seen n s ws → examine n (word_table n w) s ≡ (walked_of o then (λ v. judgment n (bit w) v))
  examine-word-walked ws e w s o is = sym (examine-word n few w s) ∙ sym (examine-walked n few e (bit w) s is)
