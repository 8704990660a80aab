-- With the words of the six flags the lanes are the settings themselves. It rests on those words (mask_words, Entries) and on the laws of stars
-- (laws, Stars).
--   lane-setting         == lane j is setting j
--   bit-values           == so a tree's lanes are its values
use mathlib.Core.List.{List, map}
use mathlib.Core.Path.{◌≡◌, ap, ◌∙◌}
use Prim.Native.Nat.{ℕ, ◌^◌, ◌≤◌, ◌<◌}
use native.Mathlib.Nat.{lt_of_lt_of_le}
use lib.Pow.{pow_mono}
use Rattle.bits.specs.Bit.{bit}
use Rattle.bits.specs.Range.{upto}
use Rattle.rules.specs.Limits.{rule_flags}
use Rattle.rules.specs.Stars.{star_setting, star_values}
use Rattle.rules.specs.Tree.{Tree, value}
use Rattle.laws.proofs.calls.Stars.{star_setting-is, bit-star_values}
use Rattle.mask_words.specs.Lookup.{flag_word}
use Rattle.mask_words.proofs.Entries.{bit-flag}

module _ (ws : List ℕ) (e : ws ≡ map flag_word (upto rule_flags)) (n j : ℕ) (few : n ≤ rule_flags) (h : j < 2 ^ n) where
  inside : j < 2 ^ rule_flags
  inside = lt_of_lt_of_le h (pow_mono few)

  pub lane-setting : star_setting n ws j ≡ j
  lane-setting = star_setting-is n ws j j h (λ i l. bit-flag ws e i (lt_of_lt_of_le l few) j inside)

  pub bit-values : (t : Tree) → bit (star_values n ws t) j ≡ value t j
  bit-values t = bit-star_values n ws t j inside ∙ ap (value t) lane-setting
