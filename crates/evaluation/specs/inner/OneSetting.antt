-- How one setting is asked for among 64, for the contracts of inner functions.
--   evaluated n s at     == the value of the bytes s at a setting, once the flag count and the setting are passed
--   setting_words at           == a word for each flag, whose bit 0 is the setting's
use Rattle.std.specs.Prelude.{List, map, ℕ}
use Rattle.bits.specs.Bit.{bit, digit}
use Rattle.bits.specs.Range.{upto}
use Rattle.rules.specs.Limits.{rule_flags}
use Rattle.rules.specs.Machine.{made}
use Rattle.rules.specs.Outcome.{Outcome, gives, ◌then◌}
use Rattle.rules.specs.Tree.{value}

unfoldable pub evaluated : ℕ → List ℕ → ℕ → Outcome ℕ
evaluated n s at = made n s then (λ t. gives (digit (value t at)))

unfoldable pub setting_words : ℕ → List ℕ
setting_words at = map (λ i. digit (bit at i)) (upto rule_flags)
