-- Laws of evaluation on paper that no proof of a function needs today: a refusal of the expression is evaluation's, and with the words of a setting's
-- flags the first of 64 settings is that setting, so the value there is evaluation's. They rest on the laws of outcomes and of stars (laws, Outcome
-- and Stars): the setting is star 0's.
--   evaluated_refused    == a refusal of the expression is evaluation's
--   lane_first           == lane 0 is the setting
--   evaluated-lane       == so evaluation's answer is bit 0 of the word of values, which the walk over 64 settings answers
use mathlib.Core.List.{List}
use mathlib.Core.Path.{◌≡◌, ap, ◌∙◌}
use Prim.Native.Nat.{ℕ, ◌%◌, ◌^◌, ◌≤◌, ◌<◌}
use native.Mathlib.Nat.{lt_of_lt_of_le}
use native.Mathlib.Omega.{arith}
use lib.Dec.{lit<}
use Rattle.bits.specs.Bit.{bit, digit}
use Rattle.bits.proofs.Bit.{digit-bit, bit-digit}
use Rattle.bits.proofs.Tabulated.{get_or-map-upto}
use Rattle.rules.specs.Limits.{rule_flags}
use Rattle.rules.specs.Machine.{made}
use Rattle.rules.specs.Outcome.{Outcome, gives, refuses, ◌then◌}
use Rattle.rules.specs.Stars.{star_setting, star_values}
use Rattle.rules.specs.Tree.{Tree, value}
use Rattle.laws.proofs.calls.Outcome.{then-ext, then-then}
use Rattle.laws.proofs.calls.Stars.{star_setting-is, bit-star_values}
use Rattle.walk.specs.Walked.{walked}
use Rattle.evaluation.specs.inner.OneSetting.{evaluated, setting_words}

pub evaluated_refused : (n : ℕ) (s : List ℕ) (at k p : ℕ) → made n s ≡ refuses k p → evaluated n s at ≡ refuses k p
unfolding evaluated
evaluated_refused n s at k p e = ap (λ (o : Outcome Tree). o then (λ t. gives (digit (value t at)))) e

module _ (n at : ℕ) (few : n ≤ rule_flags) (h : at < 2 ^ n) where
  pub lane_first : star_setting n (setting_words at) 0 ≡ at
  unfolding setting_words
  lane_first =
      star_setting-is n (setting_words at) 0 at h
      (λ i l. ap (λ (w : ℕ). bit w 0) (get_or-map-upto rule_flags (λ k. digit (bit at k)) i (lt_of_lt_of_le l few)) ∙ bit-digit (bit at i))

  value-lane : (t : Tree) → digit (value t at) ≡ star_values n (setting_words at) t % 2
  value-lane t =
      let is : bit (star_values n (setting_words at) t) 0 ≡ value t at =
      bit-star_values n (setting_words at) t 0 (lit< tt) ∙ ap (value t) lane_first in
      omega (arith, ap digit is, digit-bit (star_values n (setting_words at) t) 0)

  pub evaluated-lane : (s : List ℕ) → evaluated n s at ≡ walked (star_values n (setting_words at)) n s then (λ v. gives (v.value % 2))
  unfolding evaluated walked
  evaluated-lane s = then-ext (made n s) _ _ (λ t. ap gives (value-lane t)) ∙ then-then (made n s) _ _
