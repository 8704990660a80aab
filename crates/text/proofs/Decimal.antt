-- Numbers in base ten: the last digit after the digits of the tens. It rests on the step of the recursion that defines them (bits, Fixed), and on
-- the library's digits.
--   decimal-one, decimal-more    == the digits of a number below ten, and of another
--   decimal-printed              == what the library prints of a number of 64 bits is its digits
--   length-decimal               == a number below a power of ten has at most as many digits as the power says, where that is one or more
use mathlib.Core.Bool.{Bool, true, false}
use mathlib.Core.List.{List, [], ◌∷◌, ◌++◌}
use mathlib.Core.Path.{◌≡◌, sym, ap, ◌∙◌}
use Prim.Native.Nat.{ℕ, zero, suc, ◌+◌, ◌/◌, ◌%◌, ◌^◌, ◌≤◌, ◌<◌}
use native.Mathlib.Decide.{dec_lt}
use native.Mathlib.Omega.{arith}
use lib.Dec.{ltb}
use lib.ListN.{length, length-append}
use borrow.Author.Tests.{lt-ltb, le-ltb}
use Rattle.std.specs.Fmt as library
use Rattle.std.proofs.lemmas.Fmt.{decimal_by_steps}
use Rattle.bits.specs.Fixed.{below}
use Rattle.bits.proofs.Fixed.{below_less, fixed-step}
use Rattle.rules.specs.Text.{decimal_turn, decimal}

-- the digits by whether the number is below ten
abbrev turn : (ℕ → List ℕ) → ℕ → Bool → List ℕ
turn g k b = elim b [ true ↦ (48 + k) ∷ [] | false ↦ g (k / 10) ++ ((48 + k % 10) ∷ []) ]

module _ (k : ℕ) where
  -- what a turn asks of the numbers below k
  abbrev asked : ℕ → List ℕ
  asked = below (λ i. i) [] decimal k

  decimal-turn : decimal k ≡ turn asked k (ltb k 10)
  unfolding decimal decimal_turn
  decimal-turn = fixed-step (λ i. i) [] decimal_turn k

  pub decimal-one : k < 10 → decimal k ≡ (48 + k) ∷ []
  decimal-one h = decimal-turn ∙ ap (turn asked k) (lt-ltb k 10 h)

  pub decimal-more : 10 ≤ k → decimal k ≡ decimal (k / 10) ++ ((48 + k % 10) ∷ [])
  decimal-more h =
      decimal-turn ∙ ap (turn asked k) (le-ltb k 10 h)
      ∙ ap (λ (l : List ℕ). l ++ ((48 + k % 10) ∷ [])) (below_less (λ i. i) [] decimal k (k / 10) (omega arith))

pub decimal-printed : (k : ℕ) → k < 2 ^ 64 → library.decimal k ≡ decimal k
decimal-printed =
    decimal_by_steps (λ k l. l ≡ decimal k) (λ k h. sym (decimal-one k h))
    (λ k l h e. ap (λ (m : List ℕ). m ++ ((48 + k % 10) ∷ [])) e ∙ sym (decimal-more k h))

pub length-decimal : (d k : ℕ) → k < 10 ^ suc d → length (decimal k) ≤ suc d
length-decimal zero k h = omega (arith, ap length (decimal-one k h))
length-decimal (suc d) k h = elim (dec_lt k 10) [
  | yes a ↦ omega (arith, ap length (decimal-one k a))
  | no a ↦
      let tens : k / 10 < 10 ^ suc d = omega arith in
      omega (arith, ap length (decimal-more k (omega arith)), length-append (decimal (k / 10)) ((48 + k % 10) ∷ []), length-decimal d (k / 10) tens)
]
