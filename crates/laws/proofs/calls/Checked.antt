-- The rows that several calls share, and those of the evaluation for 64 stars, one by one: what a call answers where a row refuses, and that it goes
-- on where none does.
-- It rests on the definitions of rules' Calls and on steps of outcomes (Outcome).
--   table-flags, -short, -complete               == rows 1 and 2, and past them
--   coefficients-flags, -short, -stray, -clean   == rows 1, 3 and 4, and past them
--   coefficients-then                            == a step after these rows is a step after what comes behind them
--   coefficients-lower                           == a lower limit of flags is one row more
--   room-short, room-enough                      == row 5, and past it
--   stars-many, -short, -enough                  == rows 1 and 14, and past them
use mathlib.Core.Bool.{Bool, true, false}
use mathlib.Core.List.{List}
use mathlib.Core.Path.{◌≡◌, refl, ap, ◌∙◌}
use Prim.Native.Nat.{ℕ, ◌^◌, ◌≤◌, ◌<◌}
use native.Mathlib.Omega.{arith}
use lib.Dec.{ltb}
use lib.ListN.{length}
use borrow.Author.Tests.{ltb-false, lt-ltb, le-ltb, lt-leb, le-leb}
use Rattle.rules.specs.Calls.{with_table, with_coefficients, with_room, evaluate_stars}
use Rattle.rules.specs.Coefficient.{word_count, stray}
use Rattle.rules.specs.Limits.{rule_flags, too_many_flags, short_table, short_coefficients, stray_coefficient, short_output, short_stars}
use Rattle.rules.specs.Machine.{made}
use Rattle.rules.specs.Outcome.{Outcome, gives, refuses, refuse, ◌then◌}
use Rattle.rules.specs.Stars.{star_values}
use Rattle.laws.proofs.calls.Outcome.{refuse-then}

module _ {A : Type 0} (limit n : ℕ) (table : List ℕ) (rest : Outcome A) where
  pub table-flags : limit < n → with_table limit n table rest ≡ refuses too_many_flags 0
  unfolding with_table
  table-flags h = rw (lt-ltb limit n h)

  module _ (few : n ≤ limit) where
    pub table-short : length table < 2 ^ n → with_table limit n table rest ≡ refuses short_table 0
    unfolding with_table
    table-short h = rw (le-ltb limit n few, lt-leb (2 ^ n) (length table) h)

    pub table-complete : 2 ^ n ≤ length table → with_table limit n table rest ≡ rest
    unfolding with_table
    table-complete h = rw (le-ltb limit n few, le-leb (2 ^ n) (length table) h)

module _ {A : Type 0} (limit n : ℕ) (ws : List ℕ) (rest : Outcome A) where
  pub coefficients-flags : limit < n → with_coefficients limit n ws rest ≡ refuses too_many_flags 0
  unfolding with_coefficients
  coefficients-flags h = rw (lt-ltb limit n h)

  module _ (few : n ≤ limit) where
    pub coefficients-short : length ws < word_count n → with_coefficients limit n ws rest ≡ refuses short_coefficients 0
    unfolding with_coefficients
    coefficients-short h = rw (le-ltb limit n few, lt-ltb (length ws) (word_count n) h)

    module _ (needed : word_count n ≤ length ws) where
      pub coefficients-stray : stray n ws ≡ true → with_coefficients limit n ws rest ≡ refuses stray_coefficient 0
      unfolding with_coefficients
      coefficients-stray e = rw (le-ltb limit n few, le-ltb (length ws) (word_count n) needed, e)

      pub coefficients-clean : stray n ws ≡ false → with_coefficients limit n ws rest ≡ rest
      unfolding with_coefficients
      coefficients-clean e = rw (le-ltb limit n few, le-ltb (length ws) (word_count n) needed, e)

pub coefficients-then : {A B : Type 0} (limit n : ℕ) (ws : List ℕ) (rest : Outcome A) (f : A → Outcome B)
    → (with_coefficients limit n ws rest then f) ≡ with_coefficients limit n ws (rest then f)
unfolding with_coefficients
coefficients-then limit n ws rest f =
    let many = ltb limit n in
    let short = ltb (length ws) (word_count n) in
    refuse-then many too_many_flags 0 (refuse short short_coefficients 0 (refuse (stray n ws) stray_coefficient 0 rest)) f
    ∙ ap (refuse many too_many_flags 0)
    (refuse-then short short_coefficients 0 (refuse (stray n ws) stray_coefficient 0 rest) f
    ∙ ap (refuse short short_coefficients 0) (refuse-then (stray n ws) stray_coefficient 0 rest f))

pub coefficients-lower : {A : Type 0} (limit most n : ℕ) (ws : List ℕ) (rest : Outcome A) → limit ≤ most
    → with_coefficients limit n ws rest ≡ refuse (ltb limit n) too_many_flags 0 (with_coefficients most n ws rest)
unfolding with_coefficients
coefficients-lower {A} limit most n ws rest h = go (ltb limit n) refl
  where
    behind : Outcome A
    behind = refuse (ltb (length ws) (word_count n)) short_coefficients 0 (refuse (stray n ws) stray_coefficient 0 rest)

    go : (b : Bool) → ltb limit n ≡ b → refuse b too_many_flags 0 behind ≡ refuse b too_many_flags 0 (refuse (ltb most n) too_many_flags 0 behind)
    go true e = refl
    go false e = let few = ltb-false limit n e in rw (le-ltb most n (omega arith))

module _ {A : Type 0} (room : ℕ) (l : List ℕ) (rest : Outcome A) where
  pub room-short : room < length l → with_room room l rest ≡ refuses short_output (length l)
  unfolding with_room
  room-short h = rw (lt-ltb room (length l) h)

  pub room-enough : length l ≤ room → with_room room l rest ≡ rest
  unfolding with_room
  room-enough h = rw (le-ltb room (length l) h)

module _ (n : ℕ) (ws s : List ℕ) where
  pub stars-many : rule_flags < n → evaluate_stars n ws s ≡ refuses too_many_flags 0
  unfolding evaluate_stars
  stars-many h = rw (lt-ltb rule_flags n h)

  module _ (few : n ≤ rule_flags) where
    pub stars-short : length ws < n → evaluate_stars n ws s ≡ refuses short_stars 0
    unfolding evaluate_stars
    stars-short h = rw (le-ltb rule_flags n few, lt-ltb (length ws) n h)

    pub stars-enough : n ≤ length ws → evaluate_stars n ws s ≡ made n s then (λ t. gives (star_values n ws t))
    unfolding evaluate_stars
    stars-enough h = rw (le-ltb rule_flags n few, le-ltb (length ws) n h)
