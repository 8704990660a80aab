-- How the settings of n flags lie in words: with fewer than six flags they leave room in one word, and with six or more they fill all words.
-- It rests on the laws of the number of words (laws, Packed) and of powers of two (lib.Pow).
--   word_count-full  == six flags or more
--   Room n, room    == both cases
--   word_count-le    == there are no more words than settings
--   few-settings     == fewer than six flags
use mathlib.Core.Bool.{Bool, true, false}
use mathlib.Core.Logic.{◌⊎◌, inl, inr}
use mathlib.Core.Path.{◌≡◌, refl, ap, ◌∙◌}
use Prim.Native.Nat.{ℕ, ◌+◌, ◌-◌, ◌*◌, ◌^◌, ◌≤◌, ◌<◌}
use native.Mathlib.Omega.{arith}
use lib.Dec.{ltb}
use lib.Pow.{pow_mono, pow-add, pow_pos}
use borrow.Author.Tests.{ltb-true, ltb-false}
use Rattle.rules.specs.Coefficient.{word_count}
use Rattle.laws.proofs.transform.Packed.{word_count-small, word_count-large}

pub word_count-full : (n : ℕ) → 6 ≤ n → 64 * word_count n ≡ 2 ^ n
word_count-full n h =
    let s : n ≡ 6 + (n - 6) = omega arith in
    let c : word_count n ≡ 2 ^ (n - 6) = ap word_count s ∙ word_count-large (n - 6) in
    let p : 2 ^ n ≡ 64 * 2 ^ (n - 6) = ap (λ (k : ℕ). 2 ^ k) s ∙ pow-add 2 6 (n - 6) in
    omega arith

abbrev pub Room : ℕ → Type 0
Room n = ((2 ^ n < 64) × (word_count n ≡ 1)) ⊎ ((64 ≤ 2 ^ n) × (64 * word_count n ≡ 2 ^ n))

pub room : (n : ℕ) → Room n
room n = go (ltb n 6) refl
  where
    go : (b : Bool) → ltb n 6 ≡ b → Room n
    go true e =
        let l = ltb-true n 6 e in
        let p : 2 ^ n ≤ 2 ^ 5 = pow_mono {j = 5} (omega arith) in
        inl (omega arith, word_count-small n (omega arith))
    go false e = let l = ltb-false n 6 e in let p : 2 ^ 6 ≤ 2 ^ n = pow_mono l in inr (p, word_count-full n l)

pub word_count-le : (n : ℕ) → word_count n ≤ 2 ^ n
unfolding word_count
word_count-le n = let p = pow_pos n in omega arith

pub few-settings : (n : ℕ) → n < 6 → 2 ^ n ≤ 32
few-settings n h = pow_mono {j = 5} (omega arith)
