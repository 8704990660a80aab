-- One recorded table, compared step by step. It rests on the definitions of specs/Table and on parts of lists (recorded, Part).
--   padded-set        == a list of the pattern whose entries but the last three are set
--   transformed-said  == what the transform of the lent table told and left, compared
--   restored-said     == what the way back from the lent words told and left, compared
use mathlib.Core.Bool.{Bool}
use mathlib.Core.List.{List, ◌++◌, map}
use mathlib.Core.Path.{◌≡◌, ap, ap₂, ◌∙◌}
use Prim.Native.Nat.{ℕ, ◌+◌, ◌-◌, ◌≤◌}
use native.Mathlib.Omega.{arith}
use lib.ListN.{length, drop, replicate, length-replicate}
use Rattle.bits.specs.Range.{upto}
use Rattle.rules.specs.Calls.{transform, way_back}
use Rattle.rules.specs.Outcome.{left}
use Rattle.comparison.specs.Called.{comes_to}
use Rattle.comparison.specs.declared.outcome.Outcome.{Outcome}
use Rattle.recorded.specs.Noise.{noisy}
use Rattle.recorded.specs.Numbers.{bit_at, words_in}
use Rattle.recorded.specs.Pattern.{word}
use Rattle.recorded.proofs.Part.{rest-repeated}
use Rattle.recorded.specs.Sizes.{entries_of, words_of}
use Rattle.recorded_transforms.specs.Answers.{outcome_of}
use Rattle.recorded_transforms.specs.Table.{padded, transformed, restored}

pub padded-set : (g : ℕ → ℕ) {k i n m : ℕ} {l s : List ℕ} → i ≡ k → n ≡ k + 3 → m ≡ k → l ≡ replicate n word → s ≡ map g (upto m) →
    s ++ drop i l ≡ padded (map g (upto k))
padded-set g {k} {i} {n} e h f p q =
    let three : n - i ≡ 3 = omega arith in
    let least : i ≤ n = omega arith in
    ap₂ ◌++◌ (q ∙ ap (λ (j : ℕ). map g (upto j)) f) (rest-repeated least word p ∙ ap (λ (j : ℕ). replicate j word) three)

-- a buffer of so many entries, full of the pattern
repeated : (k : ℕ) {j : ℕ} {w : List ℕ} → j ≡ k → w ≡ replicate j word → w ≡ replicate k word
repeated k e p = p ∙ ap (λ (m : ℕ). replicate m word) e

module _ (n : ℕ) (b c : List ℕ) (e : Outcome) {j : ℕ} {t w l : List ℕ} {r : Bool} where
  pub transformed-said : {i : ℕ} → i ≡ entries_of n → j ≡ words_of n + 3 → t ≡ map (noisy b) (upto i) → w ≡ replicate j word →
      l ≡ padded (words_in (words_of n) c) → r ≡ comes_to outcome_of left (transform n t (length w)) w e l → r ≡ transformed n b c e
  unfolding transformed
  transformed-said hi hj ht hw hl said =
      let w' = repeated (words_of n + 3) hj hw in
      said ∙ rw (ht, hi, hl, w', length-replicate (words_of n + 3) word)

  pub restored-said : j ≡ entries_of n + 3 → t ≡ padded (words_in (words_of n) c) → w ≡ replicate j word →
      l ≡ padded (map (bit_at b) (upto (entries_of n))) → r ≡ comes_to outcome_of left (way_back n t (length w)) w e l → r ≡ restored n b c e
  unfolding restored
  restored-said hj ht hw hl said =
      let w' = repeated (entries_of n + 3) hj hw in
      said ∙ rw (ht, hl, w', length-replicate (entries_of n + 3) word)
