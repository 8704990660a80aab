-- How the searches compute, for the contracts of inner functions: a choice from masks, one after the other, and how often a mask is contained in
-- others, taken flag by flag.
--   best_of o             == the best so far as document 01's searches keep it, 0 for none
--   chosen p b m         == m where it passes the test p and has more flags than the best so far, b; else b
--   reach f k c          == the sum of f over the masks that contain the mask c and differ from it only in flags below k
--   Having v k           == the word v holds the masks that have flag k
--   Reached w k one two  == the words one and two hold the masks that at least one mask of the word w contains, and at least two, where it differs
--                           from them only in flags below k
use Rattle.std.specs.Prelude.{Bool, true, false, ◌&&◌, ◌≡◌, ℕ, zero, suc, ◌+◌, ◌^◌, ◌<◌, ltb, Option, Some, None}
use Rattle.std.specs.Int.Count.{ones}
use Rattle.bits.specs.Bit.{bit, digit}
use Rattle.mask_words.specs.declared.mask.Monomial.{Monomial}

abbrev pub best_of : Option Monomial → ℕ
best_of (Some m) = m.mask.bits
best_of None = 0

unfoldable pub chosen : (ℕ → Bool) → ℕ → ℕ → ℕ
chosen p b m = elim (p m && ltb (ones b) (ones m)) [ true ↦ m | false ↦ b ]

-- flag k is added to c, where c lacks it
unfoldable pub reach : (ℕ → ℕ) → ℕ → ℕ → ℕ
reach f zero c = f c
reach f (suc k) c = reach f k c + elim (bit (2 ^ k + c) k) [ true ↦ reach f k (2 ^ k + c) | false ↦ 0 ]

abbrev pub Having : ℕ → ℕ → Type 0
Having v k = (m : ℕ) → m < 64 → bit v m ≡ bit m k

pub record Reached (w k one two : ℕ) : Type 0 where
  pub once : (c : ℕ) → bit one c ≡ ltb 0 (reach (λ m. digit (bit w m)) k c)
  pub twice : (c : ℕ) → bit two c ≡ ltb 1 (reach (λ m. digit (bit w m)) k c)
