-- A table's rule by one computed test: where the test of every cell computes to true, the two values of every cell are equal. It rests on the laws of
-- membership (Range) and of exclusive or (Truth).
--   agree f g rows cols    == the test: f and g agree in every cell of so many rows and columns
--   cells_same             == then they agree in each
use mathlib.Core.Bool.{Bool, true, not}
use mathlib.Core.Path.{◌≡◌, ◌∙◌}
use Prim.Native.Nat.{ℕ, ◌<◌}
use borrow.Author.Tests.{lt-ltb, not-true}
use Rattle.bits.specs.Bit.{◌⊕◌}
use Rattle.bits.specs.Range.{upto, all}
use Rattle.bits.proofs.Truth.{xor_same}
use Rattle.bits.proofs.Range.{mem-upto, all-mem}

module _ (f g : ℕ → ℕ → Bool) (rows cols : ℕ) where
  abbrev pub agree : Bool
  agree = all (λ i. all (λ j. not (f i j ⊕ g i j)) (upto cols)) (upto rows)

  pub cells_same : agree ≡ true → (i j : ℕ) → i < rows → j < cols → f i j ≡ g i j
  cells_same e i j h l =
      let row = all-mem (λ x. all (λ y. not (f x y ⊕ g x y)) (upto cols)) (upto rows) i e (mem-upto rows i ∙ lt-ltb i rows h) in
      xor_same (f i j) (g i j) (not-true _ (all-mem (λ y. not (f i y ⊕ g i y)) (upto cols) j row (mem-upto cols j ∙ lt-ltb j cols l)))
