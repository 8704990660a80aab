-- `search::best_family` meets its contract. The loop's invariant: the masks that are left have a flag, and the choice from them, after the best so
-- far, is the choice from all monomials within the single flags.
use mathlib.Core.Bool.{true}
use mathlib.Core.List.{foldl}
use mathlib.Core.Path.{◌≡◌}
use Prim.Native.Nat.{ℕ, ◌<◌}
use Rattle.bits.specs.Range.{mem}
use Rattle.bits.specs.Word.{places}
use Rattle.rules.specs.Cleanup.{is_partial}
use Rattle.search.specs.Inner.{best_of, chosen}
use Rattle.search.proofs.best_family.Given as goal

-- the choice from the masks of a word, after a mask b
abbrev pub choice : ℕ → ℕ → ℕ → ℕ
choice monomials b left = foldl (chosen (is_partial (places 64 monomials))) b (places 64 left)

abbrev pub invariant-loop-mask : goal.invariant-loop-mask
invariant-loop-mask l =
    (goal.iterator-loop-mask).can_next l.mask-iterator × (goal.iterator-loop-mask).is_finite l.mask-iterator
    × ((m : ℕ) → mem m (places 64 l.mask-iterator.left) ≡ true → 0 < m)
    × (choice l.monomials (best_of l.best) l.mask-iterator.left ≡ choice l.monomials 0 l.initial.mask-iterator.left)
