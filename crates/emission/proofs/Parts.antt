-- The choices that leave forms to clean: the partial OR's remainder, and the cube's inner form and remainder. It rests on plans
-- (anf_cleanup, Plans).
--   meant-of                          == a choice that is right is meant, where those for its parts are to be found
--   left-of                           == so for a form of fewer literals, which comes after
--   rest-fits                         == rule 3's tree has the records of its AN
--   write-none, size-none             == and no more where no mask is left
--   write-some, size-some             == and where some are, those of the cleaned remainder and of XO
--   cubes                             == what rule 3 needs, for tactics
use Rattle.std.specs.Prelude.{◌≡◌, List, [], ◌∷◌, ◌++◌, ℕ, ◌+◌, ◌≤◌, ◌<◌, length, Option, Some, None, refl}
use Rattle.std.proofs.Common.{arith, length-append, append_assoc}
use Rattle.rules.specs.Ascii.{ascii}
use Rattle.rules.specs.Cleanup.{with_rest}
use Rattle.rules.specs.Form.{literals}
use Rattle.rules.specs.Tree.{Tree, AN, size, write}
use Rattle.anf_cleanup.specs.Plan.{rank, Right, Parts}
use Rattle.anf_cleanup.specs.declared.Choices.{Choices}
use Rattle.anf_cleanup.specs.declared.Choice.{Choice}
use Rattle.anf_cleanup.specs.declared.Choice.TheVariants.{Constant, Family, Raw, Partial, Cube, Absorption}
use Rattle.anf_cleanup.proofs.Plans.{right-open}
use Rattle.emission.specs.inner.Emitted.{Left, Meant}

meant-of : (o : Option Choice) {c : Choices} (k l : List ℕ) → c ≡ record { form = o; inner = None; rest = None } → k ≡ l → Right o l
    → Meant c k
meant-of None k l e q h = rw (e, q) (record { right = h; parts = tt })
meant-of (Some d) k l e q h = rw (e, q) (record { right = h; parts = go d })
  where
    go : (d : Choice) → Parts d l None None
    go Constant = tt
    go Family = tt
    go Raw = tt
    go (Partial m) = right-open _
    go (Cube m) = (right-open _, right-open _)
    go Absorption = tt

rank-le : (o : Option Choice) → rank o ≤ 1
rank-le (Some c) = omega arith
rank-le None = omega arith

pub left-of : (o : Option Choice) {c : Choices} (k l all : List ℕ) → c ≡ record { form = o; inner = None; rest = None } → k ≡ l → Right o l
    → literals k < literals all → Left c k all
left-of o k l all e q h f = record { meant = meant-of o k l e q h; fewer = rw e (omega (arith, f, rank-le o)) }

module _ (g : List ℕ → Tree) (x y : Tree) where
  pub rest-fits : (k : List ℕ) → length (write x) + length (write y) + 2 ≤ length (write (with_rest g (AN x y) k))
  unfolding with_rest write ascii
  rest-fits [] = simp length-append (omega arith)
  rest-fits (m ∷ k) = simp length-append (omega arith)

  pub write-none : (k : List ℕ) → length k ≡ 0 → write (with_rest g (AN x y) k) ≡ write x ++ write y ++ 65 ∷ 78 ∷ []
  unfolding with_rest write ascii
  write-none [] e = refl
  write-none (m ∷ k) e = absurd (omega arith)

  pub size-none : (k : List ℕ) → length k ≡ 0 → size (with_rest g (AN x y) k) ≡ 1 + size x + size y
  unfolding with_rest size
  size-none [] e = refl
  size-none (m ∷ k) e = absurd (omega arith)

  pub write-some : (k : List ℕ) → (length k ≡ 0 → ⊥)
      → write (with_rest g (AN x y) k) ≡ (write x ++ write y ++ 65 ∷ 78 ∷ []) ++ write (g k) ++ 88 ∷ 79 ∷ []
  unfolding with_rest write ascii
  write-some [] n = absurd (n refl)
  write-some (m ∷ k) n = refl

  pub size-some : (k : List ℕ) → (length k ≡ 0 → ⊥) → size (with_rest g (AN x y) k) ≡ 1 + (1 + size x + size y) + size (g k)
  unfolding with_rest size
  size-some [] n = absurd (n refl)
  size-some (m ∷ k) n = refl

pub ruleset cubes = (rest-fits, write-none, size-none, write-some, size-some, length-append, append_assoc)
