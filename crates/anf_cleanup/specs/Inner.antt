-- How the cleanup's search goes, for the contracts of inner functions.
--   Improved l us p q    == where p plans the best tree so far, q plans the best after the candidates us
--   best_of o             == the code's best as document 01's search keeps it, with 0 for none
--   Known l b            == the cube of b is a candidate and saves what b says, and its cleaned inner form is planned
--   Tried l c s o        == o has the cube c, which saves more than s and of which what it says is known, or c is no candidate that saves more
--   gross c l            == what the cube c saves in the form l before its inner form is paid for
--   least k              == no cleaned form of k costs less: the OR chain of its flags, and 2 more for a constant 1
--   cube_of o             == the cube of the search's answer o, or none
--   Winner l b           == b has the best cube of the form l, and what it says of that is known
--   Chosen l o           == o has a winner, or there is no best cube
use Rattle.std.specs.Prelude.{true, ◌≡◌, ℕ, ◌+◌, ◌-◌, ◌*◌, ◌<◌, ◌≤◌, Some, None, MatchOption}
use Rattle.std.specs.Prelude as code
use mathlib.Core.List.{List, foldl}
use Rattle.std.proofs.Math.Option.{Option, none, some}
use Rattle.bits.specs.Bit.{digit}
use Rattle.bits.specs.Sum.{union}
use Rattle.rules.specs.Cleanup.{cleanup, covered, stripped, cheaper, is_cube, cube_saving, best_cube}
use Rattle.rules.specs.Cleanup as paper
use Rattle.rules.specs.Form.{cube, or_chain, raw_cost}
use Rattle.rules.specs.Monomial.{constant}
use Rattle.rules.specs.Tree.{Tree, cost}
use Rattle.anf_cleanup.specs.Plan.{Planned}
use Rattle.anf_cleanup.specs.declared.Best.{Best}
use Rattle.anf_cleanup.specs.declared.Plan.{Plan}

abbrev pub Improved : List ℕ → List Tree → Plan → Plan → Type 0
Improved l us p q = (t : Tree) → Planned l t p → Planned l (foldl cheaper t us) q

-- the best so far, as the paper's search keeps it
abbrev pub best_of : code.Option Best → paper.Best
best_of (Some b) = record { mask = b.cube.mask.bits; saving = b.saving }
best_of None = record { mask = 0; saving = 0 }

pub record Known (l : List ℕ) (b : Best) : Type 0 where
  pub test : is_cube l b.cube.mask.bits ≡ true
  pub saving : b.saving ≡ cube_saving cleanup l b.cube.mask.bits
  pub inner : Planned (stripped b.cube.mask.bits l) (cleanup (stripped b.cube.mask.bits l)) b.inner

abbrev pub Tried : List ℕ → ℕ → ℕ → code.Option Best → Type 0
Tried l c s o = MatchOption o (is_cube l c ≡ true → cube_saving cleanup l c ≤ s) (λ b. (b.cube.mask.bits ≡ c) × (s < b.saving) × Known l b)

-- "raw cost of the covered monomials, without the constant, less 1 less the cube's cost"
unfoldable pub gross : ℕ → List ℕ → ℕ
gross c l = raw_cost (covered c l) - 1 - cost (cube c)

unfoldable pub least : List ℕ → ℕ
least k = cost (or_chain (union k)) + 2 * digit (constant k)

abbrev pub cube_of : code.Option Best → Option ℕ
cube_of (Some b) = some b.cube.mask.bits
cube_of None = none

pub record Winner (l : List ℕ) (b : Best) : Type 0 where
  pub best : b.cube.mask.bits ≡ best_cube cleanup l
  pub known : Known l b

abbrev pub Chosen : List ℕ → code.Option Best → Type 0
Chosen l o = MatchOption o (best_cube cleanup l ≡ 0) (Winner l)
