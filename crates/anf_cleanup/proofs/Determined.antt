-- What the rules fix of a plan and of the answers of the two searches, and what they leave free. It rests on the definitions of specs/Plan and on
-- the meaning of a family (search, Positive).
--   planned-cost, planned-tree      == two plans for a form and a tree have the same cost, and their choices make the same tree
--   empty_constant, empty-raw       == beyond that the choice is free: the empty form is planned by either of two
--   family-same                     == two answers of the search for a family of a form are the same
--   chosen-cube, chosen-figures     == two answers of the search for a cube of a form have the same cube, or none; and its saving and inner cost
use mathlib.Core.List.{List, []}
use mathlib.Core.Option.{some}
use mathlib.Core.Path.{◌≡◌, refl, sym, ap, ◌∙◌}
use Prim.Native.Nat.{ℕ}
use native.Mathlib.Omega.{arith}
use Rattle.bits.specs.Fixed.{turns, fixed}
use Rattle.bits.specs.Range.{any, keep}
use Rattle.rules.specs.Cleanup.{best_family, cleanup, stripped, cube_saving}
use Rattle.rules.specs.Form.{halves, raw_form}
use Rattle.rules.specs.Monomial.{ordered}
use Rattle.rules.specs.Tree.{Tree, cost}
use Rattle.search.specs.Family.{positive, family_of}
use Rattle.std.specs.Prelude.{Some, None}
use Rattle.std.specs.Prelude as code
use Rattle.search.proofs.Positive.{family_of-injective}
use Rattle.mask_words.specs.declared.mask.Monomial.{Monomial}
use Rattle.anf_cleanup.specs.Inner.{cube_of, Chosen}
use Rattle.anf_cleanup.specs.Plan.{built, Planned}
use Rattle.anf_cleanup.specs.declared.Best.{Best}
use Rattle.anf_cleanup.specs.declared.Choice.TheVariants.{Constant, Raw}
use Rattle.anf_cleanup.specs.declared.Plan.{Plan}
use Rattle.anf_cleanup.proofs.Plans.{planned-chosen, cost-constant}
use Rattle.anf_cleanup.proofs.Rules.{cleanup-constant}

-- ---- plans

module _ (l : List ℕ) (t : Tree) (p q : Plan) (h : Planned l t p) (k : Planned l t q) where
  pub planned-cost : p.cost ≡ q.cost
  planned-cost = h.costs ∙ sym k.costs

  pub planned-tree : built p.choice l ≡ built q.choice l
  planned-tree = h.makes ∙ sym k.makes

pub empty_constant : Planned [] (cleanup []) (record { choice = Constant; inner = None; rest = None; cost = 1 })
unfolding keep
empty_constant = planned-chosen [] Constant 1 None None _ refl (cost-constant []) tt tt (cleanup []) (cleanup-constant [] refl)

pub empty-raw : Planned [] (cleanup []) (record { choice = Raw; inner = None; rest = None; cost = 1 })
unfolding cost any keep raw_form halves ordered turns fixed
empty-raw = planned-chosen [] Raw 1 None None _ refl refl tt tt (cleanup []) (cleanup-constant [] refl)

-- ---- the searches

pub family-same : (l : List ℕ) (f g : code.Option Monomial) → family_of f ≡ positive (best_family l) → family_of g ≡ positive (best_family l) → f ≡ g
family-same l f g h k = family_of-injective f g (h ∙ sym k)

pub chosen-cube : (l : List ℕ) (f g : code.Option Best) → Chosen l f → Chosen l g → cube_of f ≡ cube_of g
chosen-cube l (Some b) (Some d) h k = ap some (h.best ∙ sym k.best)
chosen-cube l (Some b) None h k = absurd (omega (arith, b.cube.some, h.best, k))
chosen-cube l None (Some d) h k = absurd (omega (arith, d.cube.some, k.best, h))
chosen-cube l None None h k = refl

pub chosen-figures : (l : List ℕ) (b d : Best) → Chosen l (Some b) → Chosen l (Some d)
    → (b.cube.mask.bits ≡ d.cube.mask.bits) × (b.saving ≡ d.saving) × (b.inner.cost ≡ d.inner.cost)
chosen-figures l b d h k =
    let same : b.cube.mask.bits ≡ d.cube.mask.bits = h.best ∙ sym k.best in (
      same,
      h.known.saving ∙ ap (cube_saving cleanup l) same ∙ sym k.known.saving,
      h.known.inner.costs ∙ ap (λ (c : ℕ). cost (cleanup (stripped c l))) same ∙ sym k.known.inner.costs,
    )
