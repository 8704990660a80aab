-- A plan: which rule wins for a form, and at what cost.
--   only t us            == the only tree of us, or else t
--   built c l            == the tree that the choice c makes of the form l
--   made o l             == so of a choice that may still be to be found: the cleaned form of l where it is
--   Allowed c l          == what the choice c supposes of the form l: that its rule applies, with the mask that the rule chooses
--   rank o               == 1 where the choice is to be found, else 0
--   Right o l            == the choice o, or one that is found, makes the cleaned form of l, by a rule that applies
--   Parts c l i r        == i and r are right for what the choice c leaves to clean of the form l: the inner form and the remainder
--   Planned l t p        == the plan p makes the tree t of the form l, by a rule that applies, with its cost and choices that are right for its parts
use Rattle.std.specs.Prelude.{true, not, List, [], ◌∷◌, ◌≡◌, ℕ, Option, Some, None, IfSome}
use Rattle.bits.specs.Bit.{within}
use Rattle.bits.specs.Range.{keep, mem}
use Rattle.rules.specs.Cleanup.{cleanup, family, singles, atop, is_family, best_family, with_rest, stripped, absorption, best_cube}
use Rattle.rules.specs.Form.{cube, or_chain, raw_form}
use Rattle.rules.specs.Monomial.{constant}
use Rattle.rules.specs.Tree.{Tree, CO, AN, XO, cost}
use Rattle.anf_cleanup.specs.declared.Choice.{Choice}
use Rattle.anf_cleanup.specs.declared.Choice.TheVariants.{Constant, Family, Raw, Partial, Cube, Absorption}
use Rattle.anf_cleanup.specs.declared.Plan.{Plan}

-- the candidate of a rule that has one
abbrev pub only : Tree → List Tree → Tree
only t [] = t
only t (u ∷ us) = u

abbrev pub built : Choice → List ℕ → Tree
built Constant l = CO (constant l)
built Family l = atop (constant l) (or_chain (singles l))
built Raw l = raw_form l
built (Partial m) l = XO (or_chain m.mask.bits) (cleanup (keep (λ x. not (mem x (family m.mask.bits))) l))
built (Cube c) l = let u = c.mask.bits in with_rest cleanup (AN (cube u) (cleanup (stripped u l))) (keep (λ m. not (within u m)) l)
built Absorption l = only (raw_form l) (absorption l)

abbrev pub made : Option Choice → List ℕ → Tree
made (Some c) l = built c l
made None l = cleanup l

abbrev pub Allowed : Choice → List ℕ → Type 0
Allowed Constant l = Unit
Allowed Family l = is_family l ≡ true
Allowed Raw l = Unit
Allowed (Partial m) l = m.mask.bits ≡ best_family l
Allowed (Cube c) l = c.mask.bits ≡ best_cube cleanup l
Allowed Absorption l = absorption l ≡ built Absorption l ∷ []

abbrev pub rank : Option Choice → ℕ
rank (Some c) = 0
rank None = 1

pub record Right (o : Option Choice) (l : List ℕ) : Type 0 where
  pub makes : made o l ≡ cleanup l
  pub allowed : IfSome o (λ c. Allowed c l)

abbrev pub Parts : Choice → List ℕ → Option Choice → Option Choice → Type 0
Parts Constant l i r = Unit
Parts Family l i r = Unit
Parts Raw l i r = Unit
Parts (Partial m) l i r = Right r (keep (λ x. not (mem x (family m.mask.bits))) l)
Parts (Cube c) l i r = Right i (stripped c.mask.bits l) × Right r (keep (λ m. not (within c.mask.bits m)) l)
Parts Absorption l i r = Unit

pub record Planned (l : List ℕ) (t : Tree) (p : Plan) : Type 0 where
  pub makes : built p.choice l ≡ t
  pub costs : p.cost ≡ cost t
  pub allowed : Allowed p.choice l
  pub parts : Parts p.choice l p.inner p.rest
