-- The plans of the candidates of rules 2 and 3. It rests on what their trees cost (Plans) and on the chosen masks (Candidates).
--   partial-planned              == rule 2, with the plan r of the remainder k
--   product-fits, rest-fits      == rule 3: what the product and the inner form cost, and the remainder too, is a small number
--   whole-planned, rest-planned  == rule 3 with no remainder, and with the plan r of the remainder k
use mathlib.Core.List.{List}
use mathlib.Core.Path.{◌≡◌, refl, subst}
use Rattle.std.specs.Prelude.{Option, Some, None}
use Prim.Native.Nat.{ℕ, ◌+◌, ◌≤◌}
use native.Mathlib.Omega.{arith}
use lib.ListN.{length}
use Rattle.bits.specs.Bit.{within}
use Rattle.bits.specs.Range.{keep, mem}
use mathlib.Core.Bool.{not}
use Rattle.rules.specs.Cleanup.{cleanup, family, best_family}
use Rattle.rules.specs.Form.{cube, or_chain}
use Rattle.rules.specs.Tree.{cost}
use Rattle.form.specs.Masks.{masks}
use Rattle.form.specs.declared.Form.{Form}
use Rattle.mask_words.specs.declared.mask.Monomial.{Monomial}
use Rattle.anf_cleanup.specs.Inner.{Winner}
use Rattle.anf_cleanup.specs.Plan.{built, Right, Planned}
use Rattle.anf_cleanup.specs.declared.Best.{Best}
use Rattle.anf_cleanup.specs.declared.Choice.{Choice}
use Rattle.anf_cleanup.specs.declared.Choice.TheVariants.{Partial, Cube}
use Rattle.anf_cleanup.specs.declared.Plan.{Plan}
use Rattle.anf_cleanup.proofs.Bounds.{cleanup-limit}
use Rattle.anf_cleanup.proofs.Candidates.{cube-limit}
use Rattle.anf_cleanup.proofs.Plans.{planned-chosen, planned-right, right-open, cost-partial, cost-whole, cost-rest}

-- ---- rule 2

module _ (l : List ℕ) (m : Monomial) (f : m.mask.bits ≡ best_family l) (k : List ℕ) (e : k ≡ keep (λ x. not (mem x (family m.mask.bits))) l) (x : ℕ)
    (c : x ≡ cost (or_chain m.mask.bits)) (r : Plan) (h : Planned k (cleanup k) r) where
  pub partial-planned : Planned l (built (Partial m) l)
      (record { choice = Partial m; inner = None; rest = Some r.choice; cost = x + r.cost + 1 })
  partial-planned =
      planned-chosen l (Partial m) _ None (Some r.choice) _ refl (cost-partial l m.mask.bits x r.cost k e c h.costs) f
      (subst (Right (Some r.choice)) e (planned-right k r h)) _ refl

-- ---- rule 3

module _ (f : Form) (b : Best) (w : Winner (masks f) b) (x : ℕ) (c : x ≡ cost (cube b.cube.mask.bits)) where
  pub product-fits : x + b.inner.cost ≤ 396
  product-fits = omega (arith, cube-limit f b w)

  pub rest-fits : (g : Form) (r : Plan) → Planned (masks g) (cleanup (masks g)) r → x + b.inner.cost + r.cost ≤ 781
  rest-fits g r h = omega (arith, product-fits, cleanup-limit g, h.costs)

module _ (l : List ℕ) (b : Best) (w : Winner l b) (x : ℕ) (c : x ≡ cost (cube b.cube.mask.bits)) (k : List ℕ)
    (e : k ≡ keep (λ m. not (within b.cube.mask.bits m)) l) where
  planned : (n : ℕ) (o : Option Choice) (q : Plan) → n ≡ cost (built (Cube b.cube) l) → Right o k
      → q ≡ record { choice = Cube b.cube; inner = Some b.inner.choice; rest = o; cost = n }
      → Planned l (built (Cube b.cube) l) q
  planned n o q d r s =
      planned-chosen l (Cube b.cube) n (Some b.inner.choice) o q s d w.best
      (planned-right _ b.inner w.known.inner, subst (Right o) e r) _ refl

  pub whole-planned : length k ≡ 0 → (q : Plan)
      → q ≡ record { choice = Cube b.cube; inner = Some b.inner.choice; rest = None; cost = x + b.inner.cost + 1 }
      → Planned l (built (Cube b.cube) l) q
  whole-planned z q s = planned _ None q (cost-whole l b.cube.mask.bits x b.inner.cost c w.known.inner.costs k e z) (right-open k) s

  pub rest-planned : (length k ≡ 0 → ⊥) → (r : Plan) → Planned k (cleanup k) r → (q : Plan) → q ≡ record {
    choice = Cube b.cube;
    inner = Some b.inner.choice;
    rest = Some r.choice;
    cost = x + b.inner.cost + 1 + r.cost + 1;
  } → Planned l (built (Cube b.cube) l) q
  rest-planned z r h q s =
      planned _ (Some r.choice) q (cost-rest l b.cube.mask.bits x b.inner.cost c w.known.inner.costs k e r.cost z h.costs) (planned-right k r h) s
