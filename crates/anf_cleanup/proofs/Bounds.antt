-- Bounds for forms of at most six flags: their flags are below the count of masks, and every cost is small. They rest on the masks of a form (form,
-- Masks), on the cleanup's cost (laws, Size) and on the costs of parts (laws, Cost).
--   union-some, flags-below                == of two masks one has a flag; the flags that occur in a form are below the count of masks
--   raw-limit, cleanup-limit, inner-limit  == raw cost, and the cost of a cleaned form and of a cleaned inner form
--   covered-limit                          == the literals of the monomials that contain a cube
--   product-limit, monomial-limit          == the cost of a product; so of a monomial of the code
use mathlib.Core.Bool.{Bool, true, false}
use mathlib.Core.List.{List, [], ◌∷◌, map}
use mathlib.Core.Path.{◌≡◌, refl}
use Prim.Native.Nat.{ℕ, ◌-◌, ◌≤◌, ◌<◌}
use native.Mathlib.Nat.{le_trans}
use native.Mathlib.Omega.{arith}
use lib.Count.{ones, ones-le}
use lib.Dec.{ltb}
use lib.ListN.{length}
use borrow.Author.Tests.{ltb-true, ltb-false}
use Rattle.bits.specs.Bit.{within}
use Rattle.bits.specs.Range.{Ascending, Below}
use Rattle.bits.specs.Sum.{sum, union}
use Rattle.bits.proofs.Ascending.{below-keep}
use Rattle.bits.proofs.Mask.{within-le}
use Rattle.bits.proofs.Range.{mem-head, mem-tail}
use Rattle.bits.proofs.Total.{total-keep-le}
use Rattle.bits.proofs.Union.{union-mem, union-lt}
use Rattle.rules.specs.Limits.{record_limit}
use Rattle.rules.specs.Cleanup.{covered, stripped, cleanup}
use Rattle.rules.specs.Form.{cube, or_chain, raw_cost, literals}
use Rattle.rules.specs.Monomial.{monomials}
use Rattle.rules.specs.Tree.{cost}
use Rattle.laws.proofs.cost.Cost.{cost-cube, cost-or_chain, cost-or_chain-few, raw-literals, term_cost-suc}
use Rattle.laws.proofs.form.Covered.{ascending-stripped}
use Rattle.laws.proofs.cost.Size.{cost-cleanup, raw_cost-limit}
use Rattle.mask_words.specs.Lookup.{mask_count}
use Rattle.mask_words.specs.declared.mask.Mask.{Mask}
use Rattle.mask_words.specs.declared.mask.Monomial.{Monomial}
use Rattle.form.specs.Masks.{masks}
use Rattle.form.specs.declared.Form.{Form}
use Rattle.form.proofs.Masks.{ascending-masks, below-masks}

pub union-some : (k : List ℕ) → Ascending k → 2 ≤ length k → 0 < union k
union-some [] s p = absurd (omega arith)
union-some (m ∷ []) s p = absurd (omega arith)
union-some (m ∷ o ∷ k) s p =
    let l : List ℕ = m ∷ o ∷ k in
    omega (arith, s.0, within-le o (union l) (union-mem l o (mem-tail m (o ∷ k) o (mem-head o k))))

module _ (f : Form) where
  pub flags-below : union (masks f) < mask_count
  flags-below = union-lt 6 (masks f) (below-masks f)

  pub raw-limit : raw_cost (masks f) ≤ record_limit
  raw-limit = raw_cost-limit 6 (masks f) (omega arith) (ascending-masks f) (below-masks f)

  pub covered-limit : (c : ℕ) → literals (covered c (masks f)) ≤ 193
  unfolding covered sum
  covered-limit c =
      omega (
        arith,
        total-keep-le ones (λ m. within c m) (monomials (masks f)),
        total-keep-le ones (λ m. ltb 0 m) (masks f),
        go (masks f) (ascending-masks f) raw-limit,
      )
    where
      go : (k : List ℕ) → Ascending k → raw_cost k ≤ record_limit → literals k ≤ 193
      go [] s h = omega arith
      go (m ∷ k) s h = omega (arith, raw-literals (m ∷ k) s (omega arith))

  pub cleanup-limit : cost (cleanup (masks f)) ≤ record_limit
  cleanup-limit = le_trans (cost-cleanup (masks f) (ascending-masks f)) raw-limit

  pub inner-limit : (c : ℕ) → cost (cleanup (stripped c (masks f))) ≤ record_limit
  unfolding stripped covered
  inner-limit c =
      let l = masks f in
      let rises = ascending-stripped c l (ascending-masks f) in
      let small = go (covered c l) (below-keep mask_count _ (monomials l) (below-keep mask_count _ l (below-masks f))) in
      le_trans (cost-cleanup (stripped c l) rises) (raw_cost-limit 6 (stripped c l) (omega arith) rises small)
    where
      go : (k : List ℕ) → Below mask_count k → Below mask_count (map (λ m. m - c) k)
      go [] h = tt
      go (m ∷ k) h = (omega (arith, h.0), go k h.1)

module _ (m : ℕ) (h : m < mask_count) where
  pub product-limit : 0 < m → cost (cube m) ≤ 11
  product-limit p = omega (arith, cost-cube m, term_cost-suc m p, ones-le 6 m h)

pub monomial-limit : (m : Monomial) → cost (cube m.mask.bits) ≤ 11
monomial-limit m = product-limit m.mask.bits m.mask.within m.some
