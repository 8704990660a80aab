-- What is known of the masks that rules 2 and 3 choose: they are among the candidates, so the rule's number of monomials is there, the form's parts
-- have fewer literals than the form, and the mask costs little. It rests on the best choice (laws, Greatest), the
-- candidates (laws, Recursion), the literals of parts (laws, Literals), the bounds of a form (Bounds) and an answer that may be none (search,
-- Positive).
--   family-many, family-fewer                  == where rule 2 chooses the mask m: three monomials; the remainder has fewer literals
--   is_cube-fewer, is_cube-within                == of a candidate cube the stripped form has fewer literals, and its flags occur
--   cube-many                                  == where rule 3 chooses the cube c: two monomials
--   cube-fewer, inner-fewer                    == the remainder and the stripped form have fewer literals
--   cube-limit                                 == a winner in a form: what its cube costs with its inner form
use mathlib.Core.Bool.{true, not}
use mathlib.Core.List.{List}
use mathlib.Core.Path.{◌≡◌, sym, subst}
use Prim.Native.Nat.{ℕ, ◌+◌, ◌≤◌, ◌<◌}
use native.Mathlib.Nat.{le_trans}
use native.Mathlib.Omega.{arith}
use lib.Count.{ones}
use lib.ListN.{length}
use Rattle.bits.specs.Bit.{within}
use Rattle.bits.specs.Range.{keep, mem}
use Rattle.bits.specs.Sum.{union}
use Rattle.bits.proofs.Range.{length-keep}
use Rattle.bits.proofs.Total.{total-const, total-two}
use Rattle.rules.specs.Cleanup.{family, best_family, covered, stripped, is_cube, best_cube, cleanup}
use Rattle.rules.specs.Form.{cube, literals}
use Rattle.rules.specs.Monomial.{monomials}
use Rattle.rules.specs.Tree.{cost}
use Rattle.laws.proofs.form.Covered.{covered-occurs}
use Rattle.laws.proofs.form.Family.{family-own, family-other}
use Rattle.laws.proofs.form.Greatest.{greatest-mem}
use Rattle.laws.proofs.form.Literals.{literals-stripped, literals-uncovered, literals-without}
use Rattle.laws.proofs.value.Recursion.{families, cubes, is_cube-many, families-mem, cubes-mem}
use Rattle.laws.proofs.value.Turn.{may_part}
use Rattle.form.specs.Masks.{masks}
use Rattle.form.specs.declared.Form.{Form}
use Rattle.anf_cleanup.specs.Inner.{Winner}
use Rattle.anf_cleanup.specs.declared.Best.{Best}
use Rattle.anf_cleanup.proofs.Bounds.{inner-limit, monomial-limit}

-- ---- rule 2

family-two : (m : ℕ) → 2 ≤ ones m → 0 < m → 2 ≤ length (family m)
family-two m h p =
    let (s, here, other) = family-other m h p in
    omega (arith, total-const 1 (family m), total-two (λ x. 1) (family m) m s (family-own m p) here other)

module _ (l : List ℕ) (m : ℕ) (e : m ≡ best_family l) (p : 0 < m) where
  among : mem m (families l) ≡ true
  unfolding best_family
  among = subst (λ (x : ℕ). mem x (families l) ≡ true) (sym e) (greatest-mem _ (families l) (omega arith))

  pub family-many : 3 ≤ length (monomials l)
  family-many = let u = may_part l m among in omega (arith, u.fewer, family-two m u.several p)

  pub family-fewer : (k : List ℕ) → k ≡ keep (λ x. not (mem x (family m))) l → literals k < literals l
  family-fewer k q = subst (λ (x : List ℕ). literals x < literals l) (sym q) (literals-without m l p (families-mem l m among).1)

-- ---- rule 3

module _ (l : List ℕ) (c : ℕ) (e : is_cube l c ≡ true) where
  pub is_cube-fewer : 0 < c → (k : List ℕ) → k ≡ stripped c l → literals k < literals l
  is_cube-fewer p k q = subst (λ (x : List ℕ). literals x < literals l) (sym q) (literals-stripped c l p (omega (arith, is_cube-many l c e)))

  pub is_cube-within : within c (union l) ≡ true
  is_cube-within = covered-occurs c l (omega (arith, is_cube-many l c e))

module _ (l : List ℕ) (c : ℕ) (e : c ≡ best_cube cleanup l) (p : 0 < c) where
  candidate : mem c (cubes l) ≡ true
  unfolding best_cube
  candidate = subst (λ (x : ℕ). mem x (cubes l) ≡ true) (sym e) (greatest-mem _ (cubes l) (omega arith))

  pub cube-many : 2 ≤ length (monomials l)
  unfolding covered
  cube-many = le_trans (cubes-mem l c candidate).1 (length-keep (λ m. within c m) (monomials l))

  pub cube-fewer : (k : List ℕ) → k ≡ keep (λ m. not (within c m)) l → literals k < literals l
  cube-fewer k q =
      subst (λ (x : List ℕ). literals x < literals l) (sym q) (literals-uncovered c l p (omega (arith, (cubes-mem l c candidate).1)))

  pub inner-fewer : (k : List ℕ) → k ≡ stripped c l → literals k < literals l
  inner-fewer k q = subst (λ (x : List ℕ). literals x < literals l) (sym q) (literals-stripped c l p (omega (arith, (cubes-mem l c candidate).1)))

pub cube-limit : (f : Form) (b : Best) → Winner (masks f) b → cost (cube b.cube.mask.bits) + b.inner.cost ≤ 396
cube-limit f b h =
    omega (arith, monomial-limit b.cube, h.known.inner.costs, inner-limit f b.cube.mask.bits)
