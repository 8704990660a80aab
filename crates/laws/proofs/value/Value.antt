-- The cleaned form has the value of the form: at each setting it is the parity of the masks within that setting. Rule by rule, for any choice that a
-- rule allows, so it does not depend on which choice is the cheapest. It rests on the values of the parts (ValueParts), the parts of a form
-- (Covered), their literals (Literals), the cases of a turn (Turn) and the cleanup's equation (Recursion).
--   Means t l        == the tree t has the value of the form l at every setting
--   value-turn       == one turn has it, if what it asks for has it
--   value-cleanup    == so the cleaned form has it
use mathlib.Core.Bool.{Bool, true, false, not, ◌&&◌}
use mathlib.Core.List.{List, [], ◌∷◌}
use mathlib.Core.Path.{◌≡◌, refl, sym, ap, ap₂, ◌∙◌}
use Prim.Native.Nat.{ℕ, ◌-◌, ◌<◌}
use native.Mathlib.Omega.{arith}
use lib.ListN.{length}
use Rattle.bits.specs.Bit.{◌⊕◌, within}
use Rattle.bits.specs.Range.{keep, mem, Ascending}
use Rattle.bits.specs.Sum.{sum, parity}
use Rattle.bits.proofs.Truth.{xor-false}
use Rattle.bits.proofs.Mask.{within-split}
use Rattle.bits.proofs.Fixed.{fixed-ind}
use Rattle.bits.proofs.Ascending.{ascending-keep}
use Rattle.rules.specs.Cleanup.{family, atop, singles, covered, stripped, with_rest, turn, cleanup}
use Rattle.rules.specs.Form.{cube, or_chain, literals}
use Rattle.rules.specs.Monomial.{constant, monomials}
use Rattle.rules.specs.Tree.{Tree, CO, AN, XO, NO, value}
use Rattle.laws.proofs.form.Covered.{parity-constant, monomial-mem, parity-covered, parity-uncovered, parity-without, ascending-stripped}
use Rattle.laws.proofs.form.Family.{parity-family}
use Rattle.laws.proofs.form.Literals.{literals-stripped, literals-uncovered, literals-without}
use Rattle.laws.proofs.value.Recursion.{cleanup-turn}
use Rattle.laws.proofs.value.Turn.{Partial, Common, turn-ind}
use Rattle.laws.proofs.value.ValueParts.{value-cube, value-or_chain, value-raw_form, value-atop}

abbrev count : ℕ → List ℕ → Bool
count s l = parity (λ m. within m s) l

abbrev pub Means : Tree → List ℕ → Type 0
Means t l = (s : ℕ) → value t s ≡ parity (λ m. within m s) l

-- a tree for the monomials, under the constant
means-atop : (t : Tree) (l : List ℕ) → Ascending l → Means t (monomials l) → Means (atop (constant l) t) l
means-atop t l a h s = value-atop (constant l) t s ∙ ap (λ (b : Bool). constant l ⊕ b) (h s) ∙ sym (parity-constant l s a)

value-rest : (g : List ℕ → Tree) (t : Tree) (l : List ℕ) (s : ℕ) → value (g l) s ≡ count s l → value (with_rest g t l) s ≡ value t s ⊕ count s l
unfolding value with_rest sum
value-rest g t [] s h = sym (xor-false (value t s))
value-rest g t (m ∷ l) s h = ap (λ (b : Bool). value t s ⊕ b) h

absorb : (p q : Bool) → (p && not q) ≡ p ⊕ ((p && q) ⊕ false)
absorb true true = refl
absorb true false = refl
absorb false q = refl

module _ (g : List ℕ → Tree) (l : List ℕ) (a : Ascending l) (h : (x : List ℕ) → literals x < literals l → Ascending x → Means (g x) x) where
  means-none : monomials l ≡ [] → Means (CO (constant l)) l
  unfolding value sum
  means-none e s = sym (xor-false (constant l)) ∙ ap (λ (k : List ℕ). constant l ⊕ count s k) (sym e) ∙ sym (parity-constant l s a)

  means-whole : 0 < singles l → monomials l ≡ family (singles l) → Means (atop (constant l) (or_chain (singles l))) l
  means-whole p e =
      means-atop (or_chain (singles l)) l a (λ s. value-or_chain (singles l) s ∙ sym (ap (count s) e ∙ parity-family (singles l) s))

  means-part : (m : ℕ) → Partial l m → Means (XO (or_chain m) (g (keep (λ x. not (mem x (family m))) l))) l
  unfolding value
  means-part m u s =
      let k = keep (λ x. not (mem x (family m))) l in
      let less = literals-without m l u.nonzero (monomial-mem l m u.monomial).1 in
      ap₂ ◌⊕◌ (value-or_chain m s) (h k less (ascending-keep (λ x. not (mem x (family m))) l a) s) ∙ sym (parity-without m l a u.subsets s)

  means-common : (c : ℕ) → Common l c → Means (with_rest g (AN (cube c) (g (stripped c l))) (keep (λ m. not (within c m)) l)) l
  unfolding value
  means-common c u s =
      let p = u.nonzero in
      let q : 0 < length (covered c l) = omega (arith, u.many) in
      let rest = keep (λ m. not (within c m)) l in
      let inner = h (stripped c l) (literals-stripped c l p q) (ascending-stripped c l a) s in
      value-rest g (AN (cube c) (g (stripped c l))) rest s (h rest (literals-uncovered c l p q) (ascending-keep (λ m. not (within c m)) l a) s)
      ∙ ap (λ (b : Bool). b ⊕ count s rest) (ap₂ ◌&&◌ (value-cube c s) inner ∙ sym (parity-covered c l s))
      ∙ sym (parity-uncovered c p l (λ m. within m s))

  means-absorbed : (m o : ℕ) → monomials l ≡ m ∷ o ∷ [] → within m o ≡ true → Means (atop (constant l) (AN (cube m) (NO (cube (o - m))))) l
  unfolding value sum
  means-absorbed m o e w = means-atop (AN (cube m) (NO (cube (o - m)))) l a (λ s.
      ap₂ (λ (p q : Bool). p && not q) (value-cube m s) (value-cube (o - m) s) ∙ absorb (within m s) (within (o - m) s)
      ∙ ap (λ (b : Bool). within m s ⊕ (b ⊕ false)) (sym (within-split m o s w)) ∙ ap (count s) (sym e))

  pub value-turn : Means (turn g l) l
  value-turn = turn-ind g l (λ t. Means t l) (record {
    none = means-none;
    raw = value-raw_form l;
    whole = means-whole;
    part = means-part;
    common = means-common;
    absorbed = means-absorbed;
  })

pub value-cleanup : (l : List ℕ) → Ascending l → (s : ℕ) → value (cleanup l) s ≡ parity (λ m. within m s) l
value-cleanup =
    fixed-ind literals (λ (l : List ℕ). Ascending l → Means (cleanup l) l)
    (λ l ih a s. ap (λ (t : Tree). value t s) (cleanup-turn l) ∙ value-turn cleanup l a ih s)
