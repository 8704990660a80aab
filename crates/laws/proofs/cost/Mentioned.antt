-- The flags that a tree names, as a mask: the cleaned form of l names exactly the flags that occur in the masks of l. Rule by rule, for any choice
-- that a rule allows, because what a rule takes apart has the whole's flags together. It rests on the cases of a turn (Turn), the induction over
-- parts (Parts), the parts of a form (Covered, Literals), the cleanup's equation (Recursion) and the laws of masks and of unions (bits).
--   union-monomials, union-family                    == the union of a form is that of its monomials; of a family it is the mask itself
--   union-covered, union-without                     == the union of a form along a cube, and along a family
--   mentioned-cube, mentioned-or_chain                == a product and an OR chain name the flags of their mask
--   mentioned-folded, mentioned-raw_form              == a balanced fold names the flags of its terms, a raw form those of its masks
--   mentioned-turn, mentioned-cleanup                == one turn names the form's flags, if what it asks for does; so does the cleaned form
use mathlib.Core.Bool.{Bool, true, false, not}
use mathlib.Core.List.{List, [], ◌∷◌, ◌++◌, map}
use mathlib.Core.Path.{◌≡◌, refl, sym, ap, ap₂, ◌∙◌}
use Prim.Native.Nat.{ℕ, ◌-◌, ◌^◌, ◌<◌}
use native.Mathlib.Omega.{arith}
use lib.Bits.{bit_or, or_disjoint, or_zero_r}
use lib.Dec.{ltb, eqb}
use lib.ListN.{length}
use Rattle.bits.specs.Bit.{bit, within}
use Rattle.bits.specs.Range.{keep, all, mem, Ascending}
use Rattle.bits.specs.Sum.{sum, union}
use Rattle.bits.proofs.Ascending.{ascending-keep}
use Rattle.bits.proofs.Bit.{bit-pow, bits-eq, lt-pow}
use Rattle.bits.proofs.Fixed.{fixed-ind}
use Rattle.bits.proofs.Mask.{within-le, within-refl, within-antisym, sub-disjoint, or-within}
use Rattle.bits.proofs.Range.{any-map, any-ext, mem-all}
use Rattle.bits.proofs.Sets.{mem-bit}
use Rattle.bits.proofs.Sum.{or-laws, sum-map, sum-ext, sum-ext-mem, sum-append, sum-op, sum-split}
use Rattle.bits.proofs.Union.{bit-union, union-within, union-mem}
use Rattle.bits.proofs.Truth.{and_true_r}
use Rattle.rules.specs.Cleanup.{family, atop, singles, covered, stripped, with_rest, turn, cleanup}
use Rattle.rules.specs.Form.{flags, chain, cube, or_chain, folded, raw_form, literals}
use Rattle.rules.specs.Monomial.{constant, monomials, on, ordered}
use Rattle.rules.specs.Tree.{Tree, CO, VA, AN, OR, XO, NO, mentioned}
use Rattle.laws.proofs.form.Covered.{form-split, monomial-mem, covered-keep, covered-within, ascending-stripped, keep-family}
use Rattle.laws.proofs.form.Family.{mem-family, family-own}
use Rattle.laws.proofs.form.Literals.{literals-stripped, literals-uncovered, literals-without}
use Rattle.laws.proofs.form.Ordered.{sum-ordered}
use Rattle.laws.proofs.form.Parts.{folded-none, folded-ind, chain-ind}
use Rattle.laws.proofs.value.Recursion.{cleanup-turn}
use Rattle.laws.proofs.value.Turn.{Partial, Common, turn-ind}

-- ---- unions of the parts of a form

pub union-monomials : (l : List ℕ) → Ascending l → union l ≡ union (monomials l)
unfolding sum
union-monomials l a = ap union (form-split l a) ∙ go (constant l)
  where
    go : (b : Bool) → union (on b (monomials l)) ≡ union (monomials l)
    go true = refl
    go false = refl

pub union-family : (m : ℕ) → 0 < m → union (family m) ≡ m
union-family m p =
    within-antisym (union (family m)) m
    (union-within (family m) m ∙ mem-all (λ x. within x m) (family m) (λ x e. and_true_r (ltb 0 x) (within x m) (sym (mem-family x m) ∙ e)))
    (union-mem (family m) m (family-own m p))

pub union-without : (m : ℕ) (l : List ℕ) → Ascending l → 0 < m → all (λ x. mem x l) (family m) ≡ true
    → union l ≡ bit_or m (union (keep (λ x. not (mem x (family m))) l))
union-without m l a p h =
    sum-split or-laws (λ x. x) (λ x. mem x (family m)) l
    ∙ ap (λ (x : ℕ). bit_or x (union (keep (λ x. not (mem x (family m))) l))) (ap union (keep-family m l a h) ∙ union-family m p)

-- a part of a mask and the rest of it are the whole
or-sub : (c m : ℕ) → within c m ≡ true → bit_or c (m - c) ≡ m
or-sub c m h = or_disjoint c (m - c) (sub-disjoint c m h) ∙ omega (arith, within-le c m h)

repeated : (c : ℕ) (l : List ℕ) → 0 < length l → sum bit_or 0 (λ m. c) l ≡ c
unfolding sum
repeated c [] h = absurd (omega arith)
repeated c (m ∷ []) h = or_zero_r c
repeated c (m ∷ o ∷ l) h = ap (bit_or c) (repeated c (o ∷ l) (omega arith)) ∙ or-within c c (within-refl c)

pub union-covered : (c : ℕ) (l : List ℕ) → 0 < c → 0 < length (covered c l)
    → union l ≡ bit_or (bit_or c (union (stripped c l))) (union (keep (λ m. not (within c m)) l))
unfolding stripped
union-covered c l p h =
    sum-split or-laws (λ m. m) (λ m. within c m) l
    ∙ ap (λ (x : ℕ). bit_or x (union (keep (λ m. not (within c m)) l)))
    (ap union (sym (covered-keep c p l))
    ∙ sum-ext-mem bit_or 0 (λ m. m) (λ m. bit_or c (m - c)) (covered c l) (λ m e. sym (or-sub c m (covered-within c l m e)))
    ∙ sum-op or-laws (λ m. c) (λ m. m - c) (covered c l)
    ∙ ap₂ bit_or (repeated c (covered c l) h) (sym (sum-map bit_or 0 (λ m. m) (λ m. m - c) (covered c l))))

-- ---- terms joined by an operation

abbrev named : List Tree → ℕ
named ts = sum bit_or 0 mentioned ts

module _ (op : Tree → Tree → Tree) (at : (x y : Tree) → mentioned (op x y) ≡ bit_or (mentioned x) (mentioned y)) where
  joined : (ss ts : List Tree) (x y : Tree) → mentioned x ≡ named ss → mentioned y ≡ named ts → mentioned (op x y) ≡ named (ss ++ ts)
  joined ss ts x y h k = at x y ∙ ap₂ bit_or h k ∙ sym (sum-append or-laws mentioned ss ts)

one : (t : Tree) → mentioned t ≡ named (t ∷ [])
unfolding sum
one t = sym (or_zero_r (mentioned t))

-- a chain of a mask's flags
mentioned-chain : (op : Tree → Tree → Tree) (e : Tree) → ((x y : Tree) → mentioned (op x y) ≡ bit_or (mentioned x) (mentioned y))
    → mentioned e ≡ 0 → (m : ℕ) → mentioned (chain op e (map VA (flags m))) ≡ m
unfolding chain mentioned sum
mentioned-chain op e at none m = go (map VA (flags m)) ∙ sum-map bit_or 0 mentioned VA (flags m) ∙ bits-eq _ m bits
  where
    go : (ts : List Tree) → mentioned (chain op e ts) ≡ named ts
    go [] = none
    go (t ∷ ts) = chain-ind (λ us x. mentioned x ≡ named us) one op e (λ us x u h. joined op at us (u ∷ []) x u h (one u)) t ts

    bits : (i : ℕ) → bit (sum bit_or 0 (λ j. 2 ^ j) (flags m)) i ≡ bit m i
    bits i =
        ap (λ (x : ℕ). bit x i) (sym (sum-map bit_or 0 (λ x. x) (λ j. 2 ^ j) (flags m)))
        ∙ bit-union (map (λ j. 2 ^ j) (flags m)) i ∙ any-map (λ x. bit x i) (λ j. 2 ^ j) (flags m)
        ∙ any-ext (λ j. bit (2 ^ j) i) (eqb i) (flags m) (λ j e. bit-pow j i) ∙ mem-bit m m i (lt-pow m)

module _ (m : ℕ) where
  pub mentioned-cube : mentioned (cube m) ≡ m
  unfolding mentioned
  mentioned-cube = mentioned-chain AN (CO true) (λ x y. refl) refl m

  pub mentioned-or_chain : mentioned (or_chain m) ≡ m
  unfolding mentioned
  mentioned-or_chain = mentioned-chain OR (CO false) (λ x y. refl) refl m

pub mentioned-folded : (ts : List Tree) → mentioned (folded ts) ≡ sum bit_or 0 mentioned ts
unfolding mentioned sum
mentioned-folded [] = ap mentioned folded-none
mentioned-folded (t ∷ ts) = folded-ind (λ us x. mentioned x ≡ named us) one (joined XO (λ x y. refl)) t ts

pub mentioned-raw_form : (l : List ℕ) → mentioned (raw_form l) ≡ union l
unfolding raw_form
mentioned-raw_form l =
    mentioned-folded (map cube (ordered l)) ∙ sum-map bit_or 0 mentioned cube (ordered l)
    ∙ sum-ext bit_or 0 (λ m. mentioned (cube m)) (λ m. m) (ordered l) mentioned-cube ∙ sum-ordered or-laws (λ m. m) l

-- ---- rule by rule

mentioned-atop : (b : Bool) (t : Tree) → mentioned (atop b t) ≡ mentioned t
unfolding mentioned atop
mentioned-atop true t = refl
mentioned-atop false t = refl

mentioned-rest : (g : List ℕ → Tree) (t : Tree) (k : List ℕ) → mentioned (g k) ≡ union k → mentioned (with_rest g t k) ≡ bit_or (mentioned t)
    (union k)
unfolding mentioned with_rest sum
mentioned-rest g t [] h = sym (or_zero_r (mentioned t))
mentioned-rest g t (m ∷ k) h = ap (bit_or (mentioned t)) h

module _ (g : List ℕ → Tree) (l : List ℕ) (a : Ascending l)
    (h : (x : List ℕ) → literals x < literals l → Ascending x → mentioned (g x) ≡ union x) where
  -- a tree for the monomials, under the constant
  names-atop : (t : Tree) → mentioned t ≡ union (monomials l) → mentioned (atop (constant l) t) ≡ union l
  names-atop t e = mentioned-atop (constant l) t ∙ e ∙ sym (union-monomials l a)

  names-none : monomials l ≡ [] → mentioned (CO (constant l)) ≡ union l
  unfolding mentioned sum
  names-none e = sym (union-monomials l a ∙ ap union e)

  names-whole : 0 < singles l → monomials l ≡ family (singles l) → mentioned (atop (constant l) (or_chain (singles l))) ≡ union l
  names-whole p e = names-atop (or_chain (singles l)) (mentioned-or_chain (singles l) ∙ sym (ap union e ∙ union-family (singles l) p))

  names-part : (m : ℕ) → Partial l m → mentioned (XO (or_chain m) (g (keep (λ x. not (mem x (family m))) l))) ≡ union l
  unfolding mentioned
  names-part m u =
      let less = literals-without m l u.nonzero (monomial-mem l m u.monomial).1 in
      ap₂ bit_or (mentioned-or_chain m) (h _ less (ascending-keep (λ x. not (mem x (family m))) l a))
      ∙ sym (union-without m l a u.nonzero u.subsets)

  names-common : (c : ℕ) → Common l c → mentioned (with_rest g (AN (cube c) (g (stripped c l))) (keep (λ m. not (within c m)) l)) ≡ union l
  unfolding mentioned
  names-common c u =
      let p = u.nonzero in
      let q : 0 < length (covered c l) = omega (arith, u.many) in
      let rest = keep (λ m. not (within c m)) l in
      mentioned-rest g (AN (cube c) (g (stripped c l))) rest (h rest (literals-uncovered c l p q) (ascending-keep (λ m. not (within c m)) l a))
      ∙ ap (λ (x : ℕ). bit_or x (union rest))
      (ap₂ bit_or (mentioned-cube c) (h (stripped c l) (literals-stripped c l p q) (ascending-stripped c l a)))
      ∙ sym (union-covered c l p q)

  names-absorbed : (m o : ℕ) → monomials l ≡ m ∷ o ∷ [] → within m o ≡ true
      → mentioned (atop (constant l) (AN (cube m) (NO (cube (o - m))))) ≡ union l
  unfolding mentioned sum
  names-absorbed m o e w =
      names-atop (AN (cube m) (NO (cube (o - m))))
      (ap₂ bit_or (mentioned-cube m) (mentioned-cube (o - m)) ∙ or-sub m o w ∙ sym (or-within m o w)
      ∙ ap (bit_or m) (sym (or_zero_r o)) ∙ ap union (sym e))

  pub mentioned-turn : mentioned (turn g l) ≡ union l
  mentioned-turn = turn-ind g l (λ t. mentioned t ≡ union l) (record {
    none = names-none;
    raw = mentioned-raw_form l;
    whole = names-whole;
    part = names-part;
    common = names-common;
    absorbed = names-absorbed;
  })

pub mentioned-cleanup : (l : List ℕ) → Ascending l → mentioned (cleanup l) ≡ union l
mentioned-cleanup =
    fixed-ind literals (λ (l : List ℕ). Ascending l → mentioned (cleanup l) ≡ union l)
    (λ l ih a. ap mentioned (cleanup-turn l) ∙ mentioned-turn cleanup l a ih)
