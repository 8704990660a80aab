-- The cleaned form is no larger than the raw form. Rule by rule, for any choice that a rule allows: what a tree counts, and 1 more for joining it, is
-- at most what its masks count for together, and that bound adds up over the parts. It rests on the counts of parts (Cost), the cases of a turn
-- (Turn), the parts of a form (Covered, Literals) and the laws of totals (bits, Sum and Total).
--   bulk-constant, bulk-covered, bulk-family  == what a form counts for, by parts: its constant, along a cube, and a family alone
--   size-turn                                 == one turn is no larger than the raw form where what it asks for is not
--   size-cleanup, cost-cleanup                == nor is the cleaned form, by size and by cost
--   raw_cost-limit                             == with up to six flags the raw cost is at most 385
use mathlib.Core.Bool.{Bool, true, false, not}
use mathlib.Core.List.{List, [], ◌∷◌}
use mathlib.Core.Path.{◌≡◌, refl, sym, ap, ◌∙◌}
use Prim.Native.Nat.{ℕ, suc, ◌+◌, ◌-◌, ◌*◌, ◌^◌, ◌≤◌, ◌<◌}
use native.Mathlib.Nat.{le_of_eq, le_trans, mul-le-mul_right}
use native.Mathlib.Omega.{arith}
use lib.Count.{ones}
use lib.ListN.{length, length-map}
use lib.Pow.{pow_mono}
use Rattle.bits.specs.Bit.{digit, within}
use Rattle.bits.specs.Range.{from, upto, keep, mem, Ascending, Below}
use Rattle.bits.specs.Sum.{sum}
use Rattle.bits.proofs.Bit.{digit-le}
use Rattle.bits.proofs.Mask.{ones-sub, ones_pos}
use Rattle.bits.proofs.Ascending.{ascending-keep, below-mem, mem_below, keep-upto-of}
use Rattle.bits.proofs.Fixed.{fixed-keeps}
use Rattle.bits.proofs.Sum.{plus-laws, sum-split}
use Rattle.bits.proofs.Total.{total-keep-le}
use Rattle.bits.proofs.Total.{total-mem, total-two}
use Rattle.rules.specs.Cleanup.{family, atop, singles, covered, stripped, with_rest, turn, cleanup}
use Rattle.rules.specs.Form.{cube, or_chain, raw_cost, term_cost, literals}
use Rattle.rules.specs.Limits.{rule_flags, record_limit}
use Rattle.rules.specs.Monomial.{constant, monomials, on}
use Rattle.rules.specs.Tree.{Tree, CO, AN, XO, NO, cost, size}
use Rattle.laws.proofs.cost.Cost.{cost-size, term_cost-suc, term_cost-pos, size-cube, size-or_chain, size-raw_form}
use Rattle.laws.proofs.cost.Cost.{weight, bulk, raw_cost-bulk, raw_cost-pos, bulk-literals}
use Rattle.laws.proofs.form.Covered.{form-split, pair-order, covered-keep, ascending-covered, ascending-stripped, keep-family}
use Rattle.laws.proofs.form.Family.{family-own, family-other}
use Rattle.laws.proofs.form.Literals.{literals-covered}
use Rattle.laws.proofs.value.Turn.{Partial, Common, turn-ind}

-- ---- bulk and raw cost

fits : (n : ℕ) (l : List ℕ) → n < bulk l → n ≤ raw_cost l
unfolding sum
fits n [] h = absurd (omega arith)
fits n (m ∷ l) h = omega (arith, raw_cost-bulk (m ∷ l) (omega arith))

room : (l : List ℕ) → raw_cost l ≤ 1 + bulk l
unfolding raw_cost
room [] = omega arith
room (m ∷ l) = omega (arith, raw_cost-bulk (m ∷ l) (omega arith))

pub bulk-constant : (l : List ℕ) → Ascending l → bulk l ≡ 2 * digit (constant l) + bulk (monomials l)
unfolding sum term_cost
bulk-constant l s = ap bulk (form-split l s) ∙ go (constant l)
  where
    go : (b : Bool) → bulk (on b (monomials l)) ≡ 2 * digit b + bulk (monomials l)
    go true = refl
    go false = omega arith

pub bulk-covered : (c : ℕ) (l : List ℕ) → 0 < c → bulk (covered c l) + bulk (keep (λ m. not (within c m)) l) ≡ bulk l
bulk-covered c l p =
    ap (λ (k : List ℕ). bulk k + bulk (keep (λ m. not (within c m)) l)) (covered-keep c p l)
    ∙ sym (sum-split plus-laws weight (λ m. within c m) l)

-- the mask itself, and another
pub bulk-family : (m : ℕ) → 2 ≤ ones m → 0 < m → term_cost m + 3 ≤ bulk (family m)
bulk-family m h p =
    let (f, here, other) = family-other m h p in
    omega (arith, term_cost-pos f, total-two weight (family m) m f (family-own m p) here other)

-- ---- rule by rule

module _ (g : List ℕ → Tree) (h : (l : List ℕ) → Ascending l → size (g l) ≤ raw_cost l) (l : List ℕ) (s : Ascending l) where
  size-atop : (t : Tree) → size t < bulk (monomials l) → size (atop (constant l) t) ≤ raw_cost l
  unfolding atop size
  size-atop t k = fits (size (atop (constant l) t)) l (go (constant l) (bulk-constant l s))
    where
      go : (b : Bool) → bulk l ≡ 2 * digit b + bulk (monomials l) → size (atop b t) < bulk l
      go true e = omega arith
      go false e = omega arith

  size-whole : 0 < singles l → monomials l ≡ family (singles l) → size (atop (constant l) (or_chain (singles l))) ≤ raw_cost l
  size-whole p e =
      let u = singles l in
      let m = ap (mem u) e ∙ family-own u p in
      size-atop (or_chain u) (omega (arith, size-or_chain u, total-mem weight (monomials l) u m))

  size-part : (m : ℕ) → Partial l m → size (XO (or_chain m) (g (keep (λ x. not (mem x (family m))) l))) ≤ raw_cost l
  unfolding size
  size-part m c =
      let rest = keep (λ x. not (mem x (family m))) l in
      fits (1 + size (or_chain m) + size (g rest)) l
      (omega (
        arith,
        size-or_chain m,
        h rest (ascending-keep _ l s),
        room rest,
        bulk-family m c.several c.nonzero,
        sum-split plus-laws weight (λ x. mem x (family m)) l,
        ap bulk (keep-family m l s c.subsets),
      ))

  size-factor : (c : ℕ) → Common l c → size (AN (cube c) (g (stripped c l))) < bulk (covered c l)
  unfolding size stripped
  size-factor c u =
      let k = covered c l in
      let t = stripped c l in
      let a = ascending-stripped c l s in
      let n : length t ≡ length k = length-map k (λ m. m - c) in
      omega (
        arith,
        size-cube c,
        term_cost-suc c u.nonzero,
        h t a,
        raw_cost-bulk t (omega (arith, u.many)),
        bulk-literals t a,
        digit-le (constant t),
        bulk-literals k (ascending-covered c l s),
        literals-covered c l,
        mul-le-mul_right (ones c) u.many,
        ones_pos c u.nonzero,
      )

  size-common : (c : ℕ) → Common l c → size (with_rest g (AN (cube c) (g (stripped c l))) (keep (λ m. not (within c m)) l)) ≤ raw_cost l
  unfolding size with_rest
  size-common c u = go (keep (λ m. not (within c m)) l) (ascending-keep _ l s) (bulk-covered c l u.nonzero)
    where
      t : Tree
      t = AN (cube c) (g (stripped c l))

      go : (k : List ℕ) → Ascending k → bulk (covered c l) + bulk k ≡ bulk l → size (with_rest g t k) ≤ raw_cost l
      go [] a e = fits (size t) l (omega (arith, size-factor c u))
      go (m ∷ k) a e = fits (1 + size t + size (g (m ∷ k))) l (omega (arith, size-factor c u, h (m ∷ k) a, raw_cost-bulk (m ∷ k) (omega arith)))

  size-absorbed : (m o : ℕ) → monomials l ≡ m ∷ o ∷ [] → within m o ≡ true → size (atop (constant l) (AN (cube m) (NO (cube (o - m))))) ≤ raw_cost l
  unfolding size sum
  size-absorbed m o e w =
      let (p, up) = pair-order l s m o e in
      size-atop (AN (cube m) (NO (cube (o - m))))
      (omega (
        arith,
        ap bulk e,
        size-cube m,
        size-cube (o - m),
        ones-sub m o w,
        ones_pos m p,
        term_cost-suc m p,
        term_cost-suc o (omega arith),
        term_cost-suc (o - m) (omega arith),
      ))

  pub size-turn : size (turn g l) ≤ raw_cost l
  unfolding size
  size-turn = turn-ind g l (λ t. size t ≤ raw_cost l) (record {
    none = λ e. raw_cost-pos l;
    raw = le_of_eq (size-raw_form l);
    whole = size-whole;
    part = size-part;
    common = size-common;
    absorbed = size-absorbed;
  })

pub size-cleanup : (l : List ℕ) → Ascending l → size (cleanup l) ≤ raw_cost l
unfolding cleanup size
size-cleanup = fixed-keeps literals (CO false) turn (λ l t. Ascending l → size t ≤ raw_cost l) (λ l s. raw_cost-pos l) size-turn

pub cost-cleanup : (l : List ℕ) → Ascending l → cost (cleanup l) ≤ raw_cost l
cost-cleanup l s = le_trans (cost-size (cleanup l)) (size-cleanup l s)

-- ---- up to six flags

-- all masks of six flags together
bulk-all : bulk (upto (2 ^ rule_flags)) ≡ suc record_limit
unfolding sum from term_cost ones
bulk-all = refl

bulk-limit : (n : ℕ) (l : List ℕ) → n ≤ rule_flags → Ascending l → Below (2 ^ n) l → bulk l ≤ suc record_limit
bulk-limit n l h s b =
    let k = upto (2 ^ rule_flags) in
    let below : Below (2 ^ rule_flags) l = mem_below (2 ^ rule_flags) l (λ x m. le_trans (below-mem (2 ^ n) l x b m) (pow_mono h)) in
    let e : keep (λ x. mem x l) k ≡ l = keep-upto-of (2 ^ rule_flags) l s below in
    omega (arith, ap bulk e, total-keep-le weight (λ x. mem x l) k, bulk-all)

pub raw_cost-limit : (n : ℕ) (l : List ℕ) → n ≤ rule_flags → Ascending l → Below (2 ^ n) l → raw_cost l ≤ record_limit
unfolding raw_cost
raw_cost-limit n [] h s b = omega arith
raw_cost-limit n (m ∷ l) h s b = omega (arith, raw_cost-bulk (m ∷ l) (omega arith), bulk-limit n (m ∷ l) h s b)
