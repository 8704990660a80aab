-- The two counts of a tree, its cost and its size, of everything that the cleanup puts together. Both go up by 1 at a product and at an exclusive or,
-- so most laws are stated once for any such count. It rests on the induction over parts (Parts), on the monomial order (Ordered) and on the laws of
-- totals (bits, Sum and Total).
--   Counts f                                       == f counts leaves, AN and XO by 1; cost-counts and size_counts say that both do
--   cost-size, cost-pos                            == 0 < cost t ≤ size t
--   term_cost-suc, term_cost-pos                     == the cost of a monomial
--   count-chain                                    == a chain by an operation that counts 1
--   weight m, bulk l                               == a mask's cost with 1 for joining it, and that of all masks of l
--   bulk-none                                      == the bulk of a list without masks is 0
--   raw_cost-bulk                                   == with some mask, raw cost is one less than the bulk
--   raw_cost-some, raw_cost-none                     == the same where the bulk is above 0; where it is 0, raw cost is 1
--   raw_cost-ordered                                == the order of the masks does not matter
--   count-cube, count-folded, count-raw_form        == of products, balanced folds and raw forms, for any count
--   cost-cube, size-cube, cost-raw_form, size-raw_form == the same of each count
--   size-or_chain, cost-or_chain, cost-or_chain-few   == of OR chains
--   raw_cost-pos, bulk-literals, raw-literals       == raw cost is above 0, and is counted by literals and the constant
use mathlib.Core.Bool.{Bool, true, false}
use mathlib.Core.List.{List, [], ◌∷◌, ◌++◌, map, foldl}
use mathlib.Core.Path.{◌≡◌, refl, ap, ap₂, subst, ◌∙◌}
use mathlib.Mathlib.Data.Bool.Basic.{eq-false_of_not-eq-true}
use Prim.Native.Nat.{ℕ, zero, suc, ◌+◌, ◌*◌, ◌≤◌, ◌<◌}
use native.Mathlib.Nat.{le_refl}
use native.Mathlib.Omega.{arith}
use lib.Count.{ones}
use lib.ListN.{length, length-map}
use Rattle.bits.specs.Bit.{digit}
use Rattle.bits.specs.Range.{from, keep, any, mem, After, Ascending}
use Rattle.bits.specs.Sum.{sum, total}
use Rattle.bits.specs.Word.{places}
use Rattle.bits.proofs.Ascending.{after-mem}
use Rattle.bits.proofs.Mask.{ones_pos}
use Rattle.bits.proofs.Sum.{plus-laws, sum-append, sum-map, sum-ext}
use Rattle.bits.proofs.Total.{total-suc, total-const}
use Rattle.rules.specs.Form.{flags, chain, cube, or_chain, folded, raw_form, raw_cost, term_cost, literals}
use Rattle.rules.specs.Monomial.{constant, ordered}
use Rattle.rules.specs.Tree.{Tree, CO, VA, AN, OR, XO, NO, cost, size, discount}
use Rattle.laws.proofs.form.Ordered.{sum-ordered, length-ordered}
use Rattle.laws.proofs.form.Parts.{length-flags, chain-ind, folded-none, folded-ind}

-- ---- the two counts

pub record Counts (f : Tree → ℕ) : Type 0 where
  pub constant : (b : Bool) → f (CO b) ≡ 1
  pub flag : (i : ℕ) → f (VA i) ≡ 1
  pub product : (x y : Tree) → f (AN x y) ≡ 1 + f x + f y
  pub exclusive : (x y : Tree) → f (XO x y) ≡ 1 + f x + f y

pub cost-counts : Counts cost
unfolding cost
cost-counts = record { constant = λ b. refl; flag = λ i. refl; product = λ x y. refl; exclusive = λ x y. refl }

pub size_counts : Counts size
unfolding size
size_counts = record { constant = λ b. refl; flag = λ i. refl; product = λ x y. refl; exclusive = λ x y. refl }

pub cost-size : (t : Tree) → cost t ≤ size t
unfolding cost size
cost-size (CO b) = le_refl 1
cost-size (VA i) = le_refl 1
cost-size (AN x y) = omega (arith, cost-size x, cost-size y)
cost-size (OR x y) = omega (arith, cost-size x, cost-size y)
cost-size (XO x y) = omega (arith, cost-size x, cost-size y)
cost-size (NO x) = omega (arith, cost-size x)

discount-le : (t : Tree) → discount t ≤ 1
discount-le (CO b) = omega arith
discount-le (VA i) = omega arith
discount-le (AN x y) = omega arith
discount-le (OR x y) = omega arith
discount-le (XO x y) = omega arith
discount-le (NO x) = omega arith

pub cost-pos : (t : Tree) → 0 < cost t
unfolding cost
cost-pos (CO b) = le_refl 1
cost-pos (VA i) = le_refl 1
cost-pos (AN x y) = omega arith
cost-pos (OR x y) = omega (arith, cost-pos x, discount-le x)
cost-pos (XO x y) = omega arith
cost-pos (NO x) = omega arith

-- ---- what each part counts

pub term_cost-suc : (m : ℕ) → 0 < m → suc (term_cost m) ≡ 2 * ones m
unfolding term_cost
term_cost-suc zero p = absurd (omega arith)
term_cost-suc (suc m) p = omega (arith, ones_pos (suc m) p)

pub term_cost-pos : (m : ℕ) → 0 < term_cost m
unfolding term_cost
term_cost-pos zero = le_refl 1
term_cost-pos (suc m) = omega (arith, ones_pos (suc m) (omega arith))

module _ (f : Tree → ℕ) where
  count-one : (t : Tree) → suc (f t) ≡ total (λ u. suc (f u)) (t ∷ [])
  unfolding sum
  count-one t = omega arith

  count-join : (op : Tree → Tree → Tree) → ((x y : Tree) → f (op x y) ≡ 1 + f x + f y) → (ss ts : List Tree) (x y : Tree)
      → suc (f x) ≡ total (λ u. suc (f u)) ss → suc (f y) ≡ total (λ u. suc (f u)) ts → suc (f (op x y)) ≡ total (λ u. suc (f u)) (ss ++ ts)
  count-join op h ss ts x y p q = omega (arith, h x y, sum-append plus-laws (λ u. suc (f u)) ss ts)

  pub count-chain : (op : Tree → Tree → Tree) (e : Tree) → ((x y : Tree) → f (op x y) ≡ 1 + f x + f y)
      → (t : Tree) (ts : List Tree) → suc (f (chain op e (t ∷ ts))) ≡ total (λ u. suc (f u)) (t ∷ ts)
  count-chain op e h =
      chain-ind (λ ts x. suc (f x) ≡ total (λ u. suc (f u)) ts) count-one op e
      (λ ts x t p. count-join op h ts (t ∷ []) x t p (count-one t))

  -- a chain of a mask's flags
  count-flags : (op : Tree → Tree → Tree) (e : Tree) → ((x y : Tree) → f (op x y) ≡ 1 + f x + f y) → ((i : ℕ) → f (VA i) ≡ 1) → f e ≡ 1
      → (m : ℕ) → f (chain op e (map VA (flags m))) ≡ term_cost m
  unfolding places keep from chain term_cost
  count-flags op e h flag none zero = none
  count-flags op e h flag none (suc m) =
      let p = ones_pos (suc m) (omega arith) in
      omega (arith, go (flags (suc m)) (rw length-flags p), length-flags (suc m))
    where
      go : (l : List ℕ) → 0 < length l → suc (f (chain op e (map VA l))) ≡ length l * 2
      go [] p = absurd (omega arith)
      go (i ∷ l) p =
          count-chain op e h (VA i) (map VA l) ∙ sum-map ◌+◌ 0 (λ u. suc (f u)) VA (i ∷ l)
          ∙ sum-ext ◌+◌ 0 (λ j. suc (f (VA j))) (λ j. 2) (i ∷ l) (λ j. ap suc (flag j)) ∙ total-const 2 (i ∷ l)

-- a monomial's cost, and 1 for joining it
abbrev pub weight : ℕ → ℕ
weight m = suc (term_cost m)

abbrev pub bulk : List ℕ → ℕ
bulk l = total weight l

pub bulk-none : (l : List ℕ) → length l ≡ 0 → bulk l ≡ 0
unfolding sum
bulk-none [] e = refl
bulk-none (m ∷ l) e = absurd (omega arith)

pub raw_cost-bulk : (l : List ℕ) → 0 < length l → suc (raw_cost l) ≡ bulk l
unfolding raw_cost
raw_cost-bulk [] p = absurd (omega arith)
raw_cost-bulk (m ∷ l) p = omega (arith, total-suc term_cost (m ∷ l))

pub raw_cost-some : (l : List ℕ) → 0 < bulk l → suc (raw_cost l) ≡ bulk l
unfolding sum
raw_cost-some [] p = absurd (omega arith)
raw_cost-some (m ∷ l) p = raw_cost-bulk (m ∷ l) (omega arith)

pub raw_cost-none : (l : List ℕ) → bulk l ≡ 0 → raw_cost l ≡ 1
unfolding raw_cost sum
raw_cost-none [] e = refl
raw_cost-none (m ∷ l) e = absurd (omega arith)

pub raw_cost-ordered : (l : List ℕ) → raw_cost (ordered l) ≡ raw_cost l
unfolding ordered
raw_cost-ordered [] = refl
raw_cost-ordered (m ∷ l) =
    let e = length-ordered (m ∷ l) in
    omega (arith, raw_cost-bulk (ordered (m ∷ l)) (omega arith), raw_cost-bulk (m ∷ l) (omega arith), sum-ordered plus-laws weight (m ∷ l))

module _ (f : Tree → ℕ) (c : Counts f) where
  pub count-cube : (m : ℕ) → f (cube m) ≡ term_cost m
  count-cube = count-flags f AN (CO true) c.product c.flag (c.constant true)

  pub count-folded : (t : Tree) (ts : List Tree) → f (folded (t ∷ ts)) ≡ total f (t ∷ ts) + length ts
  count-folded t ts =
      let joined = folded-ind (λ us x. suc (f x) ≡ total (λ u. suc (f u)) us) (count-one f) (count-join f XO c.exclusive) t ts in
      omega (arith, total-suc f (t ∷ ts))

  count-terms : (l : List ℕ) → f (folded (map cube l)) ≡ raw_cost l
  unfolding raw_cost
  count-terms [] = ap f folded-none ∙ c.constant false
  count-terms (m ∷ l) =
      count-folded (cube m) (map cube l)
      ∙ ap₂ ◌+◌ (sum-map ◌+◌ 0 f cube (m ∷ l) ∙ sum-ext ◌+◌ 0 (λ x. f (cube x)) term_cost (m ∷ l) count-cube) (length-map l cube)

  pub count-raw_form : (l : List ℕ) → f (raw_form l) ≡ raw_cost l
  unfolding raw_form
  count-raw_form l = count-terms (ordered l) ∙ raw_cost-ordered l

pub cost-cube : (m : ℕ) → cost (cube m) ≡ term_cost m
cost-cube = count-cube cost cost-counts

pub size-cube : (m : ℕ) → size (cube m) ≡ term_cost m
size-cube = count-cube size size_counts

pub cost-raw_form : (l : List ℕ) → cost (raw_form l) ≡ raw_cost l
cost-raw_form = count-raw_form cost cost-counts

pub size-raw_form : (l : List ℕ) → size (raw_form l) ≡ raw_cost l
size-raw_form = count-raw_form size size_counts

pub size-or_chain : (m : ℕ) → size (or_chain m) ≡ term_cost m
unfolding size
size-or_chain = count-flags size OR (CO false) (λ x y. refl) (λ i. refl) refl

-- ---- OR chains

more : (l : List ℕ) (x y : Tree) → cost (foldl OR (OR x y) (map VA l)) ≡ cost (OR x y) + length l
unfolding cost
more [] x y = omega arith
more (i ∷ l) x y = more l (OR x y) (VA i) ∙ omega arith

module _ (m : ℕ) where
  pub cost-or_chain : 2 ≤ ones m → cost (or_chain m) ≡ suc (ones m)
  unfolding cost chain
  cost-or_chain h = go (flags m) (length-flags m)
    where
      go : (l : List ℕ) → length l ≡ ones m → cost (chain OR (CO false) (map VA l)) ≡ suc (ones m)
      go [] e = absurd (omega arith)
      go (i ∷ []) e = absurd (omega arith)
      go (i ∷ j ∷ l) e = more l (VA i) (VA j) ∙ omega arith

  pub cost-or_chain-few : ones m ≤ 1 → cost (or_chain m) ≡ 1
  unfolding cost chain
  cost-or_chain-few h = go (flags m) (length-flags m)
    where
      go : (l : List ℕ) → length l ≡ ones m → cost (chain OR (CO false) (map VA l)) ≡ 1
      go [] e = refl
      go (i ∷ []) e = refl
      go (i ∷ j ∷ l) e = absurd (omega arith)

-- ---- raw cost

pub raw_cost-pos : (l : List ℕ) → 0 < raw_cost l
raw_cost-pos l = subst (λ (n : ℕ). 0 < n) (cost-raw_form l) (cost-pos (raw_form l))

-- above a number there is no mask 0
bulk-after : (a : ℕ) (l : List ℕ) → After a l → bulk l ≡ 2 * literals l
unfolding sum
bulk-after a [] s = refl
bulk-after a (x ∷ l) s = omega (arith, term_cost-suc x (omega arith), bulk-after x l s.1)

pub bulk-literals : (l : List ℕ) → Ascending l → bulk l ≡ 2 * literals l + 2 * digit (constant l)
unfolding sum any term_cost ones
bulk-literals [] s = refl
bulk-literals (zero ∷ l) s = omega (arith, bulk-after 0 l s)
bulk-literals (suc m ∷ l) s =
    let a : After 0 (suc m ∷ l) = (omega arith, s) in
    let e : mem 0 (suc m ∷ l) ≡ false = eq-false_of_not-eq-true (λ h. let g = after-mem 0 (suc m ∷ l) 0 a h in omega arith) in
    omega (arith, bulk-after 0 (suc m ∷ l) a, ap digit e)

pub raw-literals : (l : List ℕ) → Ascending l → 0 < length l → suc (raw_cost l) ≡ 2 * literals l + 2 * digit (constant l)
raw-literals l s p = raw_cost-bulk l p ∙ bulk-literals l s
