-- What a family of masks of six flags saves: it is settled by the number of flags, from two on, and rises with it. So the greatest saving is the
-- greatest number of flags. It rests on the counts of trees (laws, Cost) and on the greatest by flags (Chosen).
--   raw_cost-family            == the raw cost of a family of masks of six flags, by one computed test
--   saving m, worth n         == what the family of m saves, and what any family of n flags does
--   saving-worth, worth-rises == the one is the other, and more flags save more
--   greatest-saving           == the mask of the greatest saving is that of the most flags
use mathlib.Core.Bool.{Bool, true}
use mathlib.Core.List.{List}
use mathlib.Core.Logic.{inl, inr}
use mathlib.Core.Path.{◌≡◌, refl, sym, ap, ◌∙◌, subst}
use Prim.Native.Nat.{ℕ, zero, suc, ◌+◌, ◌-◌, ◌*◌, ◌^◌, ◌≤◌, ◌<◌}
use native.Mathlib.Nat.{lt_trans, eq-or-lt_of_le, zero-add, suc-add, mul_assoc, mul-le-mul_right, suc-mul, pow-suc}
use native.Mathlib.Omega.{arith}
use lib.Count.{ones}
use lib.Dec.{eqb}
use borrow.Author.Tests.{eqb-true, lt-ltb}
use Rattle.bits.specs.Bit.{within}
use Rattle.bits.specs.Range.{from, upto, keep, all, mem, Ascending}
use Rattle.bits.specs.Sum.{sum}
use Rattle.bits.proofs.Bit.{lt-pow}
use Rattle.bits.proofs.Range.{mem-upto, all-mem}
use Rattle.rules.specs.Cleanup.{family, greatest}
use Rattle.rules.specs.Form.{or_chain, raw_cost, term_cost}
use Rattle.rules.specs.Tree.{cost}
use Rattle.laws.proofs.cost.Cost.{cost-or_chain}
use Rattle.search.proofs.Chosen.{greatest-through}

-- one test of the masks of six flags
cell : ℕ → Bool
unfolding raw_cost term_cost family keep from within sum ones
cell m = eqb (raw_cost (family (suc m))) (ones (suc m) * 2 ^ ones (suc m) - 1)

cells : all cell (upto 63) ≡ true
unfolding all from cell
cells = refl

pub raw_cost-family : (m : ℕ) → 0 < m → m < 64 → raw_cost (family m) ≡ ones m * 2 ^ ones m - 1
unfolding cell
raw_cost-family zero p h = absurd (omega arith)
raw_cost-family (suc m) p h =
    eqb-true (raw_cost (family (suc m))) (ones (suc m) * 2 ^ ones (suc m) - 1)
    (all-mem cell (upto 63) m cells (mem-upto 63 m ∙ lt-ltb m 63 (omega arith)))

abbrev pub worth : ℕ → ℕ
worth n = n * 2 ^ n - 1 - suc n

abbrev pub saving : ℕ → ℕ
saving m = raw_cost (family m) - cost (or_chain m)

pub saving-worth : (m : ℕ) → 0 < m → m < 64 → 2 ≤ ones m → saving m ≡ worth (ones m)
saving-worth m p h k = omega (arith, raw_cost-family m p h, cost-or_chain m k)

step : (n : ℕ) → 1 ≤ n → worth n < worth (suc n)
step n h =
    let twice : n * 2 ^ suc n ≡ n * 2 ^ n * 2 = ap (λ (x : ℕ). n * x) (pow-suc 2 n) ∙ sym (mul_assoc n (2 ^ n) 2) in
    omega (arith, lt-pow n, pow-suc 2 n, suc-mul n (2 ^ suc n), mul-le-mul_right (2 ^ n) h)

rises : (d a : ℕ) → 1 ≤ a → worth a < worth (suc (d + a))
rises zero a h = rw zero-add (step a h)
rises (suc d) a h = rw suc-add (lt_trans (rises d a h) (step (suc (d + a)) (omega arith)))

pub worth-rises : (a b : ℕ) → 2 ≤ a → a < b → worth a < worth b
worth-rises a b h k =
    let e : suc (b - suc a + a) ≡ b = omega arith in
    subst (λ (x : ℕ). worth a < worth x) e (rises (b - suc a) a (omega arith))

worth-pos : (n : ℕ) → 2 ≤ n → 0 < worth n
worth-pos n h =
    elim (eq-or-lt_of_le h) [ inl e ↦ subst (λ (x : ℕ). 0 < worth x) e (omega arith) | inr k ↦ omega (arith, worth-rises 2 n (omega arith) k) ]

pub greatest-saving : (l : List ℕ) → Ascending l → ((m : ℕ) → mem m l ≡ true → (0 < m) × (m < 64) × (2 ≤ ones m))
    → greatest saving l ≡ greatest ones l
greatest-saving l s h =
    greatest-through saving ones worth 2 (omega arith) worth-rises l s
    (λ m e. let t = h m e in
    let q = saving-worth m t.0 t.1 t.2 in
    (q, omega (arith, worth-pos (ones m) t.2), t.2))
