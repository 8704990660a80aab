-- A loop that changes the words of a list in place, one after the other. No proof of a function needs these laws today: the loops go over parts of
-- the list. They rest on the laws of stores (lib.Seq).
--   changed-none       == before the first turn
--   changed-next       == one turn: a store at the next place
use mathlib.Core.Bool.{Bool, true, false}
use mathlib.Core.List.{List}
use mathlib.Core.Path.{◌≡◌, refl, sym, ap, ◌∙◌}
use Prim.Native.Nat.{ℕ, ◌+◌, ◌≤◌, ◌<◌}
use native.Mathlib.Omega.{arith}
use lib.Dec.{eqb}
use lib.ListN.{length, get_or, set, length-set}
use lib.Seq.{get_or-set_same, get_or-set_other}
use borrow.Author.Tests.{eqb-true, eqb-false}
use Rattle.anf_transform.specs.inner.Change.{Changed}

pub changed-none : (a : ℕ) (g : ℕ → ℕ) (ws : List ℕ) → Changed a a g ws ws
changed-none a g ws = record { same = refl; before = λ i l. refl; here = λ i l h. absurd (omega arith); after = λ i l. refl }

pub changed-next : (a b : ℕ) (g : ℕ → ℕ) (ws vs : List ℕ) (v : ℕ) → Changed a b g ws vs → a ≤ b → b < length ws
    → v ≡ g b → Changed a (b + 1) g ws (set vs b v)
changed-next a b g ws vs v c l h e =
    let other : (i : ℕ) → (i ≡ b → ⊥) → get_or (set vs b v) i 0 ≡ get_or vs i 0 = λ i n. get_or-set_other vs b i v 0 n in
    record {
      same = length-set vs b v ∙ c.same;
      before = λ i k. other i (λ q. omega arith) ∙ c.before i k;
      here = λ i k m. go i k m (eqb i b) refl;
      after = λ i k. other i (λ q. omega arith) ∙ c.after i (omega arith);
    }
  where
    go : (i : ℕ) → a ≤ i → i < b + 1 → (t : Bool) → eqb i b ≡ t → get_or (set vs b v) i 0 ≡ g i
    go i k m true q =
        let p = eqb-true i b q in
        ap (λ (x : ℕ). get_or (set vs b v) x 0) p ∙ get_or-set_same vs b v 0 (omega (arith, c.same)) ∙ e ∙ ap g (sym p)
    go i k m false q =
        let n = eqb-false i b q in
        get_or-set_other vs b i v 0 n ∙ c.here i k (omega arith)
