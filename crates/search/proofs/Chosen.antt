-- The greatest by number of flags, chosen one mask after the other. It rests on the laws of the greatest (laws, Greatest) and of choices from a
-- list (bits, Range).
--   chosen-stays, chosen-fewer, chosen-takes == one turn: the mask fails the test, has no more flags, or is taken
--   greatest-chosen                          == all turns make the greatest number of flags among the masks that pass
--   greatest-through                         == a measure that rises with another is greatest at the same mask
use mathlib.Core.Bool.{Bool, true, false, ◌&&◌, and-false}
use mathlib.Core.List.{List, [], ◌∷◌, foldl}
use mathlib.Core.Logic.{inl, inr}
use mathlib.Core.Path.{◌≡◌, refl, sym, ap, ◌∙◌}
use Prim.Native.Nat.{ℕ, ◌≤◌, ◌<◌}
use native.Mathlib.Nat.{le_of_eq, le_of_lt, eq-or-lt_of_le}
use native.Mathlib.Omega.{arith}
use lib.Count.{ones}
use lib.Dec.{ltb}
use borrow.Author.Tests.{lt-ltb, le-ltb}
use Rattle.bits.specs.Range.{keep, mem, Ascending}
use Rattle.bits.proofs.Truth.{and_intro}
use Rattle.bits.proofs.Range.{mem-head}
use Rattle.rules.specs.Cleanup.{Best, better, greatest}
use Rattle.laws.proofs.form.Greatest.{greatest-max, greatest-found, greatest-first, greatest-unique}
use Rattle.search.specs.Inner.{chosen}

abbrev pick : Bool → ℕ → ℕ → ℕ
pick t b m = elim t [ true ↦ m | false ↦ b ]

module _ (p : ℕ → Bool) (b m : ℕ) where
  pub chosen-stays : p m ≡ false → chosen p b m ≡ b
  unfolding chosen
  chosen-stays e = ap (λ (t : Bool). pick (t && ltb (ones b) (ones m)) b m) e

  pub chosen-fewer : ones m ≤ ones b → chosen p b m ≡ b
  unfolding chosen
  chosen-fewer h = ap (λ (t : Bool). pick t b m) (ap (λ (t : Bool). p m && t) (le-ltb (ones b) (ones m) h) ∙ and-false (p m))

  pub chosen-takes : p m ≡ true → ones b < ones m → chosen p b m ≡ m
  unfolding chosen
  chosen-takes e h = ap (λ (t : Bool). pick t b m) (and_intro (p m) _ e (lt-ltb (ones b) (ones m) h))

abbrev at : ℕ → Best
at b = record { mask = b; saving = ones b }

better-chosen : (p : ℕ → Bool) (b m : ℕ) → p m ≡ true → better ones (at b) m ≡ at (chosen p b m)
unfolding better chosen
better-chosen p b m e = go (ltb (ones b) (ones m)) ∙ ap (λ (t : Bool). at (pick (t && ltb (ones b) (ones m)) b m)) (sym e)
  where
    go : (t : Bool) → ◌≡◌ {A = Best} (elim t [ true ↦ record { mask = m; saving = ones m } | false ↦ at b ]) (at (pick t b m))
    go true = refl
    go false = refl

fold-chosen : (p : ℕ → Bool) (b : ℕ) (l : List ℕ) → (foldl (better ones) (at b) (keep p l)).mask ≡ foldl (chosen p) b l
unfolding keep
fold-chosen p b [] = refl
fold-chosen p b (m ∷ l) = go (λ c. fold-chosen p c l) (p m) refl
  where
    go : ((c : ℕ) → (foldl (better ones) (at c) (keep p l)).mask ≡ foldl (chosen p) c l) → (t : Bool) → p m ≡ t
        → (foldl (better ones) (at b) (elim t [ true ↦ m ∷ keep p l | false ↦ keep p l ])).mask ≡ foldl (chosen p) (chosen p b m) l
    go rest true e = ap (λ (c : Best). (foldl (better ones) c (keep p l)).mask) (better-chosen p b m e) ∙ rest (chosen p b m)
    go rest false e = rest b ∙ ap (λ (c : ℕ). foldl (chosen p) c l) (sym (chosen-stays p b m e))

pub greatest-chosen : (p : ℕ → Bool) (l : List ℕ) → greatest ones (keep p l) ≡ foldl (chosen p) 0 l
unfolding greatest ones
greatest-chosen p l = fold-chosen p 0 l

-- f is h after g, and h rises from the least n that g has
module _ (f g h : ℕ → ℕ) (n : ℕ) (p : 0 < n) (rises : (a b : ℕ) → n ≤ a → a < b → h a < h b) where
  pub greatest-through : (l : List ℕ) → Ascending l → ((x : ℕ) → mem x l ≡ true → (f x ≡ h (g x)) × (0 < f x) × (n ≤ g x))
      → greatest f l ≡ greatest g l
  unfolding greatest
  greatest-through [] s e = refl
  greatest-through (x ∷ l) s e = greatest-unique f (x ∷ l) s k here (e k here).1 most first
    where
      k : ℕ
      k = greatest g (x ∷ l)

      here : mem k (x ∷ l) ≡ true
      here = greatest-found g (x ∷ l) x (mem-head x l) (omega (arith, (e x (mem-head x l)).2))

      less : (y : ℕ) → mem y (x ∷ l) ≡ true → g y < g k → f y < f k
      less y m q = omega (arith, (e y m).0, (e k here).0, rises (g y) (g k) (e y m).2 q)

      most : (y : ℕ) → mem y (x ∷ l) ≡ true → f y ≤ f k
      most y m = elim (eq-or-lt_of_le (greatest-max g (x ∷ l) y m)) [
        | inl q ↦ le_of_eq ((e y m).0 ∙ ap h q ∙ sym (e k here).0)
        | inr q ↦ le_of_lt (less y m q)
      ]

      first : (y : ℕ) → mem y (x ∷ l) ≡ true → y < k → f y < f k
      first y m q = less y m (greatest-first g (x ∷ l) s y m q)
