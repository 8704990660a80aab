-- The element of a list at which a function is greatest, the first of the equal ones, or 0 where the function is 0 at all of them.
-- It rests on the definitions of rules' Cleanup and the laws of ascending lists (bits).
--   greatest-max                     == nowhere in the list is the function greater
--   greatest-mem, greatest-suc       == where it is not 0, it is a member
--   greatest-found                   == it is a member where the function is above 0 at some member
--   greatest-first                   == in an ascending list the function is less at every member before it
--   greatest-unique, greatest-ext    == these settle it; functions that agree at the members have the same
use mathlib.Core.Bool.{Bool, true, false, false≢true}
use mathlib.Core.List.{List, [], ◌∷◌, foldl}
use mathlib.Core.Logic.{◌⊎◌, inl, inr}
use mathlib.Core.Path.{◌≡◌, refl, sym, ap, ◌∙◌}
use Prim.Native.Nat.{ℕ, suc, ◌≤◌, ◌<◌}
use native.Mathlib.Omega.{arith}
use lib.Dec.{ltb}
use borrow.Author.Tests.{ltb-true, ltb-false}
use Rattle.bits.specs.Range.{any, mem, Ascending}
use Rattle.bits.proofs.Truth.{decide}
use Rattle.bits.proofs.Range.{mem-head, mem-tail, mem-cons}
use Rattle.bits.proofs.Ascending.{after-mem, ascending-tail}
use Rattle.rules.specs.Cleanup.{Best, better, greatest}

abbrev Same : Best → Best → Type 0
Same b c = (c.mask ≡ b.mask) × (c.saving ≡ b.saving)

module _ (f : ℕ → ℕ) where
  abbrev Stays : Best → ℕ → Best → Type 0
  Stays b x c = Same b c × (f x ≤ b.saving)

  abbrev Takes : Best → ℕ → Best → Type 0
  Takes b x c = (c.mask ≡ x) × (c.saving ≡ f x) × (b.saving < f x)

  -- one more element: the best before stays, or the element takes its place
  turned : (b : Best) (x : ℕ) → Stays b x (better f b x) ⊎ Takes b x (better f b x)
  unfolding better
  turned b x = go (ltb b.saving (f x)) refl
    where
      go : (t : Bool) → ltb b.saving (f x) ≡ t
          → let c : Best = elim t [ true ↦ record { mask = x; saving = f x } | false ↦ b ] in Stays b x c ⊎ Takes b x c
      go true e = inr (refl, refl, ltb-true b.saving (f x) e)
      go false e = inl ((refl, refl), ltb-false b.saving (f x) e)

  -- the best of l stands in l and is more than what was the best before
  record Won (b : Best) (l : List ℕ) (r : Best) : Type 0 where
    here : mem r.mask l ≡ true
    worth : f r.mask ≡ r.saving
    more : b.saving < r.saving
    first : Ascending l → (y : ℕ) → mem y l ≡ true → y < r.mask → f y < r.saving

  record Result (b : Best) (l : List ℕ) (r : Best) : Type 0 where
    who : Same b r ⊎ Won b l r
    most : (x : ℕ) → mem x l ≡ true → f x ≤ r.saving

  module _ (b c r : Best) (x : ℕ) (l : List ℕ) where
    floor : Result c l r → c.saving ≤ r.saving
    floor t = elim t.who [ inl e ↦ omega arith | inr w ↦ omega (arith, w.more) ]

    later : b.saving ≤ c.saving → f x ≤ c.saving → Won c l r → Won b (x ∷ l) r
    later h k w = record {
      here = mem-tail x l r.mask w.here;
      worth = w.worth;
      more = omega (arith, w.more);
      first = λ s y m u. elim (mem-cons x l y m) [
        | inl e ↦ omega (arith, ap f e, w.more)
        | inr n ↦ w.first (ascending-tail x l s) y n u
      ];
    }

    now : Takes b x c → Same c r → Won b (x ∷ l) r
    now s e = record {
      here = ap (λ (z : ℕ). mem z (x ∷ l)) (e.0 ∙ s.0) ∙ mem-head x l;
      worth = ap f (e.0 ∙ s.0) ∙ sym (e.1 ∙ s.1);
      more = omega arith;
      first = λ a y m u. elim (mem-cons x l y m) [ inl q ↦ absurd (omega arith) | inr n ↦ let g = after-mem x l y a n in absurd (omega arith) ];
    }

    most-of : f x ≤ c.saving → Result c l r → (y : ℕ) → mem y (x ∷ l) ≡ true → f y ≤ r.saving
    most-of h t y m = elim (mem-cons x l y m) [ inl e ↦ omega (arith, ap f e, floor t) | inr n ↦ t.most y n ]

    extend : Stays b x c ⊎ Takes b x c → Result c l r → Result b (x ∷ l) r
    extend (inl s) t = record {
      who = elim t.who [ inl e ↦ inl (e.0 ∙ s.0.0, e.1 ∙ s.0.1) | inr w ↦ inr (later (omega arith) (omega arith) w) ];
      most = most-of (omega arith) t;
    }
    extend (inr s) t = record {
      who = elim t.who [ inl e ↦ inr (now s e) | inr w ↦ inr (later (omega arith) (omega arith) w) ];
      most = most-of (omega arith) t;
    }

  result : (l : List ℕ) (b : Best) → Result b l (foldl (better f) b l)
  unfolding any
  result [] b = record { who = inl (refl, refl); most = λ x m. absurd (false≢true m) }
  result (x ∷ l) b = let c = better f b x in extend b c (foldl (better f) c l) x l (turned b x) (result l c)

  module _ (l : List ℕ) where
    best : Result (record { mask = 0; saving = 0 }) l (foldl (better f) (record { mask = 0; saving = 0 }) l)
    best = result l (record { mask = 0; saving = 0 })

    pub greatest-max : (x : ℕ) → mem x l ≡ true → f x ≤ f (greatest f l)
    unfolding greatest
    greatest-max x m = let h = best.most x m in elim best.who [ inl e ↦ omega arith | inr w ↦ omega (arith, w.worth) ]

    pub greatest-mem : 0 < greatest f l → mem (greatest f l) l ≡ true
    unfolding greatest
    greatest-mem p = elim best.who [ inl e ↦ absurd (omega arith) | inr w ↦ w.here ]

    pub greatest-suc : (m : ℕ) → greatest f l ≡ suc m → mem (suc m) l ≡ true
    greatest-suc m e = ap (λ (x : ℕ). mem x l) (sym e) ∙ greatest-mem (omega arith)

    pub greatest-found : (x : ℕ) → mem x l ≡ true → 0 < f x → mem (greatest f l) l ≡ true
    unfolding greatest
    greatest-found x m p = let h = best.most x m in elim best.who [ inl e ↦ absurd (omega arith) | inr w ↦ w.here ]

    module _ (s : Ascending l) where
      pub greatest-first : (x : ℕ) → mem x l ≡ true → x < greatest f l → f x < f (greatest f l)
      unfolding greatest
      greatest-first x m h = elim best.who [ inl e ↦ absurd (omega arith) | inr w ↦ omega (arith, w.worth, w.first s x m h) ]

      pub greatest-unique : (m : ℕ) → mem m l ≡ true → 0 < f m → ((x : ℕ) → mem x l ≡ true → f x ≤ f m)
          → ((x : ℕ) → mem x l ≡ true → x < m → f x < f m) → greatest f l ≡ m
      greatest-unique m here p most first = elim (decide (ltb g m)) [
        | inl h ↦ absurd (omega (arith, greatest-max m here, first g there (ltb-true g m h)))
        | inr h ↦ elim (decide (ltb m g)) [
          | inl k ↦ absurd (omega (arith, most g there, greatest-first m here (ltb-true m g k)))
          | inr k ↦ omega (arith, ltb-false g m h, ltb-false m g k)
        ]
      ]
        where
          g : ℕ
          g = greatest f l

          there : mem g l ≡ true
          there = greatest-found m here p

pub greatest-ext : (f g : ℕ → ℕ) (l : List ℕ) → ((x : ℕ) → mem x l ≡ true → f x ≡ g x) → greatest f l ≡ greatest g l
unfolding greatest better
greatest-ext f g l h = ap (λ (b : Best). b.mask) (go l (record { mask = 0; saving = 0 }) h)
  where
    same : (b : Best) (x : ℕ) → f x ≡ g x → better f b x ≡ better g b x
    same b x e = ap (λ (n : ℕ). elim (ltb b.saving n) as (λ _. Best) [ true ↦ record { mask = x; saving = n } | false ↦ b ]) e

    go : (l : List ℕ) (b : Best) → ((x : ℕ) → mem x l ≡ true → f x ≡ g x) → foldl (better f) b l ≡ foldl (better g) b l
    go [] b h = refl
    go (x ∷ l) b h = go l (better f b x) (λ y m. h y (mem-tail x l y m)) ∙ ap (λ (c : Best). foldl (better g) c l) (same b x (h x (mem-head x l)))
