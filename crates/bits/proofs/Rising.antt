-- Lists that rise by a strict order are settled by their members. It is stated for any order and any notion of rising that has the two laws of
-- `Rising`; ascending lists and lists in the monomial order are such. It rests on the laws of membership of proofs/Range.
--   Rising less S    == a list with S rises by the strict order less: what is behind its first element is greater, and rises
--   rising-ext       == two such lists with the same members are equal
use mathlib.Core.Bool.{true, false≢true, true≢false}
use mathlib.Core.List.{List, [], ◌∷◌}
use mathlib.Core.Logic.{inl, inr}
use mathlib.Core.Path.{◌≡◌, refl, sym, ap₂, ◌∙◌, subst}
use Prim.Native.Nat.{ℕ}
use Rattle.bits.specs.Range.{any, mem}
use Rattle.bits.proofs.Truth.{bool-ext}
use Rattle.bits.proofs.Range.{mem-head, mem-tail, mem-cons}

pub record Rising (less : ℕ → ℕ → Type 0) (S : List ℕ → Type 0) : Type 0 where
  pub irrefl : (a : ℕ) → less a a → ⊥
  pub trans : (a b c : ℕ) → less a b → less b c → less a c
  pub tail : (x : ℕ) (l : List ℕ) → S (x ∷ l) → S l
  pub ahead : (x : ℕ) (l : List ℕ) (y : ℕ) → S (x ∷ l) → mem y l ≡ true → less x y

module _ {less : ℕ → ℕ → Type 0} {S : List ℕ → Type 0} (r : Rising less S) where
  -- the members of two lists that begin alike, behind the first
  behind : (x y : ℕ) (l k : List ℕ) → x ≡ y → S (x ∷ l) → ((z : ℕ) → mem z (x ∷ l) ≡ mem z (y ∷ k)) → (z : ℕ) → mem z l ≡ true → mem z k ≡ true
  behind x y l k q s h z m = elim (mem-cons y k z (sym (h z) ∙ mem-tail x l z m)) [
    | inl e ↦ absurd (r.irrefl x (subst (less x) (e ∙ sym q) (r.ahead x l z s m)))
    | inr n ↦ n
  ]

  pub rising-ext : (l k : List ℕ) → S l → S k → ((x : ℕ) → mem x l ≡ mem x k) → l ≡ k
  unfolding any
  rising-ext [] [] s t h = refl
  rising-ext [] (y ∷ k) s t h = absurd (false≢true (h y ∙ mem-head y k))
  rising-ext (x ∷ l) [] s t h = absurd (true≢false (sym (mem-head x l) ∙ h x))
  rising-ext (x ∷ l) (y ∷ k) s t h =
      ap₂ {C = List ℕ} ◌∷◌ first
      (rising-ext l k (r.tail x l s) (r.tail y k t)
      (λ z. bool-ext _ _ (behind x y l k first s h z) (behind y x k l (sym first) t (λ w. sym (h w)) z)))
    where
      first : x ≡ y
      first = elim (mem-cons y k x (sym (h x) ∙ mem-head x l)) [
        | inl e ↦ e
        | inr m ↦ elim (mem-cons x l y (h y ∙ mem-head y k)) [
          | inl e ↦ sym e
          | inr n ↦ absurd (r.irrefl x (r.trans x y x (r.ahead x l y s n) (r.ahead y k x t m)))
        ]
      ]
