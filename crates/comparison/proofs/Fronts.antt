-- Two lists compared entry by entry from the front. No proof of a function needs these laws today: the library compares lists (Same). They rest on
-- the test of equal lists (bits, Range) and on the library's laws of fronts.
--   same_differs    == lists with one unlike entry are not the same
--   front_same      == fronts that agree, one entry further
--   same_whole      == lists whose fronts agree to the end are the same
use Rattle.std.proofs.Common.{◌≡◌, ℕ, ◌+◌, ◌<◌, ◌≤◌, Bool, true, false, List, [], ◌∷◌, ◌++◌, length, get_or, take, sym, refl, ap, ◌∙◌, ap₂, add-one}
use Rattle.std.proofs.Common.{take_all, take-suc}
use Rattle.bits.specs.Range.{same}
use Rattle.bits.proofs.Range.{same_true, same_refl}

module _ (l k : List ℕ) where
  same-unlike : (l ≡ k → ⊥) → false ≡ same l k
  same-unlike unlike = go (same l k) refl
    where
      go : (b : Bool) → same l k ≡ b → false ≡ same l k
      go true e = absurd (unlike (same_true l k e))
      go false e = sym e

  pub same_differs : (i : ℕ) → (get_or l i 0 ≡ get_or k i 0 → ⊥) → false ≡ same l k
  same_differs i unlike = same-unlike (λ e. unlike (ap (λ (s : List ℕ). get_or s i 0) e))

  pub front_same : (i : ℕ) → i < length l → i < length k → take i l ≡ take i k → get_or l i 0 ≡ get_or k i 0 → take (i + 1) l ≡ take (i + 1) k
  front_same i h j f e = rw (add-one, take-suc l i 0, take-suc k i 0) (ap₂ (λ (r : List ℕ) (x : ℕ). r ++ (x ∷ [])) f e)

  pub same_whole : (i : ℕ) → length l ≤ i → length k ≤ i → take i l ≡ take i k → true ≡ same l k
  same_whole i h j f =
      let e : l ≡ k = sym (take_all i l h) ∙ f ∙ take_all i k j in
      sym (ap (same l) (sym e) ∙ same_refl l)
