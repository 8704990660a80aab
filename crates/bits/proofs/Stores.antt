-- Runs of stores into a list: one run after another, a run before a run, and a run from the front.
-- They rest on lib.Seq, the library's laws of stores.
--   sets-append          == a run, and another from where it ends
--   sets-after           == a run past the first entry is one of the rest
--   take-sets-front      == the front holds what was stored there
--   sets-before          == a run before a run
--   get_or-sets_before     == what stands before a run
--   sets-front           == a run from the front, and the rest
--   sets_over            == a run over a front that it covers
--   front-more, front-all == the front of a list, one store further, and whole
use mathlib.Core.List.{List, [], ◌∷◌, ◌++◌}
use mathlib.Core.Path.{◌≡◌, refl, sym, ap, ap₂, ◌∙◌}
use Prim.Native.Nat.{ℕ, suc, ◌+◌, ◌-◌, ◌≤◌, ◌<◌}
use native.Mathlib.Nat.{add-zero, zero-add}
use native.Mathlib.Numerals.{add-one}
use native.Mathlib.Omega.{arith}
use lib.ListN.{length, get_or, set, take, drop, length-append, length-drop}
use lib.Seq.{sets, sets-eq, set_comm, get_or-set_other, take_at, take_all, take-suc, take-suc-set, drop-drop, drop-append-add}

module _ {A : Type 0} where
  pub sets-append : (a b l : List A) (i : ℕ) → sets (sets l i a) (i + length a) b ≡ sets l i (a ++ b)
  sets-append [] b l i = ap (λ (k : ℕ). sets l k b) (add-zero i)
  sets-append (x ∷ a) b l i =
      let e : i + suc (length a) ≡ suc i + length a = omega arith in
      ap (λ (k : ℕ). sets (sets (set l i x) (suc i) a) k b) e ∙ sets-append a b (set l i x) (suc i)

  pub sets-after : (y : A) (l : List A) (i : ℕ) (a : List A) → sets (y ∷ l) (suc i) a ≡ y ∷ sets l i a
  sets-after y l i [] = refl
  sets-after y l i (x ∷ a) = sets-after y (set l i x) (suc i) a

  pub take-sets-front : (a l : List A) → length a ≤ length l → take (length a) (sets l 0 a) ≡ a
  take-sets-front a l h = ap (take (length a)) (sets-eq a l 0 (omega arith)) ∙ take_at a (drop (0 + length a) l) (length a) refl

  -- a store before a run
  set_before : (vs l : List A) (b a : ℕ) (u : A) → a < b → set (sets l b vs) a u ≡ sets (set l a u) b vs
  set_before [] l b a u h = refl
  set_before (v ∷ vs) l b a u h =
      set_before vs (set l b v) (suc b) a u (omega arith) ∙ ap (λ (m : List A). sets m (suc b) vs) (set_comm l b a v u (λ e. omega arith))

  pub sets-before : (us vs l : List A) (a : ℕ) → sets (sets l (a + length us) vs) a us ≡ sets l a (us ++ vs)
  sets-before [] vs l a = ap (λ (k : ℕ). sets l k vs) (add-zero a)
  sets-before (u ∷ us) vs l a =
      let e : a + suc (length us) ≡ suc a + length us = omega arith in
      ap (λ (m : List A). sets m (suc a) us)
      (ap (λ (k : ℕ). set (sets l k vs) a u) e ∙ set_before vs l (suc a + length us) a u (omega arith))
      ∙ sets-before us vs (set l a u) (suc a)

  pub get_or-sets_before : (vs l : List A) (b k : ℕ) (d : A) → k < b → get_or (sets l b vs) k d ≡ get_or l k d
  get_or-sets_before [] l b k d h = refl
  get_or-sets_before (v ∷ vs) l b k d h =
      get_or-sets_before vs (set l b v) (suc b) k d (omega arith) ∙ get_or-set_other l b k v d (λ e. omega arith)

  pub sets-front : (vs l : List A) → length vs ≤ length l → sets l 0 vs ≡ vs ++ drop (length vs) l
  sets-front vs l h = sets-eq vs l 0 (omega arith) ∙ ap (λ (k : ℕ). vs ++ drop k l) (zero-add (length vs))

  pub sets_over : (vs w l : List A) → length w ≤ length vs → length vs ≤ length l → sets (w ++ drop (length w) l) 0 vs ≡ sets l 0 vs
  sets_over vs w l h k =
      let n = length vs - length w in
      let e : length vs ≡ length w + n = omega arith in
      let whole : length (w ++ drop (length w) l) ≡ length l = omega (arith, length-append w (drop (length w) l), length-drop (length w) l) in
      sets-front vs (w ++ drop (length w) l) (omega arith)
      ∙ ap (λ (r : List A). vs ++ r)
      (ap (λ (i : ℕ). drop i (w ++ drop (length w) l)) e ∙ drop-append-add w (drop (length w) l) n ∙ drop-drop n (length w) l
      ∙ ap (λ (i : ℕ). drop i l) (sym e))
      ∙ sym (sets-front vs l k)

  pub front-more : (l t : List A) (i : ℕ) (v d : A) → i < length l → i < length t → v ≡ get_or t i d → take i l ≡ take i t
      → take (i + 1) (set l i v) ≡ take (i + 1) t
  front-more l t i v d h k e f =
      ap (λ (n : ℕ). take n (set l i v)) (add-one i) ∙ take-suc-set l i v h
      ∙ ap₂ (λ (r : List A) (x : A). r ++ (x ∷ [])) f e
      ∙ sym (take-suc t i d k) ∙ ap (λ (n : ℕ). take n t) (sym (add-one i))

  pub front-all : (l t : List A) (n : ℕ) → length l ≤ n → take n l ≡ take n t → l ≡ take n t
  front-all l t n h e = sym (take_all n l h) ∙ e
