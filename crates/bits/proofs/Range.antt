-- Laws of ranges, of the choices from a list, and of membership.
-- They rest on the definitions of specs/Range and the laws of truth values of proofs/Truth.
--   length_from, get_or-from, get_or-upto           == a range's length and its elements
--   from-add, from_suc, upto_add, upto-suc      == a range in two parts
--   from-map                                    == a shifted range
--   keep-true, keep-false                       == one turn of keep
--   …-append, …-map                             == keep, all, any and mem of ++, and of a mapped list
--   keep-keep, any-keep                         == keep after keep, any after keep
--   keep_all, keep-none, …-ext                  == keep where all pass or none does; tests that agree at the members choose alike
--   length-keep                                 == the length of what is kept
--   mem-keep, mem-from, mem-upto                == who is a member
--   mem-head, mem-tail, mem-cons                == the first, those behind it, and no others
--   mem-some                                    == a list that is not empty has a member
--   all-mem, mem-all, any-mem, mem-any          == all and any, at members
--   same_true, same_refl                        == the test of equal lists
use mathlib.Core.Bool.{Bool, true, false, not, ◌&&◌, ◌||◌, and_assoc, or_assoc, and-false, or-true, false≢true}
use mathlib.Core.List.{List, [], ◌∷◌, ◌++◌, map}
use mathlib.Core.Logic.{◌⊎◌, inl, inr}
use mathlib.Core.Path.{◌≡◌, refl, sym, ap, ap₂, ◌∙◌}
use Prim.Native.Nat.{ℕ, zero, suc, ◌+◌, ◌≤◌, ◌<◌}
use native.Mathlib.Nat.{zero-add, add-zero, add-suc, suc-add, le_refl}
use native.Mathlib.Numerals.{add-one}
use native.Mathlib.Omega.{arith}
use lib.Dec.{eqb, leb, ltb, leb-zero}
use lib.ListN.{length, get_or}
use borrow.Author.Tests.{eqb-true, eq-eqb, eqb-false, leb-true, le-leb, ltb-true, lt-ltb, not-true}
use Rattle.bits.specs.Range.{from, upto, keep, all, any, mem, same}
use Rattle.bits.proofs.Truth.{and_intro, and-true-l, and_true_r, or_split, decide, bool-ext}

pub length_from : (a k : ℕ) → length (from a k) ≡ k
unfolding from
length_from a zero = refl
length_from a (suc k) = ap suc (length_from (suc a) k)

pub get_or-from : (a k i d : ℕ) → i < k → get_or (from a k) i d ≡ a + i
unfolding from
get_or-from a zero i d h = absurd (omega arith)
get_or-from a (suc k) zero d h = sym (add-zero a)
get_or-from a (suc k) (suc i) d h = get_or-from (suc a) k i d (omega arith) ∙ omega arith

pub get_or-upto : (k i d : ℕ) → i < k → get_or (upto k) i d ≡ i
get_or-upto k i d h = get_or-from 0 k i d h ∙ zero-add i

pub from-add : (a j k : ℕ) → from a (j + k) ≡ from a j ++ from (a + j) k
unfolding from
from-add a zero k = ap₂ from (sym (add-zero a)) (zero-add k)
from-add a (suc j) k =
    ap (from a) (suc-add j k) ∙ ap {B = List ℕ} (λ r. a ∷ r) (from-add (suc a) j k ∙ ap (λ (n : ℕ). from (suc a) j ++ from n k) (omega arith))

pub from_suc : (a k : ℕ) → from a (suc k) ≡ from a k ++ ((a + k) ∷ [])
from_suc a k = ap (from a) (sym (add-one k)) ∙ from-add a k 1 ∙ unfold from in refl

pub from-map : (a b k : ℕ) → from (a + b) k ≡ map (λ x. a + x) (from b k)
unfolding from
from-map a b zero = refl
from-map a b (suc k) = ap {B = List ℕ} (λ r. (a + b) ∷ r) (ap (λ (n : ℕ). from n k) (sym (add-suc a b)) ∙ from-map a (suc b) k)

pub upto_add : (j k : ℕ) → upto (j + k) ≡ upto j ++ map (λ x. j + x) (upto k)
upto_add j k = from-add 0 j k ∙ ap (λ (r : List ℕ). upto j ++ r) (ap (λ (n : ℕ). from n k) (omega arith) ∙ from-map j 0 k)

pub upto-suc : (k : ℕ) → upto (suc k) ≡ upto k ++ (k ∷ [])
upto-suc k = from_suc 0 k ∙ ap (λ (n : ℕ). upto k ++ (n ∷ [])) (zero-add k)

-- one turn of keep, by the test's value
abbrev put : {A : Type 0} → Bool → A → List A → List A
put b x l = elim b [ true ↦ x ∷ l | false ↦ l ]

module _ {A : Type 0} (p : A → Bool) where
  pub keep-true : (x : A) (l : List A) → p x ≡ true → keep p (x ∷ l) ≡ x ∷ keep p l
  unfolding keep
  keep-true x l e = ap (λ (b : Bool). put b x (keep p l)) e

  pub keep-false : (x : A) (l : List A) → p x ≡ false → keep p (x ∷ l) ≡ keep p l
  unfolding keep
  keep-false x l e = ap (λ (b : Bool). put b x (keep p l)) e

  put-append : (b : Bool) (x : A) (s t : List A) → put b x (s ++ t) ≡ put b x s ++ t
  put-append true x s t = refl
  put-append false x s t = refl

  pub keep_append : (s t : List A) → keep p (s ++ t) ≡ keep p s ++ keep p t
  unfolding keep
  keep_append [] t = refl
  keep_append (x ∷ s) t = ap (put (p x) x) (keep_append s t) ∙ put-append (p x) x (keep p s) (keep p t)

  pub all_append : (s t : List A) → all p (s ++ t) ≡ (all p s && all p t)
  unfolding all
  all_append [] t = refl
  all_append (x ∷ s) t = ap (λ (b : Bool). p x && b) (all_append s t) ∙ sym (and_assoc (p x) (all p s) (all p t))

  pub any_append : (s t : List A) → any p (s ++ t) ≡ (any p s || any p t)
  unfolding any
  any_append [] t = refl
  any_append (x ∷ s) t = ap (λ (b : Bool). p x || b) (any_append s t) ∙ sym (or_assoc (p x) (any p s) (any p t))

  pub keep_all : (l : List A) → all p l ≡ true → keep p l ≡ l
  unfolding keep all
  keep_all [] h = refl
  keep_all (x ∷ l) h = ap₂ (λ (b : Bool) (r : List A). put b x r) (and-true-l (p x) (all p l) h) (keep_all l (and_true_r (p x) (all p l) h))

  pub keep-none : (l : List A) → all (λ x. not (p x)) l ≡ true → keep p l ≡ []
  unfolding keep all
  keep-none [] h = refl
  keep-none (x ∷ l) h =
      ap₂ (λ (b : Bool) (r : List A). put b x r) (not-true (p x) (and-true-l (not (p x)) (all (λ y. not (p y)) l) h))
      (keep-none l (and_true_r (not (p x)) (all (λ y. not (p y)) l) h))

  put-length : (b : Bool) (x : A) (r : List A) (n : ℕ) → length r ≤ n → length (put b x r) ≤ suc n
  put-length true x r n h = omega arith
  put-length false x r n h = omega arith

  pub length-keep : (l : List A) → length (keep p l) ≤ length l
  unfolding keep
  length-keep [] = le_refl 0
  length-keep (x ∷ l) = put-length (p x) x (keep p l) (length l) (length-keep l)

  put-keep : (b : Bool) (x : A) (r : List A) → keep p (put b x r) ≡ put (b && p x) x (keep p r)
  unfolding keep
  put-keep true x r = refl
  put-keep false x r = refl

  pub keep-keep : (q : A → Bool) (l : List A) → keep p (keep q l) ≡ keep (λ x. q x && p x) l
  unfolding keep
  keep-keep q [] = refl
  keep-keep q (x ∷ l) = put-keep (q x) x (keep q l) ∙ ap (put (q x && p x) x) (keep-keep q l)

  put-any : (b : Bool) (x : A) (r : List A) → any p (put b x r) ≡ (b && p x || any p r)
  unfolding any
  put-any true x r = refl
  put-any false x r = refl

  pub any-keep : (q : A → Bool) (l : List A) → any p (keep q l) ≡ any (λ x. q x && p x) l
  unfolding keep any
  any-keep q [] = refl
  any-keep q (x ∷ l) = put-any (q x) x (keep q l) ∙ ap (λ (b : Bool). q x && p x || b) (any-keep q l)

module _ {A B : Type 0} (p : B → Bool) (f : A → B) where
  put_map : (b : Bool) (x : A) (r : List A) → put b (f x) (map f r) ≡ map f (put b x r)
  put_map true x r = refl
  put_map false x r = refl

  pub keep-map : (l : List A) → keep p (map f l) ≡ map f (keep (λ x. p (f x)) l)
  unfolding keep
  keep-map [] = refl
  keep-map (x ∷ l) = ap (put (p (f x)) (f x)) (keep-map l) ∙ put_map (p (f x)) x (keep (λ y. p (f y)) l)

  pub all_map : (l : List A) → all p (map f l) ≡ all (λ x. p (f x)) l
  unfolding all
  all_map [] = refl
  all_map (x ∷ l) = ap (λ (b : Bool). p (f x) && b) (all_map l)

  pub any-map : (l : List A) → any p (map f l) ≡ any (λ x. p (f x)) l
  unfolding any
  any-map [] = refl
  any-map (x ∷ l) = ap (λ (b : Bool). p (f x) || b) (any-map l)

-- membership
pub mem-head : (x : ℕ) (l : List ℕ) → mem x (x ∷ l) ≡ true
unfolding any
mem-head x l = rw (eq-eqb x x refl)

pub mem-some : (l : List ℕ) → 0 < length l → (x : ℕ) × (mem x l ≡ true)
mem-some [] h = absurd (omega arith)
mem-some (x ∷ l) h = (x, mem-head x l)

pub mem-tail : (y : ℕ) (l : List ℕ) (x : ℕ) → mem x l ≡ true → mem x (y ∷ l) ≡ true
unfolding any
mem-tail y l x m = ap (λ (b : Bool). eqb x y || b) m ∙ or-true (eqb x y)

-- a member is the first or stands behind it
pub mem-cons : (y : ℕ) (l : List ℕ) (x : ℕ) → mem x (y ∷ l) ≡ true → (x ≡ y) ⊎ (mem x l ≡ true)
unfolding any
mem-cons y l x m = elim (or_split (eqb x y) (mem x l) m) [ inl e ↦ inl (eqb-true x y e) | inr e ↦ inr e ]

pub mem-append : (x : ℕ) (s t : List ℕ) → mem x (s ++ t) ≡ (mem x s || mem x t)
mem-append x s t = any_append (eqb x) s t

pub mem-keep : (p : ℕ → Bool) (l : List ℕ) (x : ℕ) → mem x (keep p l) ≡ (mem x l && p x)
unfolding any
mem-keep p l x = any-keep (eqb x) p l ∙ go l
  where
    absorb : (c d : Bool) → (c && true || d && c) ≡ c
    absorb true d = refl
    absorb false d = and-false d

    at : (y : ℕ) (m b : Bool) → eqb x y ≡ b → (p y && b || m && p x) ≡ ((b || m) && p x)
    at y m true e = ap (λ (z : ℕ). p z && true || m && p x) (sym (eqb-true x y e)) ∙ absorb (p x) m
    at y m false e = ap (λ (b : Bool). b || m && p x) (and-false (p y))

    go : (l : List ℕ) → any (λ y. p y && eqb x y) l ≡ (mem x l && p x)
    go [] = refl
    go (y ∷ l) = ap (λ (b : Bool). p y && eqb x y || b) (go l) ∙ at y (mem x l) (eqb x y) refl

from-mem : (a k x : ℕ) → mem x (from a k) ≡ true → (a ≤ x) × (x < a + k)
unfolding from any
from-mem a zero x m = absurd (false≢true m)
from-mem a (suc k) x m = elim (mem-cons a (from (suc a) k) x m) [
  | inl e ↦ omega arith
  | inr r ↦ let h = from-mem (suc a) k x r in omega arith
]

mem-between : (a k x : ℕ) → a ≤ x → x < a + k → mem x (from a k) ≡ true
unfolding from any
mem-between a zero x l u = absurd (omega arith)
mem-between a (suc k) x l u = elim (decide (eqb x a)) [
  | inl e ↦ ap (λ (b : Bool). b || mem x (from (suc a) k)) e
  | inr e ↦ let n = eqb-false x a e in mem-tail a (from (suc a) k) x (mem-between (suc a) k x (omega arith) (omega arith))
]

pub mem-from : (a k x : ℕ) → mem x (from a k) ≡ (leb a x && ltb x (a + k))
mem-from a k x =
    bool-ext _ _ (λ m. let h = from-mem a k x m in and_intro _ _ (le-leb a x h.0) (lt-ltb x (a + k) h.1))
    (λ e. mem-between a k x (leb-true a x (and-true-l _ _ e)) (ltb-true x (a + k) (and_true_r (leb a x) _ e)))

pub mem-upto : (k x : ℕ) → mem x (upto k) ≡ ltb x k
mem-upto k x = mem-from 0 k x ∙ ap₂ ◌&&◌ (leb-zero x) (ap (ltb x) (zero-add k))

module _ (p : ℕ → Bool) where
  pub all-mem : (l : List ℕ) (x : ℕ) → all p l ≡ true → mem x l ≡ true → p x ≡ true
  unfolding all any
  all-mem [] x h m = absurd (false≢true m)
  all-mem (y ∷ l) x h m = elim (mem-cons y l x m) [
    | inl e ↦ ap p e ∙ and-true-l (p y) (all p l) h
    | inr r ↦ all-mem l x (and_true_r (p y) (all p l) h) r
  ]

  pub mem-all : (l : List ℕ) → ((x : ℕ) → mem x l ≡ true → p x ≡ true) → all p l ≡ true
  unfolding all
  mem-all [] h = refl
  mem-all (y ∷ l) h = and_intro (p y) (all p l) (h y (mem-head y l)) (mem-all l (λ x m. h x (mem-tail y l x m)))

  pub any-mem : (l : List ℕ) → any p l ≡ true → (x : ℕ) × (mem x l ≡ true) × (p x ≡ true)
  unfolding any
  any-mem [] h = absurd (false≢true h)
  any-mem (y ∷ l) h = elim (or_split (p y) (any p l) h) [
    | inl e ↦ (y, mem-head y l, e)
    | inr e ↦ let r = any-mem l e in (r.0, mem-tail y l r.0 r.1, r.2)
  ]

  pub mem-any : (l : List ℕ) (x : ℕ) → mem x l ≡ true → p x ≡ true → any p l ≡ true
  unfolding any
  mem-any [] x m h = m
  mem-any (y ∷ l) x m h = elim (mem-cons y l x m) [
    | inl e ↦ ap (λ (b : Bool). b || any p l) (sym (ap p e) ∙ h)
    | inr r ↦ ap (λ (b : Bool). p y || b) (mem-any l x r h) ∙ or-true (p y)
  ]

  module _ (q : ℕ → Bool) where
    pub keep-ext : (l : List ℕ) → ((x : ℕ) → mem x l ≡ true → p x ≡ q x) → keep p l ≡ keep q l
    unfolding keep
    keep-ext [] h = refl
    keep-ext (y ∷ l) h = ap₂ (λ (b : Bool) (r : List ℕ). put b y r) (h y (mem-head y l)) (keep-ext l (λ x m. h x (mem-tail y l x m)))

    pub all-ext : (l : List ℕ) → ((x : ℕ) → mem x l ≡ true → p x ≡ q x) → all p l ≡ all q l
    unfolding all
    all-ext [] h = refl
    all-ext (y ∷ l) h = ap₂ ◌&&◌ (h y (mem-head y l)) (all-ext l (λ x m. h x (mem-tail y l x m)))

    pub any-ext : (l : List ℕ) → ((x : ℕ) → mem x l ≡ true → p x ≡ q x) → any p l ≡ any q l
    unfolding any
    any-ext [] h = refl
    any-ext (y ∷ l) h = ap₂ ◌||◌ (h y (mem-head y l)) (any-ext l (λ x m. h x (mem-tail y l x m)))

pub same_true : (l k : List ℕ) → same l k ≡ true → l ≡ k
unfolding same
same_true [] [] e = refl
same_true [] (y ∷ k) e = absurd (false≢true e)
same_true (x ∷ l) [] e = absurd (false≢true e)
same_true (x ∷ l) (y ∷ k) e =
    ap₂ {C = List ℕ} ◌∷◌ (eqb-true x y (and-true-l (eqb x y) (same l k) e)) (same_true l k (and_true_r (eqb x y) (same l k) e))

pub same_refl : (l : List ℕ) → same l l ≡ true
unfolding same
same_refl [] = refl
same_refl (x ∷ l) = and_intro (eqb x x) (same l l) (eq-eqb x x refl) (same_refl l)
