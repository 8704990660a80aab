-- Laws of sums over a list, for any operation that regroups, commutes and has a unit: numbers under +, truth values under ⊕, masks under bit_or.
-- They rest on the definitions of specs/Sum and the laws of proofs/Truth, proofs/Bit, proofs/Mask and proofs/Range.
--   Commutes op e                              == op regroups and commutes, and e is its unit
--   plus-laws, xor-laws, or-laws               == the three operations
--   sum-map, sum-ext, sum-ext-mem              == a sum's list and its terms, replaced
--   sum-keep                                   == the sum over a choice
--   sum-append, sum-unit, sum-op               == the sum over ++, of units, of two sums' terms
--   sum-swap, sum-split                        == a sum of sums the other way round; the chosen and the others
--   parity-and, parity-keep                    == a common factor; a choice as a factor
use mathlib.Core.Bool.{Bool, true, false, not, ◌&&◌, or_assoc}
use mathlib.Core.List.{List, [], ◌∷◌, ◌++◌, map}
use mathlib.Core.Path.{◌≡◌, refl, sym, ap, ap₂, ◌∙◌}
use Prim.Native.Nat.{ℕ, ◌+◌}
use native.Mathlib.Nat.{zero-add, add_assoc, add_comm}
use lib.Bits.{bit_or, or_comm}
use Rattle.bits.specs.Bit.{◌⊕◌, bit}
use Rattle.bits.specs.Range.{keep, mem}
use Rattle.bits.specs.Sum.{sum, parity}
use Rattle.bits.proofs.Truth.{xor_assoc, xor_comm}
use Rattle.bits.proofs.Bit.{bit-or, bits-eq}
use Rattle.bits.proofs.Range.{mem-head, mem-tail}

pub record Commutes {B : Type 0} (op : B → B → B) (e : B) : Type 0 where
  pub assoc : (a b c : B) → op (op a b) c ≡ op a (op b c)
  pub comm : (a b : B) → op a b ≡ op b a
  pub unit : (a : B) → op e a ≡ a

pub plus-laws : Commutes ◌+◌ 0
plus-laws = record { assoc = add_assoc; comm = add_comm; unit = zero-add }

pub xor-laws : Commutes ◌⊕◌ false
xor-laws = record { assoc = xor_assoc; comm = xor_comm; unit = λ a. refl }

or-regroup : (a b c : ℕ) → bit_or (bit_or a b) c ≡ bit_or a (bit_or b c)
or-regroup a b c = bits-eq _ _ (λ i. simp bit-or (or_assoc (bit a i) (bit b i) (bit c i)))

pub or-laws : Commutes bit_or 0
or-laws = record { assoc = or-regroup; comm = or_comm; unit = λ a. refl }

module _ {B : Type 0} (op : B → B → B) (e : B) where
  pub sum-map : {A C : Type 0} (f : C → B) (g : A → C) (l : List A) → sum op e f (map g l) ≡ sum op e (λ x. f (g x)) l
  unfolding sum
  sum-map f g [] = refl
  sum-map f g (x ∷ l) = ap (op (f (g x))) (sum-map f g l)

  pub sum-ext : {A : Type 0} (f g : A → B) (l : List A) → ((x : A) → f x ≡ g x) → sum op e f l ≡ sum op e g l
  unfolding sum
  sum-ext f g [] h = refl
  sum-ext f g (x ∷ l) h = ap₂ op (h x) (sum-ext f g l h)

  pub sum-ext-mem : (f g : ℕ → B) (l : List ℕ) → ((x : ℕ) → mem x l ≡ true → f x ≡ g x) → sum op e f l ≡ sum op e g l
  unfolding sum
  sum-ext-mem f g [] h = refl
  sum-ext-mem f g (x ∷ l) h = ap₂ op (h x (mem-head x l)) (sum-ext-mem f g l (λ y m. h y (mem-tail x l y m)))

abbrev only : {B : Type 0} → B → Bool → B → B
only e b y = elim b [ true ↦ y | false ↦ e ]

module _ {B : Type 0} {op : B → B → B} {e : B} (c : Commutes op e) where
  unit-r : (a : B) → op a e ≡ a
  unit-r a = c.comm a e ∙ c.unit a

  swap : (x y u v : B) → op (op x y) (op u v) ≡ op (op x u) (op y v)
  swap x y u v =
      c.assoc x y (op u v) ∙ ap (op x) (sym (c.assoc y u v) ∙ ap (λ (z : B). op z v) (c.comm y u) ∙ c.assoc u y v) ∙ sym (c.assoc x u (op y v))

  pub sum-unit : {A : Type 0} (l : List A) → sum op e (λ x. e) l ≡ e
  unfolding sum
  sum-unit [] = refl
  sum-unit (x ∷ l) = c.unit (sum op e (λ y. e) l) ∙ sum-unit l

  pub sum-op : {A : Type 0} (f g : A → B) (l : List A) → sum op e (λ x. op (f x) (g x)) l ≡ op (sum op e f l) (sum op e g l)
  unfolding sum
  sum-op f g [] = sym (c.unit e)
  sum-op f g (x ∷ l) = ap (op (op (f x) (g x))) (sum-op f g l) ∙ swap (f x) (g x) (sum op e f l) (sum op e g l)

  module _ {A : Type 0} (f : A → B) where
    pub sum-append : (s t : List A) → sum op e f (s ++ t) ≡ op (sum op e f s) (sum op e f t)
    unfolding sum
    sum-append [] t = sym (c.unit (sum op e f t))
    sum-append (x ∷ s) t = ap (op (f x)) (sum-append s t) ∙ sym (c.assoc (f x) (sum op e f s) (sum op e f t))

    pub sum-keep : (p : A → Bool) (l : List A) → sum op e f (keep p l) ≡ sum op e (λ x. elim (p x) [ true ↦ f x | false ↦ e ]) l
    unfolding sum keep
    sum-keep p [] = refl
    sum-keep p (x ∷ l) = go (p x) (sum-keep p l)
      where
        go : (b : Bool) → sum op e f (keep p l) ≡ sum op e (λ y. elim (p y) [ true ↦ f y | false ↦ e ]) l
            → sum op e f (elim b [ true ↦ x ∷ keep p l | false ↦ keep p l ])
            ≡ op (only e b (f x)) (sum op e (λ y. elim (p y) [ true ↦ f y | false ↦ e ]) l)
        go true h = ap (op (f x)) h
        go false h = h ∙ sym (c.unit _)

    pub sum-split : (p : A → Bool) (l : List A) → sum op e f l ≡ op (sum op e f (keep p l)) (sum op e f (keep (λ x. not (p x)) l))
    sum-split p l =
        sum-ext op e f (λ x. op (only e (p x) (f x)) (only e (not (p x)) (f x))) l (λ x. go (p x) (f x))
        ∙ sum-op (λ x. only e (p x) (f x)) (λ x. only e (not (p x)) (f x)) l
        ∙ sym (ap₂ op (sum-keep p l) (sum-keep (λ x. not (p x)) l))
      where
        go : (b : Bool) (y : B) → y ≡ op (only e b y) (only e (not b) y)
        go true y = sym (unit-r y)
        go false y = sym (c.unit y)

  pub sum-swap : {A C : Type 0} (f : A → C → B) (l : List A) (k : List C)
      → sum op e (λ x. sum op e (f x) k) l ≡ sum op e (λ y. sum op e (λ x. f x y) l) k
  unfolding sum
  sum-swap f [] k = sym (sum-unit k)
  sum-swap f (x ∷ l) k = ap (op (sum op e (f x) k)) (sum-swap f l k) ∙ sym (sum-op (f x) (λ y. sum op e (λ z. f z y) l) k)

module _ {A : Type 0} where
  pub parity-and : (b : Bool) (f : A → Bool) (l : List A) → parity (λ x. b && f x) l ≡ (b && parity f l)
  parity-and true f l = refl
  parity-and false f l = sum-unit xor-laws l

  pub parity-keep : (f p : A → Bool) (l : List A) → parity f (keep p l) ≡ parity (λ x. p x && f x) l
  parity-keep f p l = sum-keep xor-laws f p l ∙ sum-ext ◌⊕◌ false _ (λ x. p x && f x) l (λ x. go (p x) (f x))
    where
      go : (b y : Bool) → only false b y ≡ (b && y)
      go true y = refl
      go false y = refl
