-- The monomial order only permutes: what does not depend on the order of a list's elements is the same of `ordered l` and of l; and `ordered l` is
-- the one list with l's members in which each mask comes before the next. It rests on the laws of ascending lists and of sums (bits).
--   fold-ordered                                       == any fold whose turns may be swapped
--   sum-ordered, length-ordered, mem-ordered           == sums, the length, the members
--   precedes-less, precedes-equal, precedes-true       == the order by count of ones, then by mask
--   precedes-irrefl, precedes-trans, precedes-other    == it is strict, goes on, and holds one way round of two different masks
--   ordered-on                                         == the constant, as the mask 0, comes before all monomials
--   Follows a l, Sorted l                              == each mask comes before the next, and a before the first
--   ordered-sorted, sorted_ext, ordered-unique         == ordered lists are sorted; sorted lists are settled by their members
use mathlib.Core.Bool.{Bool, true, false, ◌&&◌, ◌||◌, false≢true, true≢false}
use mathlib.Core.List.{List, [], ◌∷◌}
use mathlib.Core.Logic.{◌⊎◌, inl, inr}
use mathlib.Core.Path.{◌≡◌, refl, sym, ap, ◌∙◌}
use mathlib.Mathlib.Data.Bool.Basic.{eq-false_of_not-eq-true}
use Prim.Native.Nat.{ℕ, suc, ◌<◌}
use native.Mathlib.Nat.{eq-or-lt_of_le}
use native.Mathlib.Omega.{arith}
use lib.Count.{ones}
use lib.Dec.{ltb, eqb}
use lib.ListN.{length}
use borrow.Author.Tests.{ltb-true, ltb-false, lt-ltb, eqb-true, eq-eqb}
use Rattle.bits.specs.Range.{any, mem, Ascending}
use Rattle.bits.specs.Sum.{sum}
use Rattle.bits.proofs.Truth.{or_intro_r, and_intro, and-true-l, and_true_r, or_split, decide}
use Rattle.bits.proofs.Range.{mem-head, mem-tail, mem-cons}
use Rattle.bits.proofs.Ascending.{ascending-tail, after-mem}
use Rattle.bits.proofs.Rising.{rising-ext}
use Rattle.bits.proofs.Sum.{Commutes}
use Rattle.bits.proofs.Mask.{ones_pos}
use Rattle.rules.specs.Monomial.{on, precedes, insert, ordered}

-- ---- what does not depend on the order

module _ {B : Type 0} (turn : ℕ → B → B) (swap : (a b : ℕ) (y : B) → turn a (turn b y) ≡ turn b (turn a y))
    (fold : List ℕ → B) (cons : (x : ℕ) (l : List ℕ) → fold (x ∷ l) ≡ turn x (fold l)) where
  fold-insert : (a : ℕ) (l : List ℕ) → fold (insert a l) ≡ turn a (fold l)
  unfolding insert
  fold-insert a [] = cons a []
  fold-insert a (b ∷ l) = go (fold-insert a l) (precedes a b)
    where
      go : fold (insert a l) ≡ turn a (fold l) → (c : Bool) → fold (elim c [ true ↦ a ∷ b ∷ l | false ↦ b ∷ insert a l ]) ≡ turn a (fold (b ∷ l))
      go h true = cons a (b ∷ l)
      go h false = cons b (insert a l) ∙ ap (turn b) h ∙ swap b a (fold l) ∙ ap (turn a) (sym (cons b l))

  pub fold-ordered : (l : List ℕ) → fold (ordered l) ≡ fold l
  unfolding ordered
  fold-ordered [] = refl
  fold-ordered (a ∷ l) = fold-insert a (ordered l) ∙ ap (turn a) (fold-ordered l) ∙ sym (cons a l)

pub sum-ordered : {B : Type 0} {op : B → B → B} {e : B} → Commutes op e → (f : ℕ → B) (l : List ℕ) → sum op e f (ordered l) ≡ sum op e f l
unfolding sum
sum-ordered {B} {op} {e} c f = fold-ordered (λ x y. op (f x) y) swap (sum op e f) (λ x l. refl)
  where
    swap : (a b : ℕ) (y : B) → op (f a) (op (f b) y) ≡ op (f b) (op (f a) y)
    swap a b y = sym (c.assoc (f a) (f b) y) ∙ ap (λ (z : B). op z y) (c.comm (f a) (f b)) ∙ c.assoc (f b) (f a) y

pub length-ordered : (l : List ℕ) → length (ordered l) ≡ length l
length-ordered = fold-ordered (λ x n. suc n) (λ a b n. refl) length (λ x l. refl)

pub mem-ordered : (x : ℕ) (l : List ℕ) → mem x (ordered l) ≡ mem x l
unfolding any
mem-ordered x = fold-ordered (λ y b. eqb x y || b) (λ a b y. swap (eqb x a) (eqb x b) y) (mem x) (λ y l. refl)
  where
    swap : (p q r : Bool) → (p || (q || r)) ≡ (q || (p || r))
    swap true true r = refl
    swap true false r = refl
    swap false q r = refl

-- ---- the order

module _ (a b : ℕ) where
  pub precedes-less : ones a < ones b → precedes a b ≡ true
  unfolding precedes
  precedes-less h = ap (λ (c : Bool). c || eqb (ones a) (ones b) && ltb a b) (lt-ltb (ones a) (ones b) h)

  pub precedes-equal : ones a ≡ ones b → a < b → precedes a b ≡ true
  unfolding precedes
  precedes-equal e h = or_intro_r (ltb (ones a) (ones b)) _ (and_intro _ _ (eq-eqb (ones a) (ones b) e) (lt-ltb a b h))

  pub precedes-true : precedes a b ≡ true → (ones a < ones b) ⊎ ((ones a ≡ ones b) × (a < b))
  unfolding precedes
  precedes-true h = elim (or_split (ltb (ones a) (ones b)) (eqb (ones a) (ones b) && ltb a b) h) [
    | inl e ↦ inl (ltb-true (ones a) (ones b) e)
    | inr e ↦ inr (
      eqb-true (ones a) (ones b) (and-true-l (eqb (ones a) (ones b)) (ltb a b) e),
      ltb-true a b (and_true_r (eqb (ones a) (ones b)) (ltb a b) e),
    )
  ]

pub precedes-irrefl : (a : ℕ) → precedes a a ≡ true → ⊥
precedes-irrefl a h = elim (precedes-true a a h) [ inl l ↦ omega arith | inr p ↦ omega arith ]

pub precedes-trans : (a b c : ℕ) → precedes a b ≡ true → precedes b c ≡ true → precedes a c ≡ true
precedes-trans a b c h k = elim (precedes-true a b h) [
  | inl l ↦ elim (precedes-true b c k) [ inl m ↦ precedes-less a c (omega arith) | inr q ↦ precedes-less a c (omega arith) ]
  | inr p ↦ elim (precedes-true b c k) [ inl m ↦ precedes-less a c (omega arith) | inr q ↦ precedes-equal a c (omega arith) (omega arith) ]
]

pub precedes-other : (a b : ℕ) → precedes a b ≡ false → (a ≡ b → ⊥) → precedes b a ≡ true
precedes-other a b h n = elim (decide (ltb (ones a) (ones b))) [
  | inl l ↦ absurd (true≢false (sym (precedes-less a b (ltb-true (ones a) (ones b) l)) ∙ h))
  | inr l ↦ elim (eq-or-lt_of_le (ltb-false (ones a) (ones b) l)) [ inl e ↦ equal e (decide (ltb a b)) | inr m ↦ precedes-less b a m ]
]
  where
    equal : ones b ≡ ones a → (ltb a b ≡ true) ⊎ (ltb a b ≡ false) → precedes b a ≡ true
    equal e (inl l) = absurd (true≢false (sym (precedes-equal a b (sym e) (ltb-true a b l)) ∙ h))
    equal e (inr l) = let k = ltb-false a b l in precedes-equal b a e (omega arith)

-- one turn of insert, by the test's value
abbrev place : Bool → ℕ → ℕ → List ℕ → List ℕ
place c a b l = elim c [ true ↦ a ∷ b ∷ l | false ↦ b ∷ insert a l ]

insert-zero : (l : List ℕ) → ((m : ℕ) → mem m l ≡ true → 0 < m) → insert 0 l ≡ 0 ∷ l
unfolding insert ones
insert-zero [] h = refl
insert-zero (b ∷ l) h = ap (λ (c : Bool). place c 0 b l) (precedes-less 0 b (ones_pos b (h b (mem-head b l))))

pub ordered-on : (b : Bool) (l : List ℕ) → ((m : ℕ) → mem m l ≡ true → 0 < m) → ordered (on b l) ≡ on b (ordered l)
unfolding ordered
ordered-on true l h = insert-zero (ordered l) (λ m e. h m (sym (mem-ordered m l) ∙ e))
ordered-on false l h = refl

-- ---- sorted lists

abbrev pub Follows : ℕ → List ℕ → Type 0
Follows a [] = Unit
Follows a (x ∷ l) = (precedes a x ≡ true) × Follows x l

abbrev pub Sorted : List ℕ → Type 0
Sorted [] = Unit
Sorted (x ∷ l) = Follows x l

other : (a b : ℕ) (l : List ℕ) → mem a (b ∷ l) ≡ false → a ≡ b → ⊥
other a b l n e = true≢false (sym (mem-head a l) ∙ ap (λ (x : ℕ). mem a (x ∷ l)) e ∙ n)

absent : (a b : ℕ) (l : List ℕ) → mem a (b ∷ l) ≡ false → mem a l ≡ false
absent a b l n = eq-false_of_not-eq-true (λ m. true≢false (sym (mem-tail b l a m) ∙ n))

follows-insert : (a b : ℕ) (l : List ℕ) → mem a l ≡ false → precedes b a ≡ true → Follows b l → Follows b (insert a l)
unfolding insert
follows-insert a b [] n h s = (h, tt)
follows-insert a b (x ∷ l) n h s = go (λ k. follows-insert a x l (absent a x l n) k s.1) (precedes a x) refl
  where
    go : (precedes x a ≡ true → Follows x (insert a l)) → (c : Bool) → precedes a x ≡ c → Follows b (place c a x l)
    go rest true e = (h, (e, s.1))
    go rest false e = (s.0, rest (precedes-other a x e (other a x l n)))

sorted_insert : (a : ℕ) (l : List ℕ) → mem a l ≡ false → Sorted l → Sorted (insert a l)
unfolding insert
sorted_insert a [] n s = tt
sorted_insert a (x ∷ l) n s = go (precedes a x) refl
  where
    go : (c : Bool) → precedes a x ≡ c → Sorted (place c a x l)
    go true e = (e, s)
    go false e = follows-insert a x l (absent a x l n) (precedes-other a x e (other a x l n)) s

pub ordered-sorted : (l : List ℕ) → Ascending l → Sorted (ordered l)
unfolding ordered
ordered-sorted [] s = tt
ordered-sorted (a ∷ l) s =
    sorted_insert a (ordered l) (mem-ordered a l ∙ eq-false_of_not-eq-true (λ m. let g = after-mem a l a s m in omega arith))
    (ordered-sorted l (ascending-tail a l s))

follows-mem : (a : ℕ) (l : List ℕ) (x : ℕ) → Follows a l → mem x l ≡ true → precedes a x ≡ true
unfolding any
follows-mem a [] x s m = absurd (false≢true m)
follows-mem a (y ∷ l) x s m = elim (mem-cons y l x m) [
  | inl e ↦ ap (precedes a) e ∙ s.0
  | inr r ↦ precedes-trans a y x s.0 (follows-mem y l x s.1 r)
]

sorted_tail : (x : ℕ) (l : List ℕ) → Sorted (x ∷ l) → Sorted l
sorted_tail x [] s = tt
sorted_tail x (y ∷ l) s = s.1

pub sorted_ext : (l k : List ℕ) → Sorted l → Sorted k → ((x : ℕ) → mem x l ≡ mem x k) → l ≡ k
sorted_ext = rising-ext (record { irrefl = precedes-irrefl; trans = precedes-trans; tail = sorted_tail; ahead = follows-mem })

pub ordered-unique : (l k : List ℕ) → Ascending l → Sorted k → ((x : ℕ) → mem x k ≡ mem x l) → k ≡ ordered l
ordered-unique l k s t h = sorted_ext k (ordered l) t (ordered-sorted l s) (λ x. h x ∙ sym (mem-ordered x l))
