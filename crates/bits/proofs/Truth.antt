-- Laws of truth values: exclusive or beside `&&`, and what a true conjunction tells. It rests on the two constructors alone.
--   xor_assoc, xor_comm, xor-false, xor_self            == ⊕ regroups, commutes, has the unit false, and each value undoes itself
--   xor-cancel, xor_same                                == a ⊕ (a ⊕ b) is b; a ⊕ b is false only of equals
--   xor-other, other-xor, xor-minus                     == a ⊕ b is true only of unlike values; a without a part b of it
--   and_intro, and-true-l, and_true_r, or_split         == a conjunction is true where both sides are, a disjunction where one is
--   or_intro_l, or_intro_r, or-false-l, or-false-r      == a disjunction is true where a side is, and false only where neither is
--   and-implied, and-minus                              == a conjunct that the other implies; b and what is left of a without b
--   decide, bool-ext                                    == a value is true or false; two values true together are equal
use mathlib.Core.Bool.{Bool, true, false, not, ◌&&◌, ◌||◌, and-false, false≢true}
use mathlib.Core.Logic.{◌⊎◌, inl, inr}
use mathlib.Core.Path.{◌≡◌, refl, sym, ap}
use Rattle.bits.specs.Bit.{◌⊕◌}

pub xor_assoc : (a b c : Bool) → (a ⊕ b) ⊕ c ≡ a ⊕ (b ⊕ c)
xor_assoc true true true = refl
xor_assoc true true false = refl
xor_assoc true false c = refl
xor_assoc false b c = refl

pub xor-false : (a : Bool) → a ⊕ false ≡ a
xor-false true = refl
xor-false false = refl

pub xor_comm : (a b : Bool) → a ⊕ b ≡ b ⊕ a
xor_comm true true = refl
xor_comm true false = refl
xor_comm false b = sym (xor-false b)

pub xor_self : (a : Bool) → a ⊕ a ≡ false
xor_self true = refl
xor_self false = refl

pub xor-cancel : (a b : Bool) → a ⊕ (a ⊕ b) ≡ b
xor-cancel true true = refl
xor-cancel true false = refl
xor-cancel false b = refl

pub xor_same : (a b : Bool) → a ⊕ b ≡ false → a ≡ b
xor_same true true e = refl
xor_same true false e = e
xor_same false b e = sym e

pub xor-minus : (a b : Bool) → (b ≡ true → a ≡ true) → a ⊕ b ≡ (a && not b)
xor-minus true b f = refl
xor-minus false true f = sym (f refl)
xor-minus false false f = refl

pub xor-other : (a b : Bool) → a ⊕ b ≡ true → a ≡ not b
xor-other true b e = sym e
xor-other false b e = sym (ap not e)

pub other-xor : (a b : Bool) → a ≡ not b → a ⊕ b ≡ true
other-xor true b e = sym e
other-xor false true e = refl
other-xor false false e = e

pub and_intro : (a b : Bool) → a ≡ true → b ≡ true → (a && b) ≡ true
and_intro true b p q = q
and_intro false b p q = p

pub and-true-l : (a b : Bool) → (a && b) ≡ true → a ≡ true
and-true-l true b e = refl
and-true-l false b e = e

pub and_true_r : (a b : Bool) → (a && b) ≡ true → b ≡ true
and_true_r true b e = e
and_true_r false true e = refl
and_true_r false false e = e

pub and-implied : (a b : Bool) → (b ≡ true → a ≡ true) → (a && b) ≡ b
and-implied a true h = ap (λ (c : Bool). c && true) (h refl)
and-implied a false h = and-false a

pub and-minus : (a b : Bool) → (b && (a && not b)) ≡ false
and-minus true true = refl
and-minus true false = refl
and-minus false true = refl
and-minus false false = refl

pub or_intro_l : (a b : Bool) → a ≡ true → (a || b) ≡ true
or_intro_l true b e = refl
or_intro_l false b e = absurd (false≢true e)

pub or_intro_r : (a b : Bool) → b ≡ true → (a || b) ≡ true
or_intro_r true b e = refl
or_intro_r false b e = e

pub or-false-l : (a b : Bool) → (a || b) ≡ false → a ≡ false
or-false-l true b e = e
or-false-l false b e = refl

pub or-false-r : (a b : Bool) → (a || b) ≡ false → b ≡ false
or-false-r true b e = absurd (false≢true (sym e))
or-false-r false b e = e

pub or_split : (a b : Bool) → (a || b) ≡ true → (a ≡ true) ⊎ (b ≡ true)
or_split true b e = inl refl
or_split false b e = inr e

pub decide : (b : Bool) → (b ≡ true) ⊎ (b ≡ false)
decide true = inl refl
decide false = inr refl

pub bool-ext : (a b : Bool) → (a ≡ true → b ≡ true) → (b ≡ true → a ≡ true) → a ≡ b
bool-ext true b f g = sym (f refl)
bool-ext false true f g = g refl
bool-ext false false f g = refl
