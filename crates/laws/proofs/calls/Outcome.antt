-- What a given result tells of the rows and steps before it, rows and steps exchanged, and what a buffer holds after a call. It rests on the two
-- constructors of an outcome and on the laws of stores and of lists with an entry for each number (bits, Stores and Tabulated).
--   gives_same       == results of one outcome are equal
--   not-both         == no outcome is a result and a refusal
--   none-some        == no outcome is the end and a result of a reader
--   refuse-gives     == a row that was passed does not hold, and the rest gave the result
--   refuse-then      == a step after a row is a step after what comes behind it
--   then-gives       == each of two steps gave a result
--   then-refuses     == where the second step only computes, the first refused
--   then-ext         == steps that agree
--   then-then        == a step that computes and then goes on is two
--   front-written    == the first entries of a buffer are what was written there
--   length_front     == a buffer's front tells how long it is
--   left-refuses     == a refusal, and a buffer that was left alone
--   left-gives       == a result of so many entries, and a buffer that has it at its front
--   pick, pick_gives == a choice between two outcomes: one of them gave the result
use mathlib.Core.Bool.{Bool, true, false}
use mathlib.Core.List.{List}
use mathlib.Core.Option.{Option, none, some}
use mathlib.Core.Path.{◌≡◌, refl, sym, ap, ap₂, ◌∙◌}
use Prim.Native.Nat.{ℕ, ◌≤◌}
use native.Mathlib.Omega.{arith}
use lib.ListN.{length, get_or}
use lib.Seq.{sets, get_or-take}
use Rattle.bits.proofs.Stores.{take-sets-front}
use Rattle.bits.proofs.Tabulated.{map-upto-of, length-map-upto}
use Rattle.rules.specs.Outcome.{Outcome, gives, refuses, refuse, ◌then◌, written, front, left}

pub gives_same : {A : Type 0} {a b : A} → ◌≡◌ {A = Outcome A} (gives a) (gives b) → a ≡ b
gives_same e = cc

pub not-both : {A : Type 0} {a : A} {k p : ℕ} → ¬ (gives a ≡ refuses k p)
not-both e = let z : ◌≡◌ {A = ℕ} 0 1 = cc in omega arith

pub none-some : {A : Type 0} {a : A} → ¬ (◌≡◌ {A = Outcome (Option A)} (gives none) (gives (some a)))
none-some e = let z : ◌≡◌ {A = ℕ} 0 1 = cc in omega arith

pub refuse-gives : {A : Type 0} (b : Bool) (k p : ℕ) (rest : Outcome A) (a : A) → refuse b k p rest ≡ gives a → (b ≡ false) × (rest ≡ gives a)
refuse-gives true k p rest a e = absurd (not-both (sym e))
refuse-gives false k p rest a e = (refl, e)

pub refuse-then : {A B : Type 0} (b : Bool) (k p : ℕ) (rest : Outcome A) (f : A → Outcome B) → (refuse b k p rest then f) ≡ refuse b k p (rest then f)
refuse-then true k p rest f = refl
refuse-then false k p rest f = refl

pub then-gives : {A B : Type 0} (o : Outcome A) (f : A → Outcome B) (b : B) → (o then f) ≡ gives b → (a : A) × (o ≡ gives a) × (f a ≡ gives b)
then-gives (gives a) f b e = (a, refl, e)
then-gives (refuses k p) f b e = absurd (not-both (sym e))

pub then-refuses : {A B : Type 0} (o : Outcome A) (f : A → B) (k p : ℕ) → (o then (λ a. gives (f a))) ≡ refuses k p → o ≡ refuses k p
then-refuses (gives a) f k p e = cc
then-refuses (refuses l q) f k p e = cc

pub then-ext : {A B : Type 0} (o : Outcome A) (f g : A → Outcome B) → ((a : A) → f a ≡ g a) → (o then f) ≡ (o then g)
then-ext (gives a) f g h = h a
then-ext (refuses k p) f g h = refl

pub then-then : {A B C : Type 0} (o : Outcome A) (h : A → B) (g : B → Outcome C) → (o then (λ a. g (h a))) ≡ ((o then (λ a. gives (h a))) then g)
then-then (gives a) h g = refl
then-then (refuses k p) h g = refl

abbrev pub pick : {A : Type 0} → Bool → A → A → A
pick b x y = elim b [ true ↦ x | false ↦ y ]

pub pick_gives : {A P : Type 0} (b : Bool) (x y : Outcome A) (a : A)
    → (b ≡ true → x ≡ gives a → P) → (b ≡ false → y ≡ gives a → P) → pick b x y ≡ gives a → P
pick_gives true x y a f g e = f refl e
pick_gives false x y a f g e = g refl e

pub front-written : (l out : List ℕ) → length l ≤ length out → front (length l) (written out l) ≡ l
front-written l out h =
    sym (map-upto-of (length l) (λ i. get_or (written out l) i 0) l refl
    (λ i k. ap (λ (x : List ℕ). get_or x i 0) (sym (take-sets-front l out h)) ∙ get_or-take (length l) (written out l) i 0 k))

pub length_front : (k : ℕ) (out : List ℕ) → length (front k out) ≡ k
length_front k out = length-map-upto k (λ i. get_or out i 0)

pub left-refuses : (out : List ℕ) (o : Outcome (List ℕ)) (k p : ℕ) → o ≡ refuses k p → (refuses k p ≡ o) × (out ≡ left out o)
left-refuses out o k p e = (sym e, ap (left out) (sym e))

pub left-gives : (out after l : List ℕ) (o : Outcome (List ℕ)) (n : ℕ) → o ≡ gives l → length l ≡ n → n ≤ length out → after ≡ sets out 0 l
    → (gives (front n after) ≡ o) × (after ≡ left out o)
left-gives out after l o n e s h w = (
  ap (λ (r : List ℕ). gives r) (ap₂ front (sym s) w ∙ front-written l out (rw s h)) ∙ sym e,
  w ∙ ap (left out) (sym e),
)
