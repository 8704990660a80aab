-- Which of two expressions came back as the cheaper, told by its bytes. It rests on the paper's `cheaper_of`: what comes back is empty or a whole
-- expression, of two equal ones the first, and no expression is empty.
--   chosen_none     == an empty part came back
--   chosen-first    == what came back is not empty and is the first
--   chosen-second   == it is not the first, and is the second
--   chosen-other    == it is always one of these
use mathlib.Core.Bool.{Bool, true, false}
use mathlib.Core.List.{List, [], ◌∷◌}
use mathlib.Core.Path.{◌≡◌, refl, sym, ap, ◌∙◌}
use Prim.Native.Nat.{ℕ}
use native.Mathlib.Nat.{le_refl}
use native.Mathlib.Omega.{arith}
use lib.Dec.{ltb}
use lib.ListN.{length}
use borrow.Author.Tests.{le-ltb, eq-eqb}
use Rattle.rules.specs.Calls.{parse, smaller, cheaper_of, cheaper_of_two}
use Rattle.rules.specs.Limits.{rule_flags}
use Rattle.rules.specs.Machine.{turn, finish, run, made}
use Rattle.rules.specs.Outcome.{Outcome, gives, refuses, refuse}
use Rattle.rules.specs.Tree.{Tree, size, depth}
use Rattle.comparison.specs.Outcome.{results}
use Rattle.comparison.specs.declared.outcome.Outcome.TheVariants.{Damaged}
use Rattle.recorded_calls.specs.Answers.{chosen}

smaller-self : (t : Tree) → smaller t t ≡ false
unfolding smaller
smaller-self t = rw (le-ltb (size t) (size t) (le_refl (size t)), eq-eqb (size t) (size t) refl, le-ltb (depth t) (depth t) (le_refl (depth t)))

parse-empty : (n : ℕ) (t : Tree) → parse n [] ≡ gives t → ⊥
unfolding parse made run turn finish
parse-empty n t e = go (ltb rule_flags n) e
  where
    go : (b : Bool) → refuse b 1 0 (refuses 10 0) ≡ gives t → ⊥
    go true e = let z : ◌≡◌ {A = ℕ} 0 1 = cc in omega arith
    go false e = let z : ◌≡◌ {A = ℕ} 0 1 = cc in omega arith

-- what came back, by the number that tells it
data Came (a b c : List ℕ) : ℕ → Type 0 where
  none : c ≡ [] → Came a b c 0
  first : c ≡ a → (a ≡ [] → ⊥) → Came a b c 1
  second : c ≡ b → (b ≡ [] → ⊥) → (b ≡ a → ⊥) → Came a b c 2

module _ (n : ℕ) (a b : List ℕ) {c : List ℕ} where
  both : (t u : Tree) → parse n a ≡ gives t → parse n b ≡ gives u → (x : Bool) → smaller u t ≡ x →
      c ≡ elim x [ true ↦ b | false ↦ a ] → Came a b c (elim x [ true ↦ 2 | false ↦ 1 ])
  both t u f g true s e = second e (λ z. parse-empty n u (ap (parse n) (sym z) ∙ g)) (λ z.
      let h : gives u ≡ gives t = sym g ∙ ap (parse n) z ∙ f in
      let i : u ≡ t = cc in
      let k : true ≡ false = sym s ∙ ap (λ (v : Tree). smaller v t) i ∙ smaller-self t in
      let z : ◌≡◌ {A = ℕ} 0 1 = cc in omega arith)
  both t u f g false s e = first e (λ z. parse-empty n t (ap (parse n) (sym z) ∙ f))

  came : c ≡ cheaper_of_two n a b → Came a b c (cheaper_of 0 1 2 (parse n a) (parse n b))
  unfolding cheaper_of_two cheaper_of
  came e = go (parse n a) refl (parse n b) refl e
    where
      go : (o : Outcome Tree) → parse n a ≡ o → (q : Outcome Tree) → parse n b ≡ q → c ≡ cheaper_of [] a b o q → Came a b c (cheaper_of 0 1 2 o q)
      go (refuses k p) f q g e = none e
      go (gives t) f (refuses k p) g e = none e
      go (gives t) f (gives u) g e = both t u f g (smaller u t) refl e

-- the number is told by what came back
module _ {a b c : List ℕ} where
  tell_none : {x : ℕ} → Came a b c x → c ≡ [] → 0 ≡ x
  tell_none (none e) z = refl
  tell_none (first e h) z = absurd (h (sym e ∙ z))
  tell_none (second e h i) z = absurd (h (sym e ∙ z))

  tell-first : {x : ℕ} → Came a b c x → (c ≡ [] → ⊥) → c ≡ a → 1 ≡ x
  tell-first (none e) z f = absurd (z e)
  tell-first (first e h) z f = refl
  tell-first (second e h i) z f = absurd (i (sym e ∙ f))

  tell-second : {x : ℕ} → Came a b c x → (c ≡ [] → ⊥) → (c ≡ a → ⊥) → 2 ≡ x
  tell-second (none e) z f = absurd (z e)
  tell-second (first e h) z f = absurd (f e)
  tell-second (second e h i) z f = refl

  tell-other : {x : ℕ} → Came a b c x → (c ≡ [] → ⊥) → (c ≡ a → ⊥) → c ≡ b
  tell-other (none e) z f = absurd (z e)
  tell-other (first e h) z f = absurd (f e)
  tell-other (second e h i) z f = e

length_none : (l : List ℕ) → length l ≡ 0 → l ≡ []
length_none [] e = refl
length_none (x ∷ l) e = absurd (omega arith)

module _ (n : ℕ) (a b : List ℕ) {c : List ℕ} (e : c ≡ cheaper_of_two n a b) where
  told : {x : ℕ} → x ≡ cheaper_of 0 1 2 (parse n a) (parse n b) → results x 0 0 0 ≡ chosen n a b
  unfolding chosen
  told f = ap (λ (x : ℕ). results x 0 0 0) f

  pub chosen_none : length c ≡ 0 → results 0 0 0 0 ≡ chosen n a b
  chosen_none z = told (tell_none (came n a b e) (length_none c z))

  module _ (some : length c ≡ 0 → ⊥) where
    full : c ≡ [] → ⊥
    full z = some (ap length z)

    pub chosen-first : c ≡ a → results 1 0 0 0 ≡ chosen n a b
    chosen-first f = told (tell-first (came n a b e) full f)

    module _ (unlike : c ≡ a → ⊥) where
      pub chosen-second : results 2 0 0 0 ≡ chosen n a b
      chosen-second = told (tell-second (came n a b e) full unlike)

      pub chosen-other : (c ≡ b → ⊥) → Damaged ≡ chosen n a b
      chosen-other f = absurd (f (tell-other (came n a b e) full unlike))
