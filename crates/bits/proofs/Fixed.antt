-- The fixed point along a measure: the rule's value at w is one turn of the rule over its values below w. It rests on the definitions of specs/Fixed:
-- how deep the turns are nested does not matter from the measure on.
--   below_less, below_other   == the value asked for at a smaller measure, and elsewhere
--   below-ext                 == two rules' values that agree below w
--   fixed-step                == fixed w ≡ step (below fixed w) w
--   fixed-ind                 == induction along the measure
--   fixed-keeps               == what holds of the default, and of a turn over values of which it holds, holds of the fixed point:
--                               no measure need fall
use mathlib.Core.Bool.{Bool, true, false}
use mathlib.Core.Path.{◌≡◌, refl, sym, ap, ◌∙◌, fun_ext}
use Prim.Native.Nat.{ℕ, zero, suc, ◌≤◌, ◌<◌}
use native.Mathlib.Nat.{le_refl}
use native.Mathlib.Omega.{arith}
use lib.Dec.{ltb}
use borrow.Author.Tests.{ltb-true, lt-ltb, le-ltb}
use Rattle.bits.specs.Fixed.{below, turns, fixed}

pub fixed-ind : {A : Type 0} (μ : A → ℕ) (P : A → Type 0) → ((w : A) → ((x : A) → μ x < μ w → P x) → P w) → (w : A) → P w
fixed-ind {A} μ P h w = go (suc (μ w)) w (le_refl (suc (μ w)))
  where
    go : (k : ℕ) (w : A) → μ w < k → P w
    go zero w l = absurd (omega arith)
    go (suc k) w l = h w (λ x m. go k x (omega arith))

module _ {A B : Type 0} (μ : A → ℕ) (d : B) where
  pub below_less : (g : A → B) (w x : A) → μ x < μ w → below μ d g w x ≡ g x
  unfolding below
  below_less g w x h = ap (λ (b : Bool). elim b as (λ _. B) [ true ↦ g x | false ↦ d ]) (lt-ltb (μ x) (μ w) h)

  pub below_other : (g : A → B) (w x : A) → μ w ≤ μ x → below μ d g w x ≡ d
  unfolding below
  below_other g w x h = ap (λ (b : Bool). elim b as (λ _. B) [ true ↦ g x | false ↦ d ]) (le-ltb (μ x) (μ w) h)

  pub below-ext : (f g : A → B) (w : A) → ((x : A) → μ x < μ w → f x ≡ g x) → below μ d f w ≡ below μ d g w
  unfolding below
  below-ext f g w h = fun_ext (λ x. go x (ltb (μ x) (μ w)) refl)
    where
      go : (x : A) (b : Bool) → ltb (μ x) (μ w) ≡ b → ◌≡◌ {A = B} (elim b [ true ↦ f x | false ↦ d ]) (elim b [ true ↦ g x | false ↦ d ])
      go x true e = h x (ltb-true (μ x) (μ w) e)
      go x false e = refl

  module _ (step : (A → B) → A → B) where
    least : (k : ℕ) (w : A) → μ w ≤ 0 → turns μ d step k w ≡ step (λ x. d) w
    unfolding turns
    least zero w h = refl
    least (suc k) w h = ap (λ (f : A → B). step f w) (fun_ext (λ x. below_other (turns μ d step k) w x (omega arith)))

    enough : (j k : ℕ) (w : A) → μ w ≤ j → μ w ≤ k → turns μ d step j w ≡ turns μ d step k w
    unfolding turns
    enough zero k w h m = sym (least k w h)
    enough (suc j) zero w h m = least (suc j) w m
    enough (suc j) (suc k) w h m =
        ap (λ (f : A → B). step f w) (below-ext (turns μ d step j) (turns μ d step k) w (λ x l. enough j k x (omega arith) (omega arith)))

    pub fixed-step : (w : A) → fixed μ d step w ≡ step (below μ d (fixed μ d step) w) w
    unfolding fixed turns
    fixed-step w =
        enough (μ w) (suc (μ w)) w (le_refl (μ w)) (omega arith)
        ∙ ap (λ (f : A → B). step f w)
        (below-ext (turns μ d step (μ w)) (fixed μ d step) w (λ x l. enough (μ w) (μ x) x (omega arith) (le_refl (μ x))))

pub fixed-keeps : {A B : Type 0} (μ : A → ℕ) (d : B) (step : (A → B) → A → B) (P : A → B → Type 0) → ((w : A) → P w d)
    → ((g : A → B) → ((x : A) → P x (g x)) → (w : A) → P w (step g w)) → (w : A) → P w (fixed μ d step w)
unfolding below turns fixed
fixed-keeps {A} {B} μ d step P least turn w = go (μ w) w
  where
    guard : (g : A → B) (x : A) (b : Bool) → P x (g x) → P x (elim b [ true ↦ g x | false ↦ d ])
    guard g x true p = p
    guard g x false p = least x

    go : (k : ℕ) (w : A) → P w (turns μ d step k w)
    go zero w = turn (λ x. d) least w
    go (suc k) w = turn (below μ d (turns μ d step k) w) (λ x. guard (turns μ d step k) x (ltb (μ x) (μ w)) (go k x)) w
