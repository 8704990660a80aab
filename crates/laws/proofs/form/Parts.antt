-- The two ways in which trees are put together, the chain nested to the left and the balanced fold: what holds of each term alone and passes to a
-- joined tree holds of the whole. It rests on the fixed point along a measure (bits, Fixed).
--   length-flags                             == a mask has as many flags as ones
--   chain-ind                                == a chain of one or more terms, joined one by one
--   folded-none, folded-one, folded-halves   == the balanced fold of no term, of one, and of more
--   folded-ind                               == a balanced fold of one or more terms, joined by halves
use mathlib.Core.Bool.{false}
use mathlib.Core.List.{List, [], ◌∷◌, ◌++◌, foldl, append_assoc, append-nil}
use mathlib.Core.Path.{◌≡◌, refl, sym, ap₂, subst, subst₂, ◌∙◌}
use Prim.Native.Nat.{ℕ, ◌/◌, ◌≤◌, ◌<◌}
use native.Mathlib.Omega.{arith}
use lib.Count.{ones}
use lib.ListN.{length, take, drop, take-append-drop, length-take, length-drop}
use Rattle.bits.specs.Fixed.{fixed, turns}
use Rattle.bits.proofs.Bit.{lt-pow}
use Rattle.bits.proofs.Fixed.{fixed-ind, fixed-step, below_less}
use Rattle.bits.proofs.Word.{ones-places}
use Rattle.rules.specs.Form.{flags, chain, halves, folded}
use Rattle.rules.specs.Tree.{Tree, CO, XO}

pub length-flags : (m : ℕ) → length (flags m) ≡ ones m
length-flags m = sym (ones-places m m (lt-pow m))

pub folded-none : folded [] ≡ CO false
unfolding fixed turns halves
folded-none = refl

pub folded-one : (t : Tree) → folded (t ∷ []) ≡ t
unfolding halves
folded-one t = fixed-step length (CO false) halves (t ∷ [])

module _ (l : List Tree) (h : 2 ≤ length l) where
  first-less : length (take (length l / 2) l) < length l
  first-less = simp length-take (omega arith)

  rest-less : length (drop (length l / 2) l) < length l
  rest-less = simp length-drop (omega arith)

pub folded-halves : (l : List Tree) → 2 ≤ length l → folded l ≡ XO (folded (take (length l / 2) l)) (folded (drop (length l / 2) l))
unfolding halves
folded-halves [] h = absurd (omega arith)
folded-halves (t ∷ []) h = absurd (omega arith)
folded-halves (t ∷ u ∷ ts) h =
    let l : List Tree = t ∷ u ∷ ts in
    fixed-step length (CO false) halves l
    ∙ ap₂ XO (below_less length (CO false) folded l _ (first-less l h)) (below_less length (CO false) folded l _ (rest-less l h))

module _ (P : List Tree → Tree → Type 0) (one : (t : Tree) → P (t ∷ []) t) where
  pub chain-ind : (op : Tree → Tree → Tree) (e : Tree) → ((ts : List Tree) (x t : Tree) → P ts x → P (ts ++ t ∷ []) (op x t))
      → (t : Tree) (ts : List Tree) → P (t ∷ ts) (chain op e (t ∷ ts))
  unfolding chain
  chain-ind op e more t ts = go ts (t ∷ []) t (one t)
    where
      go : (us ts : List Tree) (x : Tree) → P ts x → P (ts ++ us) (foldl op x us)
      go [] ts x h = rw append-nil h
      go (u ∷ us) ts x h = rw append_assoc at (go us (ts ++ u ∷ []) (op x u) (more ts x u h))

  pub folded-ind : ((ss ts : List Tree) (x y : Tree) → P ss x → P ts y → P (ss ++ ts) (XO x y))
      → (t : Tree) (ts : List Tree) → P (t ∷ ts) (folded (t ∷ ts))
  folded-ind join t ts = fixed-ind length (λ l. 0 < length l → P l (folded l)) step (t ∷ ts) (omega arith)
    where
      step : (l : List Tree) → ((k : List Tree) → length k < length l → 0 < length k → P k (folded k)) → 0 < length l → P l (folded l)
      step [] ih p = absurd (omega arith)
      step (t ∷ []) ih p = subst (P (t ∷ [])) (sym (folded-one t)) (one t)
      step (t ∷ u ∷ ts) ih p =
          let l : List Tree = t ∷ u ∷ ts in
          let h : 2 ≤ length l = omega arith in
          let a = take (length l / 2) l in
          let b = drop (length l / 2) l in
          subst₂ P (take-append-drop (length l / 2) l) (sym (folded-halves l h))
          (join a b (folded a) (folded b) (ih a (first-less l h) (simp length-take (omega arith)))
          (ih b (rest-less l h) (simp length-drop (omega arith))))
