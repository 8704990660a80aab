-- Bytes taken apart at a byte. It rests on the definition of `split` and on the library's laws of `slice_split`.
--   split-listed             == it is the library's
--   split-none, split-some   == the library's first place of the byte: there is none, and one part; the part before it, and the parts behind
--   length-split             == no more parts than bytes and one
use mathlib.Core.Bool.{Bool, true, false, cond}
use mathlib.Core.List.{List, [], ◌∷◌}
use mathlib.Core.Path.{◌≡◌, refl, sym, ap, ◌∙◌}
use Prim.Native.Nat.{ℕ, ◌+◌, ◌≤◌, ◌<◌}
use native.Mathlib.Decide.{dec_lt}
use native.Mathlib.Omega.{arith}
use lib.Dec.{eqb}
use lib.ListN.{length, take, drop}
use borrow.Author.Tests.{lt-ltb, le-ltb}
use Rattle.std.specs.Prelude.{Option, Some, None}
use Rattle.std.specs.List.{slice_split, onto_first, position, position_or_len}
use Rattle.std.proofs.lemmas.List.Splits.{slice_split_none, slice_split_first}
use Rattle.std.proofs.lemmas.List.Sums.{fails_before_first}
use Rattle.examination_text.specs.Notation.{attach, split}

attach-listed : (x : ℕ) (ts : List (List ℕ)) → attach x ts ≡ onto_first x ts
unfolding attach
attach-listed x [] = refl
attach-listed x (t ∷ ts) = refl

length-attach : (x : ℕ) (ts : List (List ℕ)) → length (attach x ts) ≤ length ts + 1
unfolding attach
length-attach x [] = omega arith
length-attach x (t ∷ ts) = omega arith

module _ (b : ℕ) where
  abbrev pub is_b : ℕ → Bool
  is_b x = eqb x b

  turn : (x : ℕ) (ts us : List (List ℕ)) → ts ≡ us → (t : Bool)
      → elim t [ true ↦ [] ∷ ts | false ↦ attach x ts ] ≡ cond t ([] ∷ us) (onto_first x us)
  turn x ts us e true = ap (λ (l : List (List ℕ)). [] ∷ l) e
  turn x ts us e false = ap (attach x) e ∙ attach-listed x us

  pub split-listed : (s : List ℕ) → split b s ≡ slice_split is_b s
  unfolding split
  split-listed [] = refl
  split-listed (x ∷ s) = turn x (split b s) (slice_split is_b s) (split-listed s) (is_b x)

  length-turn : (x : ℕ) (ts : List (List ℕ)) (t : Bool) → length {A = List ℕ} (elim t [ true ↦ [] ∷ ts | false ↦ attach x ts ]) ≤ length ts + 1
  length-turn x ts true = omega arith
  length-turn x ts false = length-attach x ts

  pub length-split : (s : List ℕ) → length (split b s) ≤ length s + 1
  unfolding split
  length-split [] = omega arith
  length-split (x ∷ s) = omega (arith, length-turn x (split b s) (is_b x), length-split s)

  module _ (s : List ℕ) where
    abbrev first : ℕ
    first = position_or_len is_b s

    pub split-none : {r : Option ℕ} → r ≡ position is_b s → r ≡ None → split b s ≡ s ∷ []
    split-none e n = elim (dec_lt first (length s)) [
      | yes h ↦ let z = sym n ∙ e ∙ ap (λ (t : Bool). cond t (Some first) None) (lt-ltb first (length s) h) in cc
      | no h ↦ split-listed s ∙ slice_split_none is_b s (λ k d l. fails_before_first is_b s k d (omega arith))
    ]

    pub split-some : {r : Option ℕ} (end : ℕ) → r ≡ position is_b s → r ≡ Some end
        → (end < length s) × (split b s ≡ take end s ∷ split b (drop (end + 1) s))
    split-some end e n = elim (dec_lt first (length s)) [
      | yes h ↦
          let z = sym n ∙ e ∙ ap (λ (t : Bool). cond t (Some first) None) (lt-ltb first (length s) h) in
          let same : end ≡ first = cc in (
            omega arith,
            split-listed s ∙ slice_split_first is_b s 0 h
                ∙ ap (λ (k : ℕ). take k s ∷ slice_split is_b (drop (k + 1) s)) (sym same)
                ∙ ap (λ (ts : List (List ℕ)). take end s ∷ ts) (sym (split-listed (drop (end + 1) s))),
          )
      | no h ↦ let z = sym n ∙ e ∙ ap (λ (t : Bool). cond t (Some first) None) (le-ltb first (length s) (omega arith)) in cc
    ]
