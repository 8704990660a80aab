-- Bytes taken apart at a byte, by the places between which a part stands: the part before the first such byte, and the parts behind it. No proof of a
-- function needs these laws today: the code takes its input apart by the parts themselves (Split). They rest on the definition of `split` and on the
-- laws of tests up to a place (text, Places).
--   other b x            == x is another byte than b
--   split_one, split-two == no b in the bytes: one part; a first b: the part before it, and the parts behind
--   split-first          == there is a first part
--   part-start, part-pass == no byte passed, and one more that is another
--   part-found, part_none == the place of the first b, and the end where there is none, are those of a part
--   part-last, part-more == the parts from a part on, where it is the last and where it is not
--   length_part          == the length of a part
use mathlib.Core.Bool.{Bool, true, false, not}
use mathlib.Core.List.{List, [], ◌∷◌, ◌++◌}
use mathlib.Core.Path.{◌≡◌, refl, sym, ap, ap₂, ◌∙◌}
use Prim.Native.Nat.{ℕ, suc, ◌+◌, ◌-◌, ◌≤◌, ◌<◌}
use native.Mathlib.Omega.{arith}
use lib.Dec.{eqb}
use lib.ListN.{length, get_or, take, drop, length-drop}
use lib.Seq.{split_at, get_or-drop, drop-drop, length-take-le, take_all}
use borrow.Author.Tests.{eq-eqb, ne_eqb, lt-ltb, le-ltb, not-true}
use Rattle.bits.specs.Range.{all}
use Rattle.bits.proofs.Truth.{and-true-l, and_true_r}
use Rattle.text.proofs.Places.{all_none, all_more}
use Rattle.examination_text.specs.Notation.{attach, split}
use Rattle.examination_text.specs.inner.PartAt.{others, Part}

abbrev pub other : ℕ → ℕ → Bool
other b x = not (eqb x b)

module _ (b : ℕ) where
  -- one byte at the front, by whether it is b
  abbrev turn : ℕ → List ℕ → Bool → List (List ℕ)
  turn x s t = elim t [ true ↦ [] ∷ split b s | false ↦ attach x (split b s) ]

  split-pass : (x : ℕ) (s : List ℕ) → other b x ≡ true → split b (x ∷ s) ≡ attach x (split b s)
  unfolding split
  split-pass x s e = ap (turn x s) (not-true (eqb x b) e)

  split_one : (s : List ℕ) → all (other b) s ≡ true → split b s ≡ s ∷ []
  unfolding all attach
  split_one [] e = unfold split in refl
  split_one (x ∷ s) e =
      split-pass x s (and-true-l (other b x) (all (other b) s) e)
      ∙ ap (attach x) (split_one s (and_true_r (other b x) (all (other b) s) e))

  split-two : (t u : List ℕ) → all (other b) t ≡ true → split b (t ++ b ∷ u) ≡ t ∷ split b u
  unfolding all attach
  split-two [] u e = unfold split in ap (turn b u) (eq-eqb b b refl)
  split-two (x ∷ t) u e =
      split-pass x (t ++ b ∷ u) (and-true-l (other b x) (all (other b) t) e)
      ∙ ap (attach x) (split-two t u (and_true_r (other b x) (all (other b) t) e))

  pub split-first : (s : List ℕ) → (t : List ℕ) × (ts : List (List ℕ)) × (split b s ≡ t ∷ ts)
  unfolding split attach
  split-first [] = ([], [], refl)
  split-first (x ∷ s) = go (eqb x b) (split b s)
    where
      go : (t : Bool) (l : List (List ℕ)) → (u : List ℕ) × (us : List (List ℕ)) × (elim t [ true ↦ [] ∷ l | false ↦ attach x l ] ≡ u ∷ us)
      go true l = ([], l, refl)
      go false [] = (x ∷ [], [], refl)
      go false (u ∷ us) = (x ∷ u, us, refl)

  module _ (s : List ℕ) (from : ℕ) where
    pub part-start : all (other b) (take (from - from) (drop from s)) ≡ true
    part-start =
        let e : from - from ≡ 0 = omega arith in
        ap (λ (k : ℕ). all (other b) (take k (drop from s))) e ∙ all_none (other b) (drop from s)

    module _ (r : ℕ) (h : from ≤ r) (e : all (other b) (take (r - from) (drop from s)) ≡ true) where
      at : get_or (drop from s) (r - from) 0 ≡ get_or s r 0
      at =
          let k : from + (r - from) ≡ r = omega arith in
          get_or-drop from s (r - from) 0 ∙ ap (λ (i : ℕ). get_or s i 0) k

      pub part-pass : r < length s → (get_or s r 0 ≡ b → ⊥) → all (other b) (take (r + 1 - from) (drop from s)) ≡ true
      part-pass l n =
          let k : r + 1 - from ≡ r - from + 1 = omega arith in
          ap (λ (i : ℕ). all (other b) (take i (drop from s))) k
          ∙ all_more (other b) (drop from s) (r - from) (omega (arith, length-drop from s)) e
          (ap (other b) at ∙ ap not (ne_eqb (get_or s r 0) b n))

      pub part-found : r < length s → get_or s r 0 ≡ b → Part b s from r
      unfolding others
      part-found l q =
          let past : from + suc (r - from) ≡ r + 1 = omega arith in
          record {
            behind = h;
            within = omega arith;
            parts =
                ap (split b) (split_at (drop from s) (r - from) 0 (omega (arith, length-drop from s))
                ∙ ap₂ (λ (x : ℕ) (u : List ℕ). take (r - from) (drop from s) ++ x ∷ u) (at ∙ q)
                (drop-drop (suc (r - from)) from s ∙ ap (λ (i : ℕ). drop i s) past))
                ∙ split-two (take (r - from) (drop from s)) (drop (r + 1) s) e
                ∙ rw (lt-ltb r (length s) l, others);
          }

      pub part_none : r ≡ length s → Part b s from r
      unfolding others
      part_none q =
          let whole : take (r - from) (drop from s) ≡ drop from s = take_all (r - from) (drop from s) (omega (arith, length-drop from s)) in
          record {
            behind = h;
            within = omega arith;
            parts =
                ap (split b) (sym whole) ∙ split_one (take (r - from) (drop from s)) e ∙ rw (le-ltb r (length s) (omega arith), others);
          }

module _ {b : ℕ} {s : List ℕ} {from r : ℕ} (p : Part b s from r) where
  pub part-last : r ≡ length s → split b (drop from s) ≡ take (r - from) (drop from s) ∷ []
  unfolding others
  part-last q = p.parts ∙ rw (le-ltb r (length s) (omega arith), others)

  pub part-more : (r ≡ length s → ⊥) → split b (drop from s) ≡ take (r - from) (drop from s) ∷ split b (drop (r + 1) s)
  unfolding others
  part-more q = p.parts ∙ rw (lt-ltb r (length s) (omega arith), others)

  pub length_part : length (take (r - from) (drop from s)) ≡ r - from
  length_part = length-take-le (r - from) (drop from s) (omega (arith, length-drop from s))
