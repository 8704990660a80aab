-- The lines of the input by the places of its newlines: what the command writes where none, one or more stand before the end. No proof of a function
-- needs these laws today: the code goes by the parts themselves (Input). They rest on the definitions of specs/Input and on PartsAt.
--   lines-one, lines_more, lines_two == no newline before the end; the second newline is not the end; it is
use mathlib.Core.Bool.{Bool, true, false}
use mathlib.Core.List.{List, [], ◌∷◌}
use mathlib.Core.Path.{◌≡◌, refl, ap, ◌∙◌}
use Prim.Native.Nat.{ℕ, ◌+◌, ◌-◌, ◌<◌}
use native.Mathlib.Decide.{dec_lt}
use native.Mathlib.Omega.{arith}
use lib.Dec.{eqb}
use lib.ListN.{length, take, drop, length-drop, drop_of_length-le}
use Rattle.rules.specs.Text.{flags_of}
use Rattle.examination_text.specs.Input.{not_lines, of_table, of_lines}
use Rattle.examination_text.specs.Notation.{attach, split}
use Rattle.examination_text.specs.inner.PartAt.{Part}
use Rattle.examination_text.proofs.PartsAt.{split-first, part-last, part-more}

-- bytes behind the second newline
lines-behind : (one two l : List ℕ) → 0 < length l → of_lines (one ∷ two ∷ split 10 l) ≡ not_lines
unfolding of_lines split attach
lines-behind one two [] h = absurd (omega arith)
lines-behind one two (x ∷ l) h =
    let f = split-first 10 l in
    ap (λ (ts : List (List ℕ)). of_lines (one ∷ two ∷ elim (eqb x 10) [ true ↦ [] ∷ ts | false ↦ attach x ts ])) f.2 ∙ go f.0 f.1 (eqb x 10)
  where
    go : (t : List ℕ) (ts : List (List ℕ)) (b : Bool) → of_lines (one ∷ two ∷ elim b [ true ↦ [] ∷ t ∷ ts | false ↦ attach x (t ∷ ts) ]) ≡ not_lines
    go t ts true = refl
    go t ts false = refl

module _ {s : List ℕ} {r : ℕ} (p : Part 10 s 0 r) where
  pub lines-one : r ≡ length s → of_lines (split 10 s) ≡ not_lines
  unfolding of_lines
  lines-one e = ap of_lines (part-last p e)

  module _ (n : r ≡ length s → ⊥) {q : ℕ} (d : Part 10 s (r + 1) q) where
    abbrev one : List ℕ
    one = take r s

    abbrev two : List ℕ
    two = take (q - (r + 1)) (drop (r + 1) s)

    lines-first : split 10 s ≡ one ∷ split 10 (drop (r + 1) s)
    lines-first =
        let e : r - 0 ≡ r = omega arith in
        part-more p n ∙ ap {B = List (List ℕ)} (λ k. take k s ∷ split 10 (drop (r + 1) s)) e

    lines-both : (q ≡ length s → ⊥) → split 10 s ≡ one ∷ two ∷ split 10 (drop (q + 1) s)
    lines-both m = lines-first ∙ ap {B = List (List ℕ)} (λ ts. one ∷ ts) (part-more d m)

    pub lines_more : (q + 1 ≡ length s → ⊥) → of_lines (split 10 s) ≡ not_lines
    unfolding of_lines
    lines_more m = elim (dec_lt q (length s)) [
      | yes h ↦ ap of_lines (lines-both (omega arith)) ∙ lines-behind one two (drop (q + 1) s) (omega (arith, length-drop (q + 1) s))
      | no h ↦
          ap of_lines (lines-first ∙ ap {B = List (List ℕ)} (λ ts. one ∷ ts) (part-last d (omega (arith, d.within))))
    ]

    pub lines_two : q + 1 ≡ length s → of_lines (split 10 s) ≡ of_table one two (flags_of (length one))
    unfolding of_lines split
    lines_two m =
        ap of_lines (lines-both (omega arith)
        ∙ ap (λ (l : List ℕ). one ∷ two ∷ split 10 l) (drop_of_length-le s {i = q + 1} (omega arith)))
