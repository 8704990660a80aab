-- Parts of a list: behind another list, in two, of one element, how long they are, and that a bound of the list bounds them. It rests on the
-- library's laws of lists and on bounded lists (Below).
--   part-append, part-add    == a part behind a list; a part in two
--   part-one                 == a part of one element
--   length_part, below-part  == a part's length where it ends within the list, and its bound
use mathlib.Core.List.{List, [], ◌∷◌, ◌++◌}
use mathlib.Core.Path.{◌≡◌, ap, ◌∙◌}
use Prim.Native.Nat.{ℕ, ◌+◌, ◌≤◌, ◌<◌}
use native.Mathlib.Omega.{arith}
use lib.ListN.{length, get_or, take, drop, length-drop, length-take}
use lib.Seq.{drop-append-add, drop-drop, take-add, drop-cons}
use Rattle.bits.specs.Part.{part}
use Rattle.bits.specs.Range.{Below}
use Rattle.bits.proofs.Below.{below-take, below-drop}

pub part-append : (a s : List ℕ) (p k : ℕ) → part (a ++ s) (length a + p) k ≡ part s p k
part-append a s p k = ap (take k) (drop-append-add a s p)

module _ (s : List ℕ) (p : ℕ) where
  pub part-add : (j k : ℕ) → part s p (j + k) ≡ part s p j ++ part s (p + j) k
  part-add j k = take-add j k (drop p s) ∙ ap (λ (l : List ℕ). part s p j ++ take k l) (drop-drop j p s)

  pub part-one : p < length s → part s p 1 ≡ get_or s p 0 ∷ []
  part-one h = ap (take 1) (drop-cons s p 0 h)

  pub length_part : (k : ℕ) → p + k ≤ length s → length (part s p k) ≡ k
  length_part k h = simp (length-take, length-drop) (omega arith)

  pub below-part : (n k : ℕ) → Below n s → Below n (part s p k)
  below-part n k h = below-take n k (drop p s) (below-drop n p s h)
