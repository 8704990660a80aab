-- The balanced fold of the products of a list of masks. It rests on the fold's own laws (laws, Parts).
--   terms-none, terms-one        == of no mask, and of one
--   write-halves, size-halves    == of more: its bytes and records are those of its halves, and an XO
--   folds                        == these and the library's laws of lists, for tactics
use Rattle.std.specs.Prelude.{◌≡◌, false, List, [], ◌∷◌, ◌++◌, map, ℕ, ◌+◌, ◌/◌, ◌≤◌, ◌<◌, length, take, drop, slice_index_or}
use mathlib.Core.Path.{ap, ap₂, ◌∙◌}
use Rattle.std.proofs.Common.{append_assoc, arith, length-append}
use Rattle.std.proofs.lemmas.List.{length-map, take-map, drop-map}
use Rattle.rules.specs.Ascii.{ascii}
use Rattle.rules.specs.Form.{cube, folded}
use Rattle.rules.specs.Tree.{Tree, CO, XO, size, write}
use Rattle.laws.proofs.form.Parts.{folded-none, folded-one, folded-halves}

pub terms-none : (l : List ℕ) → length l < 1 → folded (map cube l) ≡ CO false
terms-none [] h = folded-none
terms-none (m ∷ l) h = absurd (omega arith)

pub terms-one : (l : List ℕ) → 1 ≤ length l → length l < 2 → folded (map cube l) ≡ cube (slice_index_or l 0 0)
terms-one [] g h = absurd (omega arith)
terms-one (m ∷ []) g h = folded-one (cube m)
terms-one (m ∷ o ∷ l) g h = absurd (omega arith)

module _ (l : List ℕ) (h : 2 ≤ length l) where
  abbrev first : Tree
  first = folded (map cube (take (length l / 2) l))

  abbrev second : Tree
  second = folded (map cube (drop (length l / 2) l))

  halves : folded (map cube l) ≡ XO first second
  halves =
      let n = length-map l cube in
      folded-halves (map cube l) (omega (arith, n))
      ∙ ap₂ XO (ap (λ (k : ℕ). folded (take (k / 2) (map cube l))) n ∙ ap folded (take-map cube (length l / 2) l))
      (ap (λ (k : ℕ). folded (drop (k / 2) (map cube l))) n ∙ ap folded (drop-map cube (length l / 2) l))

  pub write-halves : write (folded (map cube l)) ≡ write first ++ write second ++ 88 ∷ 79 ∷ []
  unfolding write ascii
  write-halves = ap write halves

  pub size-halves : size (folded (map cube l)) ≡ 1 + size first + size second
  unfolding size
  size-halves = ap size halves

pub ruleset folds = (terms-none, terms-one, write-halves, size-halves, append_assoc, length-append)
