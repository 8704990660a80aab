-- The balanced fold of a part of a list of masks, as its halves: no term, one term, and more.
-- It rests on the fold's own laws (laws, Parts) and on the library's laws of parts of a list.
--   rest-fewer, rest-within                == what is left beside a half
--   terms l from count                     == the products of count masks of l from `from` on
--   terms-none, terms-one, terms-halves    == their fold
--   raw-terms, raw-sets                    == over the masks of a form in their order, at the front of a list, it is the raw form
use mathlib.Core.Bool.{false}
use mathlib.Core.List.{List, map}
use mathlib.Core.Path.{◌≡◌, sym, ap, ap₂, ◌∙◌}
use Prim.Native.Nat.{ℕ, ◌+◌, ◌-◌, ◌/◌, ◌≤◌, ◌<◌}
use native.Mathlib.Omega.{arith}
use lib.ListN.{length, get_or, take, drop, length-take, length-drop, length-map}
use lib.Seq.{sets, sets-eq, take_at, drop-cons, drop-drop, take-take}
use Rattle.std.proofs.lemmas.List.{take-map, drop-map, drop-take}
use Rattle.rules.specs.Form.{cube, folded, raw_form}
use Rattle.rules.specs.Monomial.{ordered}
use Rattle.rules.specs.Tree.{Tree, CO, XO}
use Rattle.laws.proofs.form.Ordered.{length-ordered}
use Rattle.laws.proofs.form.Parts.{folded-none, folded-one, folded-halves}

-- ---- a half, and the rest

pub rest-fewer : (n : ℕ) → 2 ≤ n → n - n / 2 < n
rest-fewer n h = omega arith

pub rest-within : (from n k : ℕ) → from + n ≤ k → from + n / 2 + (n - n / 2) ≤ k
rest-within from n k h = omega arith

-- ---- terms

abbrev pub terms : List ℕ → ℕ → ℕ → List Tree
terms l from count = map cube (take count (drop from l))

module _ (l : List ℕ) (from count : ℕ) where
  pub terms-none : count ≡ 0 → folded (terms l from count) ≡ CO false
  terms-none e = ap (λ (k : ℕ). folded (terms l from k)) e ∙ folded-none

  pub terms-one : from < length l → count ≡ 1 → folded (terms l from count) ≡ cube (get_or l from 0)
  terms-one h e =
      ap (λ (k : ℕ). folded (terms l from k)) e
      ∙ ap (λ (r : List ℕ). folded (map cube (take 1 r))) (drop-cons l from 0 h)
      ∙ folded-one (cube (get_or l from 0))

  module _ (h : from + count ≤ length l) where
    abbrev half : ℕ
    half = count / 2

    length-terms : length (terms l from count) ≡ count
    length-terms = length-map (take count (drop from l)) cube ∙ length-take count (drop from l) ∙ omega (arith, length-drop from l)

    first-terms : take half (terms l from count) ≡ terms l from half
    first-terms = take-map cube half (take count (drop from l)) ∙ ap (map cube) (take-take half count (drop from l) (omega arith))

    rest-terms : drop half (terms l from count) ≡ terms l (from + half) (count - half)
    rest-terms =
        drop-map cube half (take count (drop from l))
        ∙ ap (map cube)
        (ap (λ (k : ℕ). drop half (take k (drop from l))) (omega arith) ∙ drop-take half (count - half) (drop from l)
        ∙ ap (take (count - half)) (drop-drop half from l))

    pub terms-halves : 2 ≤ count → folded (terms l from count) ≡ XO (folded (terms l from half)) (folded (terms l (from + half) (count - half)))
    terms-halves g =
        folded-halves (terms l from count) (omega (arith, length-terms))
        ∙ ap₂ XO (ap (λ (n : ℕ). folded (take (n / 2) (terms l from count))) length-terms ∙ ap folded first-terms)
        (ap (λ (n : ℕ). folded (drop (n / 2) (terms l from count))) length-terms ∙ ap folded rest-terms)

-- ---- the raw form

module _ (l ts : List ℕ) (count : ℕ) where
  pub raw-terms : take count ts ≡ ordered l → folded (terms ts 0 count) ≡ raw_form l
  unfolding raw_form
  raw-terms e = ap (λ (k : List ℕ). folded (map cube k)) e

  pub raw-sets : (out : List ℕ) → length l ≤ length out → count ≡ length l → ts ≡ sets out 0 (ordered l) → folded (terms ts 0 count) ≡ raw_form l
  raw-sets out h c e =
      let n : length (ordered l) ≡ count = length-ordered l ∙ sym c in
      raw-terms (ap (take count) (e ∙ sets-eq (ordered l) out 0 (omega arith)) ∙ take_at (ordered l) (drop (0 + length (ordered l)) out) count n)
