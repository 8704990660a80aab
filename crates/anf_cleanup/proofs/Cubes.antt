-- The search for the best cube: trying every mask that two monomials contain, in ascending order, gives document 01's best cube, because no other
-- mask is a candidate. It rests on the candidates (Candidates) and on an answer that may be none (search, Positive).
--   cubes-shared                       == the candidates are among the masks that two monomials contain
--   Searching l b k                    == b is the best of the masks tried before, and the masks k are left to try
--   search-start                       == all masks are left, and there is no cube yet
--   search-kept, search-more           == one more is tried: the best stays, or the mask takes its place
--   search-done                        == none is left, and the best is found
--   search-mask                        == the next mask is one of six flags, above 0
use mathlib.Core.Bool.{Bool, true, false, not, ◌&&◌}
use mathlib.Core.List.{List, [], ◌∷◌, ◌++◌, append-nil, foldl}
use mathlib.Core.Path.{◌≡◌, refl, sym, ap, ◌∙◌}
use mathlib.Mathlib.Data.Bool.Basic.{eq-false_of_not-eq-true}
use Rattle.std.specs.Prelude.{Option, Some, None, IfSome}
use Prim.Native.Nat.{ℕ, ◌+◌, ◌-◌, ◌≤◌, ◌<◌}
use native.Mathlib.Omega.{arith}
use lib.Dec.{leb, ltb}
use lib.ListN.{length}
use borrow.Author.Tests.{ltb-true, lt-ltb, le-ltb, leb-true, le-leb}
use Rattle.bits.specs.Range.{from, keep, mem}
use Rattle.bits.specs.Sum.{union}
use Rattle.bits.proofs.Mask.{within-le}
use Rattle.bits.proofs.Range.{from-add, keep_append, keep-keep, keep-ext, keep-none, mem-all, mem-from, mem-keep, mem-head, mem-tail}
use Rattle.bits.proofs.Truth.{and-true-l, and_true_r, and-implied}
use Rattle.rules.specs.Cleanup.{cleanup, covered, is_cube, cube_saving, better, greatest, best_cube}
use Rattle.rules.specs.Cleanup as paper
use Rattle.laws.proofs.value.Recursion.{cubes, is_cube-many}
use Rattle.mask_words.specs.Lookup.{mask_count}
use Rattle.form.specs.Masks.{masks}
use Rattle.form.specs.declared.Form.{Form}
use Rattle.anf_cleanup.specs.Inner.{best_of, Known, Chosen}
use Rattle.anf_cleanup.specs.declared.Best.{Best}
use Rattle.anf_cleanup.proofs.Bounds.{flags-below}
use Rattle.anf_cleanup.proofs.Candidates.{is_cube-within}

abbrev twice : List ℕ → ℕ → Bool
twice l c = leb 2 (length (covered c l))

-- one more mask: a candidate cube replaces the best if it saves strictly more
unfoldable pub tried : List ℕ → paper.Best → ℕ → paper.Best
tried l b c = elim (is_cube l c) [ true ↦ better (cube_saving cleanup l) b c | false ↦ b ]

module _ (l : List ℕ) (b : paper.Best) (c : ℕ) where
  by_test : (t : Bool) → is_cube l c ≡ t → tried l b c ≡ elim t as (λ _. paper.Best) [ true ↦ better (cube_saving cleanup l) b c | false ↦ b ]
  unfolding tried
  by_test t e = ap (λ (x : Bool). elim x as (λ _. paper.Best) [ true ↦ better (cube_saving cleanup l) b c | false ↦ b ]) e

  by_saving : (v : ℕ) → is_cube l c ≡ true → v ≡ cube_saving cleanup l c → (t : Bool) → ltb b.saving v ≡ t
      → tried l b c ≡ elim t as (λ _. paper.Best) [ true ↦ record { mask = c; saving = v } | false ↦ b ]
  unfolding better
  by_saving v e q t h =
      by_test true e
      ∙ ap (λ (x : ℕ). elim (ltb b.saving x) as (λ _. paper.Best) [ true ↦ record { mask = c; saving = x } | false ↦ b ]) (sym q)
      ∙ ap (λ (x : Bool). elim x as (λ _. paper.Best) [ true ↦ record { mask = c; saving = v } | false ↦ b ]) h

module _ (l : List ℕ) where
  pub cubes-shared : union l < mask_count → keep (is_cube l) (keep (twice l) (from 1 63)) ≡ cubes l
  cubes-shared h =
      keep-keep (is_cube l) (twice l) (from 1 63)
      ∙ keep-ext (λ c. twice l c && is_cube l c) (is_cube l) (from 1 63)
      (λ c e. and-implied _ (is_cube l c) (λ t. le-leb 2 (length (covered c l)) (is_cube-many l c t)))
      ∙ ap (λ (n : ℕ). keep (is_cube l) (from 1 n)) parts ∙ ap (keep (is_cube l)) (from-add 1 (union l) (63 - union l))
      ∙ keep_append (is_cube l) (from 1 (union l)) (from (1 + union l) (63 - union l))
      ∙ ap (cubes l ++◌) (keep-none (is_cube l) (from (1 + union l) (63 - union l)) (mem-all _ _ above)) ∙ append-nil (cubes l)
    where
      parts : 63 ≡ union l + (63 - union l)
      parts = omega arith

      above : (c : ℕ) → mem c (from (1 + union l) (63 - union l)) ≡ true → not (is_cube l c) ≡ true
      above c e =
          let big = leb-true (1 + union l) c (and-true-l (leb (1 + union l) c) _ (sym (mem-from (1 + union l) (63 - union l) c) ∙ e)) in
          ap not (eq-false_of_not-eq-true (λ (t : is_cube l c ≡ true). omega (arith, within-le c (union l) (is_cube-within l c t))))

  fold-tried : (k : List ℕ) (b : paper.Best) → foldl (tried l) b k ≡ foldl (better (cube_saving cleanup l)) b (keep (is_cube l) k)
  unfolding tried keep
  fold-tried [] b = refl
  fold-tried (c ∷ k) b = fold-tried k (tried l b c) ∙ go (is_cube l c)
    where
      f : ℕ → ℕ
      f = cube_saving cleanup l

      rest : List ℕ
      rest = keep (is_cube l) k

      go : (t : Bool) → foldl (better f) (elim t as (λ _. paper.Best) [ true ↦ better f b c | false ↦ b ]) rest
          ≡ foldl (better f) b (elim t as (λ _. List ℕ) [ true ↦ c ∷ rest | false ↦ rest ])
      go true = refl
      go false = refl

pub record Searching (l : List ℕ) (b : Option Best) (k : List ℕ) : Type 0 where
  pub inside : (c : ℕ) → mem c k ≡ true → (0 < c) × (c < mask_count)
  pub best : (foldl (tried l) (best_of b) k).mask ≡ best_cube cleanup l
  pub known : IfSome b (Known l)

pub search-start : (f : Form) (k : List ℕ) → k ≡ keep (twice (masks f)) (from 1 (mask_count - 1)) → Searching (masks f) None k
unfolding best_cube greatest
search-start f k e =
    let l = masks f in
    let none : paper.Best = record { mask = 0; saving = 0 } in
    record {
      inside = λ c h. range c (ap (mem c) (sym e) ∙ h);
      best =
          ap (λ (x : List ℕ). (foldl (tried l) none x).mask) e
          ∙ ap (λ (b : paper.Best). b.mask)
          (fold-tried l (keep (twice l) (from 1 63)) none ∙ ap (foldl (better (cube_saving cleanup l)) none) (cubes-shared l (flags-below f)));
      known = tt;
    }
  where
    range : (c : ℕ) → mem c (keep (twice (masks f)) (from 1 63)) ≡ true → (0 < c) × (c < mask_count)
    range c h =
        let here = sym (mem-from 1 63 c) ∙ and-true-l (mem c (from 1 63)) _ (sym (mem-keep (twice (masks f)) (from 1 63) c) ∙ h) in
        (leb-true 1 c (and-true-l (leb 1 c) _ here), ltb-true c 64 (and_true_r (leb 1 c) _ here))

-- the next mask m, before those of q
module _ (l : List ℕ) (b : Option Best) (k : List ℕ) (m : ℕ) (q : List ℕ) (e : k ≡ m ∷ q) (s : Searching l b k) where
  pub search-mask : (0 < m) × (m < mask_count)
  search-mask = s.inside m (ap (mem m) e ∙ mem-head m q)

  turned : (o : Option Best) → best_of o ≡ tried l (best_of b) m → IfSome o (Known l) → Searching l o q
  turned o t h = record {
    inside = λ c h. s.inside c (ap (mem c) e ∙ mem-tail m q c h);
    best =
        ap (λ (x : paper.Best). (foldl (tried l) x q).mask) t
        ∙ ap (λ (x : List ℕ). (foldl (tried l) (best_of b) x).mask) (sym e) ∙ s.best;
    known = h;
  }

  pub search-kept : (is_cube l m ≡ true → cube_saving cleanup l m ≤ (best_of b).saving) → Searching l b q
  search-kept h = turned b (go (is_cube l m) refl) s.known
    where
      go : (t : Bool) → is_cube l m ≡ t → best_of b ≡ tried l (best_of b) m
      go true e = sym (by_saving l (best_of b) m _ e refl false (le-ltb (best_of b).saving _ (h e)))
      go false e = sym (by_test l (best_of b) m false e)

  pub search-more : (d : Best) → (d.cube.mask.bits ≡ m) × ((best_of b).saving < d.saving) × Known l d → Searching l (Some d) q
  search-more d (i, h, k) =
      turned (Some d)
      (sym (by_saving l (best_of b) d.cube.mask.bits d.saving k.test k.saving true (lt-ltb (best_of b).saving d.saving h))
      ∙ ap (tried l (best_of b)) i) k

pub search-done : (l : List ℕ) (b : Option Best) (k : List ℕ) → k ≡ [] → Searching l b k → Chosen l b
search-done l b k e s = go b s.known (ap (λ (x : List ℕ). (foldl (tried l) (best_of b) x).mask) (sym e) ∙ s.best)
  where
    go : (o : Option Best) → IfSome o (Known l) → (best_of o).mask ≡ best_cube cleanup l → Chosen l o
    go (Some d) k h = record { best = h; known = k }
    go None k h = sym h
