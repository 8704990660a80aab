-- `search::best_family` meets its contract: each turn takes the lowest mask that is left, and the choice from all is the best family (Partial).
use mathlib.Core.List.{[], foldl}
use mathlib.Core.Path.{◌≡◌, refl, sym, ap, ◌∙◌}
use Prim.Native.Nat.{ℕ, ◌%◌}
use native.Mathlib.Omega.{arith}
use lib.Bits.{bit_and}
use lib.Dec.{lit<}
use Rattle.bits.specs.Range.{mem}
use Rattle.bits.specs.Word.{places}
use Rattle.bits.proofs.Range.{mem-head, mem-tail}
use Rattle.bits.proofs.Sets.{without_zero, without_zero-even}
use Rattle.rules.specs.Cleanup.{is_partial, best_family, singles}
use Rattle.mask_words.specs.Lookup.{subset_word}
use Rattle.mask_words.specs.declared.ones.Ones.{Ones}
use Rattle.mask_words.proofs.Yielded.{yielded-lt}
use Rattle.form.proofs.WordOperations.{monomials-same}
use Rattle.search.specs.Family.{positive}
use Rattle.search.specs.Inner.{best_of, chosen}
use Rattle.search.proofs.Partial.{best_family-chosen, candidate-some}
use Rattle.search.proofs.Positive.{family-positive}
use Rattle.search.proofs.best_family.Invariants.{choice}
use Rattle.search.proofs.best_family.Goals as goal

pub loop-mask-init : goal.loop-mask-init
loop-mask-init c =
    let start = c.into_iter-mask-iterator.ensures.into_iter_gives ∙ c.of-mask-items.ensures in
    let same = monomials-same _ _ (omega arith) c.monomials-monomials.ensures (omega arith) in (
      tt,
      tt,
      λ m h. candidate-some c.args.form.word _ m
          (ap (λ (v : ℕ). mem m (places 64 (bit_and v c.subsets.result))) (sym same) ∙ ap (λ (o : Ones). mem m (places 64 o.left)) (sym start) ∙ h),
      refl,
    )

pub of-requires : goal.of-requires
of-requires c =
    let first = c.in-Some.ensures.steps in
    (c.loop-mask.invariant.2 _ (ap (mem _) first ∙ mem-head _ _), yielded-lt _ _ _ first)

pub better_family-best-requires : goal.better_family-best-requires
better_family-best-requires c =
    let same = monomials-same _ _ (omega arith) c.monomials-monomials.ensures (omega arith) in
    ap (λ (v : ℕ). v % 2) same ∙ without_zero-even 64 c.args.form.word (lit< tt)

pub loop-mask-preserved : goal.loop-mask-preserved
loop-mask-preserved c =
    let f = foldl (chosen (is_partial (places 64 c.monomials-monomials.result.word))) in
    let (can, ends, some, same) = c.loop-mask.invariant in
    let first = c.in-Some.ensures.steps in (
      tt,
      tt,
      λ m h. some m (ap (mem m) first ∙ mem-tail _ _ m h),
      ap (λ (b : ℕ). f b (places 64 c.next.new.self.left))
          (c.better_family-best.ensures ∙ ap (chosen _ (best_of c.loop-mask.best)) c.of.ensures)
          ∙ sym (ap (f (best_of c.loop-mask.best)) first) ∙ same,
    )

-- no mask is left, and the walk began with the monomials within the single flags u
found : (w v b left : ℕ) (start : Ones) (u s : ℕ) → v ≡ without_zero 64 w → places 64 left ≡ [] → choice v b left ≡ choice v 0 start.left
    → start ≡ record { left = bit_and v s } → s ≡ subset_word u → u ≡ singles (places 64 w) → b ≡ best_family (places 64 w)
found w monomials b left start u s same done h e r q =
    sym (ap (foldl (chosen (is_partial (places 64 monomials))) b) done) ∙ h ∙ ap (λ (o : Ones). choice monomials 0 o.left) e
    ∙ ap (λ (x : ℕ). choice monomials 0 (bit_and monomials x)) (r ∙ ap subset_word q)
    ∙ ap (λ (v : ℕ). choice v 0 (bit_and v (subset_word (singles (places 64 w))))) same ∙ best_family-chosen w

pub returns : goal.returns
returns c =
    family-positive c.loop-mask.best
    ∙ ap positive
    (found c.args.form.word c.monomials-monomials.result.word _ _ _ _ _
    (monomials-same _ _ (omega arith) c.monomials-monomials.ensures (omega arith)) c.in-None.ensures.steps.0 c.loop-mask.invariant.3
    (c.into_iter-mask-iterator.ensures.into_iter_gives ∙ c.of-mask-items.ensures) c.subsets.ensures c.singles.ensures)
