-- The call that a case's head asks. It rests on the definition of `case_of`.
--   asked-short   == a head that is cut short
--   asked         == a whole head, whose call has that number
--   asked-other   == a whole head, whose call has no number of these
use mathlib.Core.List.{List}
use mathlib.Core.Path.{◌≡◌, refl, sym, ap, ◌∙◌}
use Prim.Native.Nat.{ℕ, zero, suc, ◌≤◌, ◌<◌}
use native.Mathlib.Omega.{arith}
use lib.ListN.{length, get_or, get_or-eq_default}
use borrow.Author.Tests.{le-leb, lt-leb}
use Rattle.comparison.specs.declared.outcome.Outcome.{Outcome}
use Rattle.comparison.specs.declared.outcome.Outcome.TheVariants.{Damaged}
use Rattle.recorded_expressions.specs.Cases.{answers, case_of}

module _ (h a b : List ℕ) where
  pub asked-short : length h < 38 → Damaged ≡ case_of h a b
  unfolding case_of
  asked-short l = rw (lt-leb 38 (length h) l, case_of)

  pub asked : 38 ≤ length h → (i : ℕ) {r : Outcome} → get_or h 0 0 ≡ i → r ≡ get_or (answers h a b) i Damaged → r ≡ case_of h a b
  unfolding case_of
  asked l i e f = f ∙ ap (λ (k : ℕ). get_or (answers h a b) k Damaged) (sym e) ∙ rw (le-leb 38 (length h) l, case_of)

  no_call : (i : ℕ) → (0 < i → 6 ≤ i) → Damaged ≡ get_or (answers h a b) i Damaged
  unfolding answers
  no_call zero k = refl
  no_call (suc i) k = sym (get_or-eq_default (answers h a b) Damaged (k (omega arith)))

  pub asked-other : 38 ≤ length h → (0 < get_or h 0 0 → 6 ≤ get_or h 0 0) → Damaged ≡ case_of h a b
  asked-other l k = asked l (get_or h 0 0) refl (no_call (get_or h 0 0) k)
