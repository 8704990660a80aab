-- One recorded rule, compared step by step. It rests on the definitions of specs/Rule.
--   raw_costing-said   == what raw costing told of the word that the transform left
--   agree-short       == an expression longer than the buffer does not agree
--   agree-said        == where it fits, the three calls' comparisons with the recorded numbers decide
use mathlib.Core.Bool.{Bool, false, ◌&&◌}
use mathlib.Core.List.{List, [], ◌∷◌}
use mathlib.Core.Path.{◌≡◌, ap, ◌∙◌}
use Prim.Native.Nat.{ℕ, ◌≤◌, ◌<◌}
use lib.ListN.{length, take, replicate}
use borrow.Author.Tests.{le-leb, lt-leb}
use Rattle.rules.specs.Calls.{compile, examine, transform, raw_costing}
use Rattle.rules.specs.Limits.{byte_limit}
use Rattle.rules.specs.Outcome as result
use Rattle.rules.specs.Outcome.{left}
use Rattle.comparison.specs.Called.{comes_to}
use Rattle.comparison.specs.Outcome.{results, same_outcome}
use Rattle.comparison.specs.declared.outcome.Outcome.{Outcome}
use Rattle.recorded.specs.Numbers.{pair_at}
use Rattle.recorded.specs.Pattern.{byte}
use Rattle.recorded.specs.Results.{number_of}
use Rattle.recorded_rules.specs.Answers.{compiled_of, bytes_after}
use Rattle.recorded_rules.specs.Rule.{table_raw_costing, agree}

pub raw_costing-said : (n : ℕ) (t : List ℕ) {ws : List ℕ} {o : result.Outcome ℕ} →
    ws ≡ left (0 ∷ []) (transform n t 1) → o ≡ raw_costing n ws → o ≡ table_raw_costing n t
unfolding table_raw_costing
raw_costing-said n t e f = f ∙ ap (raw_costing n) e

module _ (n : ℕ) (t a l : List ℕ) (k : ℕ) where
  pub agree-short : length l < k → agree n t a l k ≡ false
  unfolding agree
  agree-short h = rw (lt-leb k (length l) h)

  pub agree-said : {cost raw records : ℕ} {e : Outcome} {c d r : Bool} →
      k ≤ length l → cost ≡ pair_at a 0 → raw ≡ pair_at a 2 → records ≡ pair_at a 4 → e ≡ results cost raw records k →
      c ≡ comes_to compiled_of bytes_after (compile n t byte_limit) (replicate byte_limit byte) e l →
      d ≡ same_outcome (number_of (examine n t (take k l))) (results cost 0 0 0) →
      r ≡ same_outcome (number_of (table_raw_costing n t)) (results raw 0 0 0) → (c && d && r) ≡ agree n t a l k
  unfolding agree
  agree-said h p q s e f g i = rw (le-leb k (length l) h, f, g, i, e, p, q, s)
