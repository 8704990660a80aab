-- The calls that lend a part of 128 entries. It rests on the definitions of specs/Answers and on parts of lists (recorded, Part).
--   examined-past, raw-past   == more entries than there are
--   examined-said             == what the examiner told of the lent part of a table
--   raw-said                  == what raw costing told of the lent words, of which the first was set
use mathlib.Core.List.{List, map}
use mathlib.Core.Path.{◌≡◌, ap, ◌∙◌}
use Prim.Native.Nat.{ℕ, ◌-◌, ◌^◌, ◌≤◌, ◌<◌}
use lib.ListN.{take, set, replicate}
use borrow.Author.Tests.{le-leb, lt-leb}
use Rattle.bits.specs.Range.{upto}
use Rattle.rules.specs.Calls.{examine, raw_costing}
use Rattle.comparison.specs.declared.outcome.Outcome.{Outcome}
use Rattle.comparison.specs.declared.outcome.Outcome.TheVariants.{Damaged}
use Rattle.recorded.specs.Noise.{noisy}
use Rattle.recorded.specs.Numbers.{word_at}
use Rattle.recorded.specs.Results.{number_of}
use Rattle.recorded.proofs.Part.{part-tabulated}
use Rattle.recorded_calls.specs.Answers.{within, examined, raw_costed}

within-past : (k : ℕ) (o : Outcome) → 128 < k → Damaged ≡ within k o
unfolding within
within-past k o h = rw (lt-leb k 128 h, within)

within-said : (k : ℕ) (o : Outcome) → k ≤ 128 → o ≡ within k o
unfolding within
within-said k o h = rw (le-leb k 128 h, within)

module _ (n k : ℕ) (b : List ℕ) where
  pub examined-past : (s : List ℕ) → 128 < k → Damaged ≡ examined n k b s
  unfolding examined
  examined-past s h = within-past k _ h

  pub raw-past : 128 < k → Damaged ≡ raw_costed n k b
  unfolding raw_costed
  raw-past h = within-past k _ h

  pub examined-said : (s : List ℕ) {t : List ℕ} {r : Outcome} → k ≤ 128 → t ≡ map (noisy b) (upto 128) →
      r ≡ number_of (examine n (take k t) s) → r ≡ examined n k b s
  unfolding examined
  examined-said s h e f = f ∙ ap (λ (l : List ℕ). number_of (examine n l s)) (part-tabulated h (noisy b) e) ∙ within-said k _ h

  pub raw-said : {w : ℕ} {r : Outcome} → k ≤ 128 → w ≡ word_at b 0 →
      r ≡ number_of (raw_costing n (take k (set (replicate 128 (2 ^ 64 - 1)) 0 w))) → r ≡ raw_costed n k b
  unfolding raw_costed
  raw-said {w} h e f =
      f ∙ ap (λ (v : ℕ). number_of (raw_costing n (take k (set (replicate 128 (2 ^ 64 - 1)) 0 v)))) e ∙ within-said k _ h
