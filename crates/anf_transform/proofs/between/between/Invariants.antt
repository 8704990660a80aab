-- `anf_transform::between::between` meets its contract.
-- The loop's invariant: words that held the XOR over subsets for the six lowest flags hold it for the flags done too.
use Rattle.std.proofs.Common.{◌≡◌, ℕ, ◌+◌, length}
use mathlib.Core.Bool.{Bool}
use Rattle.anf_transform.specs.inner.Flag.{lowest, Holds}
use Rattle.anf_transform.proofs.between.between.Given as goal

abbrev pub invariant-loop-j : goal.invariant-loop-j
invariant-loop-j l =
    (length l.words ≡ length l.initial.words) × ((f : ℕ → Bool) → Holds (lowest 6 f) l.initial.words → Holds (lowest (6 + l.j) f) l.words)
