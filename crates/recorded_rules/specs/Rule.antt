-- One recorded rule on paper.
--   table_raw_costing n t   == raw costing of what the transform of the table t leaves in a buffer of one word, which held 0
--   agree n t a l k         == of the table t of n flags the compiler gives the three numbers that the bytes a have and k bytes, and leaves
--                              byte_limit bytes that held the pattern as l; the examiner accepts the first k bytes of l at that cost; and raw
--                              costing of what the transform makes of t gives the raw cost
use Rattle.std.specs.Prelude.{Bool, ◌&&◌, List, [], ◌∷◌, ℕ, leb, length, take, replicate}
use Rattle.rules.specs.Calls.{compile, examine, transform, raw_costing}
use Rattle.rules.specs.Limits.{byte_limit}
use Rattle.rules.specs.Outcome as result
use Rattle.rules.specs.Outcome.{left}
use Rattle.comparison.specs.Called.{comes_to}
use Rattle.comparison.specs.Outcome.{results, same_outcome}
use Rattle.recorded.specs.Numbers.{pair_at}
use Rattle.recorded.specs.Pattern.{byte}
use Rattle.recorded.specs.Results.{number_of}
use Rattle.recorded_rules.specs.Answers.{compiled_of, bytes_after}

unfoldable pub table_raw_costing : ℕ → List ℕ → result.Outcome ℕ
table_raw_costing n t = raw_costing n (left (0 ∷ []) (transform n t 1))

unfoldable pub agree : ℕ → List ℕ → List ℕ → List ℕ → ℕ → Bool
agree n t a l k =
    leb k (length l)
    && (comes_to compiled_of bytes_after (compile n t byte_limit) (replicate byte_limit byte) (results (pair_at a 0) (pair_at a 2) (pair_at a 4) k) l
    && same_outcome (number_of (examine n t (take k l))) (results (pair_at a 0) 0 0 0)
    && same_outcome (number_of (table_raw_costing n t)) (results (pair_at a 2) 0 0 0))
