-- The outcomes of document 01's calls in the numbers that the files have for them, and the calls as the program asks them.
--   numbers_of c         == costs in numbers: cost, size and depth
--   costed_of o           == of costing
--   within k o           == o, where at most 128 entries are lent
--   examined n k b s     == the examination of the bytes s against a table of k entries whose lowest bits are those of b
--   raw_costed n k b      == raw costing of k words, of which the first is b's and the others are full
--   chosen n a b         == the cheaper of a and b: 0 for none, 1 for a, 2 for b
--   sized s d            == a size and a depth; what they cost makes no difference
--   preferred h          == of the two sizes and depths in h the second is smaller, as 0 or 1
use Rattle.std.specs.Prelude.{true, false, List, [], ◌∷◌, map, ℕ, ◌-◌, ◌^◌, leb, take, replicate}
use Rattle.bits.specs.Bit.{digit}
use Rattle.bits.specs.Range.{upto}
use Rattle.rules.specs.Calls.{Costs, parse, cheaper_of, examine, raw_costing}
use Rattle.rules.specs.Outcome as result
use Rattle.cheaper.specs.Better.{better}
use Rattle.comparison.specs.Outcome as outcomes
use Rattle.comparison.specs.Outcome.{results}
use Rattle.comparison.specs.declared.outcome.Outcome.{Outcome}
use Rattle.comparison.specs.declared.outcome.Outcome.TheVariants.{Damaged}
use Rattle.recorded.specs.Noise.{noisy}
use Rattle.recorded.specs.Numbers.{half_at, word_at}
use Rattle.recorded.specs.Results.{number_of}

abbrev pub numbers_of : Costs → List ℕ
numbers_of c = c.cost ∷ c.size ∷ c.depth ∷ 0 ∷ []

abbrev pub costed_of : result.Outcome Costs → Outcome
costed_of = outcomes.numbers_of numbers_of

unfoldable pub within : ℕ → Outcome → Outcome
within k o = elim (leb k 128) [ true ↦ o | false ↦ Damaged ]

unfoldable pub examined : ℕ → ℕ → List ℕ → List ℕ → Outcome
examined n k b s = within k (number_of (examine n (map (noisy b) (upto k)) s))

unfoldable pub raw_costed : ℕ → ℕ → List ℕ → Outcome
raw_costed n k b = within k (number_of (raw_costing n (take k (word_at b 0 ∷ replicate 127 (2 ^ 64 - 1)))))

unfoldable pub chosen : ℕ → List ℕ → List ℕ → Outcome
chosen n a b = results (cheaper_of 0 1 2 (parse n a) (parse n b)) 0 0 0

abbrev pub sized : ℕ → ℕ → Costs
sized s d = record { cost = 0; size = s; depth = d }

unfoldable pub preferred : List ℕ → Outcome
preferred h = results (digit (better (sized (half_at h 8) (half_at h 12)) (sized (half_at h 0) (half_at h 4)))) 0 0 0
