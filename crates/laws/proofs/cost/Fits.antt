-- What the compiler writes for a table of up to six flags keeps document 01's limits: 385 records and 963 bytes. It rests on the size of the cleaned
-- form (Size), its flags (Mentions), the bytes of a tree (Bytes) and on forms ascending (Covered).
--   below-form                           == the masks of a form of n flags are below 2^n
--   size-compiled, cost-compiled         == the size and the cost are at most the raw cost
--   flags-compiled                       == only the table's flags are mentioned
--   raw-compiled, records-compiled       == up to six flags, the raw cost and the number of records are at most 385
--   length-compiled                      == there are at most 963 bytes
use mathlib.Core.Bool.{Bool}
use mathlib.Core.List.{List}
use Prim.Native.Nat.{ℕ, ◌^◌, ◌≤◌}
use native.Mathlib.Nat.{le_trans}
use lib.ListN.{length}
use Rattle.bits.specs.Range.{upto, Ascending, Below}
use Rattle.bits.proofs.Ascending.{below-keep, below-upto}
use Rattle.rules.specs.Calls.{table_form, compiled}
use Rattle.rules.specs.Coefficient.{coefficient}
use Rattle.rules.specs.Form.{raw_cost}
use Rattle.rules.specs.Limits.{rule_flags, record_limit, byte_limit}
use Rattle.rules.specs.Monomial.{form}
use Rattle.rules.specs.Table.{entry}
use Rattle.rules.specs.Tree.{cost, size, write, FlagsBelow}
use Rattle.laws.proofs.cost.Bytes.{byte-limit}
use Rattle.laws.proofs.form.Covered.{ascending-form}
use Rattle.laws.proofs.cost.Mentions.{flags-cleanup}
use Rattle.laws.proofs.cost.Size.{size-cleanup, cost-cleanup, raw_cost-limit}

pub below-form : (n : ℕ) (c : ℕ → Bool) → Below (2 ^ n) (form n c)
unfolding form
below-form n c = below-keep (2 ^ n) c (upto (2 ^ n)) (below-upto (2 ^ n))

module _ (n : ℕ) (table : List ℕ) where
  ascending : Ascending (table_form n table)
  unfolding table_form
  ascending = ascending-form n (coefficient n (entry table))

  below : Below (2 ^ n) (table_form n table)
  unfolding table_form
  below = below-form n (coefficient n (entry table))

  pub size-compiled : size (compiled n table) ≤ raw_cost (table_form n table)
  unfolding compiled
  size-compiled = size-cleanup (table_form n table) ascending

  pub cost-compiled : cost (compiled n table) ≤ raw_cost (table_form n table)
  unfolding compiled
  cost-compiled = cost-cleanup (table_form n table) ascending

  pub flags-compiled : FlagsBelow n (compiled n table)
  unfolding compiled
  flags-compiled = flags-cleanup n (table_form n table) ascending below

  module _ (h : n ≤ rule_flags) where
    pub raw-compiled : raw_cost (table_form n table) ≤ record_limit
    raw-compiled = raw_cost-limit n (table_form n table) h ascending below

    pub records-compiled : size (compiled n table) ≤ record_limit
    records-compiled = le_trans size-compiled raw-compiled

    pub length-compiled : length (write (compiled n table)) ≤ byte_limit
    length-compiled = byte-limit (compiled n table) records-compiled
