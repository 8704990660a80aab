-- The examiner accepts what the compiler writes, and gives its cost. It rests on the examiner's conditions (Accepts), the value of what is compiled
-- (Compiled) and its limits (Fits).
--   written-accepted   == the bytes of a tree of the table's values, small and cheap enough, are accepted
--   compiled-accepted  == so are those of the compiled tree
--   compile-accepted   == and what the compiler's call gives, with the cost that it says
use mathlib.Core.Bool.{true, not}
use mathlib.Core.List.{List}
use mathlib.Core.Path.{◌≡◌, refl, subst}
use Prim.Native.Nat.{ℕ, ◌^◌, ◌≤◌, ◌<◌}
use native.Mathlib.Omega.{arith}
use lib.Dec.{ltb}
use lib.ListN.{length}
use borrow.Author.Tests.{ltb-false, not-false}
use Rattle.rules.specs.Calls.{with_table, with_room, table_form, compiled, Compilation, compilation, compile, examine}
use Rattle.rules.specs.Form.{raw_cost}
use Rattle.rules.specs.Limits.{rule_flags, record_limit}
use Rattle.rules.specs.Outcome.{gives}
use Rattle.rules.specs.Table.{entry, complete}
use Rattle.rules.specs.Tree.{Tree, value, cost, size, write, FlagsBelow}
use Rattle.laws.proofs.acceptance.Accepts.{meets-examine}
use Rattle.laws.proofs.value.Compiled.{compiled-table}
use Rattle.laws.proofs.cost.Cost.{cost-raw_form}
use Rattle.laws.proofs.cost.Fits.{cost-compiled, flags-compiled, records-compiled}
use Rattle.laws.proofs.calls.Outcome.{gives_same, refuse-gives}

pub written-accepted : (n : ℕ) (table : List ℕ) (t : Tree) → n ≤ rule_flags → complete n table ≡ true
    → ((at : ℕ) → at < 2 ^ n → value t at ≡ entry table at) → cost t ≤ raw_cost (table_form n table) → size t ≤ record_limit → FlagsBelow n t
    → examine n table (write t) ≡ gives (cost t)
written-accepted n table t f h v c z b = meets-examine n table (write t) (cost t) f h record {
  tree = t;
  formed = record { bytes = refl; records = z; flags = b };
  agrees = v;
  cheap = omega (arith, c, cost-raw_form (table_form n table));
  costs = refl;
}

pub compiled-accepted : (n : ℕ) (table : List ℕ) → n ≤ rule_flags → complete n table ≡ true
    → examine n table (write (compiled n table)) ≡ gives (cost (compiled n table))
compiled-accepted n table f h =
    written-accepted n table (compiled n table) f h (compiled-table n table) (cost-compiled n table)
    (records-compiled n table f) (flags-compiled n table)

pub compile-accepted : (n : ℕ) (table : List ℕ) (room : ℕ) (c : Compilation) → compile n table room ≡ gives c
    → examine n table c.bytes ≡ gives c.cost
unfolding compile with_table with_room compilation
compile-accepted n table room c e =
    let p = refuse-gives (ltb rule_flags n) _ _ _ c e in
    let q = refuse-gives (not (complete n table)) _ _ _ c p.1 in
    let r = refuse-gives (ltb room (length (write (compiled n table)))) _ _ _ c q.1 in
    subst (λ (d : Compilation). examine n table d.bytes ≡ gives d.cost) (gives_same r.1)
    (compiled-accepted n table (ltb-false rule_flags n p.0) (not-false (complete n table) q.0))
