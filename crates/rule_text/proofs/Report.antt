-- The three lines of a rule: they are document 01's report, and they fit a page. It rests on the lengths of numbers (text, Decimal) and of records
-- (RecordList), and on the limits of what the compiler writes (laws, Fits).
--   length-lines     == the lines fit a page
--   length-printed   == so of what can be printed
--   report-lines     == the report of a table is the lines of what the compiler writes for it
--   made-compiled    == what the compiler writes is read back as its tree
--   printable        == what the compiler writes for a table of up to six flags can be printed
--   compile-gives    == the compiler does not refuse a complete table of up to six flags and 963 bytes of room
use mathlib.Core.List.{List, append_assoc}
use mathlib.Core.Path.{◌≡◌, ap}
use Prim.Native.Nat.{ℕ, ◌^◌, ◌≤◌, ◌<◌}
use native.Mathlib.Omega.{arith}
use lib.ListN.{length, length-append}
use borrow.Author.Tests.{le-ltb, le-leb}
use Rattle.rules.specs.Calls.{table_form, compiled, with_table, with_room, compilation, compile}
use Rattle.rules.specs.Form.{raw_cost}
use Rattle.rules.specs.Limits.{rule_flags, byte_limit}
use Rattle.rules.specs.Machine.{made, WellFormed}
use Rattle.rules.specs.Outcome.{gives}
use Rattle.rules.specs.Text.{records, report}
use Rattle.rules.specs.Tree.{cost, write}
use Rattle.laws.proofs.cost.Fits.{cost-compiled, flags-compiled, raw-compiled, records-compiled, length-compiled}
use Rattle.laws.proofs.reading.ReadBack.{made-write}
use Rattle.rules.specs.Ascii.{ascii}
use Rattle.text.specs.Page.{page_bytes}
use Rattle.text.proofs.Decimal.{length-decimal}
use Rattle.rule_text.specs.inner.Parts.{shown, lines, text_limit, Printable}
use Rattle.rule_text.proofs.RecordList.{length-records}

pub length-lines : (n : ℕ) (l : List ℕ) (c r : ℕ) → n < 1000 → length l ≤ text_limit → c < 1000 → r < 1000 → length (lines n l c r) ≤ page_bytes
unfolding lines ascii
length-lines n l c r a b e f = simp length-append (omega (arith, length-decimal 2 n a, length-decimal 2 c e, length-decimal 2 r f))

pub length-printed : {n c r : ℕ} {s : List ℕ} → Printable n s c r → length (lines n (shown (made n s)) c r) ≤ page_bytes
length-printed {n} {c} {r} {s} p = length-lines n (shown (made n s)) c r (omega (arith, p.flags)) p.records p.costs.0 p.costs.1

module _ (n : ℕ) (table : List ℕ) where
  pub report-lines : report n table ≡ lines n (records (compiled n table)) (cost (compiled n table)) (raw_cost (table_form n table))
  unfolding report lines
  report-lines = simp append_assoc

  module _ (h : n ≤ rule_flags) where
    pub made-compiled : made n (write (compiled n table)) ≡ gives (compiled n table)
    made-compiled = made-write n (compiled n table) (flags-compiled n table) (records-compiled n table h)

    pub printable : Printable n (write (compiled n table)) (cost (compiled n table)) (raw_cost (table_form n table))
    unfolding WellFormed
    printable =
        let text : length (shown (made n (write (compiled n table)))) ≡ length (records (compiled n table)) =
        ap (λ o. length (shown o)) made-compiled in
        record {
          flags = h;
          expression = (compiled n table, made-compiled);
          records = omega (arith, length-records (compiled n table), length-compiled n table h, records-compiled n table h);
          costs = omega (arith, cost-compiled n table, raw-compiled n table h);
        }

    pub compile-gives : 2 ^ n ≤ length table → compile n table byte_limit ≡ gives (compilation (compiled n table) (table_form n table))
    unfolding compile with_table with_room
    compile-gives g =
        rw (le-ltb rule_flags n h, le-leb (2 ^ n) (length table) g, le-ltb byte_limit (length (write (compiled n table))) (length-compiled n table h))
