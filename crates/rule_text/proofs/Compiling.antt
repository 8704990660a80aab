-- What the compiler's answer for a complete table of up to six flags tells of the page.
-- It rests on the compiler's contract, and on what the compiler writes being printable (Report).
--   Answered n table after r     == r is the compiler's answer for the table, and after what its 963 bytes of room then hold
--   never-refused                == the compiler does not refuse
--   count-told                   == what it wrote is within the room
--   printable-told               == what it wrote can be printed
--   report-told                  == the lines of what it wrote are the report of the table
use mathlib.Core.List.{List}
use mathlib.Core.Path.{◌≡◌, sym, ap, ◌∙◌}
use Prim.Native.Nat.{ℕ, ◌^◌, ◌≤◌}
use native.Mathlib.Omega.{arith}
use lib.ListN.{length, get_or, take}
use lib.Seq.{length-take-le, get_or-take}
use Rattle.bits.proofs.Tabulated.{length-map-upto, map-upto-of}
use Rattle.rules.specs.Calls as Calls
use Rattle.rules.specs.Calls.{table_form, compiled, compilation, compile}
use Rattle.rules.specs.Form.{raw_cost}
use Rattle.rules.specs.Limits.{rule_flags, byte_limit}
use Rattle.rules.specs.Machine.{made}
use Rattle.rules.specs.Outcome.{gives}
use Rattle.rules.specs.Text.{report}
use Rattle.rules.specs.Tree.{cost, write}
use Rattle.rules.specs.declared.flags.Flags.{Flags}
use Rattle.rules.specs.declared.refusal.Refusal.{Refusal}
use Rattle.text.specs.TableDigits.{values}
use Rattle.text.proofs.TableDigits.{length-values}
use Rattle.laws.proofs.cost.Fits.{length-compiled}
use Rattle.laws.proofs.calls.Outcome.{gives_same}
use Rattle.rules.specs.Outcome.{front}
use Rattle.compiler.specs.Answers.{compilation_of}
use Rattle.std.specs.Prelude.{Result, Ok, Err}
use Rattle.compiler.specs.declared.Expression.{Expression}
use Rattle.rule_text.specs.inner.Parts.{shown, lines, Printable}
use Rattle.rule_text.proofs.Report.{report-lines, made-compiled, printable, compile-gives}

front-take : (k : ℕ) (l : List ℕ) → k ≤ length l → take k l ≡ front k l
front-take k l h = map-upto-of k (λ i. get_or l i 0) (take k l) (length-take-le k l h) (λ i g. get_or-take k l i 0 g)

pub record Answered (n : ℕ) (table after : List ℕ) (r : Result Expression Refusal) : Type 0 where
  pub flags : n ≤ rule_flags
  pub complete : 2 ^ n ≤ length table
  pub room : length after ≡ byte_limit
  pub told : compilation_of after r ≡ compile n table byte_limit

pub answered : (f : Flags 6) (digits entries after : List ℕ) (r : Result Expression Refusal) → length digits ≡ 2 ^ f.count → entries ≡ values digits
    → length after ≡ byte_limit → compilation_of after r ≡ compile f.count entries byte_limit → Answered f.count (values digits) after r
answered f digits entries after r complete e room told = record {
  flags = f.within;
  complete = omega (arith, length-values digits);
  room = room;
  told = told ∙ ap (λ (l : List ℕ). compile f.count l byte_limit) e;
}

module _ {n : ℕ} {table after : List ℕ} {r : Result Expression Refusal} (a : Answered n table after r) where
  gave : compilation_of after r ≡ gives (compilation (compiled n table) (table_form n table))
  gave = a.told ∙ compile-gives n table a.flags a.complete

  pub never-refused : (x : Refusal) → r ≡ Err x → ⊥
  never-refused x q =
      let f = sym (ap (compilation_of after) q) ∙ gave in
      let z : ◌≡◌ {A = ℕ} 0 1 = cc in
      omega arith

  module _ (x : Expression) (q : r ≡ Ok x) where
    parts : record { bytes = front x.bytes after; records = x.records; cost = x.cost; raw = x.raw }
        ≡ compilation (compiled n table) (table_form n table)
    parts = gives_same (sym (ap (compilation_of after) q) ∙ gave)

    cost-told : x.cost ≡ cost (compiled n table)
    unfolding compilation
    cost-told = ap (λ (c : Calls.Compilation). c.cost) parts

    raw-told : x.raw ≡ raw_cost (table_form n table)
    unfolding compilation
    raw-told = ap (λ (c : Calls.Compilation). c.raw) parts

    written : front x.bytes after ≡ write (compiled n table)
    unfolding compilation
    written = ap (λ (c : Calls.Compilation). c.bytes) parts

    pub count-told : x.bytes ≤ length after
    count-told =
        omega (arith, ap length written, length-map-upto x.bytes (λ i. get_or after i 0), length-compiled n table a.flags, a.room)

    bytes-told : take x.bytes after ≡ write (compiled n table)
    bytes-told = front-take x.bytes after count-told ∙ written

    pub printable-told : Printable n (take x.bytes after) x.cost x.raw
    printable-told = rw (bytes-told, cost-told, raw-told) (printable n table a.flags)

    pub report-told : lines n (shown (made n (take x.bytes after))) x.cost x.raw ≡ report n table
    report-told = rw (bytes-told, cost-told, raw-told, made-compiled n table a.flags) (sym (report-lines n table))
