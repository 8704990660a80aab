-- The third demand of the mission, in the demand's own words and order, of whatever keeps the contracts of `compiler::build_anf_expr` and
-- `examiner::examine`. It rests on when the examiner accepts and that it accepts what is compiled (laws, acceptance), on the limit of bytes
-- (laws, Fits) and on answers being told by their meanings (Injective of both crates).
--   expression n table           == the expression that document 01's cleanup gives for the table
--   counts n table               == its counts and costs, as the compiler returns them
--   Compiles n table out after r == the contract of the compiler, for a buffer that held `out` and then holds `after`, and the answer r
--   Examines n table s r         == the contract of the examiner, for the answer r
--   ThirdDemand n table          == what the demand says of a table
--   third-demand                 == it holds of every complete table of at most six flags
use mathlib.Core.Bool.{true}
use mathlib.Core.List.{List}
use mathlib.Core.Logic.{◌↔◌}
use mathlib.Core.Path.{◌≡◌, sym, ap, ◌∙◌}
use Prim.Native.Nat.{ℕ, ◌^◌, ◌≤◌}
use native.Mathlib.Omega.{arith}
use lib.ListN.{length}
use Rattle.std.specs.Prelude.{Result, Ok}
use borrow.Author.Tests.{leb-true}
use Rattle.bits.specs.Range.{Below}
use Rattle.rules.specs.Calls as paper
use Rattle.rules.specs.Cleanup.{cleanup}
use Rattle.rules.specs.Form.{raw_form}
use Rattle.rules.specs.Limits.{rule_flags, byte_limit}
use Rattle.rules.specs.Outcome.{Outcome, gives, written, front, left}
use Rattle.rules.specs.Table.{complete}
use Rattle.rules.specs.Tree.{Tree, cost, size, write}
use Rattle.rules.specs.declared.refusal.Refusal.{Refusal}
use Rattle.laws.proofs.acceptance.Accepts.{Meets, examine-meets, meets-examine}
use Rattle.laws.proofs.acceptance.AcceptsCompiled.{compiled-accepted}
use Rattle.laws.proofs.calls.Checked.{table-complete, room-enough}
use Rattle.laws.proofs.calls.Outcome.{front-written}
use Rattle.laws.proofs.cost.Cost.{cost-raw_form}
use Rattle.laws.proofs.cost.Fits.{length-compiled}
use Rattle.compiler.specs.Answers.{compilation_of, bytes_of}
use Rattle.compiler.specs.declared.Expression.{Expression}
use Rattle.compiler.proofs.Injective.{compilation_of-injective}
use Rattle.examiner.specs.Answers.{examination_of}
use Rattle.examiner.proofs.Injective.{examination_of-injective}

abbrev pub expression : ℕ → List ℕ → Tree
expression n table = cleanup (paper.table_form n table)

-- "The counts of bytes and records and the cost that it returns are that expression's, and the raw cost is that of the table's raw form."
abbrev pub counts : ℕ → List ℕ → Expression
counts n table = record {
  bytes = length (write (expression n table));
  records = size (expression n table);
  cost = cost (expression n table);
  raw = cost (raw_form (paper.table_form n table));
}

abbrev pub Compiles : ℕ → List ℕ → List ℕ → List ℕ → Result Expression Refusal → Type 0
Compiles n table out after r =
    (compilation_of after r ≡ paper.compile n table (length out)) × (after ≡ left out (bytes_of (paper.compile n table (length out))))

abbrev pub Examines : ℕ → List ℕ → List ℕ → Result ℕ Refusal → Type 0
Examines n table s r = examination_of r ≡ paper.examine n table s

pub record ThirdDemand (n : ℕ) (table : List ℕ) : Type 0 where
  -- "whatever stands in the buffer of at least 963 bytes that the compiler is lent, the compiler doesn't refuse. The bytes it writes are those of the
  -- expression that document 01's cleanup gives for the table."
  pub compiles : (out after : List ℕ) (r : Result Expression Refusal) → byte_limit ≤ length out → Compiles n table out after r
      → (r ≡ Ok (counts n table)) × (after ≡ written out (write (expression n table)))
  -- "The examiner accepts that expression for that table."
  pub accepts : (r : Result ℕ Refusal) → Examines n table (write (expression n table)) r → r ≡ Ok (cost (expression n table))
  -- "For every such table and every byte string, whoever wrote it, the examiner accepts exactly when .." "On acceptance it gives the string's cost."
  pub exactly : (s : List ℕ) → Below 256 s → (r : Result ℕ Refusal) → Examines n table s r → (c : ℕ) → (r ≡ Ok c) ↔ Meets n table s c

module _ (n : ℕ) (table : List ℕ) (few : n ≤ rule_flags) (whole : complete n table ≡ true) where
  -- what the compiler's call gives where there is room
  given : (room : ℕ) → byte_limit ≤ room
      → paper.compile n table room ≡ gives (paper.compilation (paper.compiled n table) (paper.table_form n table))
  unfolding paper.compile
  given room h =
      table-complete rule_flags n table _ few (leb-true (2 ^ n) (length table) whole)
      ∙ room-enough room (write (paper.compiled n table)) _ (omega (arith, h, length-compiled n table few))

  -- what the answer with these counts means, once the bytes stand at the buffer's front
  meant : (out after : List ℕ) → byte_limit ≤ length out → after ≡ written out (write (expression n table))
      → compilation_of after (Ok (counts n table)) ≡ gives (paper.compilation (paper.compiled n table) (paper.table_form n table))
  unfolding paper.compiled paper.compilation
  meant out after h e =
      let bytes = ap (front (length (write (expression n table)))) e
      ∙ front-written (write (expression n table)) out (omega (arith, h, length-compiled n table few)) in
      λ i. gives record {
        bytes = bytes i;
        records = size (expression n table);
        cost = cost (expression n table);
        raw = cost-raw_form (paper.table_form n table) i;
      }

  compiled-so : (out after : List ℕ) (r : Result Expression Refusal) → byte_limit ≤ length out → Compiles n table out after r
      → (r ≡ Ok (counts n table)) × (after ≡ written out (write (expression n table)))
  unfolding paper.compiled paper.compilation
  compiled-so out after r h t =
      let stored = t.1 ∙ ap (λ (o : Outcome paper.Compilation). left out (bytes_of o)) (given (length out) h) in
      (compilation_of-injective after r (Ok (counts n table)) (t.0 ∙ given (length out) h ∙ sym (meant out after h stored)), stored)

  accepted : (s : List ℕ) (r : Result ℕ Refusal) (c : ℕ) → Examines n table s r → paper.examine n table s ≡ gives c → r ≡ Ok c
  accepted s r c t e = examination_of-injective r (Ok c) (t ∙ e)

  pub third-demand : ThirdDemand n table
  unfolding paper.compiled
  third-demand = record {
    compiles = compiled-so;
    accepts = λ r t. accepted (write (expression n table)) r (cost (expression n table)) t (compiled-accepted n table few whole);
    exactly = λ s small r t c. (
      (λ e. (examine-meets n table s small c (sym t ∙ ap examination_of e)).2),
      (λ m. accepted s r c t (meets-examine n table s c few whole m)),
    );
  }
