-- `compiler::build_anf_expr` meets its contract: rows 1 and 2 of the refusal table, and past them the compilation of the table by value (Instance).
use Rattle.std.proofs.Common.{ℕ, List, ap, sym, ◌∙◌, length}
use Rattle.packed_anf.proofs.Rows.{exit, past_table, given-table}
use Rattle.rules.specs.Calls.{Compilation}
use Rattle.rules.specs.Limits.{rule_flags}
use Rattle.rules.specs.Outcome.{Outcome, left}
use Rattle.rules.specs.Table.{entry}
use Rattle.table.specs.Truth.{truth}
use Rattle.table.specs.declared.Table.{Table}
use Rattle.table.proofs.Truth.{truth-tabled}
use Rattle.compiler.specs.Answers.{bytes_of}
use Rattle.compiler.specs.Truth.{compile_truth}
use Rattle.compiler.proofs.Instance.{compile-truth, compile_truth-ext}
use Rattle.compiler.proofs.Written.{told-refusal}
use Rattle.compiler.proofs.build_anf_expr.Goals as goal

pub returns-in_err-table : goal.returns-in_err-table
returns-in_err-table c =
    let n = c.args.flags in
    let t = c.args.table.now in
    let out = c.args.out.now in
    let rest : Outcome Compilation = compile_truth n (entry t) (length out) in
    let told = told-refusal _ out _ _ (compile-truth n t (length out) ∙ sym (past_table rule_flags n t _ _ rest c.in_err-table.ensures)) in
    record { answer = exit _ _ _ c.from_residual.ensures.1 ∙ told.answer; lent = told.lent }

pub returns : goal.returns
returns c =
    let n = c.args.flags in
    let t = c.args.table.now in
    let room = length c.args.out.now in
    let passed = c.in_ok-table.table in
    let same =
    ap (λ (x : Table). compile_truth x.flags.count (truth x) room) c.of_entries.ensures
    ∙ compile_truth-ext passed.flags.count _ (entry passed.entries.now) room (truth-tabled passed.flags (entry passed.entries.now))
    ∙ ap (λ (p : ℕ × List ℕ). compile_truth p.0 (entry p.1) room) (given-table rule_flags n t c.in_ok-table.ensures)
    ∙ past_table rule_flags n t _ _ (compile_truth n (entry t) room) c.in_ok-table.ensures ∙ sym (compile-truth n t room) in
    let told = c.compile_table.ensures in
    record { answer = told.answer ∙ same; lent = told.lent ∙ ap (λ (o : Outcome Compilation). left c.args.out.now (bytes_of o)) same }
