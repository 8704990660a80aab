-- Document 01's compilation as the instance of a table's bits: rows 1 and 2, and past them the compilation of the truth function. It rests on
-- tables as truth functions (table, Truth).
--   compile-truth            == document 01's compilation, once rows 1 and 2 are passed
--   compile_truth-ext        == functions that agree at every setting are compiled alike
use Rattle.std.specs.Prelude.{◌≡◌, Bool, List, ℕ, ◌^◌, ◌<◌, refl}
use mathlib.Core.Path.{ap}
use Rattle.rules.specs.Calls as paper
use Rattle.rules.specs.Limits.{rule_flags}
use Rattle.rules.specs.Table.{entry}
use Rattle.table.proofs.Truth.{form-ext}
use Rattle.compiler.specs.Truth.{compile_form, compile_truth}

pub compile-truth : (n : ℕ) (table : List ℕ) (room : ℕ)
    → paper.compile n table room ≡ paper.with_table rule_flags n table (compile_truth n (entry table) room)
unfolding paper.compile paper.compiled paper.table_form compile_truth compile_form
compile-truth n table room = refl

pub compile_truth-ext : (n : ℕ) (f g : ℕ → Bool) (room : ℕ) → ((s : ℕ) → s < 2 ^ n → f s ≡ g s) → compile_truth n f room ≡ compile_truth n g room
unfolding compile_truth
compile_truth-ext n f g room h = ap (λ (l : List ℕ). compile_form l room) (form-ext n f g h)
