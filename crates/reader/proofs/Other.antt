-- The reader's answer by what it is not: one that is neither a record nor a refusal is the end, and what the step at an earlier byte answers is what
-- is asked for where it is no record. No proof of a function needs these laws today: the code tells the answers apart by their cases. They rest on
-- the laws of Turn and Finding.
--   only_end        == an answer is the end where it is neither a record nor a refusal
--   end-other       == so the bytes end there
--   finding-other   == where the step at an earlier byte gives no record, its answer is the one asked for
use mathlib.Core.List.{List}
use mathlib.Core.Path.{◌≡◌, refl, sym}
use Rattle.std.specs.Prelude.{Option, Some, None, Result, Ok, Err}
use Prim.Native.Nat.{ℕ, ◌≤◌}
use lib.ListN.{length}
use Rattle.rules.specs.Calls.{read}
use Rattle.rules.specs.Limits.{rule_flags}
use Rattle.rules.specs.declared.refusal.Refusal.{Refusal}
use Rattle.reader.specs.Answers.{reading_of}
use Rattle.reader.specs.declared.Node.{Node}
use Rattle.reader.proofs.Finding.{Finding, finding-refused, finding-end}
use Rattle.reader.proofs.Turn.{answer-end}
use Rattle.reader.proofs.Walk.{Walk}

pub only_end : (r : Result (Option Node) Refusal) → ((x : Node) → r ≡ Ok (Some x) → ⊥) → ((x : Refusal) → r ≡ Err x → ⊥) → r ≡ Ok None
only_end (Ok (Some node)) p q = absurd (p node refl)
only_end (Ok None) p q = refl
only_end (Err refusal) p q = absurd (q refusal refl)

module _ {n : ℕ} {s : List ℕ} {count place depth : ℕ} (w : Walk n s count place depth) (l : n ≤ rule_flags) where
  pub end-other : (r : Result (Option Node) Refusal) → ((x : Node) → r ≡ Ok (Some x) → ⊥) → ((x : Refusal) → r ≡ Err x → ⊥)
      → reading_of r ≡ read n s place → length s ≤ place
  end-other r h k told = answer-end w l (only_end r h k) told

module _ {n : ℕ} {s : List ℕ} {asked : ℕ} {starts : List ℕ} {depth at count : ℕ} (w : Finding n s asked starts depth at count) where
  pub finding-other : n ≤ rule_flags → at ≤ asked → (r : Result (Option Node) Refusal) → ((x : Node) → r ≡ Ok (Some x) → ⊥)
      → reading_of r ≡ read n s at → reading_of r ≡ read n s asked
  finding-other l h (Ok (Some node)) o e = absurd (o node refl)
  finding-other l h (Ok None) o e = sym (finding-end w l h (sym e))
  finding-other l h (Err x) o e = sym (finding-refused w l h (sym e))
