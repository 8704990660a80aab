-- A list's front copied to the front of another, one entry after the other. It rests on the laws of stores (Stored).
--   Copied b out after i         == the first i entries of b stand at the front, and the rest is as it was
--   copied_none, copied_more     == no entry, and one more
--   copied-length                == the list keeps its length
use mathlib.Core.List.{List}
use mathlib.Core.Path.{◌≡◌, refl, sym, ap, ◌∙◌}
use Prim.Native.Nat.{ℕ, ◌+◌, ◌<◌}
use native.Mathlib.Nat.{zero-add}
use lib.ListN.{length, get_or, set, take}
use lib.Seq.{sets, length-sets}
use Rattle.bits.proofs.Stored.{stores-more}

abbrev pub Copied : List ℕ → List ℕ → List ℕ → ℕ → Type 0
Copied b out after i = after ≡ sets out 0 (take i b)

pub copied_none : (b out : List ℕ) → Copied b out out 0
copied_none b out = refl

module _ (b out after : List ℕ) (i : ℕ) (e : Copied b out after i) where
  pub copied-length : length after ≡ length out
  copied-length = ap length e ∙ length-sets out 0 (take i b)

  pub copied_more : i < length b → Copied b out (set after i (get_or b i 0)) (i + 1)
  copied_more h =
      ap (λ (l : List ℕ). set l i (get_or b i 0)) e
      ∙ ap (λ (k : ℕ). set (sets out 0 (take i b)) k (get_or b i 0)) (sym (zero-add i)) ∙ stores-more out b 0 i 0 h
