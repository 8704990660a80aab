-- `Lookup::supersets` meets its contract: an entry of the second table (Entries).
use mathlib.Core.List.{List}
use mathlib.Core.Path.{ap₂, ◌∙◌}
use Prim.Native.Nat.{ℕ}
use native.Mathlib.Omega.{arith}
use lib.ListN.{get_or}
use Rattle.mask_words.proofs.Entries.{get_or-supersets}
use Rattle.mask_words.proofs.lookup.Lookup.supersets.Goals as goal

pub returns : goal.returns
returns c =
    let m = c.args.mask in
    ap₂ (λ (ws : List ℕ) (k : ℕ). get_or ws k 0) c.args.self.now.supersets_right (omega arith) ∙ get_or-supersets m.bits m.within
