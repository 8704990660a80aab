-- An answer's numbers stored in a lent block one behind the other. No proof of a function needs it today: the code stores the numbers of a list in
-- turn. It is that law (`stored_step`, Stored) where the list is the numbers so far and one more.
--   stored_more   == one more number is one more store, after those before it
use mathlib.Core.List.{List, [], ◌∷◌, ◌++◌}
use mathlib.Core.Path.{◌≡◌, refl, sym, ap, ◌∙◌}
use Prim.Native.Nat.{ℕ, ◌+◌}
use native.Mathlib.Omega.{arith}
use lib.ListN.{length, set, length-append}
use lib.Seq.{take_at, take_all, get_or-append_seam}
use Rattle.answer_block.specs.Block.{stored}
use Rattle.answer_block.proofs.Stored.{stored_step}

pub stored_more : {before after : List ℕ} (block l : List ℕ) (x : ℕ) → before ≡ stored block l → after ≡ set before (length l) x
    → after ≡ stored block (l ++ (x ∷ []))
stored_more {before} block l x e f =
    let m : List ℕ = l ++ (x ∷ []) in
    let size : length m ≡ length l + 1 = length-append l (x ∷ []) in
    f ∙ ap (set before (length l)) (sym (get_or-append_seam l x [] 0))
    ∙ stored_step block m (length l) (omega arith) (e ∙ ap (stored block) (sym (take_at l (x ∷ []) (length l) refl)))
    ∙ ap (stored block) (take_all (length l + 1) m (omega arith))
