-- The bulk of masks, what their terms cost with 1 for joining each, added up: from the first mask on, and word by word. It rests on the bulk of a
-- list (laws, Cost), on the laws of sums (bits, Sum) and of the masks that words hold (Held).
--   few-places      == a word has at most 64 masks
--   bulk-first       == the first mask, and the others
--   bulk-held        == the masks in one word more
use Rattle.std.specs.Prelude.{List, ◌∷◌, ◌≡◌, ℕ, ◌+◌, ◌*◌, ◌≤◌, suc, map, length}
use Rattle.std.proofs.Common.{arith, ap, ◌∙◌}
use Rattle.bits.specs.Bit.{bit}
use Rattle.bits.specs.Range.{upto}
use Rattle.bits.specs.Sum.{sum}
use Rattle.bits.specs.Word.{places}
use Rattle.bits.proofs.Range.{length_from, length-keep}
use Rattle.bits.proofs.Sum.{plus-laws, sum-append}
use Rattle.laws.proofs.cost.Cost.{weight, bulk}
use Rattle.anf_form.specs.Inner.{held}
use Rattle.anf_form.proofs.Held.{block, held-suc}

pub few-places : (w : ℕ) → length (places 64 w) ≤ 64
unfolding places
few-places w = omega (arith, length-keep (bit w) (upto 64), length_from 0 64)

pub bulk-first : (base x : ℕ) (l k : List ℕ) → l ≡ x ∷ k → bulk (map (λ m. base + m) l) ≡ weight (base + x) + bulk (map (λ m. base + m) k)
unfolding sum
bulk-first base x l k e = ap (λ (k : List ℕ). bulk (map (λ m. base + m) k)) e

pub bulk-held : (ws : List ℕ) (i : ℕ) → bulk (held (suc i) ws) ≡ bulk (held i ws) + bulk (map (λ j. 64 * i + j) (block i ws))
bulk-held ws i = ap bulk (held-suc ws i) ∙ sum-append plus-laws weight (held i ws) (map (λ j. 64 * i + j) (block i ws))
