-- The elements of a list of which a part was written. It rests on the laws of `take`, `drop` and `++`.
--   part-word         == those of a part
--   written-same, -before, -inside, -after == the length, and those before, in and after the written part
--   written-sets      == the list, as its elements stored one by one
use Rattle.std.specs.Prelude.{List, ◌++◌, ◌≡◌, ℕ, ◌+◌, ◌≤◌, ◌<◌, length, get_or, take, drop}
use Rattle.std.proofs.Common.{rules, arith, append_assoc, sym, ap, ◌∙◌}
use Rattle.std.proofs.lemmas.List.{places, drop-drop}
use Rattle.std.proofs.lemmas.List.Edits.{sets, sets-eq}
use borrow.Rule.Slice.PartMut.{put_mid}

pub part-word : (s k : ℕ) (ws : List ℕ) (i d : ℕ) → i < k → get_or (take k (drop s ws)) i d ≡ get_or ws (s + i) d
part-word s k ws i d h = search (rules, places)

module _ (s k : ℕ) (ws us : List ℕ) (within : s + k ≤ length ws) (size : length us ≡ k) where
  pub written-same : length (put_mid s k ws us) ≡ length ws
  written-same = search (rules, places)

  pub written-before : (i : ℕ) → i < s → get_or (put_mid s k ws us) i 0 ≡ get_or ws i 0
  written-before i h = search (rules, places)

  pub written-inside : (i : ℕ) → i < k → get_or (put_mid s k ws us) (s + i) 0 ≡ get_or us i 0
  written-inside i h = search (rules, places)

  pub written-after : (i : ℕ) → s + k ≤ i → get_or (put_mid s k ws us) i 0 ≡ get_or ws i 0
  written-after i h = search (rules, places)

  pub written-sets : put_mid s k ws us ≡ sets ws s us
  written-sets =
      ap (λ (l : List ℕ). take s ws ++ (us ++ l)) (drop-drop k s ws ∙ ap (λ (n : ℕ). drop (s + n) ws) (sym size))
      ∙ sym (append_assoc (take s ws) us (drop (s + length us) ws))
      ∙ sym (sets-eq us ws s (omega arith))
