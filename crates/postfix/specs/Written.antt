-- What has been written, and what a function that writes records leaves behind.
--   Written              == bytes, and how many records they are
--   Fits n l w           == the bytes l fit behind w, where there is room for n in all
--   followed w l k       == w, and behind it the bytes l, k records
--   with_tree w t        == w, and behind it the records of the tree t
--   linked mark l        == for each flag of l its record and an operator's mark
--   chained mark l       == the first flag's record, and the further flags so linked
use Rattle.std.specs.Prelude.{List, [], ◌∷◌, ◌++◌, ℕ, ◌+◌, ◌≤◌, length}
use Rattle.rules.specs.Tree.{Tree, VA, write, size}

pub record Written : Type 0 where
  pub bytes : List ℕ
  pub records : ℕ

pub record Fits (n : ℕ) (l : List ℕ) (w : Written) : Type 0 where
  pub room : length w.bytes + length l ≤ n

abbrev pub followed : Written → List ℕ → ℕ → Written
followed w l k = record { bytes = w.bytes ++ l; records = w.records + k }

abbrev pub with_tree : Written → Tree → Written
with_tree w t = followed w (write t) (size t)

-- "A product or an OR chain takes flags upwards, nested to the left": in postfix, a flag and the operator that joins it to those before.
unfoldable pub linked : List ℕ → List ℕ → List ℕ
linked mark [] = []
linked mark (i ∷ l) = write (VA i) ++ mark ++ linked mark l

unfoldable pub chained : List ℕ → List ℕ → List ℕ
chained mark [] = []
chained mark (i ∷ l) = write (VA i) ++ linked mark l
