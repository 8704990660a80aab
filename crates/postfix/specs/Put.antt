-- Records written into a lent buffer at a cursor: the room that they need, and what they leave behind.
--   Room l a out             == the bytes l fit into the buffer from cursor a on, and there are no more records than bytes before it
--   Put l k a b out after    == from cursor a to cursor b the bytes l were written, k records, and the rest of the buffer is as it was
--   Writes t a b out after   == so for the records of the tree t
use Rattle.std.specs.Prelude.{List, ◌≡◌, ℕ, ◌+◌, ◌≤◌, length}
use Rattle.bits.specs.Stored.{Stored}
use Rattle.rules.specs.Tree.{Tree, write, size}
use Rattle.postfix.specs.declared.cursor.Cursor.{Cursor}

pub record Room (l : List ℕ) (a : Cursor) (out : List ℕ) : Type 0 where
  pub fits : a.place + length l ≤ length out
  pub records : a.records ≤ a.place

pub record Put (l : List ℕ) (k : ℕ) (a b : Cursor) (out after : List ℕ) : Type 0 where
  pub stored : Stored l a.place b.place out after
  pub records : b.records ≡ a.records + k

abbrev pub Writes : Tree → Cursor → Cursor → List ℕ → List ℕ → Type 0
Writes t a b out after = Put (write t) (size t) a b out after
