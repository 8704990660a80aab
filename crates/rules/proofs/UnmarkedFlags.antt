-- "Flags 16 transform, 17 don't; 6 compile, 7 don't." of document 01's unmarked examples, for every table and buffer: the refusal always, and
-- the result for every complete table with room. It rests on the definitions alone.
use mathlib.Core.Bool.{true}
use mathlib.Core.List.{List}
use mathlib.Core.Path.{◌≡◌, refl}
use Prim.Native.Nat.{ℕ}
use borrow.Author.Tests.{le-ltb, leb-true}
use lib.Dec.{leb}
use lib.ListN.{length}
use Rattle.rules.specs.Calls.{transform, with_table, with_room, fill, compile, compiled, compilation, table_form}
use Rattle.rules.specs.Coefficient.{coefficient, words}
use Rattle.rules.specs.Outcome.{gives, refuses}
use Rattle.rules.specs.Table.{entry, complete}
use Rattle.rules.specs.Tree.{write}

pub sixteen-transform : (table : List ℕ) (room : ℕ) → complete 16 table ≡ true → leb (length (words 16 (coefficient 16 (entry table)))) room ≡ true
    → transform 16 table room ≡ gives (words 16 (coefficient 16 (entry table)))
unfolding transform with_table fill with_room
sixteen-transform table room whole fits =
    rw (whole, le-ltb room (length (words 16 (coefficient 16 (entry table)))) (leb-true _ _ fits))

pub seventeen-refused : (table : List ℕ) (room : ℕ) → transform 17 table room ≡ refuses 1 0
unfolding transform with_table
seventeen-refused table room = refl

pub six-compile : (table : List ℕ) (room : ℕ) → complete 6 table ≡ true → leb (length (write (compiled 6 table))) room ≡ true
    → compile 6 table room ≡ gives (compilation (compiled 6 table) (table_form 6 table))
unfolding compile with_table with_room
six-compile table room whole fits = rw (whole, le-ltb room (length (write (compiled 6 table))) (leb-true _ _ fits))

pub seven-refused : (table : List ℕ) (room : ℕ) → compile 7 table room ≡ refuses 1 0
unfolding compile with_table
seven-refused table room = refl
