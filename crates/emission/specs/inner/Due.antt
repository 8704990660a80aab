-- What writing a choice into a lent buffer needs.
--   Due o l a out    == the choice o, or the cleaned form where it is to be found, may be written for the form l at the cursor a of a
--                          buffer: its rule
--                       applies, and the records of its tree fit
use Rattle.std.specs.Prelude.{List, ℕ, Option, IfSome}
use Rattle.anf_cleanup.specs.Plan.{made, Allowed}
use Rattle.anf_cleanup.specs.declared.Choice.{Choice}
use Rattle.postfix.specs.Put.{Room}
use Rattle.postfix.specs.declared.cursor.Cursor.{Cursor}
use Rattle.rules.specs.Tree.{write}

pub record Due (o : Option Choice) (l : List ℕ) (a : Cursor) (out : List ℕ) : Type 0 where
  pub allowed : IfSome o (λ c. Allowed c l)
  pub room : Room (write (made o l)) a out
