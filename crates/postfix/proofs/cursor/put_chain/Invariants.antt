-- `postfix::cursor::put_chain` meets its contract. The loop's invariant: there is room for the links that are left, and whoever writes them from
-- here on has written all links from the loop's start. The measure is what is left of the mask, which falls with its lowest one.
use mathlib.Core.List.{List, [], ◌∷◌}
use Prim.Native.Nat.{ℕ, ◌^◌, ◌<◌}
use Rattle.rules.specs.Form.{flags}
use Rattle.postfix.specs.Put.{Room}
use Rattle.postfix.specs.declared.cursor.Cursor.{Cursor}
use Rattle.postfix.specs.Written.{linked}
use Rattle.postfix.proofs.Links.{Links}
use Rattle.postfix.proofs.cursor.put_chain.Given as goal

abbrev pub invariant-loop-left : goal.invariant-loop-left
invariant-loop-left l =
    (l.left < 2 ^ 64) × Room (linked (l.first ∷ l.second ∷ []) (flags l.left)) l.next l.out
    × ((b : Cursor) (after : List ℕ) → Links (l.first ∷ l.second ∷ []) l.left l.next b l.out after → Links
    (l.first ∷ l.second ∷ []) l.initial.left l.initial.next b l.initial.out after)

abbrev pub decreases-loop-left : goal.decreases-loop-left
decreases-loop-left l = l.left
