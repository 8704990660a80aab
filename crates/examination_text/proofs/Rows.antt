-- By which rows a rule can be refused for a complete table of up to six flags: 6, 7, 8, 9, 10, 12 and 13, each of which has its reason in words. The
-- places of the first four lie in the expression, so that each is that of a record.
-- It rests on the numbers and places by which an expression's reading and its verdict refuse (laws, Refused).
--   Row len k p      == k is one of these rows, and p a place of it for an expression of len bytes
--   examine-rows     == the examination's outcome is a result, or a refusal by one of them
use mathlib.Core.List.{List}
use mathlib.Core.Path.{sym, subst}
use Prim.Native.Nat.{ℕ, ◌^◌, ◌≤◌, ◌<◌}
use lib.ListN.{length}
use Rattle.rules.specs.Calls.{examine}
use Rattle.rules.specs.Limits.{rule_flags}
use Rattle.laws.proofs.calls.Checked.{table-complete}
use Rattle.laws.proofs.calls.Refused.{By, examined-by}

pub data Row (len : ℕ) : ℕ → ℕ → Type 0 where
  mark : {p : ℕ} → p < len → Row len 6 p
  payload : {p : ℕ} → p < len → Row len 7 p
  few : {p : ℕ} → p < len → Row len 8 p
  many : {p : ℕ} → p < len → Row len 9 p
  end : Row len 10 len
  differing : {p : ℕ} → Row len 12 p
  costly : {p : ℕ} → Row len 13 p

pub examine-rows : (n : ℕ) (table s : List ℕ) → n ≤ rule_flags → 2 ^ n ≤ length table → By (Row (length s)) (examine n table s)
unfolding examine
examine-rows n table s h g =
    subst (By (Row (length s))) (sym (table-complete rule_flags n table _ h g))
    (examined-by (Row (length s)) (λ at. differing) (λ c. costly) n table s record {
      mark = λ p l. mark l;
      payload = λ p l. payload l;
      few = λ p l. few l;
      many = λ p l. many l;
      end = end;
    })
