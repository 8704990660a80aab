-- Laws of costing on paper: what it answers by the flag count and by the expression's tree, and what its answer says of the tree. They rest on
-- `costing` and `parse` of rules' Calls and on the laws of laws' Outcome and reader's Costed.
--   costs t                            == a tree's cost, size and depth
--   costing-over, costing-within       == with too many flags; else by the machine
--   costing-many                       == so of a refusal that is row 1's
--   costing-refused                    == a refusal of the machine is costing's
--   costing-gives, costing-refuses     == what costing's two answers say of the tree
--   costing-walked                     == costing is made of what the walk answers
use mathlib.Core.List.{List}
use mathlib.Core.Path.{◌≡◌, sym, ap, ◌∙◌}
use Prim.Native.Nat.{ℕ, ◌≤◌, ◌<◌}
use lib.Dec.{ltb}
use borrow.Author.Tests.{lt-ltb, le-ltb}
use Rattle.rules.specs.Calls.{Costs, parse, costing}
use Rattle.rules.specs.Limits.{rule_flags, too_many_flags}
use Rattle.rules.specs.Machine.{made}
use Rattle.rules.specs.Outcome.{Outcome, gives, refuses, refuse, ◌then◌}
use Rattle.rules.specs.Tree.{Tree, cost, size, depth}
use Rattle.laws.proofs.calls.Outcome.{gives_same, refuse-then, then-then, then-gives, then-refuses}
use Rattle.walk.specs.Walked.{walked}
use Rattle.walk.specs.declared.Seen.{Seen}
use Rattle.reader.proofs.Passed.{refused-first}

abbrev pub costs : Tree → Costs
costs t = record { cost = cost t; size = size t; depth = depth t }

module _ (n : ℕ) (s : List ℕ) where
  pub costing-over : rule_flags < n → costing n s ≡ refuses too_many_flags 0
  unfolding costing parse
  costing-over h = rw (lt-ltb rule_flags n h)

  pub costing-many : {k p : ℕ} → refuses k p ≡ refuse (ltb rule_flags n) too_many_flags 0 (gives n) → refuses k p ≡ costing n s
  unfolding costing parse
  costing-many e = refused-first _ _ _ _ _ e ∙ sym (refuse-then (ltb rule_flags n) too_many_flags 0 (made n s) (λ t. gives (costs t)))

  pub costing-within : n ≤ rule_flags → costing n s ≡ made n s then (λ t. gives (costs t))
  unfolding costing parse
  costing-within h = rw (le-ltb rule_flags n h)

  pub costing-refused : (k p : ℕ) → n ≤ rule_flags → made n s ≡ refuses k p → costing n s ≡ refuses k p
  costing-refused k p h e = costing-within h ∙ ap (λ (o : Outcome Tree). o then (λ t. gives (costs t))) e

  pub costing-gives : (c : Costs) → costing n s ≡ gives c → (t : Tree) × (parse n s ≡ gives t) × (costs t ≡ c)
  unfolding costing
  costing-gives c e =
      let q = then-gives (parse n s) (λ t. gives (costs t)) c e in
      (q.0, q.1, gives_same q.2)

  pub costing-refuses : (k p : ℕ) → costing n s ≡ refuses k p → parse n s ≡ refuses k p
  unfolding costing
  costing-refuses k p e = then-refuses (parse n s) costs k p e

-- costing is made of what the walk answers
pub costing-walked : (n : ℕ) (s : List ℕ) → n ≤ rule_flags → {o : Outcome (Seen ℕ)} → o ≡ walked depth n s
    → o then (λ v. gives (record { cost = v.cost; size = v.size; depth = v.value })) ≡ costing n s
unfolding walked
costing-walked n s h e =
    ap (λ (o : Outcome (Seen ℕ)). o then (λ v. gives (record { cost = v.cost; size = v.size; depth = v.value }))) e
    ∙ sym (costing-within n s h ∙ then-then (made n s) _ _)
