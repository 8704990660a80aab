-- What C gets tells the outcome: the returned number and the block, where it has room for the answer, are those of one outcome only. Of the
-- transform, the way back, the listing, the compiler and the writer of a package the answer tells how much of the lent buffer is the result. It
-- rests on the definitions of Block and Numbers, and on every refusal's number being above 0 (laws, Numbered).
--   answer-tells                 == number and block tell the outcome, if the block tells the result
--   alone-tells, costs-tell      == the block tells a number; cost, size and depth
--   reading-tells                == and a record's kind with payload, next place and where its operands start, or the end
--   package-tells                == and a rule of a package with its places, or the end
use mathlib.Core.Bool.{Bool, true, false}
use mathlib.Core.List.{List, []}
use mathlib.Core.Option.{Option, none, some}
use mathlib.Core.Path.{◌≡◌, refl, sym, ap, ap₂, ◌∙◌}
use Prim.Native.Nat.{ℕ, ◌≤◌, ◌<◌}
use native.Mathlib.Omega.{arith}
use lib.Dec.{eqb}
use lib.ListN.{length, get_or}
use Rattle.bits.proofs.Injective.{told-apart}
use Rattle.rules.specs.Calls.{Costs}
use Rattle.rules.specs.Console.{number}
use Rattle.rules.specs.Machine.{Node}
use Rattle.rules.specs.Outcome.{Outcome, gives, refuses}
use Rattle.rules.specs.Record.{Kind, Constant, Flag, And, Or, Xor, Not}
use Rattle.rule_package.specs.Calls.{RuleAt}
use Rattle.laws.proofs.calls.Numbered.{Numbered}
use Rattle.answer_block.specs.Block.{stored, numbers}
use Rattle.answer_block.specs.Numbers.{alone, kind_number, payload, reading, package_reading, costs}
use Rattle.answer_block.proofs.Stored.{stored_same, head-stored}

pub alone-tells : (block : List ℕ) → 0 < length block → (x y : ℕ) → stored block (alone x) ≡ stored block (alone y) → x ≡ y
alone-tells block h x y e = ap (λ (l : List ℕ). get_or l 0 0) (stored_same block (alone x) (alone y) refl h e)

pub answer-tells : {A : Type 0} (f : A → List ℕ) (block : List ℕ) → 0 < length block → ((a b : A) → stored block (f a) ≡ stored block (f b) → a ≡ b)
    → (o q : Outcome A) → Numbered o → Numbered q → number o ≡ number q → stored block (numbers f o) ≡ stored block (numbers f q) → o ≡ q
answer-tells f block l told (gives a) (gives b) h r e s = ap gives (told a b s)
answer-tells f block l told (gives a) (refuses k p) h r e s = absurd (omega (arith, r, e))
answer-tells f block l told (refuses k p) (gives b) h r e s = absurd (omega (arith, h, e))
answer-tells f block l told (refuses k p) (refuses j q) h r e s = ap₂ refuses e (alone-tells block l p q s)

abbrev costs_again : List ℕ → Costs
costs_again l = record { cost = get_or l 0 0; size = get_or l 1 0; depth = get_or l 2 0 }

costs-again : (c : Costs) → costs_again (costs c) ≡ c
costs-again c = refl

costs-injective : (c d : Costs) → costs c ≡ costs d → c ≡ d
costs-injective = told-apart costs costs_again costs-again

abbrev pick : Bool → Kind → Kind → Kind
pick true x y = x
pick false x y = y

abbrev kind_again : ℕ → ℕ → Kind
kind_again k p =
    pick (eqb k 1) (Constant (eqb p 1))
    (pick (eqb k 2) (Flag p) (pick (eqb k 3) And (pick (eqb k 4) Or (pick (eqb k 5) Xor Not))))

kind-again : (k : Kind) → kind_again (kind_number k) (payload k) ≡ k
kind-again (Constant true) = refl
kind-again (Constant false) = refl
kind-again (Flag i) = refl
kind-again And = refl
kind-again Or = refl
kind-again Xor = refl
kind-again Not = refl

abbrev node_again : List ℕ → Node
node_again l = record { kind = kind_again (get_or l 0 0) (get_or l 1 0); first = get_or l 3 0; second = get_or l 4 0; next = get_or l 2 0 }

node-again : (r : Node) → node_again (reading (some r)) ≡ r
node-again r = ap (λ (k : Kind). record { kind = k; first = r.first; second = r.second; next = r.next }) (kind-again r.kind)

pub costs-tell : (block : List ℕ) → 3 ≤ length block → (c d : Costs) → stored block (costs c) ≡ stored block (costs d) → c ≡ d
costs-tell block h c d e = costs-injective c d (stored_same block (costs c) (costs d) refl h e)

kind-above : (k : Kind) → 0 < kind_number k
kind-above (Constant b) = omega arith
kind-above (Flag i) = omega arith
kind-above And = omega arith
kind-above Or = omega arith
kind-above Xor = omega arith
kind-above Not = omega arith

-- the end is told by its kind, 0
not_end : (block : List ℕ) → 5 ≤ length block → (r : Node) → stored block (reading none) ≡ stored block (reading (some r)) → 0 ≡ kind_number r.kind
not_end block h r e =
    sym (head-stored block 0 [] (omega arith)) ∙ ap (λ (l : List ℕ). get_or l 0 0) e ∙ head-stored block (kind_number r.kind) _ (omega arith)

pub reading-tells : (block : List ℕ) → 5 ≤ length block → (r q : Option Node) → stored block (reading r) ≡ stored block (reading q) → r ≡ q
reading-tells block h none none e = refl
reading-tells block h none (some q) e = absurd (omega (arith, not_end block h q e, kind-above q.kind))
reading-tells block h (some r) none e = absurd (omega (arith, not_end block h r (sym e), kind-above r.kind))
reading-tells block h (some r) (some q) e =
    ap some (told-apart (λ x. reading (some x)) node_again node-again r q
    (stored_same block (reading (some r)) (reading (some q)) refl h e))

-- ---- a rule of a package

abbrev rule_again : List ℕ → RuleAt
rule_again l = record { flags = get_or l 1 0; table = get_or l 2 0; start = get_or l 3 0; length = get_or l 4 0; next = get_or l 5 0 }

rule-again : (r : RuleAt) → rule_again (package_reading (some r)) ≡ r
rule-again r = refl

-- the end is told by its kind, 0, and a rule by 1
not-rule : (block : List ℕ) → 6 ≤ length block → (r : RuleAt) → stored block (package_reading none) ≡ stored block (package_reading (some r))
    → ◌≡◌ {A = ℕ} 0 1
not-rule block h r e =
    sym (head-stored block 0 [] (omega arith)) ∙ ap (λ (l : List ℕ). get_or l 0 0) e ∙ head-stored block 1 _ (omega arith)

pub package-tells : (block : List ℕ) → 6 ≤ length block → (r q : Option RuleAt)
    → stored block (package_reading r) ≡ stored block (package_reading q) → r ≡ q
package-tells block h none none e = refl
package-tells block h none (some q) e = absurd (omega (arith, not-rule block h q e))
package-tells block h (some r) none e = absurd (omega (arith, not-rule block h r (sym e)))
package-tells block h (some r) (some q) e =
    ap some (told-apart (λ x. package_reading (some x)) rule_again rule-again r q
    (stored_same block (package_reading (some r)) (package_reading (some q)) refl h e))
