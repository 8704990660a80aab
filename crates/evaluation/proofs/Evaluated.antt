-- Laws of evaluation: a record's truth value is made of its operands' truth values, and evaluation of what the walk answers. They rest on the
-- definitions of rules' Tree and of walk's Walked.
--   applied at k x y     == the truth value of a record of kind k from those of its operands, of which it uses as many as it has
--   unlike               == two truth values differ where their exclusive or is true
--   value-told           == it is that of its tree
--   evaluated-walked     == past its two rows evaluation is made of what the walk answers
use mathlib.Core.Bool.{Bool, true, false, not, beq, ◌&&◌, ◌||◌}
use mathlib.Core.List.{List}
use mathlib.Core.Path.{◌≡◌, refl, sym, ap, ap₂, ◌∙◌}
use Prim.Native.Nat.{ℕ}
use lib.Dec.{lit≤}
use Rattle.bits.specs.Bit.{◌⊕◌, bit, digit}
use Rattle.rules.specs.Machine.{made}
use Rattle.rules.specs.Outcome.{Outcome, gives, ◌then◌}
use Rattle.rules.specs.Record.{Kind, Constant, Flag, And, Or, Xor, Not}
use Rattle.rules.specs.Tree.{Tree, value}
use Rattle.laws.proofs.calls.Outcome.{then-then}
use Rattle.expr.specs.Answers.{kind_of}
use Rattle.expr.specs.declared.Kind as code
use Rattle.reader.specs.Inner.{join}
use Rattle.walk.specs.Walked.{Applied, walked}
use Rattle.walk.specs.declared.Seen.{Seen}

pub unlike : (x y : Bool) → not (beq x y) ≡ x ⊕ y
unlike true true = refl
unlike true false = refl
unlike false true = refl
unlike false false = refl

module _ (n at : ℕ) where
  abbrev pub applied : Kind → Bool → Bool → Bool
  applied (Constant b) x y = b
  applied (Flag i) x y = bit at i
  applied And x y = x && y
  applied Or x y = x || y
  applied Xor x y = x ⊕ y
  applied Not x y = not x

  value-applied : (k : Kind) {a b : Bool} {x y : Tree} → Applied (λ t. value t at) n k a b x y → applied k a b ≡ value (join k x y) at
  unfolding value
  value-applied (Constant b) p = refl
  value-applied (Flag i) p = refl
  value-applied And p = ap₂ ◌&&◌ (p.first (lit≤ tt)) (p.second (lit≤ tt))
  value-applied Or p = ap₂ ◌||◌ (p.first (lit≤ tt)) (p.second (lit≤ tt))
  value-applied Xor p = ap₂ ◌⊕◌ (p.first (lit≤ tt)) (p.second (lit≤ tt))
  value-applied Not p = ap not (p.first (lit≤ tt))

  pub value-told : {kind k : code.Kind} → kind ≡ k → {a b : Bool} {x y : Tree}
      → Applied (λ t. value t at) n (kind_of kind) a b x y → applied (kind_of k) a b ≡ value (join (kind_of kind) x y) at
  value-told {kind} {k} e {a} {b} {x} {y} p =
      ap (λ z. applied (kind_of z) a b) (sym e) ∙ value-applied (kind_of kind) p

  pub evaluated-walked : (s : List ℕ) {o : Outcome (Seen Bool)} → o ≡ walked (λ t. value t at) n s
      → o then (λ v. gives (digit v.value)) ≡ made n s then (λ t. gives (digit (value t at)))
  unfolding walked
  evaluated-walked s e = ap (λ (o : Outcome (Seen Bool)). o then (λ v. gives (digit v.value))) e ∙ sym (then-then (made n s) _ _)
