-- What a choice that is meant needs, leaves to clean and writes, from what the cleaned form needs and writes, and a constant as a digit. No proof of
-- a function needs these laws today: what is written is kept by value. It rests on the definitions of plans (anf_cleanup, Plan) and on the laws of
-- runs at a cursor (postfix, Put).
--   meant-due, meant-parts, meant-writes   == what a choice that is meant needs, what is right for its parts, and what it writes
--   constant-small                         == a form's constant as a digit is 0 or 1
use mathlib.Core.List.{List}
use mathlib.Core.Path.{◌≡◌, sym, ap, subst, ◌∙◌}
use Rattle.std.specs.Prelude.{Option, IfSome}
use Prim.Native.Nat.{ℕ, ◌<◌}
use native.Mathlib.Omega.{arith}
use Rattle.bits.specs.Bit.{digit}
use Rattle.bits.proofs.Bit.{digit-le}
use Rattle.rules.specs.Cleanup.{cleanup}
use Rattle.rules.specs.Monomial.{constant}
use Rattle.rules.specs.Tree.{size, write}
use Rattle.anf_cleanup.specs.Plan.{made, Allowed, Parts}
use Rattle.anf_cleanup.specs.declared.Choice.{Choice}
use Rattle.anf_cleanup.specs.declared.Choices.{Choices}
use Rattle.postfix.specs.Put.{Room, Writes}
use Rattle.postfix.specs.declared.cursor.Cursor.{Cursor}
use Rattle.postfix.proofs.Put.{put-eq, room-eq}
use Rattle.emission.specs.inner.Emitted.{Meant}
use Rattle.emission.specs.inner.Due.{Due}

module _ (l : List ℕ) (d : Choices) (h : Meant d l) (c : Option Choice) (e : d.form ≡ c) where
  makes : made c l ≡ cleanup l
  makes = ap (λ (x : Option Choice). made x l) (sym e) ∙ h.right.makes

  pub meant-due : {a : Cursor} {out : List ℕ} → Room (write (cleanup l)) a out → Due c l a out
  meant-due room = record {
    allowed = subst (λ (x : Option Choice). IfSome x (λ y. Allowed y l)) e h.right.allowed;
    room = room-eq (ap write (sym makes)) room;
  }

  pub meant-parts : IfSome c (λ x. Parts x l d.inner d.rest)
  meant-parts = subst (λ (x : Option Choice). IfSome x (λ y. Parts y l d.inner d.rest)) e h.parts

  pub meant-writes : {a b : Cursor} {out after : List ℕ} → Writes (made c l) a b out after → Writes (cleanup l) a b out after
  meant-writes w = put-eq (ap write makes) (ap size makes) w

pub constant-small : (l : List ℕ) (d : ℕ) → d ≡ digit (constant l) → d < 2
constant-small l d e = omega (arith, digit-le (constant l))
