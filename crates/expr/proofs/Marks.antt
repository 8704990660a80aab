-- Laws of a record by the number of its two letters, one equation for each way through the code. They rest on `record_at` of rules' Record.
--   by_mark n s p m                   == the record at place p by the number m of its two letters
--   mark-unknown                     == no other number is a mark
--   over-short, over-mark            == one byte left; two letters or more: the record over the operands by their number
--   over-constant, over-flag         == a record with no operand is never refused so
--   over-two                         == over two operands no record is
use mathlib.Core.Bool.{Bool, true, false}
use mathlib.Core.List.{List}
use mathlib.Core.Path.{◌≡◌, refl, sym, ap, ◌∙◌}
use Prim.Native.Nat.{ℕ, ◌+◌, ◌*◌, ◌≤◌, ◌<◌}
use native.Mathlib.Nat.{add-zero}
use native.Mathlib.Omega.{arith}
use lib.Dec.{eqb, leb, ltb}
use lib.ListN.{length, get_or, drop}
use lib.Seq.{get_or-drop}
use borrow.Author.Tests.{lt-ltb, le-ltb, ne_eqb}
use Rattle.rules.specs.Ascii.{ascii}
use Rattle.rules.specs.Limits.{bad_mark, bad_payload}
use Rattle.rules.specs.Outcome.{Outcome, gives, refuses, refuse, ◌then◌}
use Rattle.rules.specs.Record.{Kind, Constant, Flag, And, Or, Xor, Not, Found, mark, marked, plain, loaded, record_at, operand_count}
use Rattle.expr.specs.Inner.{over, record_over, constant_at, flag_at}

module _ (n : ℕ) (s : List ℕ) (p : ℕ) where
  unfoldable pub by_mark : ℕ → Outcome Found
  by_mark m =
      elim (eqb m 0x434f) [
        | true ↦ loaded s p (leb (get_or s (p + 2) 0) 1) (Constant (eqb (get_or s (p + 2) 0) 1))
        | false ↦ elim (eqb m 0x5641) [
          | true ↦ loaded s p (ltb (get_or s (p + 2) 0) n) (Flag (get_or s (p + 2) 0))
          | false ↦ elim (eqb m 0x414e) [
            | true ↦ plain And p
            | false ↦ elim (eqb m 0x4f52) [
              | true ↦ plain Or p
              | false ↦ elim (eqb m 0x584f) [
                | true ↦ plain Xor p
                | false ↦ elim (eqb m 0x4e4f) [ true ↦ plain Not p | false ↦ refuses bad_mark p ]
              ]
            ]
          ]
        ]
      ]

  mark-at : mark (drop p s) ≡ get_or s p 0 * 256 + get_or s (p + 1) 0
  unfolding mark
  mark-at = rw (get_or-drop p s 0 0, get_or-drop p s 1 0, add-zero p)

  record-mark : p + 2 ≤ length s → record_at n s p ≡ by_mark (get_or s p 0 * 256 + get_or s (p + 1) 0)
  unfolding record_at marked ascii mark by_mark
  record-mark h = ap (λ (b : Bool). refuse b bad_mark p (by_mark (mark (drop p s)))) (le-ltb (length s) (p + 2) h) ∙ ap by_mark mark-at

  pub mark-unknown : (m : ℕ) → (m ≡ 0x434f → ⊥) → (m ≡ 0x5641 → ⊥) → (m ≡ 0x414e → ⊥) → (m ≡ 0x4f52 → ⊥) → (m ≡ 0x584f → ⊥)
      → (m ≡ 0x4e4f → ⊥) → by_mark m ≡ refuses bad_mark p
  unfolding by_mark
  mark-unknown m h₁ h₂ h₃ h₄ h₅ h₆ =
      rw (ne_eqb m 0x434f h₁, by_mark, ne_eqb m 0x5641 h₂, ne_eqb m 0x414e h₃, ne_eqb m 0x4f52 h₄, ne_eqb m 0x584f h₅, ne_eqb m 0x4e4f h₆)

  module _ (d : ℕ) where
    pub over-short : length s < p + 2 → record_over n s d p ≡ refuses bad_mark p
    unfolding record_over record_at
    over-short k = rw (lt-ltb (length s) (p + 2) k, record_at)

    pub over-mark : {m k : ℕ} → p + 2 ≤ length s → m ≡ get_or s p 0 * 256 + get_or s (p + 1) 0 → m ≡ k
        → record_over n s d p ≡ by_mark k then over d p
    unfolding record_over
    over-mark h e f = ap (λ (o : Outcome Found). o then over d p) (record-mark h ∙ ap by_mark (sym e ∙ f))

    loaded-over : (short fits : Bool) (k : Kind) → operand_count k ≡ 0
        → refuse short bad_payload p (elim fits [ true ↦ gives (record { kind = k; next = p + 3 }) | false ↦ refuses bad_payload p ]) then over d p
        ≡ refuse short bad_payload p (elim fits [ true ↦ gives (record { kind = k; next = p + 3 }) | false ↦ refuses bad_payload p ])
    loaded-over true fits k e = refl
    loaded-over false true k e = let z : operand_count k ≤ d = omega arith in rw (le-ltb d (operand_count k) z)
    loaded-over false false k e = refl

    pub over-constant : by_mark 0x434f then over d p ≡ constant_at s p
    unfolding by_mark constant_at loaded
    over-constant =
        let c : ℕ = get_or s (p + 2) 0 in
        loaded-over (ltb (length s) (p + 3)) (leb c 1) (Constant (eqb c 1)) refl

    pub over-flag : by_mark 0x5641 then over d p ≡ flag_at n s p
    unfolding by_mark flag_at loaded
    over-flag = loaded-over (ltb (length s) (p + 3)) (ltb (get_or s (p + 2) 0) n) (Flag (get_or s (p + 2) 0)) refl

  count-two : (k : Kind) → operand_count k ≤ 2
  count-two (Constant b) = omega arith
  count-two (Flag i) = omega arith
  count-two And = omega arith
  count-two Or = omega arith
  count-two Xor = omega arith
  count-two Not = omega arith

  pub over-two : (r : Found) → record_at n s p ≡ gives r → record_over n s 2 p ≡ gives r
  unfolding record_over
  over-two r e = rw (e, le-ltb 2 (operand_count r.kind) (count-two r.kind))
