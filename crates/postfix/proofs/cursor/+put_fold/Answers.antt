-- The proof of the cycle of calls {put_fold}. No term is the constant 0, one term its product, and two or more the halves' folds and XO.
use mathlib.Core.List.{List}
use mathlib.Core.Path.{◌≡◌, sym}
use Prim.Native.Nat.{ℕ, ◌+◌, ◌-◌, ◌/◌, ◌≤◌}
use native.Mathlib.Omega.{arith}
use lib.ListN.{length}
use Rattle.rules.specs.Form.{folded}
use Rattle.rules.specs.Tree.{Tree, XO}
use Rattle.postfix.proofs.Terms.{rest-fewer, rest-within, terms, terms-none, terms-one, terms-halves}
use Rattle.postfix.proofs.Writes.{room_of, writes-of, xo, room-left, room-right, room-mark, writes-join}
use Rattle.postfix.proofs.cursor.+put_fold.Goals as goal

-- the folds of the first half of the terms and of the rest; and the fold of two or more terms is both with XO
module _ (l : List ℕ) (from count : ℕ) where
  abbrev first : Tree
  first = folded (terms l from (count / 2))

  abbrev second : Tree
  second = folded (terms l (from + count / 2) (count - count / 2))

  more : from + count ≤ length l → 2 ≤ count → folded (terms l from count) ≡ XO first second
  more = terms-halves l from count

pub put_constant-requires : goal.put_constant-requires
put_constant-requires t c =
    let a = c.args in
    (omega arith, room_of (terms-none a.terms.now a.from a.count c.if-count-eq0.true) c.requires.1)

pub returns-then-count-eq0 : goal.returns-then-count-eq0
returns-then-count-eq0 t c =
    let a = c.args in
    writes-of (sym (terms-none a.terms.now a.from a.count c.if-count-eq0.true)) c.put_constant.ensures

pub put_term-requires : goal.put_term-requires
put_term-requires t c =
    let a = c.args in
    room_of (terms-one a.terms.now a.from a.count (omega arith) c.if-count-eq1.true) c.requires.1

pub returns-then-count-eq1 : goal.returns-then-count-eq1
returns-then-count-eq1 t c =
    let a = c.args in
    writes-of (sym (terms-one a.terms.now a.from a.count (omega arith) c.if-count-eq1.true)) c.put_term.ensures

pub put_fold-left-requires : goal.put_fold-left-requires
put_fold-left-requires t c =
    let a = c.args in
    let l = a.terms.now in
    let whole = more l a.from a.count c.requires.0 (omega arith) in
    (omega arith, (omega arith, room-left xo (first l a.from a.count) (second l a.from a.count) (room_of whole c.requires.1)))

pub put_fold-right-requires : goal.put_fold-right-requires
put_fold-right-requires t c =
    let a = c.args in
    let l = a.terms.now in
    let whole = more l a.from a.count c.requires.0 (omega arith) in (
      omega (arith, rest-fewer a.count (omega arith)),
      (
        rest-within a.from a.count (length l) c.requires.0,
        room-right xo (first l a.from a.count) (second l a.from a.count) c.put_fold-left.ensures (room_of whole c.requires.1),
      ),
    )

pub put_mark-requires : goal.put_mark-requires
put_mark-requires t c =
    let a = c.args in
    let l = a.terms.now in
    let whole = more l a.from a.count c.requires.0 (omega arith) in
    room-mark xo (first l a.from a.count) (second l a.from a.count) c.put_fold-left.ensures c.put_fold-right.ensures (room_of whole c.requires.1)

pub returns : goal.returns
returns t c =
    let a = c.args in
    let l = a.terms.now in
    let whole = more l a.from a.count c.requires.0 (omega arith) in
    writes-of (sym whole)
    (writes-join xo (first l a.from a.count) (second l a.from a.count) c.put_fold-left.ensures c.put_fold-right.ensures c.put_mark.ensures)
