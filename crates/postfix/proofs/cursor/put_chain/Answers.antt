-- `postfix::cursor::put_chain` meets its contract. The loop's invariant: there is room for the links that are left, and whoever writes them from
-- here on has written all links from the loop's start. The measure is what is left of the mask, which falls with its lowest one.
use mathlib.Core.List.{List, [], ◌∷◌}
use Prim.Native.Nat.{ℕ, ◌-◌, ◌*◌, ◌^◌, ◌<◌}
use native.Mathlib.Nat.{lt_trans}
use native.Mathlib.Omega.{arith}
use lib.ListN.{length}
use Rattle.bits.proofs.Lowest.{trailing_lt, clear-lt}
use Rattle.rules.specs.Form.{flags}
use Rattle.postfix.specs.Put.{Put}
use Rattle.postfix.specs.Written.{chained}
use Rattle.postfix.proofs.Links.{links-none, links-more, puts-chain, room-flag, room-operator, room-rest, room-chain, room-links}
use Rattle.postfix.proofs.Put.{put-length}
use Rattle.postfix.proofs.cursor.put_chain.Goals as goal

pub overflow_sub-left : goal.overflow_sub-left
overflow_sub-left c =
    let some : 0 < c.args.mask = c.requires.0 in
    some

pub overflow_cast-mask : goal.overflow_cast-mask
overflow_cast-mask c =
    let some : 0 < c.args.mask = c.requires.0 in
    let fits : c.args.mask < 2 ^ 64 = c.ranges.mask.fits in
    omega (arith, trailing_lt 64 c.args.mask some fits)

pub put_leaf-next-requires : goal.put_leaf-next-requires
put_leaf-next-requires c =
    let mark : List ℕ = c.args.first ∷ c.args.second ∷ [] in
    let some : 0 < c.args.mask = c.requires.0 in
    let fits : c.args.mask < 2 ^ 64 = c.ranges.mask.fits in
    room-chain mark c.args.mask some fits c.requires.1

pub loop-left-init : goal.loop-left-init
loop-left-init c =
    let mark : List ℕ = c.args.first ∷ c.args.second ∷ [] in
    let some : 0 < c.args.mask = c.requires.0 in
    let fits : c.args.mask < 2 ^ 64 = c.ranges.mask.fits in (
      lt_trans (clear-lt 64 c.args.mask some fits) fits,
      room-links mark c.args.mask some fits c.put_leaf-next.ensures c.requires.1,
      λ b after w. w,
    )

pub overflow_cast-left : goal.overflow_cast-left
overflow_cast-left c =
    let left : ℕ = c.loop-left.left in
    let more : 0 < left = omega arith in
    let word : left < 2 ^ 64 = c.loop-left.invariant.0 in
    omega (arith, trailing_lt 64 left more word)

pub put_leaf-flag-requires : goal.put_leaf-flag-requires
put_leaf-flag-requires c =
    let mark : List ℕ = c.args.first ∷ c.args.second ∷ [] in
    let left : ℕ = c.loop-left.left in
    let more : 0 < left = omega arith in
    let word : left < 2 ^ 64 = c.loop-left.invariant.0 in
    room-flag mark left more word c.loop-left.invariant.1

pub put_mark-next-requires : goal.put_mark-next-requires
put_mark-next-requires c =
    let mark : List ℕ = c.args.first ∷ c.args.second ∷ [] in
    let left : ℕ = c.loop-left.left in
    let more : 0 < left = omega arith in
    let word : left < 2 ^ 64 = c.loop-left.invariant.0 in
    room-operator mark left more word c.put_leaf-flag.ensures c.loop-left.invariant.1

pub overflow_sub-left-in-loop-left : goal.overflow_sub-left-in-loop-left
overflow_sub-left-in-loop-left c =
    let left : ℕ = c.loop-left.left in
    let more : 0 < left = omega arith in
    more

pub loop-left-smaller : goal.loop-left-smaller
loop-left-smaller c =
    let left : ℕ = c.loop-left.left in
    let more : 0 < left = omega arith in
    let word : left < 2 ^ 64 = c.loop-left.invariant.0 in
    clear-lt 64 left more word

pub loop-left-preserved : goal.loop-left-preserved
loop-left-preserved c =
    let mark : List ℕ = c.args.first ∷ c.args.second ∷ [] in
    let left : ℕ = c.loop-left.left in
    let more : 0 < left = omega arith in
    let word : left < 2 ^ 64 = c.loop-left.invariant.0 in (
      lt_trans (clear-lt 64 left more word) word,
      room-rest mark left more word c.put_leaf-flag.ensures c.put_mark-next.ensures c.loop-left.invariant.1,
      λ b after w. c.loop-left.invariant.2 b after
          (links-more mark left more word c.put_leaf-flag.ensures c.put_mark-next.ensures w),
    )

pub shape_of-out : goal.shape_of-out
shape_of-out c =
    let mark : List ℕ = c.args.first ∷ c.args.second ∷ [] in
    let some : 0 < c.args.mask = c.requires.0 in
    let fits : c.args.mask < 2 ^ 64 = c.ranges.mask.fits in
    let whole : Put (chained mark (flags c.args.mask))
    (2 * length (flags c.args.mask) - 1) c.args.at c.loop-left.next c.args.out.now c.loop-left.out = let l = c.loop-left in
    puts-chain mark c.args.mask some fits c.put_leaf-next.ensures
    (l.invariant.2 l.next l.out (links-none mark l.left l.next l.out l.invariant.1 c.loop-left-test.false)) in
    put-length whole

pub returns : goal.returns
returns c =
    let mark : List ℕ = c.args.first ∷ c.args.second ∷ [] in
    let some : 0 < c.args.mask = c.requires.0 in
    let fits : c.args.mask < 2 ^ 64 = c.ranges.mask.fits in
    let whole : Put (chained mark (flags c.args.mask))
    (2 * length (flags c.args.mask) - 1) c.args.at c.loop-left.next c.args.out.now c.loop-left.out = let l = c.loop-left in
    puts-chain mark c.args.mask some fits c.put_leaf-next.ensures
    (l.invariant.2 l.next l.out (links-none mark l.left l.next l.out l.invariant.1 c.loop-left-test.false)) in
    whole
