-- `anf_form::degree::list_degree` meets its contract: a turn writes the masks of one word more (Held).
use Rattle.std.proofs.Common.{◌≡◌, ◌+◌, ◌*◌, ◌++◌, ◌∙◌, List, ℕ, ap, arith, length, map, eqb, get_or}
use Rattle.std.specs.Int.Count.{ones}
use native.Mathlib.Numerals.{add-one}
use lib.ListN.{length-map}
use Rattle.bits.specs.Range.{keep, from}
use Rattle.bits.specs.Stored.{Room}
use Rattle.bits.proofs.Stored.{stored-none, stored-append, room_next}
use Rattle.mask_words.specs.inner.Degree.{of_degree}
use Rattle.anf_form.specs.Inner.{held, of_block}
use Rattle.anf_form.proofs.Held.{held-keep-suc, held-le, word_count-most}
use Rattle.mask_words.proofs.Rest.{room-rest, stored-rest}
use Rattle.anf_form.proofs.degree.list_degree.Goals as goal

pub loop-i-init : goal.loop-i-init
unfolding keep from
loop-i-init c = stored-none 0 _ (omega arith)

-- one word more
more : (d i : ℕ) (ws : List ℕ) → of_degree d (held (i + 1) ws) ≡ of_degree d (held i ws) ++ map (λ j. 64 * i + j) (of_block d i (get_or ws i 0))
more d i ws = ap (λ (k : ℕ). of_degree d (held k ws)) (add-one i) ∙ held-keep-suc ws (λ m. eqb (ones m) d) i

pub list_block-count-requires-clause-few : goal.list_block-count-requires-clause-few
list_block-count-requires-clause-few c =
    let a = c.args.coefficients in omega (arith, a.all, word_count-most a.flags.count a.flags.within)

pub list_block-count-requires-clause-room : goal.list_block-count-requires-clause-room
list_block-count-requires-clause-room c =
    let d = c.args.degree in
    let ws = c.args.coefficients.words.now in
    let l = c.loop-i in
    let next = map (λ j. 64 * l.i + j) (of_block d l.i (get_or ws l.i 0)) in
    let fits = held-le ws (λ m. eqb (ones m) d) (l.i + 1) (length ws) (omega arith) in
    let room : Room next l.count l.out = room_next next (rw (← more d l.i ws) (omega arith)) l.invariant in
    omega (arith, room-rest l.count l.out next room, length-map (of_block d l.i (get_or ws l.i 0)) (λ j. 64 * l.i + j))

pub loop-i-preserved : goal.loop-i-preserved
loop-i-preserved c =
    let l = c.loop-i in
    rw (more c.args.degree l.i c.args.coefficients.words.now)
    (stored-append l.invariant (stored-rest l.count l.out _ _ _ (omega arith) c.list_block-count.ensures))
