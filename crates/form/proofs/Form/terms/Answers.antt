-- `form::Form::terms` meets its contract. The loop's invariant: the terms of lower degree are written, degree by degree (Levels). The measure is what
-- is left of the seven degrees.
use mathlib.Core.List.{List, map}
use mathlib.Core.Path.{◌≡◌, ap, ◌∙◌}
use Prim.Native.Nat.{ℕ, ◌+◌}
use native.Mathlib.Omega.{arith}
use lib.ListN.{length, length-map}
use Rattle.bits.specs.Stored.{Room}
use Rattle.bits.specs.Word.{places}
use Rattle.bits.proofs.Stored.{stored-none, stored-append, stored-length, room_next}
use Rattle.laws.proofs.form.Ordered.{length-ordered}
use Rattle.mask_words.specs.inner.Degree.{of_degree}
use Rattle.mask_words.proofs.Rest.{room-rest, stored-rest}
use Rattle.mask_words.proofs.Degrees.{degrees}
use Rattle.form.proofs.Levels.{levels-none, levels-suc, levels-fit, levels-all}
use Rattle.form.proofs.Form.terms.Goals as goal

pub loop-degree-init : goal.loop-degree-init
loop-degree-init c = (omega arith, rw (levels-none c.args.self.word) (stored-none 0 _ (omega arith)))

pub list_degree-count-requires : goal.list_degree-count-requires
list_degree-count-requires c =
    let w : ℕ = c.args.self.word in
    let l = c.loop-degree in
    let block : List ℕ = map (λ m. 0 + m) (of_degree l.degree (places 64 w)) in
    let room : Room block l.count l.out = let fits = levels-fit w (l.degree + 1) (omega arith) in
    room_next block (rw (← levels-suc w l.degree) (omega arith)) l.invariant.1 in
    (omega arith, omega (arith, room-rest l.count l.out block room, length-map (of_degree l.degree (places 64 w)) (λ m. 0 + m)))

pub overflow_step-degree : goal.overflow_step-degree
overflow_step-degree c = omega arith

pub loop-degree-smaller : goal.loop-degree-smaller
loop-degree-smaller c = omega arith

pub loop-degree-preserved : goal.loop-degree-preserved
loop-degree-preserved c =
    let l = c.loop-degree in (
      omega arith,
      rw (levels-suc c.args.self.word l.degree)
          (stored-append l.invariant.1 (stored-rest l.count l.out _ _ _ (omega arith) c.list_degree-count.ensures)),
    )

pub shape_of-out : goal.shape_of-out
shape_of-out c = stored-length c.loop-degree.invariant.1

pub returns : goal.returns
returns c =
    let v = c.args.self.word in
    let last : c.loop-degree.degree ≡ 7 = omega arith in
    let all = ap (degrees (places 64 v)) last ∙ levels-all v in
    (omega (arith, ap length all, length-ordered (places 64 v), c.loop-degree.invariant.1.place), rw (← all) c.loop-degree.invariant.1.entries)
