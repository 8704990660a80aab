-- What a read adds to the front of the buffer is what it took from the input.
use Rattle.std.proofs.Common.{◌≡◌, ℕ, ◌+◌, ◌-◌, ◌≤◌, List, ◌++◌, length, take}
use Rattle.std.proofs.Common.{rules, sym, ap, ap₂, ◌∙◌, subst, le_refl, drop_at, length-take-le}
use Rattle.std.proofs.lemmas.Slice.{take-put_mid_below}
use Rattle.std.specs.Io.KnownBytes.{Consumes}
use Rattle.std.proofs.KnownBytes.{Consumes-trans}
use borrow.Rule.Slice.PartMut.{put_mid, post_of}
use lib.Seq.{take-add, take-append-le}
use Rattle.fronts.proofs.read.Goals as goal

-- the front of a buffer in which a part was written, up to n entries into the part
front-written : (a k n : ℕ) (xs ys : List ℕ) → a ≤ length xs → n ≤ length ys → take a xs ++ take n ys ≡ take (a + n) (put_mid a k xs ys)
front-written a k n xs ys within fits =
    let behind = ys ++ post_of a k xs in
    sym (take-add a n (put_mid a k xs ys)
    ∙ ap₂ (λ (s t : List ℕ). s ++ t) (take-put_mid_below a k xs ys a (le_refl a) within)
    (ap (take n) (drop_at (take a xs) behind a (length-take-le a xs within)) ∙ take-append-le n ys (post_of a k xs) fits))

pub loop-done-preserved : goal.loop-done-preserved
loop-done-preserved g c =
    let l = c.loop-done in
    let new = front-written l.done (length l.buffer - l.done) c.in_ok-n.n l.buffer c.read.new.buf l.invariant.0 c.in_ok-n.ensures.bound.0 in
    (search rules, subst (Consumes _ _) new (Consumes-trans _ _ _ _ _ l.invariant.1 c.in_ok-n.ensures.bytes.0))
