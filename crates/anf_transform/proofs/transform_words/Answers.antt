-- `anf_transform::transform_words` meets its contract: `inside` leaves the XOR over subsets for the six lowest flags, which is all that six flags or
-- fewer need, and `between` adds the others.
use mathlib.Core.Path.{◌≡◌, ap, ◌∙◌}
use Prim.Native.Nat.{◌+◌, ◌-◌}
use native.Mathlib.Nat.{le_refl}
use native.Mathlib.Omega.{arith}
use Rattle.rules.specs.Coefficient.{word_count, packed}
use Rattle.laws.proofs.transform.Packed.{word_count-large}
use Rattle.anf_transform.specs.inner.Flag.{lowest, Holds}
use Rattle.anf_transform.proofs.Flag.{holds-coefficient}
use Rattle.anf_transform.proofs.InWord.{holds-inside}
use Rattle.anf_transform.proofs.transform_words.Goals as goal

pub between-requires : goal.between-requires
between-requires c =
    let e : c.args.flags.count ≡ 6 + (c.args.flags.count - 6) = omega arith in
    (omega arith, c.inside.ensures.same ∙ c.requires ∙ ap word_count e ∙ word_count-large (c.args.flags.count - 6))

pub returns-then-flags-gt6 : goal.returns-then-flags-gt6
returns-then-flags-gt6 c =
    let six : Holds (lowest 6 (packed c.args.words.now)) c.inside.new.words = holds-inside c.args.words.now c.inside.new.words c.inside.ensures in
    let ws = c.args.words.now in
    let e : 6 + (c.args.flags.count - 6) ≡ c.args.flags.count = omega arith in
    let h = rw e at (c.between.ensures.1 (packed ws) six) in
    let l = c.between.ensures.0 ∙ c.inside.ensures.same ∙ c.requires in
    (l, holds-coefficient c.args.flags.count c.args.flags.count (packed ws) c.between.new.words (le_refl c.args.flags.count) l h)

pub returns-else-flags-gt6 : goal.returns-else-flags-gt6
returns-else-flags-gt6 c =
    let six : Holds (lowest 6 (packed c.args.words.now)) c.inside.new.words = holds-inside c.args.words.now c.inside.new.words c.inside.ensures in
    let l = c.inside.ensures.same ∙ c.requires in
    (l, holds-coefficient c.args.flags.count 6 (packed c.args.words.now) c.inside.new.words c.if-flags-gt6.false l six)
