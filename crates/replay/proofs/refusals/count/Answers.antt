-- A turn's call is one more case, and its answer one more answer.
use Rattle.std.proofs.Common.{refl, Bool, [], ◌∷◌, ◌++◌, get_or, arith}
use Rattle.std.proofs.lemmas.List.{take_more, take_all}
use Rattle.std.proofs.lemmas.List.Sums.{fold-append}
use Rattle.std.proofs.lemmas.Slice.Zip.{all_zipped_more}
use Rattle.rules.specs.declared.refusal.Reason.TheVariants.{TooManyFlags}
use Rattle.comparison.specs.Tally.{one_more}
use Rattle.replay.specs.Refusals.{Case, Told}
use Rattle.replay.proofs.refusals.count.Goals as goal

pub loop-flags-init : goal.loop-flags-init
loop-flags-init g c = record { answers = []; told = tt; counted = refl }

pub loop-flags-preserved : goal.loop-flags-preserved
loop-flags-preserved g c =
    let done = c.loop-flags.invariant in
    let s = c.args.cases.now in
    let i = c.loop-flags.flags-index in
    let none : Case = (0, 0, 0, 0, TooManyFlags, 0) in
    let same : Bool = c.is_refused.result in
    let one : Told g.F.Fn c.args.is_refused c.args.wrong (get_or s i none) same = record {
      met = rw (← c.at.ensures, ← c.expected-expected.ensures) c.is_refused.ensures;
    } in
    record {
      answers = done.answers ++ same ∷ [];
      told = rw (take_more s i none (omega arith)) (all_zipped_more _ _ done.answers _ same done.told one);
      counted = rw (fold-append one_more c.args.tally.now done.answers (same ∷ []), ← done.counted) c.count.ensures;
    }

pub returns : goal.returns
returns g c = rw (← take_all _ c.args.cases.now c.loop-flags-test.false) c.loop-flags.invariant
