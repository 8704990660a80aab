-- The measure of `postfix::Postfix::put_fold` is the number of terms: of two or more terms each half has fewer.
use Rattle.std.specs.Prelude.{length}
use Rattle.postfix.proofs.Postfix.+put_fold.Given as goal

abbrev pub decreases-put_fold : goal.decreases-put_fold
decreases-put_fold g l = length l.terms.now
