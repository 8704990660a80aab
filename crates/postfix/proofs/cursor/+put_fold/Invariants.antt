-- The measure of the cycle of calls {put_fold} is the number of terms: of two or more terms each half has fewer.
use Rattle.postfix.proofs.cursor.+put_fold.Given as goal

abbrev pub decreases-put_fold : goal.decreases-put_fold
decreases-put_fold l = l.count
