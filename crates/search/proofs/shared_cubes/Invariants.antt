-- `search::shared_cubes` meets its contract. The loop's invariant: the two words are reached by the flags before this one (Shared).
use Rattle.bits.proofs.Sets.{without_zero}
use Rattle.search.specs.Inner.{Reached}
use Rattle.search.proofs.shared_cubes.Given as goal

abbrev pub invariant-loop-flag : goal.invariant-loop-flag
invariant-loop-flag l = Reached (without_zero 64 l.fn.form.word) l.flag l.found.once l.found.twice
