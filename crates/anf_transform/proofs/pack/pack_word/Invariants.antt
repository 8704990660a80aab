-- `anf_transform::pack::pack_word` meets its contract. The loop's invariant: the word has the low bits of the first j entries. An entry's low bit is
-- its remainder by 2 (bits, Quotient).
use Rattle.std.proofs.Common.{◌≡◌}
use Rattle.bits.specs.Range.{keep, upto}
use Rattle.bits.specs.Word.{word}
use Rattle.rules.specs.Table.{entry}
use Rattle.anf_transform.proofs.pack.pack_word.Given as goal

abbrev pub invariant-loop-j : goal.invariant-loop-j
invariant-loop-j l = l.word ≡ word (keep (entry l.entries) (upto l.j))
