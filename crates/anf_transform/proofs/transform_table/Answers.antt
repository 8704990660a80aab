-- `anf_transform::transform_table` meets its contract: the packed table's words come to hold its coefficients, and where the one word is not full its
-- stray bits are cut off.
use Rattle.std.proofs.Common.{◌≡◌, ◌∙◌, List, ℕ, Bool, ap, arith}
use lib.ListN.{set}
use Rattle.rules.specs.Coefficient.{coefficient, packed, words}
use Rattle.rules.specs.Table.{entry}
use Rattle.laws.proofs.transform.Mobius.{coefficient-ext}
use Rattle.laws.proofs.transform.Packed.{word_count-pos, packed-words}
use Rattle.anf_transform.proofs.WordByWord.{full-words, cut_word}
use Rattle.anf_transform.proofs.transform_table.Goals as goal

-- the coefficients of words that hold the values of f are those of f
of-words : (n : ℕ) (f : ℕ → Bool) (ws : List ℕ) (m : ℕ) → ws ≡ words n f → coefficient n (packed ws) m ≡ coefficient n f m
of-words n f ws m e = coefficient-ext n (packed ws) f m (λ s l. ap (λ (us : List ℕ). packed us s) e ∙ packed-words n f s l)

pub bounds-out-0 : goal.bounds-out-0
bounds-out-0 c = omega (arith, c.transform_words.ensures.0, word_count-pos c.args.table.flags.count)

pub bounds-out-0-then-table-lt6 : goal.bounds-out-0-then-table-lt6
bounds-out-0-then-table-lt6 c = omega (arith, c.transform_words.ensures.0, word_count-pos c.args.table.flags.count)

pub returns-then-table-lt6 : goal.returns-then-table-lt6
returns-then-table-lt6 c =
    let n = c.args.table.flags.count in
    let f = entry c.args.table.entries.now in
    let made : List ℕ = c.transform_words.new.words in
    ap (set made 0) c.low_bits.ensures
    ∙ cut_word n (coefficient n f) made c.transform_words.ensures.0
    (λ m h. c.transform_words.ensures.1 m h ∙ of-words n f _ m c.pack.ensures) (omega arith)

pub returns-else-table-lt6 : goal.returns-else-table-lt6
returns-else-table-lt6 c =
    let n = c.args.table.flags.count in
    let f = entry c.args.table.entries.now in
    full-words n (coefficient n f) c.transform_words.new.words c.transform_words.ensures.0
    (λ m h. c.transform_words.ensures.1 m h ∙ of-words n f _ m c.pack.ensures) (λ i. (c.type_inv.out i).fits) (omega arith)
