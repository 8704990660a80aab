-- `anf_transform::transform_back` meets its contract: the copied words come to hold the values as bits, and the entries that they give way to cover
-- them.
use Rattle.std.proofs.Common.{◌≡◌, ◌≤◌, ◌++◌, ◌^◌, ◌∙◌, List, ℕ, map, arith, length, drop, take, sym, ap}
use lib.Seq.{sets, length-take-le}
use Rattle.std.proofs.Math.Seq.{take-length}
use Rattle.bits.specs.Bit.{digit}
use Rattle.bits.specs.Range.{upto}
use Rattle.bits.proofs.Stores.{sets_over}
use Rattle.bits.proofs.Tabulated.{length-map-upto, map-upto-ext}
use Rattle.rules.specs.Coefficient.{coefficient, packed}
use Rattle.packed_anf.proofs.Room.{word_count-le}
use Rattle.anf_transform.proofs.WordByWord.{packed-append}
use Rattle.anf_transform.proofs.transform_back.Goals as goal

pub slice_bounds-words-end : goal.slice_bounds-words-end
slice_bounds-words-end c = omega (arith, word_count-le c.args.coefficients.flags.count, c.args.coefficients.all)

pub slice_bounds-words-end-2 : goal.slice_bounds-words-end-2
slice_bounds-words-end-2 c =
    sym (length-take-le _ c.args.out.now (omega (arith, word_count-le c.args.coefficients.flags.count, c.args.coefficients.all)))

-- a front as long as what is copied there takes all of it
room : {k : ℕ} (o cs : List ℕ) → length cs ≡ k → k ≤ length o → length (take (length cs) o) ≡ length cs
room o cs e b = length-take-le (length cs) o (omega (arith, e, b))

whole : {ws : List ℕ} (o cs : List ℕ) → length (take (length cs) o) ≡ length cs → ws ≡ take (length (take (length cs) o)) cs → ws ≡ cs
whole o cs e w = w ∙ ap (λ (k : ℕ). take k cs) e ∙ take-length cs

pub copy-requires : goal.copy-requires
copy-requires c =
    let k = c.args.coefficients in
    let e = room c.args.out.now k.words.now k.all (omega (arith, word_count-le k.flags.count)) in
    omega (arith, e)

pub transform_words-requires : goal.transform_words-requires
transform_words-requires c =
    let k = c.args.coefficients in
    let e = room c.args.out.now k.words.now k.all (omega (arith, word_count-le k.flags.count)) in
    ap length (whole c.args.out.now k.words.now e c.copy.ensures) ∙ k.all

pub returns : goal.returns
returns c =
    let n = c.args.coefficients.flags.count in
    let cs = c.args.coefficients.words.now in
    let o = c.args.out.now in
    let ws = c.transform_words.new.words in
    let size = c.transform_words.ensures.0 in
    let vs = map (λ s. digit (coefficient n (packed cs) s)) (upto (2 ^ n)) in
    let many : length vs ≡ 2 ^ n = length-map-upto (2 ^ n) (λ s. digit (coefficient n (packed cs) s)) in
    let rest = drop (length cs) o in
    let copied = whole o cs (room o cs c.args.coefficients.all (omega (arith, word_count-le n))) c.copy.ensures in
    c.unpack.ensures
    ∙ ap (sets (ws ++ rest) 0)
    (map-upto-ext (2 ^ n) (λ s. digit (packed (ws ++ rest) s)) (λ s. digit (coefficient n (packed cs) s))
    (λ s l. ap digit (packed-append n ws s l rest size ∙ c.transform_words.ensures.1 s l
    ∙ ap (λ (us : List ℕ). coefficient n (packed us) s) copied)))
    ∙ ap (λ (i : ℕ). sets (ws ++ drop i o) 0 vs) (c.args.coefficients.all ∙ sym size)
    ∙ sets_over vs ws o (omega (arith, word_count-le n)) (omega arith)
