-- `anf_form::degree::list` meets its contract: with the number of flags for the highest degree, the degrees make the ordered list (mask_words,
-- Degrees).
use Rattle.std.proofs.Common.{◌≡◌, ◌+◌, ◌++◌, ◌≤◌, ◌∙◌, List, ℕ, false, ap, arith, length}
use native.Mathlib.Numerals.{add-one}
use Rattle.bits.specs.Stored.{Room}
use Rattle.bits.proofs.Stored.{stored-none, stored-append, room_next}
use Rattle.rules.specs.Coefficient.{word_count, stray}
use Rattle.rules.specs.Monomial.{monomials, ordered}
use Rattle.laws.proofs.form.Ordered.{length-ordered}
use Rattle.mask_words.specs.inner.Degree.{of_degree}
use Rattle.mask_words.proofs.Degrees.{degrees, degrees-one, degrees-suc, degrees-le, ordered-monomials}
use Rattle.anf_form.specs.Inner.{held}
use Rattle.anf_form.proofs.Held.{ascending-held, below-held}
use Rattle.mask_words.proofs.Rest.{room-rest, stored-rest}
use Rattle.anf_form.proofs.degree.list.Goals as goal

-- one degree more, and all degrees
more : (l : List ℕ) (d : ℕ) → 1 ≤ d → degrees (monomials l) (d + 1) ≡ degrees (monomials l) d ++ of_degree d l
more l d h = ap (degrees (monomials l)) (add-one d) ∙ degrees-suc l d h

whole : (n : ℕ) (ws : List ℕ) → length ws ≡ word_count n → stray n ws ≡ false
    → degrees (monomials (held (length ws) ws)) (n + 1) ≡ ordered (monomials (held (length ws) ws))
whole n ws all clean =
    let l = held (length ws) ws in
    ap (degrees (monomials l)) (add-one n) ∙ ordered-monomials l n (ascending-held ws (length ws)) (rw all (below-held ws n clean))

pub loop-degree-init : goal.loop-degree-init
loop-degree-init c =
    let ws = c.args.coefficients.words.now in
    (omega arith, rw (degrees-one (held (length ws) ws)) (stored-none 0 _ (omega arith)))

pub list_degree-count-requires : goal.list_degree-count-requires
list_degree-count-requires c =
    let a = c.args.coefficients in
    let l = held (length a.words.now) a.words.now in
    let d = c.loop-degree.degree in
    let all = whole a.flags.count a.words.now a.all a.none_stray in
    let fits = degrees-le (monomials l) (d + 1) (a.flags.count + 1) (omega arith) in
    let room : Room (of_degree d l) c.loop-degree.count c.loop-degree.out =
    room_next (of_degree d l) (rw (← more l d (omega arith)) (omega (arith, ap length all, length-ordered (monomials l))))
    c.loop-degree.invariant.1 in
    room-rest c.loop-degree.count c.loop-degree.out (of_degree d l) room

pub loop-degree-preserved : goal.loop-degree-preserved
loop-degree-preserved c =
    let ws = c.args.coefficients.words.now in
    let l = c.loop-degree in (
      omega arith,
      rw (more (held (length ws) ws) l.degree (omega arith))
          (stored-append l.invariant.1 (stored-rest l.count l.out _ _ _ (omega arith) c.list_degree-count.ensures)),
    )

-- the loop ends behind the last degree, or is none where there are no flags
pub returns : goal.returns
returns c =
    let a = c.args.coefficients in
    let end : c.loop-degree.degree ≡ a.flags.count + 1 = omega arith in
    rw (← whole a.flags.count a.words.now a.all a.none_stray, ← end) c.loop-degree.invariant.1.entries

pub returns-2 : goal.returns-2
returns-2 c =
    let a = c.args.coefficients in
    let ws = a.words.now in
    let l = c.loop-degree in
    let last : l.degree ≡ a.flags.count = omega arith in
    rw (← whole a.flags.count ws a.all a.none_stray, ← last, more (held (length ws) ws) l.degree (omega arith))
    (stored-append l.invariant.1 (stored-rest l.count l.out _ _ _ (omega arith) c.list_degree-count.ensures)).entries
