-- `examination_text::verdict::push_flag_names` meets its contract: a word of no ones has no flag, and of another each flag is written (Flags).
use Rattle.std.proofs.Common.{arith, sym, ap, ◌∙◌}
use Prim.Native.Nat.{ℕ}
use Rattle.mask_words.specs.declared.Ones.{Ones}
use Rattle.bits.specs.Sum.{sum}
use Rattle.bits.specs.Word.{places}
use Rattle.bits.proofs.Places.{places-zero}
use Rattle.rules.specs.Ascii.{ascii}
use Rattle.text.proofs.Shown.{written-eq, written-none, written-then}
use Rattle.examination_text.specs.Verdict.{named, flag_names}
use Rattle.examination_text.proofs.Flags.{named-first, names-word}
use Rattle.examination_text.proofs.verdict.push_flag_names.Goals as goal

pub returns-then-word-eq0 : goal.returns-then-word-eq0
unfolding ascii flag_names
returns-then-word-eq0 c =
    written-eq (ap flag_names (sym (places-zero 64) ∙ ap (places 64) (sym c.if-word-eq0.true ∙ c.word.ensures))) c.push.ensures

pub loop-flag-init : goal.loop-flag-init
loop-flag-init c =
    let e = c.into_iter-flag-iterator.ensures.into_iter_gives in
    let flags : ℕ = c.args.flags.left in (
      tt,
      tt,
      λ new w. written-eq (ap (λ (o : Ones). named (places 64 o.left)) e
          ∙ names-word flags (omega (arith, c.word.ensures, c.word.type_inv)) (λ z. c.if-word-eq0.false (c.word.ensures ∙ z))) w,
    )

pub loop-flag-preserved : goal.loop-flag-preserved
unfolding ascii
loop-flag-preserved c =
    let l = c.loop-flag in (
      tt,
      tt,
      λ new w.
          l.invariant.2 new (written-eq (named-first c.in-Some.ensures.steps) (written-then c.push_number.ensures w)),
    )

pub returns : goal.returns
unfolding sum
returns c = c.loop-flag.invariant.2 _ (written-eq (ap named (sym c.in-None.ensures.steps.0)) (written-none _))
