-- `examination_text::examine_rule` meets its contract: each of its answers is one law of Input. Where what stands behind the second line is tested,
-- the answers know the length of a piece from its front too, so that they hold for any test of that length.
use mathlib.Core.Path.{◌≡◌, sym, ◌∙◌}
use Prim.Native.Nat.{ℕ}
use native.Mathlib.Omega.{arith}
use lib.ListN.{length-take}
use borrow.Author.Tests.{tests}
use Rattle.rules.specs.Ascii.{ascii}
use Rattle.text.proofs.Shown.{shows-eq}
use Rattle.examination_text.specs.Input.{not_lines, verdict_page}
use Rattle.examination_text.proofs.Input.{page-long, page-lines, lines-none, lines-one, lines_two, lines-four, lines-more, lines-all, length-second}
use Rattle.examination_text.proofs.examine_rule.Goals as goal
use Rattle.examination_text.proofs.examine_rule.Goals.{in_default-via-in-Some+in-Some+in-Some+in_default}
use Rattle.examination_text.proofs.examine_rule.Goals.{in_default-via-in-Some+in-Some+in_default, in_default-via-in-Some+in_default}
use Rattle.examination_text.proofs.examine_rule.Goals.{in_default-via-in_default}

pub returns-then-input-gt-LONGEST : goal.returns-then-input-gt-LONGEST
unfolding ascii
returns-then-input-gt-LONGEST c = shows-eq (sym (page-long c.args.input.now c.if-input-gt-LONGEST.true)) c.page_of.ensures

pub returns-in_default : goal.returns-in_default
unfolding ascii
returns-in_default c =
    let s = c.args.input.now in
    let start = c.of-lines.ensures in
    let other : verdict_page s ≡ not_lines = page-lines s c.if-input-gt-LONGEST.false ∙ elim c.in_default.branch [
      | in_default-via-in_default w ↦ lines-none s start w.in_default.ensures.steps.0
      | in_default-via-in-Some+in_default w ↦ let a = w.in_default in lines-one s start a.ensures.steps a.ensures'.steps.0
      | in_default-via-in-Some+in-Some+in_default w ↦
          let a = w.in_default in
          lines_two s start a.ensures.steps a.ensures'.steps a.ensures''.steps.0
      | in_default-via-in-Some+in-Some+in-Some+in_default w ↦
          let a = w.in_default in
          lines-four s start a.ensures.steps a.ensures'.steps a.ensures''.steps a.ensures'''.steps
    ] in
    shows-eq (sym other) c.page_of-in_default.ensures

pub returns-then-not-is_empty : goal.returns-then-not-is_empty
unfolding ascii
returns-then-not-is_empty c =
    let s = c.args.input.now in
    let a = c.in-Some-Some-Some-None in
    let more = lines-more s c.of-lines.ensures a.ensures.steps a.ensures'.steps a.ensures''.steps a.ensures'''.steps.0 in
    shows-eq
    (sym (page-lines s c.if-input-gt-LONGEST.false ∙ more (λ e. omega (arith, tests, length-take {A = ℕ}, e))))
    c.page_of-then-not-is_empty.ensures

pub lines_page-requires : goal.lines_page-requires
lines_page-requires c =
    let a = c.in-Some-Some-Some-None in
    omega (arith, length-second c.args.input.now c.of-lines.ensures a.ensures.steps a.ensures'.steps)

pub returns : goal.returns
returns c =
    let s = c.args.input.now in
    let a = c.in-Some-Some-Some-None in
    let all = lines-all s c.of-lines.ensures a.ensures.steps a.ensures'.steps a.ensures''.steps a.ensures'''.steps.0 in
    shows-eq
    (sym (page-lines s c.if-input-gt-LONGEST.false ∙ all (omega (arith, tests, length-take {A = ℕ}))))
    c.lines_page.ensures
