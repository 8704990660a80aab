-- `Parts::next` gives the part before the first separator and leaves the parts behind it, or gives the last part (Split).
use mathlib.Core.List.{List, [], ◌∷◌}
use mathlib.Core.Path.{◌≡◌, sym, ap, ◌∙◌}
use Prim.Native.Nat.{ℕ, ◌+◌, ◌-◌}
use native.Mathlib.Omega.{arith}
use lib.ListN.{length, take, drop, length-drop}
use lib.Seq.{take_all}
use Rattle.examination_text.specs.Notation.{split}
use Rattle.examination_text.specs.inner.Parts.{rest_left}
use Rattle.examination_text.proofs.Split.{split-none, split-some}
use Rattle.examination_text.proofs.parts.PartsIterator.next.Goals as goal
use Rattle.examination_text.proofs.parts.PartsIterator.next.Goals.{In_default, In-Some}

-- the last part
last : (c : In_default) → rest_left c.args.self.now.separator c.args.self.now.rest ≡ c.in_ok-rest.rest.now ∷ []
last c =
    let b = c.args.self.now.separator in
    ap (rest_left b) c.in_ok-rest.was ∙ split-none b c.in_ok-rest.rest.now c.first.ensures c.in_default.is

pub returns-in_default-clause-steps : goal.returns-in_default-clause-steps
returns-in_default-clause-steps c = last (goal.at.returns-in_default-clause-steps c).In_default

pub returns-in_default-clause-goes : goal.returns-in_default-clause-goes
returns-in_default-clause-goes c =
    let one = last (goal.at.returns-in_default-clause-goes c).In_default in
    record { on = λ _. (tt, tt, omega (arith, ap length one)); keeps = tt; rests = λ _. tt }

-- the part, and what is left
first : (c : In-Some) → rest_left c.args.self.now.separator c.args.self.now.rest
    ≡ take c.in-Some.end c.in_ok-rest.rest.now ∷ split c.args.self.now.separator
    (take (length c.in_ok-rest.rest.now - (c.in-Some.end + 1)) (drop (c.in-Some.end + 1) c.in_ok-rest.rest.now))
first c =
    let b = c.args.self.now.separator in
    let s = c.in_ok-rest.rest.now in
    let end = c.in-Some.end in
    let e = split-some b s end c.first.ensures c.in-Some.is in
    let whole = take_all _ _ (omega (arith, length-drop (end + 1) s)) in
    ap (rest_left b) c.in_ok-rest.was ∙ e.1 ∙ ap (λ (l : List ℕ). take end s ∷ split b l) (sym whole)

pub returns-clause-steps : goal.returns-clause-steps
returns-clause-steps c = first (goal.at.returns-clause-steps c).In-Some

pub returns-clause-goes : goal.returns-clause-goes
returns-clause-goes c =
    let both = first (goal.at.returns-clause-goes c).In-Some in
    record { on = λ _. (tt, tt, omega (arith, ap length both)); keeps = tt; rests = λ _. tt }
