-- `form::Form::list_degree` meets its contract: the masks of one degree are the word cut by a layer (Levels).
use mathlib.Core.Path.{◌≡◌, ap, ◌∙◌}
use Prim.Native.Nat.{ℕ}
use native.Mathlib.Omega.{arith}
use lib.Bits.{bit_and}
use lib.ListN.{length}
use Rattle.bits.specs.Word.{places}
use Rattle.mask_words.specs.inner.Degree.{of_degree}
use Rattle.form.proofs.Levels.{level}
use Rattle.form.proofs.Form.list_degree.Goals as goal

pub list-requires : goal.list-requires
list-requires c =
    let cut : (let a = c.args in places 64 (bit_and a.self.word c.with_ones.result) ≡ of_degree a.degree (places 64 a.self.word)) = let a = c.args in
    ap (λ (v : ℕ). places 64 (bit_and a.self.word v)) c.with_ones.ensures ∙ level a.self.word a.degree in
    omega (arith, ap length cut)

pub returns : goal.returns
returns c =
    let cut : (let a = c.args in places 64 (bit_and a.self.word c.with_ones.result) ≡ of_degree a.degree (places 64 a.self.word)) = let a = c.args in
    ap (λ (v : ℕ). places 64 (bit_and a.self.word v)) c.with_ones.ensures ∙ level a.self.word a.degree in
    rw (← cut) c.list.ensures
