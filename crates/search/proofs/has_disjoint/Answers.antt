-- `search::has_disjoint` meets its contract: what the library's `any` answers of the test, over the places of the word (CubeTest).
use Rattle.std.proofs.Common.{List, ℕ, rules, tests, ap, ◌∙◌, arith}
use Rattle.std.proofs.lemmas.Iterator.Consumers.{YieldsList-from_first}
use Rattle.std.proofs.lemmas.Iterator.Search.{any_from_yields_List}
use Rattle.bits.specs.Word.{places}
use Rattle.mask_words.specs.declared.ones.Ones.{Ones}
use Rattle.search.proofs.CubeTest.{has_apart, meets-apart}
use Rattle.search.proofs.has_disjoint.Goals as goal

pub returns : goal.returns
returns c =
    let v = c.args.stripped in
    let left : Ones → List ℕ = λ s. places 64 s.left in
    let walk = YieldsList-from_first (λ (x : ℕ). x) left (places 64 v) (ap left c.of.ensures) in
    any_from_yields_List (has_apart v (omega arith)) _ _ _ c.any.ensures.ran walk (λ x b q k. search (rules, tests)) ∙ meets-apart v (omega arith)
