-- Laws of the comparison of two expressions, by size and then depth: what `better` says where the sizes are the same and where they are not; which
-- part of two slices is the cheaper of two by costing's answers, and what it holds. They rest on the laws of TreeCosts, on Part and on rules' Calls.
--   better-pairs                   == it is the order of pairs of size and depth
--   better-trees                   == of two trees' costs it is rules' `smaller`
--   cheaper-first, cheaper-second  == the choice where the first is refused, and where the second is
--   cheaper-better, cheaper-else   == where neither is: the second is better, and else
--   told-first, -second, -better, -else == so of what the code's costing answered
--   cheaper-map                    == the choice is made alike of whatever stands for the two
--   part, cheaper-part             == the part of two slices that the choice stands for is `cheaper_part`
--   cheaper-contents               == what `cheaper` promises implies that the result holds the bytes of rules' `cheaper_of_two`
use mathlib.Core.Bool.{Bool, true, false, ◌&&◌, ◌||◌}
use mathlib.Core.List.{List}
use mathlib.Core.Path.{◌≡◌, refl, sym, ap, ap₂, ◌∙◌}
use Prim.Native.Nat.{ℕ}
use lib.Dec.{eqb, ltb}
use Rattle.std.proofs.Common.{Less, Equal, Greater}
use Rattle.std.specs.Ordering.{is_some_and, nat_cmp, partial_lt, is_lt, partial_ordering_then}
use Rattle.std.specs.Option.{unwrap_or}
use Rattle.std.specs.Prelude.{cond, Result, Ok, Err}
use Rattle.std.specs.Result.{result_ok}
use Rattle.rules.specs.declared.refusal.Refusal.{Refusal}
use Rattle.expr_cost.specs.Answers.{costs_of, costing_of}
use Rattle.expr_cost.specs.declared.Costs as expr_cost
use denote.Ref.{Bor}
use Rattle.rules.specs.Calls.{Costs, parse, costing, smaller, cheaper_of, cheaper_of_two}
use Rattle.rules.specs.Outcome.{Outcome, gives, refuses}
use Rattle.rules.specs.Tree.{Tree}
use Rattle.cheaper.specs.Better.{better}
use Rattle.cheaper.specs.Part.{empty_part, cheaper_part}
use Rattle.cheaper.specs.declared.Which.{Which}
use Rattle.cheaper.specs.declared.Which.TheVariants.{First, Second}
use Rattle.std.specs.Prelude.{Option, Some, None}
use Rattle.expr_cost.proofs.TreeCosts.{costs, costing-gives, costing-refuses}

-- a pair is smaller where its first part is, or where that is equal and its second part is
pairs : (less equal below same : Bool)
    → is_some_and is_lt (partial_ordering_then (Some (cond less Less (cond equal Equal Greater))) (Some (cond below Less (cond same Equal Greater))))
    ≡ (less || equal && below)
pairs true equal below same = refl
pairs false true true same = refl
pairs false true false true = refl
pairs false true false false = refl
pairs false false below same = refl

pub better-pairs : (c b : Costs)
    → partial_lt (λ (x y : ℕ × ℕ). partial_ordering_then (Some (nat_cmp x.0 y.0)) (Some (nat_cmp x.1 y.1))) (c.size, c.depth) (b.size, b.depth)
    ≡ better c b
unfolding better
better-pairs c b = pairs (ltb c.size b.size) (eqb c.size b.size) (ltb c.depth b.depth) (eqb c.depth b.depth)

pub better-trees : (t u : Tree) → better (costs t) (costs u) ≡ smaller t u
unfolding better smaller
better-trees t u = refl

-- ---- what costing tells

module _ {A : Type 0} (e a b : A) (n : ℕ) (s t : List ℕ) where
  pub cheaper-first : (k p : ℕ) → costing n s ≡ refuses k p → cheaper_of e a b (parse n s) (parse n t) ≡ e
  unfolding cheaper_of
  cheaper-first k p h = rw (costing-refuses n s k p h)

  pub cheaper-second : (c : Costs) (k p : ℕ) → costing n s ≡ gives c → costing n t ≡ refuses k p → cheaper_of e a b (parse n s) (parse n t) ≡ e
  unfolding cheaper_of
  cheaper-second c k p h f =
      let (u, is, same) = costing-gives n s c h in
      rw (is, costing-refuses n t k p f)

  module _ (c d : Costs) (h : costing n s ≡ gives c) (f : costing n t ≡ gives d) where
    both : cheaper_of e a b (parse n s) (parse n t) ≡ elim (better d c) [ true ↦ b | false ↦ a ]
    unfolding cheaper_of
    both =
        let (u, is, same) = costing-gives n s c h in
        let (v, is', same') = costing-gives n t d f in
        rw (is, is') (ap (λ (x : Bool). elim x [ true ↦ b | false ↦ a ]) (sym (better-trees v u) ∙ ap₂ better same' same))

    pub cheaper-better : better d c ≡ true → cheaper_of e a b (parse n s) (parse n t) ≡ b
    cheaper-better k = both ∙ rw k

    pub cheaper-else : better d c ≡ false → cheaper_of e a b (parse n s) (parse n t) ≡ a
    cheaper-else k = both ∙ rw k

-- ---- what an answer of the code's costing tells

known : (r : Result expr_cost.Costs Refusal) {c : expr_cost.Costs} → Some c ≡ result_ok r → costing_of r ≡ gives (costs_of c)
known (Ok d) e = ap (λ x. gives (costs_of (unwrap_or x d))) (sym e)
known (Err x) e = absurd (cc)

module _ {A : Type 0} (e a b : A) (n : ℕ) (s t : List ℕ) (q r : Result expr_cost.Costs Refusal) where
  pub told-first : costing_of q ≡ costing n s → None ≡ result_ok q → e ≡ cheaper_of e a b (parse n s) (parse n t)
  told-first = go q
    where
      go : (q : Result expr_cost.Costs Refusal) → costing_of q ≡ costing n s → None ≡ result_ok q → e ≡ cheaper_of e a b (parse n s) (parse n t)
      go (Ok d) h f = absurd (cc)
      go (Err x) h f = sym (cheaper-first e a b n s t _ _ (sym h))

  module _ {x : expr_cost.Costs} (first : costing_of q ≡ costing n s) (p : Some x ≡ result_ok q) (second : costing_of r ≡ costing n t) where
    pub told-second : None ≡ result_ok r → e ≡ cheaper_of e a b (parse n s) (parse n t)
    told-second = go r second
      where
        go : (r : Result expr_cost.Costs Refusal) → costing_of r ≡ costing n t → None ≡ result_ok r → e ≡ cheaper_of e a b (parse n s) (parse n t)
        go (Ok d) h f = absurd (cc)
        go (Err x) h f = sym (cheaper-second e a b n s t _ _ _ (sym first ∙ known q p) (sym h))

    module _ {y : expr_cost.Costs} (o : Some y ≡ result_ok r) where
      pub told-better : {w : Bool} → w ≡ better (costs_of y) (costs_of x) → w ≡ true → b ≡ cheaper_of e a b (parse n s) (parse n t)
      told-better k z = sym (cheaper-better e a b n s t _ _ (sym first ∙ known q p) (sym second ∙ known r o) (sym k ∙ z))

      pub told-else : {w : Bool} → w ≡ better (costs_of y) (costs_of x) → w ≡ false → a ≡ cheaper_of e a b (parse n s) (parse n t)
      told-else k z = sym (cheaper-else e a b n s t _ _ (sym first ∙ known q p) (sym second ∙ known r o) (sym k ∙ z))

pub cheaper-map : {A B : Type 0} (f : A → B) (e a b : A) (o q : Outcome Tree) → f (cheaper_of e a b o q) ≡ cheaper_of (f e) (f a) (f b) o q
unfolding cheaper_of
cheaper-map f e a b (refuses k p) q = refl
cheaper-map f e a b (gives t) (refuses k p) = refl
cheaper-map {A} {B} f e a b (gives t) (gives u) = pick (smaller u t)
  where
    pick : (x : Bool) → f (elim x [ true ↦ b | false ↦ a ]) ≡ elim x [ true ↦ f b | false ↦ f a ]
    pick true = refl
    pick false = refl

-- the part that an answer of `compare` stands for
abbrev pub part : Bor (List ℕ) → Bor (List ℕ) → Option Which → Bor (List ℕ)
part a b (Some First) = a
part a b (Some Second) = b
part a b None = empty_part a

pub cheaper-part : (n : ℕ) (a b : Bor (List ℕ)) (w : Option Which)
    → w ≡ cheaper_of None (Some First) (Some Second) (parse n a.now) (parse n b.now) → part a b w ≡ cheaper_part n a b
unfolding cheaper_part
cheaper-part n a b w e =
    ap (part a b) e ∙ cheaper-map (part a b) None (Some First) (Some Second) (parse n a.now) (parse n b.now)

pub cheaper-contents : (n : ℕ) (a b r : Bor (List ℕ)) → r ≡ cheaper_part n a b → r.now ≡ cheaper_of_two n a.now b.now
unfolding cheaper_part cheaper_of_two
cheaper-contents n a b r e =
    ap (λ (x : Bor (List ℕ)). x.now) e
    ∙ cheaper-map (λ (x : Bor (List ℕ)). x.now) (empty_part a) a b (parse n a.now) (parse n b.now)
