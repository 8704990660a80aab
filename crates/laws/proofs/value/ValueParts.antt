-- The values of the parts that the cleanup puts together: products, OR chains, balanced folds, raw forms, and a constant on top.
-- It rests on the laws of places and of sums (bits, Sets and Sum), on the induction over parts (Parts),
-- on the polynomial's products (Zhegalkin) and on the monomial order (Ordered).
--   value-cube, value-or_chain   == a product is 1 where the setting has all flags of the mask, an OR chain where it has one of them
--   value-folded, value-raw_form == a balanced fold is the parity of its terms, a raw form that of the masks within the setting
--   value-atop                  == a constant on top
use mathlib.Core.Bool.{Bool, true, false, ◌&&◌, ◌||◌, and-true, or-false}
use mathlib.Core.List.{List, [], ◌∷◌, ◌++◌, map}
use mathlib.Core.Path.{◌≡◌, refl, sym, ap, ap₂, ◌∙◌}
use Prim.Native.Nat.{ℕ}
use lib.Bits.{bit_and}
use lib.Dec.{ltb}
use Rattle.bits.specs.Bit.{◌⊕◌, within}
use Rattle.bits.specs.Range.{all, any}
use Rattle.bits.specs.Sum.{sum, parity}
use Rattle.bits.proofs.Truth.{xor-false}
use Rattle.bits.proofs.Bit.{lt-pow}
use Rattle.bits.proofs.Range.{all_map, any-map, all_append, any_append}
use Rattle.bits.proofs.Sets.{any-bit}
use Rattle.bits.proofs.Sum.{xor-laws, sum-map, sum-ext, sum-append}
use Rattle.rules.specs.Cleanup.{atop}
use Rattle.rules.specs.Form.{flags, chain, cube, or_chain, folded, raw_form}
use Rattle.rules.specs.Monomial.{ordered}
use Rattle.rules.specs.Polynomial.{product}
use Rattle.rules.specs.Tree.{Tree, CO, VA, AN, OR, XO, value}
use Rattle.laws.proofs.form.Ordered.{sum-ordered}
use Rattle.laws.proofs.form.Parts.{chain-ind, folded-none, folded-ind}
use Rattle.laws.proofs.transform.Zhegalkin.{product-within}

-- ---- terms joined by an operation

module _ (s : ℕ) (op : Tree → Tree → Tree) (op₂ : Bool → Bool → Bool) (fold : List Tree → Bool)
    (at : (x y : Tree) → value (op x y) s ≡ op₂ (value x s) (value y s)) (one : (t : Tree) → value t s ≡ fold (t ∷ []))
    (append : (ss ts : List Tree) → fold (ss ++ ts) ≡ op₂ (fold ss) (fold ts)) where
  joined : (ss ts : List Tree) (x y : Tree) → value x s ≡ fold ss → value y s ≡ fold ts → value (op x y) s ≡ fold (ss ++ ts)
  joined ss ts x y h k = at x y ∙ ap₂ op₂ h k ∙ sym (append ss ts)

  value-chain : (empty : Tree) → value empty s ≡ fold [] → (ts : List Tree) → value (chain op empty ts) s ≡ fold ts
  unfolding chain
  value-chain empty e [] = e
  value-chain empty e (t ∷ ts) =
      chain-ind (λ us u. value u s ≡ fold us) one op empty (λ us x u h. joined us (u ∷ []) x u h (one u)) t ts

-- ---- products and OR chains

pub value-cube : (m s : ℕ) → value (cube m) s ≡ within m s
unfolding value all product
value-cube m s =
    let f : Tree → Bool = λ t. value t s in
    value-chain s AN ◌&&◌ (all f) (λ x y. refl) (λ t. sym (and-true (f t))) (all_append f) (CO true) refl (map VA (flags m))
    ∙ all_map f VA (flags m) ∙ product-within m m s (lt-pow m)

pub value-or_chain : (m s : ℕ) → value (or_chain m) s ≡ ltb 0 (bit_and m s)
unfolding value any
value-or_chain m s =
    let f : Tree → Bool = λ t. value t s in
    value-chain s OR ◌||◌ (any f) (λ x y. refl) (λ t. sym (or-false (f t))) (any_append f) (CO false) refl (map VA (flags m))
    ∙ any-map f VA (flags m) ∙ any-bit m m s (lt-pow m)

-- ---- the balanced fold and the raw form

pub value-folded : (ts : List Tree) (s : ℕ) → value (folded ts) s ≡ parity (λ t. value t s) ts
unfolding value sum
value-folded [] s = ap (λ (t : Tree). value t s) folded-none
value-folded (t ∷ ts) s =
    let f : Tree → Bool = λ t. value t s in
    let one : (u : Tree) → f u ≡ parity f (u ∷ []) = λ u. sym (xor-false (f u)) in
    folded-ind (λ us u. f u ≡ parity f us) one (joined s XO ◌⊕◌ (parity f) (λ x y. refl) one (sum-append xor-laws f)) t ts

pub value-raw_form : (l : List ℕ) (s : ℕ) → value (raw_form l) s ≡ parity (λ m. within m s) l
unfolding raw_form
value-raw_form l s =
    value-folded (map cube (ordered l)) s
    ∙ sum-map ◌⊕◌ false (λ t. value t s) cube (ordered l)
    ∙ sum-ext ◌⊕◌ false _ (λ m. within m s) (ordered l) (λ m. value-cube m s)
    ∙ sum-ordered xor-laws (λ m. within m s) l

pub value-atop : (b : Bool) (t : Tree) (s : ℕ) → value (atop b t) s ≡ b ⊕ value t s
unfolding atop value
value-atop true t s = refl
value-atop false t s = refl
