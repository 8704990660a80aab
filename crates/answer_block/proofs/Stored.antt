-- A lent block that takes as much of an answer as it has room for, filled number by number. It rests on the definition of Block and on the
-- laws of runs of stores (bits, Stores).
--   stored-none      == no number
--   stored_step      == one more number is one more store, after those before it
--   stored-front     == where there is room, the numbers stand at the front
--   stored_same      == where there is room, the block tells as many numbers as were stored
--   head-stored      == and the first of however many
use mathlib.Core.List.{List, [], ◌∷◌, ◌++◌}
use mathlib.Core.Path.{◌≡◌, refl, sym, ap, subst, ◌∙◌}
use Prim.Native.Nat.{ℕ, suc, ◌+◌, ◌≤◌, ◌<◌}
use native.Mathlib.Nat.{not-suc-le-zero}
use native.Mathlib.Numerals.{add-one}
use native.Mathlib.Omega.{arith}
use lib.ListN.{length, take, set, get_or}
use lib.Seq.{sets, take_all, take-suc, length-take-le}
use Rattle.bits.proofs.Stores.{sets-after, take-sets-front}
use Rattle.answer_block.specs.Block.{stored}

pub stored-none : (block : List ℕ) → stored block [] ≡ block
unfolding stored
stored-none [] = refl
stored-none (b ∷ block) = refl

stored-after : (b : ℕ) (block : List ℕ) (y : ℕ) (l : List ℕ) → stored (b ∷ block) (y ∷ l) ≡ y ∷ stored block l
unfolding stored
stored-after b block y l = sets-after y block 0 (take (length block) l)

stored_next : (block l : List ℕ) (x : ℕ) → set (stored block l) (length l) x ≡ stored block (l ++ (x ∷ []))
unfolding stored
stored_next [] l x = refl
stored_next (b ∷ block) [] x = ap (λ (r : List ℕ). x ∷ r) (sym (stored-none block)) ∙ sym (stored-after b block x [])
stored_next (b ∷ block) (y ∷ l) x =
    ap (λ (r : List ℕ). set r (suc (length l)) x) (stored-after b block y l) ∙ ap (λ (r : List ℕ). y ∷ r) (stored_next block l x)
    ∙ sym (stored-after b block y (l ++ (x ∷ [])))

pub stored_step : {before : List ℕ} (block l : List ℕ) (i : ℕ) → i < length l → before ≡ stored block (take i l)
    → set before i (get_or l i 0) ≡ stored block (take (i + 1) l)
stored_step block l i h e =
    let n = get_or l i 0 in
    let short : length (take i l) ≡ i = length-take-le i l (omega arith) in
    ap (λ (b : List ℕ). set b i n) e ∙ ap (λ (k : ℕ). set (stored block (take i l)) k n) (sym short) ∙ stored_next block (take i l) n
    ∙ ap (stored block) (sym (take-suc l i 0 h) ∙ ap (λ (k : ℕ). take k l) (sym (add-one i)))

pub stored-front : (block l : List ℕ) → length l ≤ length block → take (length l) (stored block l) ≡ l
unfolding stored
stored-front block l h = ap (λ (m : List ℕ). take (length l) (sets block 0 m)) (take_all (length block) l h) ∙ take-sets-front l block h

pub stored_same : (block l m : List ℕ) → length l ≡ length m → length l ≤ length block → stored block l ≡ stored block m → l ≡ m
stored_same block l m e h s =
    sym (stored-front block l h) ∙ ap (take (length l)) s ∙ ap (λ (k : ℕ). take k (stored block m)) e
    ∙ stored-front block m (subst (λ (k : ℕ). k ≤ length block) e h)

pub head-stored : (block : List ℕ) (x : ℕ) (l : List ℕ) → 0 < length block → get_or (stored block (x ∷ l)) 0 0 ≡ x
head-stored [] x l h = absurd (not-suc-le-zero h)
head-stored (b ∷ block) x l h = ap (λ (r : List ℕ). get_or r 0 0) (stored-after b block x l)
