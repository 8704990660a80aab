-- What a chain of flags is written as: the first flag's record, then each further flag's record and the operator's mark. A mask's flags are its
-- places in any word that holds it, and are read off lowest first. It rests on the laws of places (bits, Word).
--   mask-flags                                             == a mask's flags are its places in a word
--   flags-none, linked-none                                == the mask of no flag
--   linked-empty, linked-next, chained-none, chained-next  == no flag, and a flag before others
--   links                                                  == these and the library's laws of lists, for tactics
--   write-chain                                            == the bytes of a chain by an operator and its mark
--   write-cube, write-or_chain, records-cube, records-or_chain == the bytes and the records of a product and of an OR chain of some flags
--   cube-zero                                              == the product of no flag
--   chains                                                 == these, for tactics
--   flags-lowest                                           == a mask's flags, lowest first
--   linked-lowest, chained-lowest                          == the chain of a mask, lowest flag first
use Rattle.std.specs.Prelude.{◌≡◌, true, false, List, [], ◌∷◌, ◌++◌, map, ℕ, ◌-◌, ◌*◌, ◌^◌, ◌<◌, length}
use mathlib.Core.Path.{refl, sym, ap, ◌∙◌}
use mathlib.Core.List.{foldl}
use Rattle.std.proofs.Common.{append_assoc, append-nil, arith, length-append}
use native.Mathlib.Nat.{lt_trans}
use lib.Bits.{bit_and}
use lib.Count.{count_trailing_zeros}
use lib.Dec.{ltb}
use Rattle.bits.specs.Bit.{bit}
use Rattle.bits.specs.Range.{Below, from, keep}
use Rattle.bits.specs.Word.{places}
use Rattle.bits.proofs.Ascending.{mem_below}
use Rattle.bits.proofs.Bit.{bit-lt, lt-pow}
use Rattle.bits.proofs.Lowest.{clear-lt}
use Rattle.bits.proofs.Truth.{and_true_r}
use Rattle.bits.proofs.Word.{ascending-places, mem-places, word-places, places-word, places-lowest}
use Rattle.mask_words.proofs.Yielded.{yielded-lt}
use Rattle.rules.specs.Ascii.{ascii}
use Rattle.rules.specs.Form.{flags, chain, cube, or_chain}
use Rattle.rules.specs.Tree.{Tree, CO, VA, size, write}
use Rattle.laws.proofs.cost.Cost.{size-cube, size-or_chain, term_cost-suc}
use Rattle.laws.proofs.form.Parts.{length-flags}
use Rattle.postfix.specs.Written.{linked, chained}
use Rattle.postfix.proofs.Writes.{Joins, an, or}

-- ---- the flags of a mask

pub mask-flags : (m : ℕ) → m < 2 ^ 64 → flags m ≡ places 64 m
mask-flags m h =
    let small : Below 64 (flags m) = mem_below 64 (flags m) (λ i e. bit-lt 64 m i h (and_true_r (ltb i m) (bit m i) (sym (mem-places m m i) ∙ e))) in
    sym (places-word 64 (flags m) (ascending-places m m) small) ∙ ap (places 64) (word-places m m (lt-pow m))

pub flags-none : flags 0 ≡ []
unfolding places keep from
flags-none = refl

module _ (mark : List ℕ) where
  pub linked-none : linked mark (flags 0) ≡ []
  unfolding linked
  linked-none = ap (linked mark) flags-none

  pub linked-empty : linked mark [] ≡ []
  unfolding linked
  linked-empty = refl

  pub chained-none : chained mark [] ≡ []
  unfolding chained
  chained-none = refl

  pub linked-next : (i : ℕ) (l : List ℕ) → linked mark (i ∷ l) ≡ 86 ∷ 65 ∷ i ∷ mark ++ linked mark l
  unfolding linked write ascii
  linked-next i l = refl

  pub chained-next : (i : ℕ) (l : List ℕ) → chained mark (i ∷ l) ≡ 86 ∷ 65 ∷ i ∷ linked mark l
  unfolding chained write ascii
  chained-next i l = refl

pub ruleset links = (mask-flags, linked-empty, chained-none, linked-next, chained-next, yielded-lt, append_assoc, append-nil, length-append)

-- ---- the trees

module _ {op : Tree → Tree → Tree} {mark : List ℕ} (o : Joins op mark) where
  write-onto : (t : Tree) (l : List ℕ) → write (foldl op t (map VA l)) ≡ write t ++ linked mark l
  unfolding linked
  write-onto t [] = sym (append-nil (write t))
  write-onto t (i ∷ l) =
      write-onto (op t (VA i)) l
      ∙ ap (λ (s : List ℕ). s ++ linked mark l) (o.bytes t (VA i) ∙ append_assoc (write t) (write (VA i)) mark)
      ∙ append_assoc (write t) (write (VA i) ++ mark) (linked mark l)

  pub write-chain : (e : Tree) (l : List ℕ) → 0 < length l → write (chain op e (map VA l)) ≡ chained mark l
  unfolding chain chained
  write-chain e [] h = absurd (omega arith)
  write-chain e (i ∷ l) h = write-onto (VA i) l

module _ (m : ℕ) (h : 0 < m) where
  some : 0 < length (flags m)
  some = omega (arith, term_cost-suc m h, length-flags m)

  pub write-cube : write (cube m) ≡ chained (65 ∷ 78 ∷ []) (flags m)
  write-cube = write-chain an (CO true) (flags m) some

  pub write-or_chain : write (or_chain m) ≡ chained (79 ∷ 82 ∷ []) (flags m)
  write-or_chain = write-chain or (CO false) (flags m) some

  pub records-cube : size (cube m) ≡ 2 * length (flags m) - 1
  records-cube = omega (arith, size-cube m, term_cost-suc m h, length-flags m)

  pub records-or_chain : size (or_chain m) ≡ 2 * length (flags m) - 1
  records-or_chain = omega (arith, size-or_chain m, term_cost-suc m h, length-flags m)

pub cube-zero : (m : ℕ) → m ≡ 0 → cube m ≡ CO true
unfolding places keep from chain
cube-zero m e = ap cube e

pub ruleset chains = (write-cube, write-or_chain, records-cube, records-or_chain, cube-zero)

-- ---- lowest flag first

pub flags-lowest : (w : ℕ) → 0 < w → w < 2 ^ 64 → flags w ≡ count_trailing_zeros 64 w ∷ flags (bit_and w (w - 1))
flags-lowest w p h =
    mask-flags w h ∙ places-lowest 64 w p h
    ∙ ap {B = List ℕ} (λ l. count_trailing_zeros 64 w ∷ l) (sym (mask-flags (bit_and w (w - 1)) (lt_trans (clear-lt 64 w p h) h)))

module _ (mark : List ℕ) (w : ℕ) (p : 0 < w) (h : w < 2 ^ 64) where
  pub linked-lowest : linked mark (flags w) ≡ write (VA (count_trailing_zeros 64 w)) ++ mark ++ linked mark (flags (bit_and w (w - 1)))
  unfolding linked
  linked-lowest = ap (linked mark) (flags-lowest w p h)

  pub chained-lowest : chained mark (flags w) ≡ write (VA (count_trailing_zeros 64 w)) ++ linked mark (flags (bit_and w (w - 1)))
  unfolding chained
  chained-lowest = ap (chained mark) (flags-lowest w p h)
