-- Reading back: the machine's turns over a tree's bytes read the records of that tree and leave it on the stack, wherever the bytes stand. It rests
-- on the record at a place (RecordAt), the machine's turns (Run) and its stack (Stack).
--   turns-tree       == where the rest begins with the bytes of t, the turns over them read the records of t and push t with its first byte
--   run-whole        == bytes of one tree alone give it
--   made-write       == so does `made`, for up to 385 records
use mathlib.Core.List.{List, [], ◌∷◌, ◌++◌, append_assoc, append-nil}
use mathlib.Core.Option.{some}
use mathlib.Core.Path.{◌≡◌, refl, sym, ap, ◌∙◌}
use Prim.Native.Nat.{ℕ, suc, ◌+◌, ◌-◌, ◌≤◌}
use native.Mathlib.Omega.{arith}
use lib.ListN.{length, drop, length-append, length-drop}
use Rattle.rules.specs.Ascii.{ascii}
use Rattle.rules.specs.Limits.{record_limit}
use Rattle.rules.specs.Machine.{Operand, leaf, binary, unary, push, finish, run, made}
use Rattle.rules.specs.Nodes.{Placed, placed, behind, nodes}
use Rattle.rules.specs.Outcome.{gives}
use Rattle.rules.specs.Record.{Kind, Constant, Flag, And, Or, Xor, Not, FlagBelow}
use Rattle.rules.specs.Tree.{Tree, CO, VA, AN, OR, XO, NO, size, write, FlagsBelow}
use Rattle.laws.proofs.reading.RecordAt.{bytes_of, bytes_of-long, record-at, drop_past}
use Rattle.laws.proofs.reading.Run.{Turns, stay, more, turn-read, turns_same, turns-append, run-turns, run_end}
use Rattle.laws.proofs.reading.Stack.{writes, sizes, after, laid, after-writes}

-- the records of trees one after another, the lowest first, of which that one begins at byte p
nodes_of : ℕ → List Tree → List Placed
nodes_of p [] = []
nodes_of p (x ∷ xs) = nodes_of p xs ++ nodes (after p xs) x

module _ (n : ℕ) (s : List ℕ) where
  -- the turns over the bytes of t read t
  Reads : Tree → Type 0
  Reads t = (p : ℕ) (b : List ℕ) (j : ℕ) (os : List Operand) → drop p s ≡ write t ++ b
      → Turns n s (size t + j) p os (nodes p t) j (behind p t) (record { tree = t; start = p } ∷ os)

  -- and those over the bytes of xs read all of them
  ReadsAll : List Tree → Type 0
  ReadsAll xs = (p : ℕ) (b : List ℕ) (j : ℕ) (os : List Operand) → drop p s ≡ writes xs ++ b
      → Turns n s (sizes xs + j) p os (nodes_of p xs) j (after p xs) (laid p xs ++ os)

  none_read : ReadsAll []
  unfolding ReadsAll nodes_of
  none_read p b j os e = turns_same (omega arith) refl refl stay

  more-read : (x : Tree) (xs : List Tree) → Reads x → ReadsAll xs → ReadsAll (x ∷ xs)
  unfolding Reads ReadsAll nodes_of
  more-read x xs g h p b j os e =
      let q : ℕ = after p xs in
      let e₁ : drop p s ≡ writes xs ++ (write x ++ b) = e ∙ append_assoc (writes xs) (write x) b in
      let e₂ : drop q s ≡ write x ++ b = ap (λ (i : ℕ). drop i s) (after-writes p xs) ∙ drop_past s p (writes xs) (write x ++ b) e₁ in
      turns_same (omega arith) refl refl (turns-append (h p (write x ++ b) (size x + j) os e₁) (g q b j (laid p xs ++ os) e₂))

  node-read : (k : Kind) (xs : List Tree) (t : Tree) (first second : ℕ → ℕ) → FlagBelow n k → write t ≡ writes xs ++ bytes_of k
      → size t ≡ suc (sizes xs)
      → ((p : ℕ) → nodes p t ≡ nodes_of p xs ++ placed (after p xs) k (first p) (second p) (length (bytes_of k)) ∷ [])
      → ((p : ℕ) (os : List Operand)
      → push k (after p xs) (laid p xs ++ os) ≡ some (record { first = first p; second = second p; stack = record { tree = t; start = p } ∷ os }))
      → ReadsAll xs → Reads t
  unfolding Reads ReadsAll
  node-read k xs t first second f w z l h g p b j os e =
      let q : ℕ = after p xs in
      let e₁ : drop p s ≡ writes xs ++ (bytes_of k ++ b) = e ∙ rw (w, append_assoc) in
      let e₂ : drop q s ≡ bytes_of k ++ b = ap (λ (i : ℕ). drop i s) (after-writes p xs) ∙ drop_past s p (writes xs) (bytes_of k ++ b) e₁ in
      let last =
      turn-read n s q (laid p xs ++ os) (omega (arith, bytes_of-long k, ap length e₂, length-drop q s, length-append (bytes_of k) b)) j
      (record { kind = k; next = q + length (bytes_of k) }) _ (record-at n s q k b e₂ f) (h p os) in
      turns_same (omega arith) (sym (l p)) (omega (arith, after-writes p xs, ap length w, length-append (writes xs) (bytes_of k)))
      (turns-append (g p (bytes_of k ++ b) (suc j) os e₁) (more _ last stay))

  reads : (t : Tree) → FlagsBelow n t → Reads t
  unfolding push leaf binary unary nodes nodes_of write size bytes_of ascii
  reads (CO b) f = node-read (Constant b) [] (CO b) (λ p. 0) (λ p. 0) tt refl refl (λ p. refl) (λ p os. refl) none_read
  reads (VA i) f = node-read (Flag i) [] (VA i) (λ p. 0) (λ p. 0) f refl refl (λ p. refl) (λ p os. refl) none_read
  reads (AN x y) f =
      node-read And (y ∷ x ∷ []) (AN x y) (λ p. p) (λ p. behind p x) tt refl (omega arith) (λ p. refl) (λ p os. refl)
      (more-read y (x ∷ []) (reads y f.1) (more-read x [] (reads x f.0) none_read))
  reads (OR x y) f =
      node-read Or (y ∷ x ∷ []) (OR x y) (λ p. p) (λ p. behind p x) tt refl (omega arith) (λ p. refl) (λ p os. refl)
      (more-read y (x ∷ []) (reads y f.1) (more-read x [] (reads x f.0) none_read))
  reads (XO x y) f =
      node-read Xor (y ∷ x ∷ []) (XO x y) (λ p. p) (λ p. behind p x) tt refl (omega arith) (λ p. refl) (λ p os. refl)
      (more-read y (x ∷ []) (reads y f.1) (more-read x [] (reads x f.0) none_read))
  reads (NO x) f =
      node-read Not (x ∷ []) (NO x) (λ p. p) (λ p. 0) tt refl (omega arith) (λ p. refl) (λ p os. refl) (more-read x [] (reads x f) none_read)

  pub turns-tree : (t : Tree) → FlagsBelow n t → (k p : ℕ) (b : List ℕ) (os : List Operand) → size t ≤ k → drop p s ≡ write t ++ b
      → Turns n s k p os (nodes p t) (k - size t) (behind p t) (record { tree = t; start = p } ∷ os)
  unfolding Reads
  turns-tree t f k p b os l e = turns_same (omega arith) refl refl (reads t f p b (k - size t) os e)

pub run-whole : (n : ℕ) (t : Tree) → FlagsBelow n t → (k : ℕ) → size t ≤ k → run k n (write t) 0 [] ≡ gives t
unfolding finish
run-whole n t f k l =
    run-turns (turns-tree n (write t) t f k 0 [] [] l (sym (append-nil (write t))))
    ∙ run_end (k - size t) n (write t) (0 + length (write t)) (record { tree = t; start = 0 } ∷ []) (omega arith)

pub made-write : (n : ℕ) (t : Tree) → FlagsBelow n t → size t ≤ record_limit → made n (write t) ≡ gives t
unfolding made
made-write n t f l = run-whole n t f record_limit l
