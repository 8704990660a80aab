-- The results of the calls for C in numbers, in the order in which they stand in the answer block: what include/guide_rules.h tells with each call.
--   alone x            == a result that is one number
--   entries l          == of the transform, the way back and the writer of a package: how many entries were written
--   listing l          == of the listing: the constant, 0 or 1, and the count of monomials
--   compilation c      == of the compiler: the counts of bytes and records, the cost and the raw cost
--   reading r          == of the reader: the kind's number, the payload, the next place and where the two operands start, or 0 alone at the end
--   package_reading r   == of the reader of a package: 1, flag count, table word, start and length of the expression and the next place, or 0 alone
--   costs c            == of costing: cost, size and depth
--   cheaper n s t      == what `rule_cheaper` returns: 0 where n or either is refused, 1 for the first, 2 for the second
use Rattle.std.specs.Prelude.{List, [], ◌∷◌, ℕ, length}
use Rattle.std.proofs.Math.Option.{Option, none, some}
use Rattle.bits.specs.Bit.{digit}
use Rattle.rules.specs.Calls.{Listing, Compilation, Costs, parse, cheaper_of}
use Rattle.rules.specs.Machine.{Node}
use Rattle.rules.specs.Record.{Kind, Constant, Flag, And, Or, Xor, Not}
use Rattle.rule_package.specs.Calls.{RuleAt}

abbrev pub alone : ℕ → List ℕ
alone x = x ∷ []

-- "words written", "entries written", "bytes written"
abbrev pub entries : List ℕ → List ℕ
entries l = length l ∷ []

-- "the constant, 0 or 1; the number of monomials"
abbrev pub listing : Listing → List ℕ
listing l = digit l.constant ∷ length l.masks ∷ []

-- "bytes written; records; cost; raw cost"
abbrev pub compilation : Compilation → List ℕ
compilation c = length c.bytes ∷ c.records ∷ c.cost ∷ c.raw ∷ []

-- `enum guide_rules_kind`
abbrev pub kind_number : Kind → ℕ
kind_number (Constant b) = 1
kind_number (Flag i) = 2
kind_number And = 3
kind_number Or = 4
kind_number Xor = 5
kind_number Not = 6

-- "the payload, 0 where there is none"
abbrev pub payload : Kind → ℕ
payload (Constant b) = digit b
payload (Flag i) = i
payload And = 0
payload Or = 0
payload Xor = 0
payload Not = 0

-- "the kind, and nothing more at the end; the payload, 0 where there is none; the next place; the start of the first operand; that of the second;
-- each of these two is 0 where there is none"
abbrev pub reading : Option Node → List ℕ
reading none = 0 ∷ []
reading (some r) = kind_number r.kind ∷ payload r.kind ∷ r.next ∷ r.first ∷ r.second ∷ []

-- "the kind, and nothing more at the end; the flag count; the table word; the start of the expression; its length; the next place", and
-- `enum guide_rules_package_kind`
abbrev pub package_reading : Option RuleAt → List ℕ
package_reading none = 0 ∷ []
package_reading (some r) = 1 ∷ r.flags ∷ r.table ∷ r.start ∷ r.length ∷ r.next ∷ []

-- "cost; size; depth"
abbrev pub costs : Costs → List ℕ
costs c = c.cost ∷ c.size ∷ c.depth ∷ []

-- "Returns 0 where rule_cost refuses n or either expression; else 2 where the second has the smaller size, or the same size and the smaller depth;
-- else 1"
unfoldable pub cheaper : ℕ → List ℕ → List ℕ → ℕ
cheaper n s t = cheaper_of 0 1 2 (parse n s) (parse n t)
