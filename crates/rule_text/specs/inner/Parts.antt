-- The parts of the printed text, as the functions that write them have them.
--   gap p                == what stands between the record that begins at byte p and the one before: nothing before the first
--   kind_text k           == a record's text, its mark and its payload as a digit
--   shown o              == the records of an expression's tree
--   lines n l cost raw   == the three lines, where l is the text of the records
--   text_limit            == what line two has at most, in bytes
--   Printable n s c r    == the bytes s are an expression of n flags, and it and the two costs are short enough for a page
use Rattle.std.specs.Prelude.{List, [], ◌∷◌, ◌++◌, ℕ, zero, suc, ◌+◌, ◌-◌, ◌≤◌, ◌<◌, length}
use Rattle.bits.specs.Bit.{digit}
use Rattle.rules.specs.Ascii.{ascii}
use Rattle.rules.specs.Limits.{rule_flags, record_limit, byte_limit}
use Rattle.rules.specs.Machine.{made, WellFormed}
use Rattle.rules.specs.Outcome.{Outcome, gives, refuses}
use Rattle.rules.specs.Record.{Kind, Constant, Flag, And, Or, Xor, Not}
use Rattle.rules.specs.Text.{decimal, records}
use Rattle.rules.specs.Tree.{Tree}

-- "one space between records"
unfoldable pub gap : ℕ → List ℕ
gap zero = []
gap (suc p) = ascii " "

-- "each its mark and then its payload as a digit"
unfoldable pub kind_text : Kind → List ℕ
kind_text (Constant b) = ascii "CO" ++ (48 + digit b) ∷ []
kind_text (Flag i) = ascii "VA" ++ (48 + i) ∷ []
kind_text And = ascii "AN"
kind_text Or = ascii "OR"
kind_text Xor = ascii "XO"
kind_text Not = ascii "NO"

abbrev pub shown : Outcome Tree → List ℕ
shown (gives t) = records t
shown (refuses k p) = []

-- "Line one is n; line two the records ..; line three the two costs."
unfoldable pub lines : ℕ → List ℕ → ℕ → ℕ → List ℕ
lines n l cost raw =
    ascii "flags " ++ decimal n ++ ascii "\n" ++ l ++ (ascii "\ncost " ++ decimal cost) ++ (ascii " raw " ++ decimal raw) ++ ascii "\n"

-- "963 bytes always suffice", and "one space between records", of which there are at most 385
abbrev pub text_limit : ℕ
text_limit = byte_limit + (record_limit - 1)

pub record Printable (n : ℕ) (s : List ℕ) (cost raw : ℕ) : Type 0 where
  pub flags : n ≤ rule_flags
  pub expression : WellFormed n s
  pub records : length (shown (made n s)) ≤ text_limit
  pub costs : (cost < 1000) × (raw < 1000)
