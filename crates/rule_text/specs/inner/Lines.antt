-- The first and the last of the three printed lines.
--   first_line n          == line one
--   last_line cost raw    == line three, after the newline that ends line two
use Rattle.std.specs.Prelude.{List, ◌++◌, ℕ}
use Rattle.rules.specs.Ascii.{ascii}
use Rattle.rules.specs.Text.{decimal}

-- "Line one is n"
unfoldable pub first_line : ℕ → List ℕ
first_line n = ascii "flags " ++ decimal n ++ ascii "\n"

-- "line three the two costs"
unfoldable pub last_line : ℕ → ℕ → List ℕ
last_line cost raw = ascii "\ncost " ++ decimal cost ++ (ascii " raw " ++ decimal raw) ++ ascii "\n"
