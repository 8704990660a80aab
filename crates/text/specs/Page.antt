-- What a page shows, and what a text that is written behind another leaves.
--   page_bytes            == the bytes that a page has
--   Shows l page         == the page's text is l
--   Written n l old new  == the bytes l stand behind what was there, where n bytes have room for them
use Rattle.std.specs.Prelude.{List, ◌≡◌, ◌++◌, ℕ, ◌+◌, ◌≤◌, length, take}
use Rattle.arrayvec.specs.ArrayVec.{ArrayVec}
use Rattle.text.specs.declared.Page.{Page}

abbrev pub page_bytes : ℕ
page_bytes = 1400

pub record Shows (l : List ℕ) (page : Page) : Type 0 where
  pub within : page.count ≤ page_bytes
  pub size : length page.bytes ≡ page_bytes
  pub text : take page.count page.bytes ≡ l

pub record Written (n : ℕ) (l : List ℕ) (old new : ArrayVec ℕ) : Type 0 where
  pub text : length old.items + length l ≤ n → new.items ≡ old.items ++ l
