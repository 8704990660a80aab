-- A form of the code as document 01's list of masks.
--   masks f              == the masks of the form f, ascending
use Rattle.std.specs.Prelude.{List, ℕ}
use Rattle.bits.specs.Word.{places}
use Rattle.mask_words.specs.Lookup.{mask_count}
use Rattle.form.specs.declared.Form.{Form}

abbrev pub masks : Form → List ℕ
masks f = places mask_count f.word
