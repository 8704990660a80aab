-- What fills a lent buffer before a call, by the size of an entry.
--   byte, mask, word   == of 8, 32, 64 bits
use Rattle.std.specs.Prelude.{ℕ}

abbrev pub byte : ℕ
byte = 0xA5

abbrev pub mask : ℕ
mask = 0x89AB_CDEF

abbrev pub word : ℕ
word = 0x0123_4567_89AB_CDEF
