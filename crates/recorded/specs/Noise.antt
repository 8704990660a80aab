-- A table as it is lent to the library: noise above bit 0, where the library must not look.
--   noise_at i    == an even number that varies with i
--   noisy l i    == an entry whose bit 0 is bit i of the bytes l, and whose other bits vary with i
use Rattle.std.specs.Prelude.{List, ℕ, ◌+◌, ◌*◌, ◌%◌, ◌^◌}
use Rattle.recorded.specs.Numbers.{bit_at}

abbrev pub noise_at : ℕ → ℕ
noise_at i = ((i % 2 ^ 16) * 0x1E37_79B9_7F4A + 0x42B2_AE3D_27D4) * 2

abbrev pub noisy : List ℕ → ℕ → ℕ
noisy l i = noise_at i + bit_at l i
