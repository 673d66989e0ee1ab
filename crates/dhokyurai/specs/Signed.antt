-- A fingerprint as C has it.
-- Assumes nothing.
use Rattle.std.specs.Prelude.{ℤ}
use Rattle.rabin.specs.Rabin.{bits_of, signed_of}

-- the signed number that its 64 bits are
abbrev pub signed : ℤ → ℤ
signed f = signed_of (bits_of f)
