-- The Rabin fingerprint (CRC-64-AVRO) as document 01 gives it. A state is a signed number of 64 bits; its steps are told on its bits,
-- which are a natural number.
-- Assumes nothing.
use Rattle.std.specs.Prelude.{cond, List, [], ◌∷◌, ℕ, zero, suc, ◌/◌, ◌%◌, eqb, ℤ, negsuc}
use Rattle.std.specs.Int.Bits.{bit_xor}
use Rattle.std.specs.Int.{w64}
use Rattle.std.proofs.Common.{of_z, to_z}
use Rattle.ground.specs.Numbers.{low_first}

-- the 64 bits of a signed number, two's complement, and the signed number that 64 bits are
abbrev pub bits_of : ℤ → ℕ
bits_of = of_z w64

abbrev pub signed_of : ℕ → ℤ
signed_of = to_z w64

-- the start, -4513414715797952619: the fingerprint of no bytes (`negsuc n` is -1 - n)
abbrev pub empty : ℤ
empty = negsuc 4513414715797952618

-- one step: shifted right as an unsigned number; where the bit lost was 1, xored with the start
unfoldable pub bit_step : ℕ → ℕ
bit_step n = cond (eqb (n % 2) 1) (bit_xor (n / 2) (bits_of empty)) (n / 2)

unfoldable pub bit_steps : ℕ → ℕ → ℕ
bit_steps zero n = n
bit_steps (suc k) n = bit_steps k (bit_step n)

-- entry i of the table: from i, eight steps
unfoldable pub entry_of : ℕ → ℕ
entry_of i = bit_steps 8 i

-- one byte: the state shifted right 8 without sign, xor entry (state xor b) mod 256
unfoldable pub byte_bits : ℕ → ℕ → ℕ
byte_bits s b = bit_xor (s / 256) (entry_of (bit_xor s b % 256))

unfoldable pub byte_step : ℤ → ℕ → ℤ
byte_step z b = signed_of (byte_bits (bits_of z) b)

-- the bytes of a list, one after the other, from the state z
unfoldable pub rabin_from : ℤ → List ℕ → ℤ
rabin_from z [] = z
rabin_from z (b ∷ bs) = rabin_from (byte_step z b) bs

-- the fingerprint of a list of bytes
abbrev pub rabin_of : List ℕ → ℤ
rabin_of bs = rabin_from empty bs

-- a state's eight bytes, lowest first
abbrev pub bytes_of : ℤ → List ℕ
bytes_of z = low_first 8 (bits_of z)
