-- `rabin::step` meets its contract: each operation by what it does to the bits.
-- Assumes nothing.
use mathlib.Core.Path.{ap, ap₂, ◌∙◌}
use mathlib.Core.List.{List}
use Prim.Native.Nat.{ℕ}
use native.Mathlib.Omega.{arith}
use lib.Bits.{bit_xor}
use lib.IntN.{ℤ, pos}
use lib.ListN.{get_or}
use mir.Syntax.{w64}
use Rattle.rabin.specs.Rabin.{bits_of, signed_of, byte_step, byte_bits}
use Rattle.rabin.proofs.Entries.{entry_bits}
use Rattle.rabin.proofs.Signed.{shr_8, byte_casts, byte_cast}
use Rattle.rabin.proofs.step.Goals as goal

-- the bits of `s ^ b`
abbrev mixed : ℤ → ℕ → ℕ
mixed s b = bit_xor (bits_of s) b

pub overflow_cast-i : goal.overflow_cast-i
overflow_cast-i c = rw c.from.ensures (byte_casts (mixed c.args.s c.args.b) w64 tt)

pub offset_bounds-t-i : goal.offset_bounds-t-i
offset_bounds-t-i c = rw (c.from.ensures, byte_cast (mixed c.args.s c.args.b)) (record { fits = omega arith })

pub bounds-t-i : goal.bounds-t-i
bounds-t-i c = rw (c.from.ensures, byte_cast (mixed c.args.s c.args.b)) (omega arith)

pub returns : goal.returns
unfolding byte_step byte_bits
returns c =
    rw c.from.ensures
    (ap signed_of
    (ap₂ bit_xor (shr_8 c.args.s c.ranges.s)
    (ap₂ (λ (t : List ℤ) (i : ℕ). bits_of (get_or t i (pos 0))) c.requires (byte_cast (mixed c.args.s c.args.b)) ∙ entry_bits _ _ (omega arith))))
