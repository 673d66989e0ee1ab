-- The table's entries: each is the rule's, and has 64 bits.
-- Assumes nothing.
use mathlib.Core.Path.{◌≡◌, ap, sym, ◌∙◌}
use Prim.Native.Nat.{ℕ, zero, suc, ◌+◌, ◌*◌, ◌/◌, ◌%◌, ◌^◌, ◌<◌}
use native.Mathlib.Nat.{add-zero, zero-add, add-suc, suc-add, le_of_suc-le-suc, not-suc-le-zero}
use native.Mathlib.Omega.{arith}
use lib.Bits.{xor_lt}
use lib.Dec.{lit<}
use lib.IntN.{ℤ}
use lib.ListN.{get_or}
use mir.Syntax.{w64}
use mir.ValLaws.{of_z-to_z}
use Rattle.rabin.specs.Rabin.{bits_of, signed_of, empty, bit_step, bit_steps, entry_of}
use Rattle.rabin.specs.Table.{entries_from, table}
use Rattle.rabin.proofs.Laws.{bit_step_is}

entry_from : (n i k : ℕ) (d : ℤ) → k < n → get_or (entries_from i n) k d ≡ signed_of (entry_of (i + k))
unfolding entries_from
entry_from zero i k d h = absurd (not-suc-le-zero h)
entry_from (suc n) i zero d h = ap (λ (j : ℕ). signed_of (entry_of j)) (sym (add-zero i))
entry_from (suc n) i (suc k) d h =
    entry_from n (suc i) k d (le_of_suc-le-suc h) ∙ ap (λ (j : ℕ). signed_of (entry_of j)) (suc-add i k ∙ sym (add-suc i k))

pub entry_at : (k : ℕ) (d : ℤ) → k < 256 → get_or table k d ≡ signed_of (entry_of k)
unfolding table
entry_at k d h = entry_from 256 0 k d h ∙ ap (λ (j : ℕ). signed_of (entry_of j)) (zero-add k)

bit_lt : (x : ℕ) → x < 2 → x * bits_of empty < 2 ^ 64
bit_lt zero h = lit< tt
bit_lt (suc zero) h = lit< tt
bit_lt (suc (suc x)) h = absurd (omega arith)

bit_step_lt : (n : ℕ) → n < 2 ^ 64 → bit_step n < 2 ^ 64
bit_step_lt n h = rw (bit_step_is n) (xor_lt 64 (n / 2) (n % 2 * bits_of empty) (omega arith) (bit_lt (n % 2) (omega arith)))

bit_steps_lt : (k n : ℕ) → n < 2 ^ 64 → bit_steps k n < 2 ^ 64
unfolding bit_steps
bit_steps_lt zero n h = h
bit_steps_lt (suc k) n h = bit_steps_lt k (bit_step n) (bit_step_lt n h)

pub entry_bits : (k : ℕ) (d : ℤ) → k < 256 → bits_of (get_or table k d) ≡ entry_of k
unfolding entry_of
entry_bits k d h = ap bits_of (entry_at k d h) ∙ of_z-to_z w64 (entry_of k) (record { fits = bit_steps_lt 8 k (omega arith) })
