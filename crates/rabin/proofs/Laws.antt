-- Laws of the fingerprint: two parts one after the other, and the table's step as eight steps of a bit.
-- Assumes nothing.
use mathlib.Core.Path.{◌≡◌, refl, sym, ap, ap₂, ◌∙◌}
use mathlib.Core.Bool.{cond}
use mathlib.Core.List.{List, [], ◌∷◌, ◌++◌}
use Prim.Native.Nat.{ℕ, zero, suc, ◌+◌, ◌*◌, ◌/◌, ◌%◌, ◌^◌, ◌<◌}
use native.Mathlib.Omega.{arith}
use lib.IntN.{ℤ}
use lib.Arith.{bin_ind, digits_mod}
use lib.Dec.{eqb}
use lib.Pow.{split}
use lib.Bits.{bit_xor, differ, xor_step, xor_comm, xor_zero_r, xor_shr, xor_shifted, shifted_half, shifted_even}
use Rattle.rabin.specs.Rabin.{bits_of, empty, bit_step, bit_steps, entry_of, byte_bits, byte_step, rabin_from, rabin_of}

-- ---- the fingerprint of a ++ b is that of b from the state after a

pub in_parts : (a b : List ℕ) (z : ℤ) → rabin_from z (a ++ b) ≡ rabin_from (rabin_from z a) b
unfolding rabin_from
in_parts [] b z = refl
in_parts (x ∷ a) b z = in_parts a b (byte_step z x)

pub fingerprint_in_parts : (a b : List ℕ) → rabin_of (a ++ b) ≡ rabin_from (rabin_of a) b
fingerprint_in_parts a b = in_parts a b empty

-- ---- xor: its lowest digit, its half, and that it is associative

differ_assoc : (x y z : ℕ) → x < 2 → y < 2 → z < 2 → differ (differ x y) z ≡ differ x (differ y z)
differ_assoc zero y z hx hy hz = refl
differ_assoc (suc zero) zero z hx hy hz = refl
differ_assoc (suc zero) (suc zero) zero hx hy hz = refl
differ_assoc (suc zero) (suc zero) (suc zero) hx hy hz = refl
differ_assoc (suc zero) (suc zero) (suc (suc z)) hx hy hz = absurd (omega arith)
differ_assoc (suc zero) (suc (suc y)) z hx hy hz = absurd (omega arith)
differ_assoc (suc (suc x)) y z hx hy hz = absurd (omega arith)

differ_lt : (x y : ℕ) → x < 2 → y < 2 → differ x y < 2
differ_lt zero y hx hy = hy
differ_lt (suc x) zero hx hy = hx
differ_lt (suc zero) (suc y) hx hy = omega arith
differ_lt (suc (suc x)) (suc y) hx hy = absurd (omega arith)

bit : (n : ℕ) → n % 2 < 2
bit n = omega arith

xor_half : (a b : ℕ) → bit_xor a b / 2 ≡ bit_xor (a / 2) (b / 2)
xor_half a b = xor_shr a b 1

xor_odd : (a b : ℕ) → bit_xor a b % 2 ≡ differ (a % 2) (b % 2)
xor_odd a b = ap (λ (x : ℕ). x % 2) (xor_step a b) ∙ digits_mod (bit_xor (a / 2) (b / 2)) (differ_lt (a % 2) (b % 2) (bit a) (bit b))

xor_assoc : (a b c : ℕ) → bit_xor (bit_xor a b) c ≡ bit_xor a (bit_xor b c)
xor_assoc a =
    bin_ind (λ (n : ℕ). (b c : ℕ) → bit_xor (bit_xor n b) c ≡ bit_xor n (bit_xor b c)) (λ b c. refl)
    (λ n ih b c.
    xor_step (bit_xor n b) c
    ∙ ap₂ (λ (x y : ℕ). bit_xor x (c / 2) * 2 + differ y (c % 2)) (xor_half n b) (xor_odd n b)
    ∙ ap₂ (λ (x y : ℕ). x * 2 + y) (ih (b / 2) (c / 2)) (differ_assoc (n % 2) (b % 2) (c % 2) (bit n) (bit b) (bit c))
    ∙ sym (xor_step n (bit_xor b c)
    ∙ ap₂ (λ (x y : ℕ). bit_xor (n / 2) x * 2 + differ (n % 2) y) (xor_half b c) (xor_odd b c)))
    a

-- (p + q) + (r + s) is (p + r) + (q + s)
xor_swap : (p q r s : ℕ) → bit_xor (bit_xor p q) (bit_xor r s) ≡ bit_xor (bit_xor p r) (bit_xor q s)
xor_swap p q r s =
    xor_assoc p q (bit_xor r s)
    ∙ ap (bit_xor p) (sym (xor_assoc q r s) ∙ ap (λ (x : ℕ). bit_xor x s) (xor_comm q r) ∙ xor_assoc r q s)
    ∙ sym (xor_assoc p r (bit_xor q s))

-- ---- the step of a bit goes through xor

-- the start, as often as the bit lost says: once or not at all
lost : (h x : ℕ) → x < 2 → cond (eqb x 1) (bit_xor h (bits_of empty)) h ≡ bit_xor h (x * bits_of empty)
lost h zero l = sym (xor_zero_r h)
lost h (suc zero) l = refl
lost h (suc (suc x)) l = absurd (omega arith)

pub bit_step_is : (n : ℕ) → bit_step n ≡ bit_xor (n / 2) (n % 2 * bits_of empty)
unfolding bit_step
bit_step_is n = lost (n / 2) (n % 2) (bit n)

scaled : (x y : ℕ) → x < 2 → y < 2 → differ x y * bits_of empty ≡ bit_xor (x * bits_of empty) (y * bits_of empty)
scaled zero y hx hy = refl
scaled (suc zero) zero hx hy = refl
scaled (suc zero) (suc zero) hx hy = refl
scaled (suc zero) (suc (suc y)) hx hy = absurd (omega arith)
scaled (suc (suc x)) y hx hy = absurd (omega arith)

bit_step_xor : (a b : ℕ) → bit_step (bit_xor a b) ≡ bit_xor (bit_step a) (bit_step b)
bit_step_xor a b =
    bit_step_is (bit_xor a b)
    ∙ ap₂ (λ (x y : ℕ). bit_xor x (y * bits_of empty)) (xor_half a b) (xor_odd a b)
    ∙ ap (bit_xor (bit_xor (a / 2) (b / 2))) (scaled (a % 2) (b % 2) (bit a) (bit b))
    ∙ xor_swap (a / 2) (b / 2) (a % 2 * bits_of empty) (b % 2 * bits_of empty)
    ∙ sym (ap₂ bit_xor (bit_step_is a) (bit_step_is b))

bit_steps_xor : (k a b : ℕ) → bit_steps k (bit_xor a b) ≡ bit_xor (bit_steps k a) (bit_steps k b)
unfolding bit_steps
bit_steps_xor zero a b = refl
bit_steps_xor (suc k) a b = ap (bit_steps k) (bit_step_xor a b) ∙ bit_steps_xor k (bit_step a) (bit_step b)

-- k steps take k low zeros away
bit_steps_shifted : (k a : ℕ) → bit_steps k (a * 2 ^ k) ≡ a
unfolding bit_steps
bit_steps_shifted zero a = omega arith
bit_steps_shifted (suc k) a =
    ap (bit_steps k)
    (bit_step_is (a * 2 ^ suc k)
    ∙ ap₂ (λ (x y : ℕ). bit_xor x (y * bits_of empty)) (shifted_half a k) (shifted_even a k)
    ∙ xor_zero_r (a * 2 ^ k))
    ∙ bit_steps_shifted k a

-- ---- a byte by the table is the byte xored in, and then eight steps of a bit

pub byte_by_bits : (s b : ℕ) → b < 256 → byte_bits s b ≡ bit_steps 8 (bit_xor s b)
unfolding byte_bits entry_of
byte_by_bits s b h =
    let x : ℕ = bit_xor s b in
    let high : x / 2 ^ 8 ≡ s / 256 = xor_shr s b 8 ∙ ap (bit_xor (s / 256)) (omega arith) ∙ xor_zero_r (s / 256) in
    let parts : bit_xor (x / 2 ^ 8 * 2 ^ 8) (x % 2 ^ 8) ≡ x = xor_shifted (x / 2 ^ 8) 8 (x % 2 ^ 8) (omega arith) ∙ split x 8 in
    sym
    (ap (bit_steps 8) (sym parts)
    ∙ bit_steps_xor 8 (x / 2 ^ 8 * 2 ^ 8) (x % 2 ^ 8)
    ∙ ap (λ (y : ℕ). bit_xor y (bit_steps 8 (x % 256))) (bit_steps_shifted 8 (x / 2 ^ 8) ∙ high))
