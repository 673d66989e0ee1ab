-- Laws of widths: a number that was read with 64 bits, asked for 32.
-- Assumes nothing.
use mathlib.Core.Path.{◌≡◌, refl, sym, ◌∙◌}
use mathlib.Core.Bool.{Bool, true, false, cond}
use mathlib.Core.List.{List}
use Prim.Native.Nat.{ℕ, ◌+◌, ◌<◌, ◌≤◌}
use native.Mathlib.Omega.{arith}
use lib.Dec.{ltb}
use lib.ListN.{drop}
use borrow.Author.Tests.{lt-ltb, le-ltb, ltb-false}
use Rattle.binary.specs.Numbers.{Number, Groups, number, cut, too_many, groups, within, int_at}
use Rattle.std.specs.Prelude.{Ok, Err}
use Rattle.binary.specs.declared.number.NumberError.{NumberError}
use Rattle.binary.specs.declared.number.NumberError.TheVariants.{Wrong}

-- 32 bits of an answer
narrowed : Number → Number
narrowed (Ok (v, to)) = cond (ltb v 4294967296) (Ok (v, to)) (Err Wrong)
narrowed (Err e) = Err e

narrowed_within : (at : ℕ) (g : Groups) → narrowed (within 18446744073709551616 at g) ≡ within 4294967296 at g
unfolding narrowed within
narrowed_within at (number v n) = go (ltb v 18446744073709551616) refl
  where
    go : (x : Bool) → ltb v 18446744073709551616 ≡ x → narrowed (cond {A = Number} x (Ok (v, at + n)) (Err Wrong)) ≡ cond {A = Number} (ltb v 4294967296) (Ok (v, at + n)) (Err Wrong)
    go true e = refl
    go false e = let k = ltb-false v 18446744073709551616 e in rw (le-ltb v 4294967296 (omega arith))
narrowed_within at cut = refl
narrowed_within at too_many = refl

-- what was read with five groups at most
module _ (bytes : List ℕ) (at : ℕ) {most : ℕ} {r : Number} (read : r ≡ within 18446744073709551616 at (groups most (drop at bytes))) (five : most ≡ 5) where
  narrow : {s : Number} → r ≡ s → narrowed s ≡ int_at bytes at
  unfolding int_at
  narrow q = rw (sym q ∙ read, five) (narrowed_within at (groups 5 (drop at bytes)))

  pub int_is : (v to : ℕ) → r ≡ Ok (v, to) → v < 4294967296 → Ok (v, to) ≡ int_at bytes at
  unfolding narrowed
  int_is v to q l = rw (lt-ltb v 4294967296 l) at (narrow q)

  pub int_over : (v to : ℕ) → r ≡ Ok (v, to) → 4294967296 ≤ v → Err Wrong ≡ int_at bytes at
  unfolding narrowed
  int_over v to q l = rw (le-ltb v 4294967296 l) at (narrow q)

  pub int_err : (e : NumberError) → r ≡ Err e → Err e ≡ int_at bytes at
  unfolding narrowed
  int_err e q = narrow q
