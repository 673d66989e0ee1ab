-- Laws of size literals.
-- Assumes nothing.
use Rattle.std.specs.Prelude.{Some, None}
use mathlib.Core.Path.{◌≡◌, refl, ◌∙◌}
use mathlib.Core.Bool.{Bool, true, false, cond}
use mathlib.Core.List.{List, [], ◌∷◌}
use Prim.Native.Nat.{ℕ, ◌+◌, ◌-◌, ◌*◌, ◌<◌, ◌≤◌}
use native.Mathlib.Numerals.{add-one}
use native.Mathlib.Omega.{arith}
use lib.ListN.{length, get_or, drop, drop_of_length-le}
use lib.Seq.{drop-cons}
use borrow.Author.Tests.{lt-ltb, le-ltb}
use Rattle.std.specs.Bool.{then_some}
use Rattle.json_scan.specs.Json.{is_digit}
use Rattle.ground.specs.Bytes.{byte_at}
use Rattle.view.specs.Ends.{is_delimiter}
use Rattle.view.specs.Size.{fitting, size_from, size_of}

too_big : (v : ℕ) (s : List ℕ) → 18446744073709551616 ≤ v → None ≡ size_from v s
unfolding size_from fitting
too_big v [] h = rw (le-ltb v 18446744073709551616 h)
too_big v (b ∷ bs) h = go (too_big (v * 10 + (b - 48)) bs (omega arith)) (is_digit b) (is_delimiter b)
  where
    go : None ≡ size_from (v * 10 + (b - 48)) bs → (x y : Bool) → None ≡ cond x (size_from (v * 10 + (b - 48)) bs) (cond y (fitting v) None)
    go r true y = r
    go r false true = rw (le-ltb v 18446744073709551616 h)
    go r false false = refl

module _ (t : List ℕ) (p v : ℕ) where
  pub size_out : length t ≤ p → v < 18446744073709551616 → Some v ≡ size_from v (drop p t)
  unfolding size_from fitting
  size_out h l = rw (drop_of_length-le t h, lt-ltb v 18446744073709551616 l)

  module _ (h : p < length t) where
    pub size_digit : is_digit (get_or t p 0) ≡ true → size_from (v * 10 + (get_or t p 0 - 48)) (drop (p + 1) t) ≡ size_from v (drop p t)
    unfolding size_from
    size_digit e = rw (drop-cons t p 0 h, e, add-one p)

    pub size_big : is_digit (get_or t p 0) ≡ true → 18446744073709551616 ≤ v * 10 + (get_or t p 0 - 48) → None ≡ size_from v (drop p t)
    size_big e l = too_big (v * 10 + (get_or t p 0 - 48)) (drop (p + 1) t) l ∙ size_digit e

    pub size_stop : is_digit (get_or t p 0) ≡ false → v < 18446744073709551616 → {d : Bool} → d ≡ is_delimiter (get_or t p 0) → then_some d v ≡ size_from v (drop p t)
    unfolding size_from fitting
    size_stop e l f = rw (drop-cons t p 0 h, e, f, lt-ltb v 18446744073709551616 l) (go (is_delimiter (get_or t p 0)))
      where
        go : (x : Bool) → then_some x v ≡ cond x (Some v) None
        go true = refl
        go false = refl

module _ (t : List ℕ) (p b : ℕ) (e : b ≡ byte_at t p) where
  pub size_none : is_digit b ≡ false → None ≡ size_of t p
  unfolding size_of
  size_none f = rw (← e, f)

  pub size_some : is_digit b ≡ true → size_from 0 (drop p t) ≡ size_of t p
  unfolding size_of
  size_some f = rw (← e, f)
