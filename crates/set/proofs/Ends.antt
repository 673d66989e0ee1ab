-- At the count there is nothing behind the place: put there is one declaration more.
-- Assumes nothing.
use mathlib.Core.Path.{◌≡◌, refl}
use mathlib.Core.List.{List, ◌∷◌}
use Prim.Native.Nat.{ℕ, ◌+◌, ◌≤◌}
use native.Mathlib.Omega.{arith}
use lib.ListN.{length, take, drop, drop_of_length-le}
use lib.Seq.{take_all}
use Rattle.row.specs.Rows.{Row}
use Rattle.set.specs.Lists.{Result, becomes, refuses, next, append, append_all}

ends : (x : Result) → next x (λ ds. becomes ds) ≡ x
ends (becomes ds) = refl
ends (refuses r) = refl

pub append_last : (ds : List (List Row)) (place : ℕ) (rows : List Row) → length ds ≤ place → append_all (take place ds) (rows ∷ drop (place + 1) ds) ≡ append ds rows
unfolding append_all
append_last ds place rows l =
    let k : length ds ≤ place + 1 = omega arith in
    rw (take_all place ds l, drop_of_length-le ds k) (ends (append ds rows))
