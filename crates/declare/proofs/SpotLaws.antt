-- Line and column: the turns of the loop.
-- Assumes nothing.
use mathlib.Core.Path.{◌≡◌, sym, ◌∙◌}
use mathlib.Core.Bool.{Bool, true, false, cond}
use mathlib.Core.List.{List}
use Prim.Native.Nat.{ℕ, ◌+◌, ◌≤◌, ◌<◌}
use native.Mathlib.Numerals.{add-one}
use native.Mathlib.Omega.{arith}
use lib.Dec.{eqb}
use lib.ListN.{length, get_or, drop, drop_of_length-le}
use lib.Seq.{drop-cons}
use Rattle.declare.specs.Spots.{spot_at, stepped, stepped_all}
use Rattle.declare.specs.declared.spot.Spot.{Spot}

-- ---- one byte

-- a line more, or a column more
some_of : (x : Bool) (s : Spot) → 0 < (cond x (spot_at (s.line + 1) 1) (spot_at s.line (s.column + 1))).column
some_of true s = omega arith
some_of false s = omega arith

line_of : (x : Bool) (s : Spot) (n : ℕ) → s.line ≤ n → (cond x (spot_at (s.line + 1) 1) (spot_at s.line (s.column + 1))).line ≤ n + 1
line_of true s n h = omega arith
line_of false s n h = omega arith

column_of : (x : Bool) (s : Spot) (n : ℕ) → s.column ≤ n → (cond x (spot_at (s.line + 1) 1) (spot_at s.line (s.column + 1))).column ≤ n + 1
column_of true s n h = omega arith
column_of false s n h = omega arith

module _ (s : Spot) (b : ℕ) (r : Spot) (e : r ≡ stepped s b) (n : ℕ) where
  pub step_line : s.line ≤ n → r.line ≤ n + 1
  unfolding stepped
  step_line h = rw e (line_of (eqb b 10) s n h)

  pub step_some : 0 < r.column
  unfolding stepped
  step_some = rw e (some_of (eqb b 10) s)

  pub step_column : s.column ≤ n → r.column ≤ n + 1
  unfolding stepped
  step_column h = rw e (column_of (eqb b 10) s n h)

-- ---- the bytes before a position

module _ (t : List ℕ) (i : ℕ) (s x : Spot) (inv : stepped_all s (drop i t) ≡ x) where
  pub spot_turn : i < length t → (r : Spot) → r ≡ stepped s (get_or t i 0) → stepped_all r (drop (i + 1) t) ≡ x
  unfolding stepped_all
  spot_turn h r e = rw e (sym (rw (drop-cons t i 0 h, add-one)) ∙ inv)

  pub spot_end : length t ≤ i → s ≡ x
  unfolding stepped_all
  spot_end h = sym (rw (drop_of_length-le t h)) ∙ inv
