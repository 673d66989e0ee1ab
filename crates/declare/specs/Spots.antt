-- Line and column of a byte, both counted from 1, the column in bytes.
-- Assumes nothing.
use Rattle.std.specs.Prelude.{ℕ, ◌+◌, cond, List, [], ◌∷◌, eqb, take}
use Rattle.declare.specs.declared.spot.Spot.{Spot}

abbrev pub spot_at : ℕ → ℕ → Spot
spot_at line column = record { line = line; column = column }

-- where the byte behind b stands: behind a line feed a line starts
unfoldable pub stepped : Spot → ℕ → Spot
stepped s b = cond (eqb b 10) (spot_at (s.line + 1) 1) (spot_at s.line (s.column + 1))

-- where the byte behind some bytes stands, the first of which stands at s
unfoldable pub stepped_all : Spot → List ℕ → Spot
stepped_all s [] = s
stepped_all s (b ∷ bs) = stepped_all (stepped s b) bs

-- where the byte at position p stands
unfoldable pub spot_of : List ℕ → ℕ → Spot
spot_of t p = stepped_all (spot_at 1 1) (take p t)
