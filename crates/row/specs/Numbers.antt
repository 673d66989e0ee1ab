-- Numbers as bytes, lowest first.
-- Assumes nothing.
use Rattle.std.specs.Prelude.{ℕ, ◌+◌, ◌*◌, List, [], ◌∷◌}
use Rattle.ground.specs.Bytes.{part}

-- the number whose bytes are bs
unfoldable pub le : List ℕ → ℕ
le [] = 0
le (b ∷ bs) = b + 256 * le bs

-- the number in the n bytes of m from a place on
abbrev pub number : List ℕ → ℕ → ℕ → ℕ
number m at n = le (part m at n)
