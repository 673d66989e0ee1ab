-- The program's memory.
-- Assumes nothing.
use Rattle.std.specs.Prelude.{ℕ, ◌+◌, Bool, cond, List, leb, length}
use Rattle.ground.specs.Bytes.{store}

-- does the memory have n bytes from a place on?
abbrev pub has_room : List ℕ → ℕ → ℕ → Bool
has_room m at n = leb (at + n) (length m)

-- the bytes stored, if all of them have room
unfoldable pub poked : List ℕ → ℕ → List ℕ → List ℕ
poked m at bytes = cond (has_room m at (length bytes)) (store m at bytes) m
