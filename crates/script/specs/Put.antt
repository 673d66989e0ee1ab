-- Text that is collected in a buffer.
-- Assumes nothing.
use Rattle.std.specs.Prelude.{ℕ, ◌+◌, ◌≤◌, ◌≡◌, List, length}
use Rattle.ground.specs.Bytes.{store}

-- s was put behind the first `at` bytes of m, where there is room for it: m' holds r bytes of text. Where there is none,
-- what was collected goes to standard output.
pub record Put (m : List ℕ) (at : ℕ) (s m' : List ℕ) (r : ℕ) : Type 0 where
  pub whole : at + length s ≤ length m → (r ≡ at + length s) × (m' ≡ store m at s)
