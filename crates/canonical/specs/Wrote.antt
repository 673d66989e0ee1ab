-- What every writer promises of the part of the buffer that it is lent.
-- Assumes nothing.
use Rattle.std.specs.Prelude.{ℕ, ◌+◌, List, ◌≡◌, length}
use Rattle.ground.specs.Bytes.{store}

-- in a part m the text s was written from `at` on: m' is what that left, `to` the place behind s. What has no room is dropped
pub record Wrote (m : List ℕ) (at : ℕ) (m' : List ℕ) (to : ℕ) (s : List ℕ) : Type 0 where
  pub end : to ≡ at + length s
  pub bytes : m' ≡ store m at s
