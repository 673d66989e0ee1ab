-- What is answered of a full name, and what the buffer that it goes into holds afterwards. Assumes nothing: these are definitions.
use Rattle.std.specs.Prelude.{ℕ, Bool, cond, List, leb, length, Option, Some, None}
use Rattle.ground.specs.Bytes.{store}

-- a kept string has at most so many bytes: 01's number 9 otherwise
abbrev pub kept_limit : ℕ
kept_limit = 255

unfoldable pub is_short : List ℕ → Bool
is_short s = leb (length s) kept_limit

unfoldable pub answer_of : List ℕ → Option ℕ
answer_of full = cond (is_short full) (Some (length full)) None

-- the full name from the buffer's first byte on, the other bytes as they were; all as it was where the full name is too long
unfoldable pub buffer_after : List ℕ → List ℕ → List ℕ
buffer_after buffer full = cond (is_short full) (store buffer 0 full) buffer
