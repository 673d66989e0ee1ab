-- What a private function promises. Assumes nothing.
use Rattle.std.specs.Prelude.{ℕ, cond, List, Option, Some, None}
use Rattle.values.specs.Values.{characters, is_narrow}

-- how many characters a string has, if each is one up to U+00FF
unfoldable pub narrow_size : List ℕ → Option ℕ
narrow_size s = cond (is_narrow s) (Some (characters s)) None
