-- The bytes of a text without white space, escapes and bytes outside ASCII.
-- Assumes nothing.
use Rattle.std.specs.Prelude.{ℕ, Bool, not, ◌&&◌, eqb}
use Prim.Native.Char.{code}
use Rattle.name.specs.Name.{is_within}

-- a character that prints, but no backslash
unfoldable pub is_plain : ℕ → Bool
is_plain b = is_within (code "!") (code "~") b && not (eqb b (code "\\"))
