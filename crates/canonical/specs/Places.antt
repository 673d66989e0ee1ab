-- The place of a fingerprint.
-- Assumes nothing.
use Rattle.std.specs.Prelude.{ℕ, suc, cond, List, [], ◌∷◌}
use Rattle.ground.specs.Bytes.{same}
use Rattle.rabin.specs.Rabin.{rabin_of, bytes_of}
use Rattle.row.specs.Rows.{Row}
use Rattle.canonical.specs.Canonical.{canonical_of}

-- the eight bytes of a declaration's fingerprint, lowest first
unfoldable pub print_bytes : List Row → List ℕ
print_bytes d = bytes_of (rabin_of (canonical_of d))

-- the first place whose declaration has these fingerprint bytes; the number of declarations where none has
unfoldable pub place_with : List ℕ → List (List Row) → ℕ
place_with print [] = 0
place_with print (d ∷ ds) = cond (same print (print_bytes d)) 0 (suc (place_with print ds))
