-- The table: 256 entries, each as a signed number.
-- Assumes nothing.
use Rattle.std.specs.Prelude.{List, [], ◌∷◌, ℕ, zero, suc, ℤ}
use Rattle.rabin.specs.Rabin.{signed_of, entry_of}

-- n entries from entry i on
unfoldable pub entries_from : ℕ → ℕ → List ℤ
entries_from i zero = []
entries_from i (suc n) = signed_of (entry_of i) ∷ entries_from (suc i) n

unfoldable pub table : List ℤ
table = entries_from 0 256
