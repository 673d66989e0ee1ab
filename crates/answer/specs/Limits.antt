-- The counts of a set, and document 01's limits on them.
-- Assumes nothing.
use Rattle.std.specs.Prelude.{ℕ}
use Rattle.answer.specs.declared.counts.Counts.{Counts}

-- at most so many declarations, rows and string bytes are in a set: numbers 22, 23 and 24 otherwise
abbrev pub declaration_limit : ℕ
declaration_limit = 32

abbrev pub row_limit : ℕ
row_limit = 1024

abbrev pub string_limit : ℕ
string_limit = 16384

abbrev pub counts_of : ℕ → ℕ → ℕ → Counts
counts_of declarations rows bytes = record { declarations = declarations; rows = rows; string_bytes = bytes }

abbrev pub no_counts : Counts
no_counts = counts_of 0 0 0
