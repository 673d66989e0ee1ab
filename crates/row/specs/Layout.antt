-- Where things lie in a set's memory (docs/LAYOUT.md), by document 01's limits on its counts.
-- Assumes nothing.
use Rattle.std.specs.Prelude.{ℕ, ◌+◌, ◌*◌}
pub use Rattle.answer.specs.Limits.{declaration_limit, row_limit, string_limit}

-- the header: the number of declarations, then how many rows each place has, in two bytes each
abbrev pub header_size : ℕ
header_size = 2 + 2 * declaration_limit

abbrev pub row_size : ℕ
row_size = 34

abbrev pub rows_start : ℕ
rows_start = header_size

abbrev pub rows_size : ℕ
rows_size = row_size * row_limit

abbrev pub strings_start : ℕ
strings_start = rows_start + rows_size

abbrev pub layout_length : ℕ
layout_length = strings_start + string_limit
