-- Answers as one number.
-- Assumes nothing.
use Rattle.json_scan.specs.Json.{Verdict}
use Rattle.std.specs.Prelude.{ℕ, cond, eqb, Ok, Err}
use Rattle.answer.specs.declared.numbers.Numbers.{Numbers}
use Rattle.answer.specs.Limits.{no_counts}
use Rattle.row.specs.Memory.{counted_all}
use Rattle.schema.specs.Out.{Out, refused, read}

-- a scan: the text's length where it is whole, else the place of its fault
abbrev pub place_of : Verdict → ℕ → ℕ
place_of (Ok u) n = n
place_of (Err f) n = f.at

-- a declaration: how many rows it has, 0 where it is refused
abbrev pub rows_read : Out → ℕ
rows_read (refused f) = 0
rows_read (read rows) = (counted_all no_counts rows).rows

-- a set: how many rows it has, 0 where the call is refused
abbrev pub rows_in : Numbers → ℕ
rows_in n = cond (eqb n.number 0) n.second 0

-- a text: how long it is, 0 where it is refused
abbrev pub length_in : Numbers → ℕ
length_in n = cond (eqb n.number 0) n.first 0

-- a summary: how many offsets it gives, 0 where it is refused
abbrev pub offsets_in : Numbers → ℕ
offsets_in n = cond (eqb n.number 0) n.second 0
