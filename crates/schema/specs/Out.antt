-- What reading a declaration, or a part of one, gives: its first fault, or its rows in preorder.
-- Assumes nothing.
use Rattle.std.specs.Prelude.{ℕ, List, [], ◌∷◌, ◌++◌, Result, Ok, Err}
use Rattle.answer.specs.declared.counts.Counts.{Counts}
use Rattle.answer.specs.declared.refusal.Why.{Why}
use Rattle.answer.specs.declared.refusal.Fault.{Fault}
use Rattle.row.specs.Rows.{Row}
use Rattle.form.specs.Checks.{fault, Check}

-- what a walk answers: the counts with the rows that were read, or the first fault
abbrev pub Walked : Type 0
Walked = Result Counts Fault

pub data Out : Type 0 where
  refused : Fault → Out
  read : List Row → Out

-- rows in front of what comes
abbrev pub rows_then : List Row → Out → Out
rows_then rs (refused f) = refused f
rows_then rs (read more) = read (rs ++ more)

-- one part, then the next
abbrev pub and_then : Out → Out → Out
and_then (refused f) next = refused f
and_then (read rs) next = rows_then rs next

-- a check, then what comes
abbrev pub after : Check → Out → Out
after (Ok _) next = next
after (Err f) next = refused f

abbrev pub no : Why → ℕ → Out
no why at = refused (fault why at)

-- what is read at each place, in order
unfoldable pub each : (ℕ → Out) → List ℕ → Out
each reads [] = read []
each reads (p ∷ ps) = and_then (reads p) (each reads ps)
