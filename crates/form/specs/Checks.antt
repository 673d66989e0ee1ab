-- Checks one after the other: the first fault counts.
-- Assumes nothing.
use Rattle.std.specs.Prelude.{ℕ, Bool, cond, List, [], ◌∷◌, Result, Ok, Err}
use Rattle.answer.specs.declared.refusal.Why.{Why}
use Rattle.answer.specs.declared.refusal.Fault.{Fault}

-- a check: nothing, or the first fault
abbrev pub Check : Type 0
Check = Result (Unit {0}) Fault

abbrev pub fault : Why → ℕ → Fault
fault why at = record { why = why; at = at }

-- what must hold, and the fault where it does not
abbrev pub must : Bool → Fault → Check
must holds f = cond holds (Ok tt) (Err f)

infixr 20 ◌then◌
abbrev pub ◌then◌ : Check → Check → Check
Ok _ then c = c
Err f then c = Err f

-- the check of each place in order
unfoldable pub each_of : (ℕ → Check) → List ℕ → Check
each_of check [] = Ok tt
each_of check (p ∷ ps) = check p then each_of check ps
