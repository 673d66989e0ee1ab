-- Resolution of names: 25 and 26 over the rows of a set in order. Aliases take no part.
-- Assumes nothing.
use Rattle.std.specs.Prelude.{ℕ, Bool, true, false, not, cond, ◌&&◌, List, [], ◌∷◌, ◌++◌, Result, Ok, Err, is_ok}
use Rattle.answer.specs.declared.refusal.Fault.{Fault}
use Rattle.answer.specs.declared.refusal.Why.{Why}
use Rattle.answer.specs.declared.refusal.Why.TheVariants.{DefinedAlready, ReferenceUnknown}
use Rattle.ground.specs.Bytes.{same}
use Rattle.row.specs.Rows.{Row}
use Rattle.row.specs.Sets.{flat}
use Rattle.row.specs.declared.kind.Kind.TheVariants.{Reference}
use Rattle.resolve.specs.Kinds.{is_kind, is_definition}
use Rattle.resolve.specs.Rules.{some}

unfoldable pub defines : List ℕ → Row → Bool
defines name r = is_definition r.kind && same r.text name

unfoldable pub is_defined : List Row → List ℕ → Bool
is_defined rows name = some (defines name) rows

-- the rows from the one on that defines a name; none where no row does
unfoldable pub definition_in : List ℕ → List Row → List Row
definition_in name [] = []
definition_in name (r ∷ rows) = cond (defines name r) (r ∷ rows) (definition_in name rows)

-- each name resolves, or the first fault
abbrev pub Resolution : Type 0
Resolution = Result Unit Fault

abbrev pub faulty : Why → Row → Resolution
faulty why r = Err (record { why = why; at = r.position })

-- one row, behind the rows `earlier`: 25, then 26
unfoldable pub fault_of : List Row → Row → Resolution
fault_of earlier r =
    cond (is_definition r.kind && is_defined earlier r.text) (faulty DefinedAlready r)
    (cond (is_kind Reference r.kind && not (is_defined earlier r.text)) (faulty ReferenceUnknown r)
    (Ok tt))

abbrev pub or_else : Resolution → Resolution → Resolution
or_else (Ok _) other = other
or_else (Err f) other = Err f

-- the first fault of rows behind the rows `earlier`; a row is defined before those behind it are read
unfoldable pub fault_in : List Row → List Row → Resolution
fault_in earlier [] = Ok tt
fault_in earlier (r ∷ rows) = or_else (fault_of earlier r) (fault_in (earlier ++ (r ∷ [])) rows)

abbrev pub is_resolved : Resolution → Bool
is_resolved r = is_ok r

-- 25 and 26 are nowhere in a set
unfoldable pub resolves : List (List Row) → Bool
resolves ds = is_resolved (fault_in [] (flat ds))
