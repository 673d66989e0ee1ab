-- Field names in order: refused if equal to an earlier field's name or alias; an alias equal to an earlier name is let through.
-- Assumes nothing.
use Rattle.std.specs.Prelude.{ℕ, not, cond, List, [], ◌∷◌, ◌++◌, map, Ok}
use Rattle.answer.specs.declared.refusal.Why.TheVariants.{FieldNameTaken}
use Rattle.name.specs.Name.{is_one_of}
use Rattle.view.specs.Values.{shape_at}
use Rattle.view.specs.Strings.{string_at}
use Rattle.view.specs.Members.{members_of}
use Rattle.view.specs.Marks.{mark_of}
use Rattle.seen.specs.Seen.{entered}
use Rattle.form.specs.Checks.{fault, must, ◌then◌, Check}
use Rattle.form.specs.Spots.{on_spot, is_object, as_text, aliases_in}

-- where the name of the field at f is, and the name
unfoldable pub field_name_at : List ℕ → ℕ → ℕ
field_name_at t f = on_spot (as_text t (members_of t f).name) (λ q. q) f

abbrev pub field_name : List ℕ → ℕ → List ℕ
field_name t f = string_at t (field_name_at t f)

-- the names that a field takes: its own and its aliases
unfoldable pub taken_by : List ℕ → ℕ → List (List ℕ)
taken_by t f = field_name t f ∷ map (string_at t) (aliases_in t (members_of t f).aliases)

-- the fields fs, behind fields that took these names
unfoldable pub field_names_check : List ℕ → List (List ℕ) → List ℕ → Check
field_names_check t taken [] = Ok tt
field_names_check t taken (f ∷ fs) =
    must (not (is_one_of taken (field_name t f))) (fault FieldNameTaken (field_name_at t f))
    then field_names_check t (taken ++ taken_by t f) fs

-- ---- what the code holds on the way

-- all that the fields at these places take; what is no object is no field
unfoldable pub taken_among : List ℕ → List ℕ → List (List ℕ)
taken_among t [] = []
taken_among t (p ∷ ps) = cond (is_object (shape_at t p)) (taken_by t p) [] ++ taken_among t ps

-- a table of marks with some strings entered
unfoldable pub entered_all : List ℕ → List (List ℕ) → List ℕ
entered_all table [] = table
entered_all table (s ∷ ss) = entered_all (entered table (mark_of s)) ss
