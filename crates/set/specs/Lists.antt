-- What may become of a set, a list of declarations' rows: a declaration put at a place, or a refusal.
-- Assumes nothing.
use Rattle.std.specs.Prelude.{ℕ, ◌+◌, cond, List, [], ◌∷◌, ◌++◌, ltb, length, take, drop, Ok, Err}
use Rattle.answer.specs.declared.refusal.Why.{Why}
use Rattle.answer.specs.declared.refusal.Why.TheVariants.{NoSuchPlace, TooManyDeclarations, TooManyRows, TooManyStringBytes}
use Rattle.answer.specs.declared.refusal.Refusal.{Refusal}
use Rattle.answer.specs.Places.{placed}
use Rattle.row.specs.Layout.{declaration_limit, row_limit, string_limit}
use Rattle.row.specs.Rows.{Row, texts}
use Rattle.row.specs.Sets.{flat}
use Rattle.resolve.specs.Resolve.{Resolution, fault_in}
use Rattle.fits.specs.Misfits.{misfit_in}
use Rattle.schema.specs.Out.{Out, refused, read}
use Rattle.schema.specs.Schema.{declared}

pub data Result : Type 0 where
  becomes : List (List Row) → Result
  refuses : Refusal → Result

abbrev pub refuse : Why → ℕ → ℕ → Result
refuse why place at = refuses (record { why = why; place = place; at = at })

-- on a set that was accepted, the next step
abbrev pub next : Result → (List (List Row) → Result) → Result
next (becomes ds) step = step ds
next (refuses r) step = refuses r

-- the rows of a text that is read; its fault is that of the declaration at a place
abbrev pub on_rows : Out → ℕ → (List Row → Result) → Result
on_rows (refused f) place step = refuses (placed f place)
on_rows (read rows) place step = step rows

abbrev pub on_resolved : Resolution → ℕ → Result → Result
on_resolved (Ok _) place accepted = accepted
on_resolved (Err f) place accepted = refuses (placed f place)

-- one declaration more: 23 and 24 over the totals with it, then 25 and 26 in preorder, earlier declarations counted first, then 47 in preorder
unfoldable pub append : List (List Row) → List Row → Result
append ds rows =
    cond (ltb row_limit (length (flat ds) + length rows)) (refuse TooManyRows (length ds) 0)
    (cond (ltb string_limit (length (texts (flat ds)) + length (texts rows))) (refuse TooManyStringBytes (length ds) 0)
    (on_resolved (fault_in (flat ds) rows) (length ds)
    (on_resolved (misfit_in (flat ds ++ rows) rows) (length ds)
    (becomes (ds ++ (rows ∷ []))))))

-- declarations one after the other; the first that is refused is reported
unfoldable pub append_all : List (List Row) → List (List Row) → Result
append_all ds [] = becomes ds
append_all ds (rows ∷ more) = next (append ds rows) (λ longer. append_all longer more)

-- put at a place: 21 above the count; 22 where there would be more declarations than the limit; then the text's own faults; then 23 to 26 and 47 for each
-- declaration from the place on, in turn, the new one first. What stood at the place goes; at the place equal to the count nothing stood
unfoldable pub put_in : List (List Row) → ℕ → List ℕ → Result
put_in ds place text =
    cond (ltb (length ds) place) (refuse NoSuchPlace place 0)
    (cond (ltb declaration_limit (place + 1)) (refuse TooManyDeclarations declaration_limit 0)
    (on_rows (declared text) place (λ rows. append_all (take place ds) (rows ∷ drop (place + 1) ds))))
