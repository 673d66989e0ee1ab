-- 47: the first default of a declaration that does not fit its field's type.
-- Assumes nothing.
use Rattle.std.specs.Prelude.{suc, Bool, not, cond, ◌||◌, List, [], ◌∷◌, Ok, Err}
use Rattle.answer.specs.declared.refusal.Why.TheVariants.{DefaultDoesNotFit}
use Rattle.json_scan.specs.Json.{deepest}
use Rattle.row.specs.Rows.{Row}
use Rattle.resolve.specs.Resolve.{Resolution}
use Rattle.fits.specs.Types.{type_of, has_default}
use Rattle.fits.specs.Fits.{fits}

-- among the rows `rows`: a row has no default, or its default fits the field's type, which stands in the rows behind it. A default that the scan passes
-- nests values `deepest` deep at most
unfoldable pub default_fits : List Row → Row → List Row → Bool
default_fits rows r rest = not (has_default r) || fits rows r.default (suc deepest) (type_of rest) 0

-- 47, at the default's position
abbrev pub misfit : Row → Resolution
misfit r = Err (record { why = DefaultDoesNotFit; at = r.size })

-- the first one in preorder of a declaration, among all rows up to its end
unfoldable pub misfit_in : List Row → List Row → Resolution
misfit_in rows [] = Ok tt
misfit_in rows (r ∷ rest) = cond (default_fits rows r rest) (misfit_in rows rest) (misfit r)
