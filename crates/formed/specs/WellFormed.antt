-- Well-formed memory: the encoding of a set within the limits that keeps the rules. 20 is given exactly otherwise.
-- Assumes nothing.
use Rattle.std.specs.Prelude.{ℕ, ◌≤◌, Bool, true, ◌&&◌, List, [], ◌∷◌, ◌++◌, ◌≡◌, length}
use Rattle.name.specs.Name.{every}
use Rattle.row.specs.Layout.{declaration_limit, row_limit, string_limit}
use Rattle.row.specs.Rows.{Row, texts}
use Rattle.row.specs.Sets.{flat, decode, is_encoding}
use Rattle.resolve.specs.Rules.{is_declaration}
use Rattle.resolve.specs.Resolve.{is_resolved, resolves}
use Rattle.fits.specs.Misfits.{misfit_in}

-- 47 is nowhere: each default fits its field's type, among the rows of the declarations up to its own
unfoldable pub defaults_fit : List Row → List (List Row) → Bool
defaults_fit earlier [] = true
defaults_fit earlier (d ∷ ds) = is_resolved (misfit_in (earlier ++ d) d) && defaults_fit (earlier ++ d) ds

-- a set within the limits that keeps the rules
pub record Good (ds : List (List Row)) : Type 0 where
  pub few : length ds ≤ declaration_limit
  pub rows : length (flat ds) ≤ row_limit
  pub strings : length (texts (flat ds)) ≤ string_limit
  pub declarations : every is_declaration ds ≡ true
  pub resolved : resolves ds ≡ true
  pub fitting : defaults_fit [] ds ≡ true

unfoldable pub keeps_rules : List (List Row) → Bool
keeps_rules ds = every is_declaration ds && resolves ds && defaults_fit [] ds

unfoldable pub well_formed : List ℕ → Bool
well_formed m = is_encoding m && keeps_rules (decode m)
