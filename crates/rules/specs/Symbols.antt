-- Enum: all symbols strings, each symbol simple and new, default.
-- Assumes nothing.
use Rattle.std.specs.Prelude.{ℕ, not, cond, List, [], ◌∷◌, ◌++◌, map, Option, Ok, Err}
use Rattle.answer.specs.declared.refusal.Why.TheVariants.{SymbolNotAString, SymbolTwice, DefaultNotAString, DefaultNotASymbol}
use Rattle.name.specs.Name.{is_one_of}
use Rattle.view.specs.Values.{shape_at}
use Rattle.view.specs.Strings.{string_at}
use Rattle.form.specs.Checks.{fault, must, ◌then◌, each_of, Check}
use Rattle.form.specs.Spots.{on_spot, is_text}
use Rattle.form.specs.Names.{simple_check}

-- the symbols qs, behind symbols of these names
unfoldable pub symbols_new : List ℕ → List (List ℕ) → List ℕ → Check
symbols_new t taken [] = Ok tt
symbols_new t taken (q ∷ qs) =
    simple_check t q
    then must (not (is_one_of taken (string_at t q))) (fault SymbolTwice q)
    then symbols_new t (taken ++ (string_at t q ∷ [])) qs

-- the symbols at qs: all strings, before any is looked at
unfoldable pub symbols_check : List ℕ → List ℕ → Check
symbols_check t qs = each_of (λ q. must (is_text (shape_at t q)) (fault SymbolNotAString q)) qs then symbols_new t [] qs

-- the `default` of an enum, whose symbols are at qs
unfoldable pub default_check : List ℕ → Option ℕ → List ℕ → Check
default_check t default qs =
    on_spot default
    (λ v.
    cond (is_text (shape_at t v)) (must (is_one_of (map (string_at t) qs) (string_at t v)) (fault DefaultNotASymbol v))
    (Err (fault DefaultNotAString v)))
    (Ok tt)
