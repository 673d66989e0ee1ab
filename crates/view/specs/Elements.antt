-- The elements of an array, as places in the text.
-- Assumes nothing.
use Rattle.std.specs.Prelude.{ℕ, zero, suc, ◌+◌, cond, List, [], ◌∷◌, eqb, length, Option, Some, None}
use Rattle.ground.specs.Bytes.{byte_at}
use Rattle.view.specs.Values.{skip_of, starts_value}
use Rattle.view.specs.Ends.{end_of}

-- the value that stands past the white space at p, if one does
unfoldable pub value_from : List ℕ → ℕ → Option ℕ
value_from t p = cond (starts_value (byte_at t (skip_of t p))) (Some (skip_of t p)) None

-- what is no array has no elements
unfoldable pub first_element : List ℕ → ℕ → Option ℕ
first_element t p = cond (eqb (byte_at t p) 91) (value_from t (p + 1)) None

-- behind the element at p: white space, a comma, and the next element
unfoldable pub next_element : List ℕ → ℕ → Option ℕ
next_element t p = let e = skip_of t (end_of t p) in cond (eqb (byte_at t e) 44) (value_from t (e + 1)) None

-- at most n places, one after the other
unfoldable pub unroll : (ℕ → Option ℕ) → ℕ → Option ℕ → List ℕ
unroll next zero s = []
unroll next (suc n) None = []
unroll next (suc n) (Some p) = p ∷ unroll next n (next p)

-- the elements from a place on; there are no more than the text has bytes (`elements_next`)
unfoldable pub elements_at : List ℕ → Option ℕ → List ℕ
elements_at t s = unroll (next_element t) (suc (length t)) s

-- the elements of the array at p
unfoldable pub elements : List ℕ → ℕ → List ℕ
elements t p = elements_at t (first_element t p)
