-- Where a value starts, and what its first byte says of it.
-- Assumes nothing.
use Rattle.std.specs.Prelude.{ℕ, suc, ◌+◌, Bool, true, false, cond, ◌||◌, List, [], ◌∷◌, eqb, drop}
use Rattle.json_scan.specs.Json.{is_space, is_digit}
use Rattle.ground.specs.Bytes.{byte_at}
use Rattle.view.specs.declared.shape.Shape.{Shape}
use Rattle.view.specs.declared.shape.Shape.TheVariants.{Text, Number, Object, Array, Word, Nothing}

-- how many bytes there are before the first that is not of the class
unfoldable pub count : (ℕ → Bool) → List ℕ → ℕ
count c [] = 0
count c (b ∷ bs) = let more = suc (count c bs) in cond (c b) more 0

-- past the white space at p
unfoldable pub skip_of : List ℕ → ℕ → ℕ
skip_of t p = p + count is_space (drop p t)

-- where the text's one value starts
abbrev pub value_start : List ℕ → ℕ
value_start t = skip_of t 0

-- a quote, a bracket, a brace; a digit or a minus sign; the t, f, n of a word
unfoldable pub shape_of : ℕ → Shape
shape_of b =
    cond (eqb b 34) Text
    (cond (eqb b 91) Array
    (cond (eqb b 123) Object
    (cond (eqb b 45 || is_digit b) Number (cond (eqb b 116 || eqb b 102 || eqb b 110) Word Nothing))))

-- the kind of the value at p; where no value starts, as past the end, there is none
abbrev pub shape_at : List ℕ → ℕ → Shape
shape_at t p = shape_of (byte_at t p)

unfoldable pub is_value : Shape → Bool
is_value Text = true
is_value Number = true
is_value Object = true
is_value Array = true
is_value Word = true
is_value Nothing = false

-- does a value start with this byte?
abbrev pub starts_value : ℕ → Bool
starts_value b = is_value (shape_of b)
