-- What a name is and what its full name is, in the words and the order of 01's "Names". Names are lists of bytes.
-- Assumes nothing: these are definitions.
use Rattle.std.specs.Prelude.{ℕ, Bool, true, false, not, cond, ◌&&◌, ◌||◌, eqb, leb, drop}
use Prim.Native.Char.{code}
use mathlib.Core.List.{List, [], ◌∷◌, ◌++◌, map, drop_last}
use Rattle.ground.specs.Ascii.{ascii}
use Rattle.ground.specs.Bytes.{same}

-- ---- lists

unfoldable pub every : {A : Type 0} → (A → Bool) → List A → Bool
every test [] = true
every test (x ∷ xs) = test x && every test xs

unfoldable pub is_empty : List ℕ → Bool
is_empty [] = true
is_empty (b ∷ bs) = false

unfoldable pub is_one_of : List (List ℕ) → List ℕ → Bool
is_one_of [] s = false
is_one_of (w ∷ ws) s = same s w || is_one_of ws s

-- ---- simple names: a letter or _ followed by letters, digits, _, ASCII only

unfoldable pub is_within : ℕ → ℕ → ℕ → Bool
is_within low high b = leb low b && leb b high

unfoldable pub is_letter : ℕ → Bool
is_letter b = is_within (code "A") (code "Z") b || is_within (code "a") (code "z") b

unfoldable pub is_digit : ℕ → Bool
is_digit b = is_within (code "0") (code "9") b

unfoldable pub is_first : ℕ → Bool
is_first b = is_letter b || eqb b (code "_")

unfoldable pub is_later : ℕ → Bool
is_later b = is_letter b || is_digit b || eqb b (code "_")

unfoldable pub is_simple : List ℕ → Bool
is_simple [] = false
is_simple (b ∷ bs) = is_first b && every is_later bs

-- ---- simple names joined by dots

abbrev pub dot : ℕ
dot = code "."

unfoldable pub joined : List (List ℕ) → List ℕ
joined [] = []
joined (p ∷ []) = p
joined (p ∷ q ∷ ps) = p ++ (dot ∷ joined (q ∷ ps))

-- b at the front of the first of some parts
unfoldable pub onto_first : ℕ → List (List ℕ) → List (List ℕ)
onto_first b [] = (b ∷ []) ∷ []
onto_first b (p ∷ ps) = (b ∷ p) ∷ ps

-- what stands between the dots: "a", "" and "b" of "a..b", and "" alone of ""
unfoldable pub parts : List ℕ → List (List ℕ)
parts [] = [] ∷ []
parts (b ∷ bs) = let rest = parts bs in cond (eqb b dot) ([] ∷ rest) (onto_first b rest)

-- simple names joined by dots: each part is one
unfoldable pub is_dotted : List ℕ → Bool
is_dotted s = every is_simple (parts s)

-- ---- names and namespaces

unfoldable pub starts_with_dot : List ℕ → Bool
starts_with_dot [] = false
starts_with_dot (b ∷ bs) = eqb b dot

-- a simple name, a dot and a simple name, or simple names joined by dots
unfoldable pub is_name : List ℕ → Bool
is_name s = is_simple s || starts_with_dot s && is_simple (drop 1 s) || is_dotted s

-- "" means none; else it is simple names joined by dots
unfoldable pub is_namespace : List ℕ → Bool
is_namespace s = is_empty s || is_dotted s

-- ---- the full name of a name as it is written, in an enclosing namespace

unfoldable pub has_dot : List ℕ → Bool
has_dot [] = false
has_dot (b ∷ bs) = eqb b dot || has_dot bs

-- no dot, and a non-empty namespace: namespace, dot, name; a leading dot: it is dropped; otherwise as written
unfoldable pub full_name : List ℕ → List ℕ → List ℕ
full_name namespace written =
    cond (not (has_dot written) && not (is_empty namespace)) (namespace ++ (dot ∷ written))
    (cond (starts_with_dot written) (drop 1 written)
    written)

-- ---- the two halves of a full name

unfoldable pub last_of : List (List ℕ) → List ℕ
last_of [] = []
last_of (p ∷ []) = p
last_of (p ∷ q ∷ ps) = last_of (q ∷ ps)

unfoldable pub last_part : List ℕ → List ℕ
last_part full = last_of (parts full)

-- what stands before the last dot, and nothing where there is none
unfoldable pub namespace_part : List ℕ → List ℕ
namespace_part full = joined (drop_last (parts full))

-- ---- reserved as last part

unfoldable pub reserved_words : List (List ℕ)
reserved_words =
    map ascii
    ("null" ∷ "boolean" ∷ "int" ∷ "long" ∷ "float" ∷ "double" ∷ "bytes" ∷ "string" ∷ "record" ∷ "enum" ∷ "fixed" ∷ [])

unfoldable pub is_reserved : List ℕ → Bool
is_reserved full = is_one_of reserved_words (last_part full)
