-- Places of values, and what a declaration takes them for: a string, an array, an array of strings, the objects of an array.
-- Assumes nothing.
use Rattle.std.specs.Prelude.{ℕ, Bool, true, false, cond, ◌&&◌, List, [], ◌∷◌, Option, Some, None}
use Rattle.view.specs.declared.shape.Shape.{Shape}
use Rattle.view.specs.declared.shape.Shape.TheVariants.{Text, Number, Object, Array, Word, Nothing}
use Rattle.view.specs.Values.{shape_at}
use Rattle.view.specs.Elements.{elements}

-- what is done with a place, or a size, and what where there is none
abbrev pub on_spot : {A : Type 0} → Option ℕ → (ℕ → A) → A → A
on_spot (Some p) f none = f p
on_spot None f none = none

abbrev pub is_text : Shape → Bool
is_text Text = true
is_text Number = false
is_text Object = false
is_text Array = false
is_text Word = false
is_text Nothing = false

abbrev pub is_object : Shape → Bool
is_object Text = false
is_object Number = false
is_object Object = true
is_object Array = false
is_object Word = false
is_object Nothing = false

abbrev pub is_array : Shape → Bool
is_array Text = false
is_array Number = false
is_array Object = false
is_array Array = true
is_array Word = false
is_array Nothing = false

-- a place, if a string stands there; if an array does
unfoldable pub as_text : List ℕ → Option ℕ → Option ℕ
as_text t s = on_spot s (λ p. cond (is_text (shape_at t p)) s None) None

unfoldable pub as_array : List ℕ → Option ℕ → Option ℕ
as_array t s = on_spot s (λ p. cond (is_array (shape_at t p)) s None) None

unfoldable pub all_texts : List ℕ → List ℕ → Bool
all_texts t [] = true
all_texts t (p ∷ ps) = is_text (shape_at t p) && all_texts t ps

-- the strings of `aliases`; what is not an array of strings counts as absent
unfoldable pub aliases_in : List ℕ → Option ℕ → List ℕ
aliases_in t s = on_spot (as_array t s) (λ p. cond (all_texts t (elements t p)) (elements t p) []) []

unfoldable pub objects_among : List ℕ → List ℕ → List ℕ
objects_among t [] = []
objects_among t (p ∷ ps) = let rest = objects_among t ps in cond (is_object (shape_at t p)) (p ∷ rest) rest

-- the fields in the array at p: an element that is no object is skipped
unfoldable pub fields_in : List ℕ → ℕ → List ℕ
fields_in t p = objects_among t (elements t p)
