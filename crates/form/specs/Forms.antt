-- What a schema at a place is.
-- Assumes nothing.
use Rattle.std.specs.Prelude.{ℕ, zero, suc, ◌+◌, cond, List, Option, Some, None}
use Rattle.answer.specs.declared.refusal.Why.TheVariants.{NotASchema, TypeMissing, NestedTooDeep}
use Rattle.ground.specs.Ascii.{ascii}
use Rattle.ground.specs.Bytes.{same}
use Rattle.json_scan.specs.Json.{deepest}
use Rattle.row.specs.declared.kind.Kind.{Kind}
use Rattle.row.specs.declared.kind.Kind.TheVariants.{Null, Boolean, Int, Long, Float, Double, Bytes, String, Reference}
use Rattle.view.specs.declared.shape.Shape.{Shape}
use Rattle.view.specs.declared.shape.Shape.TheVariants.{Text, Number, Object, Array, Word, Nothing}
use Rattle.view.specs.Values.{shape_at}
use Rattle.view.specs.Strings.{string_at}
use Rattle.view.specs.Members.{members_of}
use Rattle.view.specs.declared.members.Members.{Members}
use Rattle.form.specs.declared.forms.Form.{Form}
use Rattle.form.specs.declared.forms.Form.TheVariants as form
use Rattle.form.specs.declared.forms.Found.{Found}
use Rattle.form.specs.Checks.{fault}
use Rattle.form.specs.Spots.{on_spot, is_text}

-- a string is a primitive or a reference
unfoldable pub word_kind : List ℕ → Kind
word_kind w =
    cond (same w (ascii "null")) Null
    (cond (same w (ascii "boolean")) Boolean
    (cond (same w (ascii "int")) Int
    (cond (same w (ascii "long")) Long
    (cond (same w (ascii "float")) Float
    (cond (same w (ascii "double")) Double
    (cond (same w (ascii "bytes")) Bytes
    (cond (same w (ascii "string")) String Reference)))))))

-- the object at p goes by its `type`, the string w at q
unfoldable pub object_form : List ℕ → ℕ → ℕ → Form
object_form w p q =
    cond (same w (ascii "record")) (form.RecordOf p)
    (cond (same w (ascii "enum")) (form.EnumOf p)
    (cond (same w (ascii "fixed")) (form.FixedOf p)
    (cond (same w (ascii "array")) (form.ArrayOf p)
    (cond (same w (ascii "map")) (form.MapOf p) (form.Word q (Some p))))))

-- a string; an object by its `type`; a union. A `type` that is no string is a schema nested in it, which `nested` reads
unfoldable pub form_by : (ℕ → Form) → List ℕ → ℕ → Shape → Form
form_by nested t p Text = form.Word p None
form_by nested t p Object =
    on_spot (members_of t p).typed (λ q. cond (is_text (shape_at t q)) (object_form (string_at t q) p q) (nested q))
    (form.Wrong (fault TypeMissing p))
form_by nested t p Array = form.UnionOf p
form_by nested t p Number = form.Wrong (fault NotASchema p)
form_by nested t p Word = form.Wrong (fault NotASchema p)
form_by nested t p Nothing = form.Wrong (fault NotASchema p)

-- so many schemas can stand in one another: the scan lets at most `deepest` brackets nest, so one more is enough
abbrev pub most_nested : ℕ
most_nested = deepest + 1

-- n: how many schemas may be nested in a `type`
unfoldable pub form_within : ℕ → List ℕ → ℕ → Form
form_within zero t p = form.Wrong (fault NestedTooDeep p)
form_within (suc n) t p = form_by (form_within n t) t p (shape_at t p)

abbrev pub form_of : List ℕ → ℕ → Form
form_of t p = form_within most_nested t p

-- the object that a form goes by, if there is one
abbrev pub object_of : Form → Option ℕ
object_of (form.Word q o) = o
object_of (form.ArrayOf p) = Some p
object_of (form.MapOf p) = Some p
object_of (form.UnionOf p) = None
object_of (form.RecordOf p) = Some p
object_of (form.EnumOf p) = Some p
object_of (form.FixedOf p) = Some p
object_of (form.Wrong f) = None

-- ---- a form with the members of its object

abbrev pub no_members : Members
no_members = record {
  typed = None;
  name = None;
  namespace = None;
  aliases = None;
  fields = None;
  symbols = None;
  default = None;
  size = None;
  items = None;
  values = None;
  logical_type = None;
  precision = None;
  scale = None;
}

abbrev pub found : Form → Members → Found
found f m = record { form = f; members = m }

-- with none where it goes by no object
unfoldable pub found_of : List ℕ → Form → Found
found_of t f = found f (on_spot (object_of f) (members_of t) no_members)
