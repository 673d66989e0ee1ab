-- A decimal's note: 1 holds, 2 precision missing, 3 precision not a size literal, 4 scale not one, 5 precision 0, 6 precision below scale, 7 precision
-- above the limit of a fixed's size.
-- Assumes nothing.
use Rattle.std.specs.Prelude.{ℕ, Bool, false, cond, List, eqb, ltb}
use Rattle.ground.specs.Ascii.{ascii}
use Rattle.ground.specs.Bytes.{same}
use Rattle.decimals.specs.Limits.{limit_of}
use Rattle.view.specs.Strings.{string_at}
use Rattle.view.specs.Size.{size_of}
use Rattle.view.specs.declared.members.Members.{Members}
use Rattle.form.specs.declared.note.Note.{Note}
use Rattle.form.specs.declared.note.Plain.{Plain}
use Rattle.form.specs.declared.note.Plain.TheVariants.{Bytes, Fixed}
use Rattle.form.specs.Spots.{on_spot, as_text}

-- precision and scale are kept where the note is 1
abbrev pub noted : ℕ → Note
noted n = record { note = n; precision = 0; scale = 0 }

abbrev pub holds : ℕ → ℕ → Note
holds precision scale = record { note = 1; precision = precision; scale = scale }

-- the precision is above what the plain type allows: bytes allow any, a fixed the limit of its size
unfoldable pub exceeds : Plain → ℕ → Bool
exceeds Bytes precision = false
exceeds (Fixed size) precision = ltb (limit_of size) precision

-- once both are known, in this order: 5, 6, 7; what passes holds
unfoldable pub compared : Plain → ℕ → ℕ → Note
compared plain precision scale =
    cond (eqb precision 0) (noted 5)
    (cond (ltb precision scale) (noted 6)
    (cond (exceeds plain precision) (noted 7)
    (holds precision scale)))

-- a missing scale is 0
unfoldable pub with_scale : List ℕ → Members → Plain → ℕ → Note
with_scale t m plain precision = on_spot m.scale (λ q. on_spot (size_of t q) (compared plain precision) (noted 4)) (compared plain precision 0)

unfoldable pub with_precision : List ℕ → Members → Plain → Note
with_precision t m plain = on_spot m.precision (λ q. on_spot (size_of t q) (with_scale t m plain) (noted 3)) (noted 2)

unfoldable pub is_decimal : List ℕ → Members → Bool
is_decimal t m = on_spot (as_text t m.logical_type) (λ q. same (string_at t q) (ascii "decimal")) false

-- by the members of the object whose own `type` is the string `bytes` or `fixed`, and that plain type
unfoldable pub note_of : List ℕ → Members → Plain → Note
note_of t m plain = cond (is_decimal t m) (with_precision t m plain) (noted 0)
