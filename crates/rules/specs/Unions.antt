-- Union: none may be a union, no two of one unnamed kind, no two of one full name.
-- Assumes nothing.
use Rattle.std.specs.Prelude.{ℕ, Bool, true, false, not, cond, ◌&&◌, List, [], ◌∷◌, eqb, Option, Some, None, Ok}
use Rattle.answer.specs.declared.refusal.Why.TheVariants.{UnionRuleBroken}
use Rattle.ground.specs.Bytes.{same}
use Rattle.row.specs.Kinds.{kind_number}
use Rattle.row.specs.declared.kind.Kind.{Kind}
use Rattle.row.specs.declared.kind.Kind.TheVariants.{Reference, Array, Map, Union}
use Rattle.view.specs.Elements.{elements}
use Rattle.view.specs.Strings.{string_at}
use Rattle.view.specs.Members.{members_of}
use Rattle.view.specs.declared.members.Members.{Members}
use Rattle.form.specs.declared.forms.Form.{Form}
use Rattle.form.specs.declared.forms.Form.TheVariants as form
use Rattle.rules.specs.declared.standing.Standing.{Standing}
use Rattle.rules.specs.declared.standing.Standing.TheVariants.{Alone, MemberOf}
use Rattle.rules.specs.declared.unions.Apart.{Apart}
use Rattle.rules.specs.declared.unions.Apart.TheVariants as apart
use Rattle.name.specs.Full.{answer_of, buffer_after}
use Rattle.form.specs.Checks.{fault, must, Check}
use Rattle.form.specs.Spots.{on_spot, as_text}
use Rattle.form.specs.Names.{full_at, defined_at}
use Rattle.form.specs.Forms.{form_of, word_kind}

-- what tells a member from the others: its full name, or its kind where it has none
pub data Head : Type 0 where
  unnamed : Kind → Head
  called : List ℕ → Head

-- records, enums, fixeds and references are told apart by full name alone
unfoldable pub clash : Head → Head → Bool
clash (unnamed j) (unnamed k) = eqb (kind_number j) (kind_number k)
clash (unnamed j) (called b) = false
clash (called a) (unnamed k) = false
clash (called a) (called b) = same a b

-- a string with the kind that it names, in a namespace
abbrev pub word_head : List ℕ → List ℕ → ℕ → Kind → Head
word_head t namespace q k = cond (eqb (kind_number k) (kind_number Reference)) (called (full_at t namespace q)) (unnamed k)

-- a definition, by the members of its object
unfoldable pub definition_head : List ℕ → List ℕ → Members → Head
definition_head t namespace m = on_spot (as_text t m.name) (λ q. called (defined_at t namespace m q)) (called [])

-- decimals are of the kind of their plain type; what is no schema has no head that matters
unfoldable pub head_of : List ℕ → List ℕ → Form → Head
head_of t namespace (form.Word q o) = word_head t namespace q (word_kind (string_at t q))
head_of t namespace (form.ArrayOf p) = unnamed Array
head_of t namespace (form.MapOf p) = unnamed Map
head_of t namespace (form.UnionOf p) = unnamed Union
head_of t namespace (form.RecordOf p) = definition_head t namespace (members_of t p)
head_of t namespace (form.EnumOf p) = definition_head t namespace (members_of t p)
head_of t namespace (form.FixedOf p) = definition_head t namespace (members_of t p)
head_of t namespace (form.Wrong f) = called []

-- those of some places that stand before p
unfoldable pub before : ℕ → List ℕ → List ℕ
before p [] = []
before p (q ∷ qs) = let rest = q ∷ before p qs in cond (eqb q p) [] rest

-- a head clashes with that of no schema at these places
unfoldable pub is_new : List ℕ → List ℕ → Head → List ℕ → Bool
is_new t namespace h [] = true
is_new t namespace h (q ∷ qs) = not (clash (head_of t namespace (form_of t q)) h) && is_new t namespace h qs

abbrev pub is_union : Head → Bool
is_union (unnamed k) = eqb (kind_number k) (kind_number Union)
is_union (called a) = false

-- 19, at the member of the union at u as it is written there, p
unfoldable pub union_check : List ℕ → List ℕ → Standing → Head → Check
union_check t namespace Alone h = Ok tt
union_check t namespace (MemberOf u p) h =
    must (not (is_union h) && is_new t namespace h (before p (elements t u))) (fault UnionRuleBroken p)

-- ---- what the code holds on the way

-- the number of an unnamed kind; 0 where a full name tells
abbrev pub head_number : Head → ℕ
head_number (unnamed k) = kind_number k
head_number (called a) = 0

-- the full name of a definition, by the members of its object; one without a name has none
unfoldable pub name_of : List ℕ → List ℕ → Members → List ℕ
name_of t namespace m = on_spot (as_text t m.name) (defined_at t namespace m) []

-- what is answered of a head, and what the buffer then holds that full names go into
abbrev pub by_name : Option ℕ → Apart
by_name (Some n) = apart.Name n
by_name None = apart.LongName

unfoldable pub apart_of : Head → Apart
apart_of (unnamed k) = apart.Kind (kind_number k)
apart_of (called a) = by_name (answer_of a)

unfoldable pub name_after : List ℕ → Head → List ℕ
name_after buffer (unnamed k) = buffer
name_after buffer (called a) = buffer_after buffer a
