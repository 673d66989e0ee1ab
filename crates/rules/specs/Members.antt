-- What the code holds on its way over the members of a union, to find those that are surely new.
-- Assumes nothing.
use Rattle.std.specs.Prelude.{ℕ, ◌<◌, ◌≡◌, Bool, true, false, cond, List, [], ◌∷◌, ltb, Ok}
use Rattle.row.specs.Kinds.{kind_number}
use Rattle.view.specs.Elements.{elements}
use Rattle.view.specs.Marks.{mark_of}
use Rattle.seen.specs.Seen.{entered}
use Rattle.form.specs.Forms.{form_of}
use Rattle.rules.specs.declared.standing.Standing.{Standing}
use Rattle.rules.specs.declared.standing.Standing.TheVariants.{Alone, MemberOf}
use Rattle.rules.specs.Unions.{Head, unnamed, called, head_of, union_check}
use Rattle.form.specs.Checks.{Check}

-- bytes by which a head is entered: its full name, or the number of its kind
unfoldable pub key_of : Head → List ℕ
key_of (unnamed k) = kind_number k ∷ []
key_of (called a) = a

abbrev pub key_at : List ℕ → List ℕ → ℕ → List ℕ
key_at t namespace q = key_of (head_of t namespace (form_of t q))

-- 19 of the member at q of the union at u
abbrev pub member_check : List ℕ → List ℕ → ℕ → ℕ → Check
member_check t namespace u q = union_check t namespace (MemberOf u q) (head_of t namespace (form_of t q))

-- where a member is surely new it passes 19, and was entered
abbrev pub Enters' : List ℕ → List ℕ → ℕ → ℕ → List ℕ → List ℕ → Bool → Type 0
Enters' t namespace u q table table' true = (member_check t namespace u q ≡ Ok tt) × (table' ≡ entered table (mark_of (key_at t namespace q)))
Enters' t namespace u q table table' false = Unit {0}

pub record Enters (t namespace : List ℕ) (u q : ℕ) (table table' : List ℕ) (r : Bool) : Type 0 where
  pub enters : Enters' t namespace u q table table' r

-- those of the members at qs that stand before a place pass 19
abbrev pub SureOf : List ℕ → List ℕ → ℕ → ℕ → List ℕ → Type 0
SureOf t namespace u place [] = Unit {0}
SureOf t namespace u place (q ∷ qs) = (q < place → member_check t namespace u q ≡ Ok tt) × SureOf t namespace u place qs

pub record Sure (t namespace : List ℕ) (u place : ℕ) : Type 0 where
  pub sure : SureOf t namespace u place (elements t u)

-- a member that stands before such a place may be read as if it stood alone
abbrev pub standing_of : ℕ → ℕ → ℕ → Standing
standing_of u q place = cond (ltb q place) Alone (MemberOf u q)
