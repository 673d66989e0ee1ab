-- The strings of a declaration that have to be names: their full names, and the checks 6, 7, 8, 9.
-- Assumes nothing.
use Rattle.std.specs.Prelude.{ℕ, Bool, not, cond, List, length, Result, Ok, Err}
use Rattle.answer.specs.declared.refusal.Fault.{Fault}
use Rattle.answer.specs.declared.refusal.Why.TheVariants.{NotAName, Reserved, StringTooLong}
use Rattle.ground.specs.Bytes.{store}
use Rattle.name.specs.Name.{is_simple, is_name, is_namespace, has_dot, full_name, is_reserved}
use Rattle.name.specs.Full.{is_short}
use Rattle.view.specs.Strings.{string_at}
use Rattle.breach.specs.Breach.{breach_at}
use Rattle.view.specs.declared.members.Members.{Members}
use Rattle.form.specs.Checks.{fault, must, ◌then◌, Check}
use Rattle.form.specs.Spots.{on_spot, as_text}

-- 7 stands where the string at q breaks the rule: at the first character after which no string that keeps it can follow, or at the
-- closing quote
abbrev pub not_a_name : (List ℕ → Bool) → List ℕ → ℕ → Fault
not_a_name keeps t q = fault NotAName (breach_at keeps t q)

-- the string at q has to keep the rule
abbrev pub must_keep : (List ℕ → Bool) → List ℕ → ℕ → Check
must_keep keeps t q = must (keeps (string_at t q)) (not_a_name keeps t q)

abbrev pub kept : List ℕ → ℕ → Check
kept s q = must (is_short s) (fault StringTooLong q)

abbrev pub unreserved : List ℕ → ℕ → Check
unreserved full q = must (not (is_reserved full)) (fault Reserved q)

-- a field's name or alias, a symbol: a simple name
unfoldable pub simple_check : List ℕ → ℕ → Check
simple_check t q = must_keep is_simple t q then kept (string_at t q) q

-- the full name of the string at q, in a namespace
unfoldable pub full_at : List ℕ → List ℕ → ℕ → List ℕ
full_at t namespace q = full_name namespace (string_at t q)

unfoldable pub reference_check : List ℕ → List ℕ → ℕ → Check
reference_check t namespace q = must_keep is_name t q then kept (full_at t namespace q) q

unfoldable pub alias_check : List ℕ → List ℕ → ℕ → Check
alias_check t namespace q =
    must_keep is_name t q
    then unreserved (full_at t namespace q) q
    then kept (full_at t namespace q) q

-- ---- a definition, by the members of its object

-- its `namespace`, if a string, replaces the enclosing one
unfoldable pub namespace_of : List ℕ → List ℕ → Members → List ℕ
namespace_of t enclosing m = on_spot (as_text t m.namespace) (string_at t) enclosing

-- its full name, the name being at q
unfoldable pub defined_at : List ℕ → List ℕ → Members → ℕ → List ℕ
defined_at t enclosing m q = full_at t (namespace_of t enclosing m) q

-- the `namespace` member is not looked at where the name has a dot
unfoldable pub namespace_check : List ℕ → Members → ℕ → Check
namespace_check t m q =
    cond (has_dot (string_at t q)) (Ok tt)
    (on_spot (as_text t m.namespace) (λ w. must_keep is_namespace t w) (Ok tt))

unfoldable pub definition_check : List ℕ → List ℕ → Members → ℕ → Check
definition_check t enclosing m q =
    must_keep is_name t q
    then namespace_check t m q
    then unreserved (defined_at t enclosing m q) q
    then kept (defined_at t enclosing m q) q

-- what is left of it for a name s at q, without a dot, in the namespace that is written at w
unfoldable pub spaced_check : List ℕ → ℕ → List ℕ → ℕ → Check
spaced_check t w s q =
    must_keep is_namespace t w
    then unreserved (full_name (string_at t w) s) q
    then kept (full_name (string_at t w) s) q

-- ---- what is answered of a full name with its check, and what the buffer then holds that the name is kept in

abbrev pub named : Check → List ℕ → Result ℕ Fault
named (Ok _) full = Ok (length full)
named (Err f) full = Err f

-- from the buffer's first byte on; as it was where the check finds a fault
abbrev pub kept_in : List ℕ → Check → List ℕ → List ℕ
kept_in buffer (Ok _) full = store buffer 0 full
kept_in buffer (Err f) full = buffer
