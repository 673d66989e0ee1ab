-- Laws for whoever reads a declaration by these views: what a check that is fine says of a name, and what was found of a form.
-- Assumes nothing.
use Rattle.std.specs.Prelude.{Option, Some, None, Ok}
use mathlib.Core.Path.{◌≡◌, refl, sym, ap, ◌∙◌}
use mathlib.Core.Bool.{Bool, true, false, not}
use mathlib.Core.List.{List, [], ◌∷◌}
use Prim.Native.Nat.{ℕ, ◌≤◌}
use native.Mathlib.Omega.{arith}
use lib.Dec.{leb}
use lib.ListN.{length}
use borrow.Author.Tests.{leb-true, not-true}
use Rattle.answer.specs.declared.refusal.Fault.{Fault}
use Rattle.ground.proofs.Laws.{never}
use Rattle.name.specs.Name.{is_simple, is_dotted, is_name, is_namespace, has_dot, full_name, is_reserved, namespace_part}
use Rattle.name.specs.Full.{kept_limit, is_short}
use Rattle.name.proofs.Laws.{simple_dotted, dotted_some, empty_none, full_dotted, namespace_good}
use Rattle.view.specs.declared.members.Members.{Members}
use Rattle.view.specs.Strings.{string_at}
use Rattle.form.specs.Checks.{must, ◌then◌}
use Rattle.form.specs.Spots.{on_spot, as_text}
use Rattle.form.specs.Names.{not_a_name, kept, unreserved, simple_check, full_at, reference_check, alias_check, namespace_of, defined_at, namespace_check, definition_check}
pub use Rattle.form.proofs.Sequels.{must_holds, must_fails, must_fine, then_fine, then_bad, then_next}
pub use Rattle.form.proofs.Places.{visit_less}
pub use Rattle.form.proofs.Shapes.{object_own, found_form, found_members}
pub use Rattle.form.proofs.Written.{Copied, copied, Answers, named_kept, named_wrong, kept_copied, full_fixed}

-- ---- names that passed their checks

-- of 1 to `kept_limit` bytes
pub record Sized (s : List ℕ) : Type 0 where
  pub some : 1 ≤ length s
  pub short : length s ≤ kept_limit

kept_short : (s : List ℕ) (x : Fault) → must (is_short s) x ≡ Ok tt → length s ≤ kept_limit
unfolding is_short
kept_short s x e = leb-true (length s) kept_limit (must_fine (leb (length s) kept_limit) x e)

dotted_long : (s : List ℕ) → is_dotted s ≡ true → 1 ≤ length s
dotted_long [] e = never (sym (dotted_some [] e) ∙ empty_none [] refl)
dotted_long (b ∷ s) e = omega arith

module _ (t : List ℕ) (q : ℕ) (e : simple_check t q ≡ Ok tt) where
  simple_parts : (must (is_simple (string_at t q)) (not_a_name is_simple t q) ≡ Ok tt) × (kept (string_at t q) q ≡ Ok tt)
  unfolding simple_check
  simple_parts = then_fine (must (is_simple (string_at t q)) (not_a_name is_simple t q)) (kept (string_at t q) q) e

  pub simple_fine : is_simple (string_at t q) ≡ true
  simple_fine = must_fine (is_simple (string_at t q)) (not_a_name is_simple t q) simple_parts.0

  pub simple_sized : Sized (string_at t q)
  simple_sized = record {
    some = dotted_long (string_at t q) (simple_dotted (string_at t q) simple_fine);
    short = kept_short (string_at t q) _ simple_parts.1;
  }

-- a full name: simple names joined by dots, of 1 to `kept_limit` bytes; what stands before its last dot is a namespace
pub record Full (f : List ℕ) : Type 0 where
  pub dotted : is_dotted f ≡ true
  pub sized : Sized f
  pub own : is_namespace (namespace_part f) ≡ true

full_of : (f : List ℕ) → is_dotted f ≡ true → length f ≤ kept_limit → Full f
full_of f e h = record { dotted = e; sized = record { some = dotted_long f e; short = h }; own = namespace_good f e }

module _ (t namespace : List ℕ) (q : ℕ) (n : is_namespace namespace ≡ true) where
  pub reference_fine : reference_check t namespace q ≡ Ok tt → Full (full_at t namespace q)
  unfolding reference_check full_at
  reference_fine e =
      let a = then_fine (must (is_name (string_at t q)) (not_a_name is_name t q)) (kept (full_name namespace (string_at t q)) q) e in
      full_of (full_name namespace (string_at t q))
      (full_dotted namespace (string_at t q) n (must_fine (is_name (string_at t q)) (not_a_name is_name t q) a.0))
      (kept_short (full_name namespace (string_at t q)) _ a.1)

  module _ (e : alias_check t namespace q ≡ Ok tt) where
    alias_parts : (must (is_name (string_at t q)) (not_a_name is_name t q) ≡ Ok tt) × (unreserved (full_at t namespace q) q then kept (full_at t namespace q) q ≡ Ok tt)
    unfolding alias_check
    alias_parts = then_fine (must (is_name (string_at t q)) (not_a_name is_name t q)) (unreserved (full_at t namespace q) q then kept (full_at t namespace q) q) e

    alias_rest : (unreserved (full_at t namespace q) q ≡ Ok tt) × (kept (full_at t namespace q) q ≡ Ok tt)
    alias_rest = then_fine (unreserved (full_at t namespace q) q) (kept (full_at t namespace q) q) alias_parts.1

    pub alias_fine : Full (full_at t namespace q)
    unfolding full_at
    alias_fine =
        full_of (full_name namespace (string_at t q))
        (full_dotted namespace (string_at t q) n (must_fine (is_name (string_at t q)) (not_a_name is_name t q) alias_parts.0))
        (kept_short (full_name namespace (string_at t q)) _ alias_rest.1)

    pub alias_free : is_reserved (full_at t namespace q) ≡ false
    alias_free = not-true (is_reserved (full_at t namespace q)) (must_fine (not (is_reserved (full_at t namespace q))) _ alias_rest.0)

module _ (t enclosing : List ℕ) (m : Members) (q : ℕ) (n : is_namespace enclosing ≡ true) where
  -- where the name has no dot the namespace is one
  namespace_fine : has_dot (string_at t q) ≡ false → namespace_check t m q ≡ Ok tt → is_namespace (namespace_of t enclosing m) ≡ true
  unfolding namespace_check namespace_of
  namespace_fine d e = go (as_text t m.namespace) (rw d at e)
    where
      go : (s : Option ℕ) → on_spot s (λ w. must (is_namespace (string_at t w)) (not_a_name is_namespace t w)) (Ok tt) ≡ Ok tt → is_namespace (on_spot s (string_at t) enclosing) ≡ true
      go (Some w) f = must_fine (is_namespace (string_at t w)) (not_a_name is_namespace t w) f
      go None f = n

  defined_dotted : (d : Bool) → has_dot (string_at t q) ≡ d → is_name (string_at t q) ≡ true → namespace_check t m q ≡ Ok tt → is_dotted (defined_at t enclosing m q) ≡ true
  unfolding defined_at full_at
  defined_dotted true d e f =
      ap is_dotted (full_fixed (namespace_of t enclosing m) enclosing (string_at t q) d) ∙ full_dotted enclosing (string_at t q) n e
  defined_dotted false d e f = full_dotted (namespace_of t enclosing m) (string_at t q) (namespace_fine d f) e

  module _ (e : definition_check t enclosing m q ≡ Ok tt) where
    named_parts : (must (is_name (string_at t q)) (not_a_name is_name t q) ≡ Ok tt)
        × (namespace_check t m q then unreserved (defined_at t enclosing m q) q then kept (defined_at t enclosing m q) q ≡ Ok tt)
    unfolding definition_check
    named_parts =
        then_fine (must (is_name (string_at t q)) (not_a_name is_name t q))
        (namespace_check t m q then unreserved (defined_at t enclosing m q) q then kept (defined_at t enclosing m q) q) e

    space_parts : (namespace_check t m q ≡ Ok tt) × (unreserved (defined_at t enclosing m q) q then kept (defined_at t enclosing m q) q ≡ Ok tt)
    space_parts = then_fine (namespace_check t m q) (unreserved (defined_at t enclosing m q) q then kept (defined_at t enclosing m q) q) named_parts.1

    last_parts : (unreserved (defined_at t enclosing m q) q ≡ Ok tt) × (kept (defined_at t enclosing m q) q ≡ Ok tt)
    last_parts = then_fine (unreserved (defined_at t enclosing m q) q) (kept (defined_at t enclosing m q) q) space_parts.1

    pub definition_fine : Full (defined_at t enclosing m q)
    definition_fine =
        full_of (defined_at t enclosing m q)
        (defined_dotted (has_dot (string_at t q)) refl (must_fine (is_name (string_at t q)) (not_a_name is_name t q) named_parts.0) space_parts.0)
        (kept_short (defined_at t enclosing m q) _ last_parts.1)

    pub definition_free : is_reserved (defined_at t enclosing m q) ≡ false
    definition_free = not-true (is_reserved (defined_at t enclosing m q)) (must_fine (not (is_reserved (defined_at t enclosing m q))) _ last_parts.0)
