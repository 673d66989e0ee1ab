-- The strings of a row: what was checked of a name is what a kept one keeps, and a name stands within the text.
-- Assumes nothing.
use Rattle.std.specs.Prelude.{Option, Some, None, Ok}
use mathlib.Core.Path.{◌≡◌, refl, sym}
use mathlib.Core.Bool.{Bool, true, false, not, cond, ◌||◌}
use mathlib.Core.List.{List, [], ◌∷◌}
use Prim.Native.Nat.{ℕ, ◌+◌, ◌<◌}
use native.Mathlib.Omega.{arith}
use lib.Dec.{eqb}
use lib.ListN.{length}
use borrow.Author.Tests.{eqb-true, not-true}
use Rattle.ground.specs.Bytes.{byte_at, same}
use Rattle.ground.proofs.Laws.{never, and_intro}
use Rattle.name.specs.Name.{every, is_empty, is_simple, is_dotted, is_name, is_namespace, starts_with_dot, parts, has_dot, full_name, namespace_part, is_reserved}
use Rattle.name.specs.Full.{is_short}
use Rattle.name.proofs.Laws.{full_dotted, namespace_good}
use Rattle.row.specs.declared.kind.Kind.{Kind}
use Rattle.row.specs.declared.kind.Kind.TheVariants.{Reference, Field, Symbol, Alias, FieldAlias}
use Rattle.view.specs.Strings.{bytes_from, string_at}
use Rattle.view.specs.declared.members.Members.{Members}
use Rattle.view.proofs.Laws.{in_text}
use Rattle.form.specs.Checks.{must, ◌then◌}
use Rattle.form.specs.Spots.{on_spot, as_text}
use Rattle.form.specs.Names.{not_a_name, kept, unreserved, simple_check, full_at, reference_check, alias_check, namespace_of, defined_at, namespace_check, definition_check}
use Rattle.form.specs.Forms.{word_kind}
use Rattle.resolve.specs.Kinds.{is_kind, is_definition}
use Rattle.resolve.specs.Rules.{is_full_name, is_own_name, good_text}
use Rattle.kept.proofs.Passed.{must_true, then_fine}

-- ---- what is not empty is no string of nothing

name_some : (s : List ℕ) → is_name s ≡ true → is_empty s ≡ false
unfolding is_name is_simple is_empty starts_with_dot is_dotted parts every
name_some [] e = never e
name_some (b ∷ s) e = refl

simple_some : (s : List ℕ) → is_simple s ≡ true → is_empty s ≡ false
unfolding is_simple is_empty
simple_some [] e = never e
simple_some (b ∷ s) e = refl

-- a primitive's word
word_some : (w : List ℕ) → is_kind Reference (word_kind w) ≡ false → is_empty w ≡ false
unfolding is_kind word_kind same is_empty
word_some [] e = never (sym e)
word_some (b ∷ w) e = refl

string_within : (t : List ℕ) (q : ℕ) → is_empty (string_at t q) ≡ false → q < length t
unfolding string_at is_empty
string_within t q e = go (eqb (byte_at t q) 34) refl e
  where
    go : (b : Bool) → eqb (byte_at t q) 34 ≡ b → is_empty (cond b (bytes_from t (q + 1)) []) ≡ false → q < length t
    go true f g = in_text t q (byte_at t q) 34 refl (eqb-true (byte_at t q) 34 f) (omega arith)
    go false f g = never (sym g)

pub word_within : (t : List ℕ) (q : ℕ) → is_kind Reference (word_kind (string_at t q)) ≡ false → q < length t
word_within t q e = string_within t q (word_some (string_at t q) e)

-- ---- simple names

pub record Own (t : List ℕ) (q : ℕ) : Type 0 where
  pub keeps : is_own_name (string_at t q) ≡ true
  pub within : q < length t

pub simple_own : (t : List ℕ) (q : ℕ) → simple_check t q ≡ Ok tt → Own t q
unfolding simple_check is_own_name
simple_own t q e =
    let z = then_fine (must (is_simple (string_at t q)) (not_a_name is_simple t q)) (kept (string_at t q) q) e in
    let a = must_true (is_simple (string_at t q)) _ z.0 in
    let b = must_true (is_short (string_at t q)) _ z.1 in
    record { keeps = and_intro (is_short (string_at t q)) (is_simple (string_at t q)) b a; within = string_within t q (simple_some (string_at t q) a) }

-- ---- full names: full is that of the string at q

pub record Named (t full : List ℕ) (q : ℕ) : Type 0 where
  pub dotted : is_dotted full ≡ true
  pub short : is_short full ≡ true
  pub within : q < length t

pub named_full : {t full : List ℕ} {q : ℕ} → Named t full q → is_full_name full ≡ true
unfolding is_full_name
named_full {full = full} n = and_intro (is_short full) (is_dotted full) n.short n.dotted

pub reference_named : (t namespace : List ℕ) (q : ℕ) → is_namespace namespace ≡ true → reference_check t namespace q ≡ Ok tt → Named t (full_at t namespace q) q
unfolding reference_check full_at
reference_named t namespace q n e =
    let full = full_name namespace (string_at t q) in
    let z = then_fine (must (is_name (string_at t q)) (not_a_name is_name t q)) (kept full q) e in
    let a = must_true (is_name (string_at t q)) _ z.0 in
    record { dotted = full_dotted namespace (string_at t q) n a; short = must_true (is_short full) _ z.1; within = string_within t q (name_some (string_at t q) a) }

-- a definition or an alias: it is not reserved either
pub record Free (t full : List ℕ) (q : ℕ) : Type 0 where
  pub named : Named t full q
  pub free : is_reserved full ≡ false

pub alias_free : (t namespace : List ℕ) (q : ℕ) → is_namespace namespace ≡ true → alias_check t namespace q ≡ Ok tt → Free t (full_at t namespace q) q
unfolding alias_check full_at
alias_free t namespace q n e =
    let full = full_name namespace (string_at t q) in
    let z = then_fine (must (is_name (string_at t q)) (not_a_name is_name t q)) (unreserved full q then kept full q) e in
    let y = then_fine (unreserved full q) (kept full q) z.1 in
    let a = must_true (is_name (string_at t q)) _ z.0 in
    record {
      named = record { dotted = full_dotted namespace (string_at t q) n a; short = must_true (is_short full) _ y.1; within = string_within t q (name_some (string_at t q) a) };
      free = not-true (is_reserved full) (must_true (not (is_reserved full)) _ y.0);
    }

-- where a name has a dot the namespace does not count
full_any : (n m s : List ℕ) → has_dot s ≡ true → full_name n s ≡ full_name m s
unfolding full_name
full_any n m s e = rw e

module _ (t enclosing : List ℕ) (m : Members) (q : ℕ) (n : is_namespace enclosing ≡ true) where
  defined_dotted : is_name (string_at t q) ≡ true → namespace_check t m q ≡ Ok tt → is_dotted (defined_at t enclosing m q) ≡ true
  unfolding defined_at full_at namespace_of namespace_check is_namespace is_empty
  defined_dotted a e = go (has_dot (string_at t q)) refl (as_text t m.namespace) e
    where
      s : List ℕ
      s = string_at t q

      go : (x : Bool) → has_dot s ≡ x → (w : Option ℕ) → cond x (Ok tt) (on_spot w (λ w. must (is_namespace (string_at t w)) (not_a_name is_namespace t w)) (Ok tt)) ≡ Ok tt
          → is_dotted (full_name (on_spot w (string_at t) enclosing) s) ≡ true
      go true h w f = rw (full_any (on_spot w (string_at t) enclosing) [] s h) (full_dotted [] s refl a)
      go false h (Some w) f = full_dotted (string_at t w) s (must_true (is_namespace (string_at t w)) _ f) a
      go false h None f = full_dotted enclosing s n a

  pub definition_free : definition_check t enclosing m q ≡ Ok tt → Free t (defined_at t enclosing m q) q
  unfolding definition_check
  definition_free e =
      let full = defined_at t enclosing m q in
      let z = then_fine (must (is_name (string_at t q)) (not_a_name is_name t q)) (namespace_check t m q then unreserved full q then kept full q) e in
      let y = then_fine (namespace_check t m q) (unreserved full q then kept full q) z.1 in
      let x = then_fine (unreserved full q) (kept full q) y.1 in
      let a = must_true (is_name (string_at t q)) _ z.0 in
      record {
        named = record { dotted = defined_dotted a y.0; short = must_true (is_short full) _ x.1; within = string_within t q (name_some (string_at t q) a) };
        free = not-true (is_reserved full) (must_true (not (is_reserved full)) _ x.0);
      }

-- its own namespace is one
pub own_namespace : {t full : List ℕ} {q : ℕ} → Named t full q → is_namespace (namespace_part full) ≡ true
own_namespace {full = full} n = namespace_good full n.dotted

-- ---- the string of a row

pub free_text : {t full : List ℕ} {q : ℕ} (k : Kind) → is_definition k || is_kind Alias k ≡ true → Free t full q → good_text k full ≡ true
unfolding good_text
free_text k e f = rw (e, named_full f.named, f.free)

pub reference_text : {t full : List ℕ} {q : ℕ} → Named t full q → good_text Reference full ≡ true
unfolding good_text is_definition is_kind
reference_text n = named_full n

-- the name of a field, its alias or a symbol
pub own_text : {t : List ℕ} {q : ℕ} (k : Kind) → is_definition k || is_kind Alias k ≡ false → is_kind Reference k ≡ false → is_kind Field k || is_kind FieldAlias k || is_kind Symbol k ≡ true → Own t q
    → good_text k (string_at t q) ≡ true
unfolding good_text
own_text k a b c o = rw (a, b, c) o.keeps
