-- Kinds: which are told apart, and which may stand under which.
-- Assumes nothing.
use mathlib.Core.Path.{◌≡◌, refl, sym, ap, ◌∙◌}
use mathlib.Core.Bool.{Bool, true, false, not, cond, ◌&&◌, ◌||◌}
use mathlib.Core.List.{List, [], ◌∷◌, ◌++◌}
use Prim.Native.Nat.{ℕ}
use borrow.Author.Tests.{not-true}
use Rattle.ground.specs.Bytes.{same}
use Rattle.ground.specs.Ascii.{ascii}
use Rattle.ground.proofs.Laws.{never, and_true}
use Rattle.name.specs.Name.{every, is_empty}
use Rattle.row.specs.Rows.{Row}
use Rattle.row.specs.declared.kind.Kind.{Kind}
use Rattle.row.specs.declared.kind.Kind.TheVariants.{Null, Boolean, Int, Long, Float, Double, Bytes, String, Reference, Array, Map, Fixed, Field, Alias, FieldAlias}
use Rattle.form.specs.Forms.{word_kind}
use Rattle.resolve.specs.Kinds.{is_kind, is_primitive, is_definition, is_named, is_schema, is_alias_of, has_one, is_part_of, past, body_fits, parts_fit}
use Rattle.resolve.specs.Rules.{good_text, clash}
use Rattle.resolve.proofs.KindLaws.{kind_is}
use Rattle.kept.proofs.Lists.{past_front, every_past}

-- a kind that passes a test is none that fails it
pub kind_not : (test : Kind → Bool) (j k : Kind) → test j ≡ false → test k ≡ true → is_kind j k ≡ false
kind_not test j k f e = go (is_kind j k) refl
  where
    go : (b : Bool) → is_kind j k ≡ b → b ≡ false
    go true q = never (sym f ∙ ap test (sym (kind_is j k q)) ∙ e)
    go false q = refl

-- what has no name is no fixed
pub unnamed_fixed : (k : Kind) → is_named k ≡ false → is_kind Fixed k ≡ false
unfolding is_named is_definition is_kind
unnamed_fixed k e = kind_not (λ (x : Kind). not (is_named x)) Fixed k refl (ap not e)

-- ---- primitives

plain : Kind → Bool
plain k = is_schema k && (not (is_named k) && (good_text k [] && parts_fit k []))

pub record Plain (k : Kind) : Type 0 where
  pub schema : is_schema k ≡ true
  pub unnamed : is_named k ≡ false
  pub text : good_text k [] ≡ true
  pub parts : parts_fit k [] ≡ true

plain_is : (k : Kind) → plain k ≡ true → Plain k
unfolding plain
plain_is k e =
    let z = and_true (is_schema k) (not (is_named k) && (good_text k [] && parts_fit k [])) e in
    let y = and_true (not (is_named k)) (good_text k [] && parts_fit k []) z.1 in
    let x = and_true (good_text k []) (parts_fit k []) y.1 in
    record { schema = z.0; unnamed = not-true (is_named k) y.0; text = x.0; parts = x.1 }

-- a string is a reference or a primitive
word_plain : (w : List ℕ) → is_kind Reference (word_kind w) || plain (word_kind w) ≡ true
unfolding plain word_kind is_kind is_primitive is_definition is_named is_schema good_text is_empty parts_fit body_fits past every has_one is_alias_of is_part_of
word_plain w =
    go (same w (ascii "null")) Null _ refl
    (go (same w (ascii "boolean")) Boolean _ refl
    (go (same w (ascii "int")) Int _ refl
    (go (same w (ascii "long")) Long _ refl
    (go (same w (ascii "float")) Float _ refl
    (go (same w (ascii "double")) Double _ refl
    (go (same w (ascii "bytes")) Bytes _ refl
    (go (same w (ascii "string")) String Reference refl refl)))))))
  where
    go : (b : Bool) (j k : Kind) → is_kind Reference j || plain j ≡ true → is_kind Reference k || plain k ≡ true
        → is_kind Reference (cond b j k) || plain (cond b j k) ≡ true
    go true j k e f = e
    go false j k e f = f

pub primitive_plain : (w : List ℕ) → is_kind Reference (word_kind w) ≡ false → Plain (word_kind w)
primitive_plain w e = plain_is (word_kind w) (rw e at (word_plain w))

-- ---- what stands under a row

module _ (k : Kind) (many : has_one k ≡ false) where
  -- aliases, and then parts, of a kind that has as many as there are
  pub parts_fit_lem : (js ks : List Kind) → every (is_alias_of k) js ≡ true → every (is_part_of k) ks ≡ true → parts_fit k (js ++ ks) ≡ true
  unfolding parts_fit body_fits
  parts_fit_lem js ks a e = rw (past_front (is_alias_of k) js ks a, every_past (is_part_of k) (is_alias_of k) ks e, many)

pub definition_alias : (k : Kind) → is_definition k ≡ true → (js : List Kind) → every (is_kind Alias) js ≡ true → every (is_alias_of k) js ≡ true
unfolding every is_alias_of
definition_alias k d [] e = refl
definition_alias k d (j ∷ js) e =
    let z = and_true (is_kind Alias j) (every (is_kind Alias) js) e in
    rw (d, z.0) (definition_alias k d js z.1)

-- a field: its aliases and its type
alias_of_field : (js : List Kind) → every (is_kind FieldAlias) js ≡ true → every (is_alias_of Field) js ≡ true
unfolding every is_alias_of is_definition is_kind
alias_of_field [] e = refl
alias_of_field (j ∷ js) e =
    let z = and_true (is_kind FieldAlias j) (every (is_kind FieldAlias) js) e in
    rw z.0 (alias_of_field js z.1)

schema_no_alias : (k : Kind) → is_schema k ≡ true → is_alias_of Field k ≡ false
unfolding is_alias_of is_definition is_kind is_schema is_primitive is_named
schema_no_alias k s = kind_not is_schema FieldAlias k refl s

schema_of_field : (k : Kind) → is_schema k ≡ true → is_part_of Field k ≡ true
unfolding is_part_of has_one is_kind
schema_of_field k s = s

pub field_fits_lem : (js : List Kind) (k : Kind) → every (is_kind FieldAlias) js ≡ true → is_schema k ≡ true → parts_fit Field (js ++ (k ∷ [])) ≡ true
unfolding parts_fit body_fits past every has_one is_kind
field_fits_lem js k a s = rw (past_front (is_alias_of Field) js (k ∷ []) (alias_of_field js a), schema_no_alias k s, schema_of_field k s)

-- an array or a map: its one part, and no two rows under it meet
pub record Single (k : Kind) : Type 0 where
  pub schema : is_schema k ≡ true
  pub unnamed : is_named k ≡ false
  pub text : good_text k [] ≡ true
  pub parts : (j : Kind) → is_schema j ≡ true → parts_fit k (j ∷ []) ≡ true
  pub apart : (d : ℕ) (a b : Row) → clash k d a b ≡ false

pub array_single : Single Array
unfolding is_schema is_primitive is_named is_definition is_kind good_text is_empty parts_fit body_fits past every has_one is_alias_of is_part_of clash
array_single = record { schema = refl; unnamed = refl; text = refl; parts = λ j s. rw s; apart = λ d a b. refl }

pub map_single : Single Map
unfolding is_schema is_primitive is_named is_definition is_kind good_text is_empty parts_fit body_fits past every has_one is_alias_of is_part_of clash
map_single = record { schema = refl; unnamed = refl; text = refl; parts = λ j s. rw s; apart = λ d a b. refl }
