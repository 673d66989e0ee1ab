-- Which rows meet under a record, an enum or a union: those of one depth, of certain kinds, with one string.
-- Assumes nothing.
use mathlib.Core.Path.{◌≡◌, refl, sym, ap, ◌∙◌}
use mathlib.Core.Bool.{Bool, true, false, not, cond, ◌&&◌, ◌||◌}
use mathlib.Core.List.{List, [], ◌∷◌, ◌++◌}
use Prim.Native.Nat.{ℕ, ◌+◌, ◌<◌, ◌≤◌}
use native.Mathlib.Omega.{arith}
use lib.Dec.{eqb}
use borrow.Author.Tests.{eqb-true, eq-eqb, ne_eqb}
use Rattle.ground.specs.Bytes.{same}
use Rattle.ground.proofs.Laws.{never, and_true, same_refl, same_true}
use Rattle.name.specs.Name.{is_one_of}
use Rattle.name.proofs.Laws.{one_of_append}
use Rattle.row.specs.Kinds.{kind_number}
use Rattle.row.specs.Rows.{Row}
use Rattle.row.specs.declared.kind.Kind.{Kind}
use Rattle.row.specs.declared.kind.Kind.TheVariants.{Union, Field, Symbol, Alias, FieldAlias}
use Rattle.rules.specs.Unions.{Head, unnamed, called, clash as clashes, is_union}
use Rattle.resolve.specs.Kinds.{is_kind, is_definition, is_named, is_schema, is_primitive}
use Rattle.resolve.specs.Rules.{is_at, is_field_name, takes_name, same_symbol, same_schema, same_member}
use Rattle.kept.proofs.Lists.{fails}
use Rattle.kept.proofs.Forest.{Top}
use Rattle.resolve.proofs.KindLaws.{kind_is}
use Rattle.kept.proofs.Fits.{kind_not}

-- ---- tests

first_fails : (x y : Bool) → x ≡ false → x && y ≡ false
first_fails x y e = rw e

second_fails : (x y : Bool) → y ≡ false → x && y ≡ false
second_fails true y e = e
second_fails false y e = refl

-- ---- one of some strings

pub one_of_front : (a b : List (List ℕ)) (s : List ℕ) → is_one_of a s ≡ true → is_one_of (a ++ b) s ≡ true
one_of_front a b s e = rw (one_of_append a b s, e)

pub one_of_behind : (a b : List (List ℕ)) (s : List ℕ) → is_one_of b s ≡ true → is_one_of (a ++ b) s ≡ true
one_of_behind a b s e = rw (one_of_append a b s, e) (go (is_one_of a s))
  where
    go : (x : Bool) → x || true ≡ true
    go true = refl
    go false = refl

pub one_of_head : (s : List ℕ) (ws : List (List ℕ)) → is_one_of (s ∷ ws) s ≡ true
unfolding is_one_of
one_of_head s ws = rw (same_refl s)

pub one_of_tail : (w s : List ℕ) (ws : List (List ℕ)) → is_one_of ws s ≡ true → is_one_of (w ∷ ws) s ≡ true
one_of_tail w s ws e = one_of_behind (w ∷ []) ws s e

-- two strings, one of them among those of which the other is none
pub unlike : (ws : List (List ℕ)) (a b : List ℕ) → is_one_of ws a ≡ true → is_one_of ws b ≡ false → same a b ≡ false
unlike ws a b e f = fails (same a b) (λ q. never (sym f ∙ ap (is_one_of ws) (sym (same_true a b q)) ∙ e))

-- ---- rows at a depth

deep_not : (j : Kind) (d : ℕ) (r : Row) → d < r.depth → is_at j d r ≡ false
unfolding is_at
deep_not j d r h = second_fails (is_kind j r.kind) (eqb r.depth d) (ne_eqb r.depth d (λ (q : r.depth ≡ d). omega arith))

-- a row of trees of depth e, whose first rows are of none of this kind
top_not : (test : Kind → Bool) (j : Kind) (e d : ℕ) (r : Row) → d ≡ e → test j ≡ false → Top e test r → is_at j d r ≡ false
unfolding is_at
top_not test j e d r q f t =
    fails (is_kind j r.kind && eqb r.depth d)
    (λ x.
    let z = and_true (is_kind j r.kind) (eqb r.depth d) x in
    let h = eqb-true r.depth d z.1 in
    never (sym (kind_not test j r.kind f (t.top (h ∙ q))) ∙ z.0))

-- a row of another kind
other_not : (i j : Kind) (d : ℕ) (r : Row) → is_kind i j ≡ false → is_kind i r.kind ≡ true → is_at j d r ≡ false
unfolding is_at
other_not i j d r f e = first_fails (is_kind j r.kind) (eqb r.depth d) (kind_not (is_kind i) j r.kind f e)

-- ---- 11

module _ (d : ℕ) where
  -- nothing takes the name of a row that is no field
  pub name_unmet : (b : Row) → d + 2 ≤ b.depth → (a : Row) → takes_name d a b ≡ false
  unfolding takes_name
  name_unmet b h a =
      first_fails (is_field_name d a && is_at Field (d + 1) b) (same a.text b.text)
      (second_fails (is_field_name d a) (is_at Field (d + 1) b) (deep_not Field (d + 1) b (omega arith)))

  -- a row of trees under a field, whose first rows are schemas, takes no name
  pub name_quiet : (a : Row) → Top (d + 1 + 1) is_schema a → (b : Row) → takes_name d a b ≡ false
  unfolding takes_name is_field_name is_schema is_primitive is_named is_definition is_kind
  name_quiet a t b =
      let x = deep_not Field (d + 1) a (let h = t.deep in omega arith) in
      let y = top_not is_schema FieldAlias (d + 1 + 1) (d + 2) a (omega arith) refl t in
      rw (x, y)

  -- nor does an alias of the record, and none takes its name
  pub alias_quiet : (a : Row) → is_kind Alias a.kind ≡ true → (b : Row) → takes_name d a b ≡ false
  unfolding takes_name is_field_name is_kind
  alias_quiet a e b = rw (other_not Alias Field (d + 1) a refl e, other_not Alias FieldAlias (d + 2) a refl e)

  pub alias_unmet : (b : Row) → is_kind Alias b.kind ≡ true → (a : Row) → takes_name d a b ≡ false
  unfolding takes_name is_kind
  alias_unmet b e a =
      first_fails (is_field_name d a && is_at Field (d + 1) b) (same a.text b.text)
      (second_fails (is_field_name d a) (is_at Field (d + 1) b) (other_not Alias Field (d + 1) b refl e))

  -- a field whose name is none of some
  pub name_new : (ws : List (List ℕ)) (a b : Row) → is_one_of ws a.text ≡ true → is_one_of ws b.text ≡ false → takes_name d a b ≡ false
  unfolding takes_name
  name_new ws a b e f = second_fails (is_field_name d a && is_at Field (d + 1) b) (same a.text b.text) (unlike ws a.text b.text e f)

  -- ---- 14

  pub symbol_new : (ws : List (List ℕ)) (a b : Row) → is_one_of ws a.text ≡ true → is_one_of ws b.text ≡ false → same_symbol d a b ≡ false
  unfolding same_symbol
  symbol_new ws a b e f = second_fails (is_at Symbol (d + 1) a && is_at Symbol (d + 1) b) (same a.text b.text) (unlike ws a.text b.text e f)

  pub symbol_quiet : (a : Row) → is_kind Alias a.kind ≡ true → (b : Row) → same_symbol d a b ≡ false
  unfolding same_symbol is_kind
  symbol_quiet a e b = rw (other_not Alias Symbol (d + 1) a refl e)

  pub symbol_unmet : (b : Row) → is_kind Alias b.kind ≡ true → (a : Row) → same_symbol d a b ≡ false
  unfolding same_symbol is_kind
  symbol_unmet b e a =
      first_fails (is_at Symbol (d + 1) a && is_at Symbol (d + 1) b) (same a.text b.text)
      (second_fails (is_at Symbol (d + 1) a) (is_at Symbol (d + 1) b) (other_not Alias Symbol (d + 1) b refl e))

-- ---- 19

-- what tells a row from the other members
pub row_head : Row → Head
row_head r = cond (is_named r.kind) (called r.text) (unnamed r.kind)

pub head_named : (r : Row) → is_named r.kind ≡ true → row_head r ≡ called r.text
unfolding row_head
head_named r e = rw e

pub head_unnamed : (r : Row) → is_named r.kind ≡ false → row_head r ≡ unnamed r.kind
unfolding row_head
head_unnamed r e = rw e

heads_schema : (a b : Row) → clashes (row_head a) (row_head b) ≡ false → same_schema a b ≡ false
unfolding same_schema row_head clashes
heads_schema a b e = go (is_named a.kind) refl (is_named b.kind) refl e
  where
    go : (x : Bool) → is_named a.kind ≡ x → (y : Bool) → is_named b.kind ≡ y
        → clashes (cond x (called a.text) (unnamed a.kind)) (cond y (called b.text) (unnamed b.kind)) ≡ false
        → cond x (y && same a.text b.text) (is_kind a.kind b.kind) ≡ false
    go true p true q f = f
    go true p false q f = refl
    go false p true q f = kind_not is_named a.kind b.kind p q
    go false p false q f =
        fails (is_kind a.kind b.kind)
        (λ z. never (sym f ∙ eq-eqb (kind_number a.kind) (kind_number b.kind) (ap kind_number (sym (kind_is a.kind b.kind z)))))

module _ (d : ℕ) where
  pub member_new : (a b : Row) → clashes (row_head a) (row_head b) ≡ false → same_member d a b ≡ false
  unfolding same_member
  member_new a b e = second_fails (eqb a.depth (d + 1) && eqb b.depth (d + 1)) (same_schema a b) (heads_schema a b e)

  pub member_quiet : (a : Row) → d + 2 ≤ a.depth → (b : Row) → same_member d a b ≡ false
  unfolding same_member
  member_quiet a h b = rw (ne_eqb a.depth (d + 1) (λ (q : a.depth ≡ d + 1). omega arith))

  pub member_unmet : (b : Row) → d + 2 ≤ b.depth → (a : Row) → same_member d a b ≡ false
  unfolding same_member
  member_unmet b h a =
      first_fails (eqb a.depth (d + 1) && eqb b.depth (d + 1)) (same_schema a b)
      (second_fails (eqb a.depth (d + 1)) (eqb b.depth (d + 1)) (ne_eqb b.depth (d + 1) (λ (q : b.depth ≡ d + 1). omega arith)))

-- a row whose head is no union is none
pub head_union : (r : Row) → not (is_union (row_head r)) ≡ true → not (is_kind Union r.kind) ≡ true
unfolding row_head is_kind is_named is_definition
head_union r e = go (is_named r.kind) refl e
  where
    go : (x : Bool) → is_named r.kind ≡ x → not (is_union (cond x (called r.text) (unnamed r.kind))) ≡ true → not (eqb (kind_number r.kind) (kind_number Union)) ≡ true
    go true p f = rw (kind_not is_named Union r.kind refl p)
    go false p f = f
