-- What a declaration's rows say one by one: the first one's depth, each one's string and numbers.
-- Assumes nothing.
use mathlib.Core.Path.{◌≡◌, refl, sym}
use mathlib.Core.Bool.{Bool, true, false, not, cond, ◌&&◌, ◌||◌}
use mathlib.Core.List.{List, [], ◌∷◌}
use Prim.Native.Nat.{ℕ, ◌≤◌}
use native.Mathlib.Omega.{arith}
use lib.Dec.{eqb}
use lib.ListN.{length}
use borrow.Author.Tests.{eqb-true, leb-true}
use Rattle.ground.proofs.Laws.{never, and_true}
use Rattle.name.specs.Name.{is_empty, is_simple, is_dotted, is_reserved}
use Rattle.name.specs.Full.{kept_limit, is_short}
use Rattle.name.proofs.Laws.{dotted_some, simple_dotted, empty_nil}
use Rattle.row.specs.Rows.{Row}
use Rattle.row.specs.declared.kind.Kind.{Kind}
use Rattle.row.specs.declared.kind.Kind.TheVariants.{Reference, Field, Symbol, Alias, FieldAlias}
use Rattle.resolve.specs.Kinds.{is_kind, is_definition, is_schema}
use Rattle.resolve.specs.Rules.{is_full_name, is_own_name, good_text, good_numbers, good_row, good_rows, climbs, is_declaration}
use Rattle.resolve.proofs.Laws.{strings_text, row_keeps}
use Rattle.kept.proofs.Lists.{All, nil, cons, all_map}

-- ---- one string

-- the rows of these kinds keep a string
pub keeps_text : Kind → Bool
keeps_text k = is_definition k || is_kind Alias k || is_kind Reference k || (is_kind Field k || is_kind FieldAlias k || is_kind Symbol k)

some_long : (s : List ℕ) → is_empty s ≡ false → 1 ≤ length s
unfolding is_empty
some_long [] e = never (sym e)
some_long (b ∷ s) e = omega arith

full_long : (s : List ℕ) → is_full_name s ≡ true → (1 ≤ length s) × (length s ≤ kept_limit)
unfolding is_full_name is_short
full_long s e =
    let z = and_true (is_short s) (is_dotted s) e in
    (some_long s (dotted_some s z.1), leb-true (length s) kept_limit z.0)

own_long : (s : List ℕ) → is_own_name s ≡ true → (1 ≤ length s) × (length s ≤ kept_limit)
unfolding is_own_name is_short
own_long s e =
    let z = and_true (is_short s) (is_simple s) e in
    (some_long s (dotted_some s (simple_dotted s z.1)), leb-true (length s) kept_limit z.0)

-- a kept string has 1 to 255 bytes; where none is kept there is none
pub record KeptText (k : Kind) (s : List ℕ) : Type 0 where
  pub long : keeps_text k ≡ true → (1 ≤ length s) × (length s ≤ kept_limit)
  pub none : keeps_text k ≡ false → s ≡ []

text_kept : (k : Kind) (s : List ℕ) → good_text k s ≡ true → KeptText k s
unfolding good_text keeps_text
text_kept k s e =
    let z = go (is_definition k || is_kind Alias k) (is_kind Reference k) (is_kind Field k || is_kind FieldAlias k || is_kind Symbol k) e in
    record { long = z.0; none = z.1 }
  where
    go : (x y z : Bool) → cond x (is_full_name s && not (is_reserved s)) (cond y (is_full_name s) (cond z (is_own_name s) (is_empty s))) ≡ true
        → (x || y || z ≡ true → (1 ≤ length s) × (length s ≤ kept_limit)) × (x || y || z ≡ false → s ≡ [])
    go true y z f = (λ h. full_long s (and_true (is_full_name s) (not (is_reserved s)) f).0, λ h. never (sym h))
    go false true z f = (λ h. full_long s f, λ h. never (sym h))
    go false false true f = (λ h. own_long s f, λ h. never (sym h))
    go false false false f = (λ h. never h, λ h. empty_nil s f)

-- ---- all rows

good_all : (rs : List Row) → good_rows rs ≡ true → All (λ r. (good_text r.kind r.text ≡ true) × (good_numbers r ≡ true)) rs
unfolding good_rows
good_all [] e = nil
good_all (r ∷ rs) e =
    let z = and_true (good_row r rs) (good_rows rs) e in
    let k = row_keeps r rs z.0 in
    cons (strings_text r k.0, k.1) (good_all rs z.1)

-- the first row, a schema at depth 0
pub record First (rs : List Row) : Type 0 where
  pub root : Row
  pub rest : List Row
  pub is : rs ≡ root ∷ rest
  pub depth : root.depth ≡ 0
  pub schema : is_schema root.kind ≡ true
  pub good : good_rows rs ≡ true

first_row : (rs : List Row) → is_declaration rs ≡ true → First rs
unfolding is_declaration
first_row [] e = never e
first_row (r ∷ rs) e =
    let z = and_true (eqb r.depth 0 && is_schema r.kind && climbs 0 rs) (good_rows (r ∷ rs)) e in
    let y = and_true (eqb r.depth 0 && is_schema r.kind) (climbs 0 rs) z.0 in
    let x = and_true (eqb r.depth 0) (is_schema r.kind) y.0 in
    record { root = r; rest = rs; is = refl; depth = eqb-true r.depth 0 x.0; schema = x.1; good = z.1 }

module _ (rs : List Row) (e : is_declaration rs ≡ true) where
  pub declaration_first : First rs
  declaration_first = first_row rs e

  pub declaration_texts : All (λ r. KeptText r.kind r.text) rs
  declaration_texts = all_map (λ r h. text_kept r.kind r.text h.0) (good_all rs declaration_first.good)

  pub declaration_numbers : All (λ r. good_numbers r ≡ true) rs
  declaration_numbers = all_map (λ r h. h.1) (good_all rs declaration_first.good)
