-- When a value fits a type: one law for each way out of the code, and the turns of its loops.
-- Assumes nothing.
use Rattle.std.specs.Prelude.{Option, Some, None}
use mathlib.Core.Path.{◌≡◌, refl, sym, ap, ◌∙◌}
use mathlib.Core.Bool.{Bool, true, false, ◌&&◌}
use mathlib.Core.List.{List, ◌∷◌, map}
use Prim.Native.Nat.{ℕ, zero, suc, ◌+◌, ◌-◌, ◌<◌, ◌≤◌}
use native.Mathlib.Numerals.{sub-one}
use native.Mathlib.Omega.{arith}
use lib.ListN.{length}
use Rattle.ground.proofs.Laws.{never}
use Rattle.name.specs.Name.{every}
use Rattle.row.specs.Rows.{Row}
use Rattle.row.specs.Sets.{rows_from}
use Rattle.row.specs.Memory.{entry_at, text_at, row_at}
use Rattle.row.specs.declared.kind.Kind.{Kind}
use Rattle.row.specs.declared.kind.Kind.TheVariants.{Null, Boolean, Int, Long, Float, Double, Bytes, String, Reference, Array, Map, Union, Record, Enum, Fixed, Field, Symbol, Alias, FieldAlias}
use Rattle.resolve.specs.Kinds.{is_kind}
use Rattle.resolve.specs.Resolve.{definition_in}
use Rattle.resolve.proofs.KindLaws.{kind_is}
use Rattle.resolve.proofs.MemoryLaws.{rows_next, rows_end}
use Rattle.view.specs.Elements.{first_element, next_element, elements_at, elements}
use Rattle.view.specs.Strings.{string_at}
use Rattle.view.specs.Members.{first_key, key_behind, keys_at, member_of, members_at, member, entry_of, entry}
use Rattle.view.specs.declared.members.Member.{Member}
use Rattle.view.proofs.Laws.{left_start, left_done, left_next, keys_done, key_of, own, true_turn, keys_turn, left_behind}
use Rattle.values.specs.Values.{is_array, is_object, is_fixed}
use Rattle.resolve.specs.Rules.{some}
use Rattle.fits.specs.Types.{parts_under, type_of, has_default}
use Rattle.fits.specs.Fits.{on_value, member_fits, field_fits, kind_fits, plain_fits, reached, one_fits, any_fits, fits}
use Rattle.fits.specs.Steps.{is_nested, type_at, parts_from}

-- ---- a type that is no union and no reference, by the kind of its row

module _ (m : List ℕ) (n : ℕ) (t : List ℕ) (p row : ℕ) (l : row < n) {k : Kind} (e : k ≡ (entry_at m row).kind) where
  -- the answer of a kind
  pub plain_kind : {a : Kind} → k ≡ a → (go : List Row → ℕ → Bool) {x : Bool} → x ≡ kind_fits t go a (row_at m row) (type_at m n (row + 1)) p
      → x ≡ plain_fits t go (type_at m n row) p
  unfolding plain_fits
  plain_kind f go h =
      h ∙ ap (λ (a : Kind). kind_fits t go a (row_at m row) (type_at m n (row + 1)) p) (sym f ∙ e)
      ∙ sym (ap (λ (type : List Row). plain_fits t go type p) (rows_next m row n l))

-- no value fits what is neither a leaf nor nested
pub no_values : (t : List ℕ) (go : List Row → ℕ → Bool) (r : Row) (rest : List Row) (p : ℕ) (k : Kind) → is_nested k ≡ false
    → (k ≡ Null → ⊥) → (k ≡ Boolean → ⊥) → (k ≡ Int → ⊥) → (k ≡ Long → ⊥) → (k ≡ Float → ⊥) → (k ≡ Double → ⊥) → (k ≡ Bytes → ⊥) → (k ≡ String → ⊥) → (k ≡ Enum → ⊥) → (k ≡ Fixed → ⊥)
    → false ≡ kind_fits t go k r rest p
unfolding is_nested is_kind kind_fits
no_values t go r rest p Null h a b c d e f g i j m = absurd (a refl)
no_values t go r rest p Boolean h a b c d e f g i j m = absurd (b refl)
no_values t go r rest p Int h a b c d e f g i j m = absurd (c refl)
no_values t go r rest p Long h a b c d e f g i j m = absurd (d refl)
no_values t go r rest p Float h a b c d e f g i j m = absurd (e refl)
no_values t go r rest p Double h a b c d e f g i j m = absurd (f refl)
no_values t go r rest p Bytes h a b c d e f g i j m = absurd (g refl)
no_values t go r rest p String h a b c d e f g i j m = absurd (i refl)
no_values t go r rest p Enum h a b c d e f g i j m = absurd (j refl)
no_values t go r rest p Fixed h a b c d e f g i j m = absurd (m refl)
no_values t go r rest p Array h a b c d e f g i j m = never (sym h)
no_values t go r rest p Map h a b c d e f g i j m = never (sym h)
no_values t go r rest p Record h a b c d e f g i j m = never (sym h)
no_values t go r rest p Union h a b c d e f g i j m = refl
no_values t go r rest p Reference h a b c d e f g i j m = refl
no_values t go r rest p Field h a b c d e f g i j m = refl
no_values t go r rest p Symbol h a b c d e f g i j m = refl
no_values t go r rest p Alias h a b c d e f g i j m = refl
no_values t go r rest p FieldAlias h a b c d e f g i j m = refl

pub sized : (t : List ℕ) (p : ℕ) {x : Bool} {s size : ℕ} → s ≡ size → x ≡ is_fixed s t p → x ≡ is_fixed size t p
sized t p e h = rw (← e) h

-- an enum, whose depth is read
pub enum_depth : (test : List Row → Bool) (rows : List Row) {d depth : ℕ} → d ≡ depth → {x : Bool} → x ≡ some test (parts_under d rows) → x ≡ some test (parts_under depth rows)
enum_depth test rows g h = rw (← g) h

-- ---- two tests, one after the other

module _ {a b : Bool} (e : a ≡ b) where
  pub then_true : a ≡ true → {x y : Bool} → x ≡ y → x ≡ (b && y)
  then_true f g = rw (← e, f) g

  pub then_false : a ≡ false → (y : Bool) → false ≡ (b && y)
  then_false f y = rw (← e, f)

-- ---- each element

pub each_start : (t : List ℕ) (test : ℕ → Bool) (p : ℕ) {s : Option ℕ} → s ≡ first_element t p → every test (elements_at t s) ≡ every test (elements t p)
each_start t test p e = ap (every test) (left_start t p e)

module _ (t : List ℕ) (test : ℕ → Bool) {s : Option ℕ} {x : Bool} (inv : every test (elements_at t s) ≡ x) where
  pub each_done : s ≡ None → true ≡ x
  unfolding every
  each_done e = sym (ap (every test) (left_done t e)) ∙ inv

  module _ {q : ℕ} (e : s ≡ Some q) {b : Bool} (f : b ≡ test q) where
    pub each_bad : b ≡ false → false ≡ x
    unfolding every
    each_bad g = sym (ap (every test) (left_next t e refl) ∙ rw (← f, g)) ∙ inv

    pub each_on : b ≡ true → {s' : Option ℕ} → s' ≡ next_element t q → every test (elements_at t s') ≡ x
    unfolding every
    each_on g h = sym (ap (every test) (left_next t e h) ∙ rw (← f, g)) ∙ inv

pub each_less : (t : List ℕ) {s s' : Option ℕ} {q : ℕ} → s ≡ Some q → s' ≡ next_element t q → length (elements_at t s') < length (elements_at t s)
each_less t e f = let z = ap length (left_next t e f) in omega arith

-- ---- each member

-- the entry is that of its own key, and the answer for the members that are left is the answer
pub record Visiting (t : List ℕ) (test : Member → Bool) (x : Bool) (e : Option Member) : Type 0 where
  pub true_entry : e ≡ entry_of t (key_of e)
  pub rest : every test (left_behind t e) ≡ x

pub visit_start : (t : List ℕ) (test : Member → Bool) (p : ℕ) {e : Option Member} → e ≡ entry_of t (first_key t p) → Visiting t test (every test (members_at t p)) e
unfolding members_at
visit_start t test p {e} h = record {
  true_entry = true_turn t (first_key t p) h;
  rest = ap (λ (s : Option ℕ). every test (map (member_of t) (keys_at t s))) (own t e (first_key t p) h);
}

module _ (t : List ℕ) (test : Member → Bool) {x : Bool} {e : Option Member} (v : Visiting t test x e) where
  pub visit_end : e ≡ None → true ≡ x
  unfolding every
  visit_end h =
      sym (ap (λ (l : Option Member). every test (left_behind t l)) h ∙ ap (λ (l : List ℕ). every test (map (member_of t) l)) (keys_done t)) ∙ v.rest

  module _ {k q : ℕ} (h : e ≡ entry k q) {b : Bool} (f : b ≡ test (member_of t k)) where
    pub visit_bad : b ≡ false → false ≡ x
    unfolding every
    visit_bad g = sym (ap (λ (l : List ℕ). every test (map (member_of t) l)) (keys_turn t v.true_entry h refl) ∙ rw (← f, g)) ∙ v.rest

    pub visit_on : b ≡ true → {e' : Option Member} → e' ≡ entry_of t (key_behind t q) → Visiting t test x e'
    unfolding every
    visit_on g d = record {
      true_entry = true_turn t (key_behind t q) d;
      rest = sym (ap (λ (l : List ℕ). every test (map (member_of t) l)) (keys_turn t v.true_entry h d) ∙ rw (← f, g)) ∙ v.rest;
    }

-- the value under a member's key
module _ (t : List ℕ) (go : List Row → ℕ → Bool) (type : List Row) (p k : ℕ) {s : Option ℕ} (e : s ≡ member t p (string_at t k)) where
  pub member_none : s ≡ None → false ≡ member_fits t go type p (member_of t k)
  unfolding member_fits on_value
  member_none f = rw (← e, f)

  pub member_value : {v : ℕ} → s ≡ Some v → {x : Bool} → x ≡ go type v → x ≡ member_fits t go type p (member_of t k)
  unfolding member_fits on_value
  member_value f g = rw (← e, f) g

-- ---- rows in memory

module _ (m : List ℕ) (n : ℕ) (t : List ℕ) (go : List Row → ℕ → Bool) (p row : ℕ) where
  abbrev kind : Kind
  kind = (entry_at m row).kind

  abbrev rows : List Row
  rows = rows_from m n 0

  -- no row
  pub plain_none : n ≤ row → false ≡ plain_fits t go (type_at m n row) p
  unfolding plain_fits
  plain_none h = rw (rows_end m row n h)

  pub any_none : n ≤ row → false ≡ any_fits rows t go (type_at m n row) p
  unfolding any_fits
  any_none h = rw (rows_end m row n h)

  module _ (l : row < n) where
    here : type_at m n row ≡ row_at m row ∷ type_at m n (row + 1)
    here = rows_next m row n l

    -- a field
    module _ {b : Bool} (e : b ≡ is_kind Field kind) where
      pub field_other : b ≡ false → true ≡ field_fits t go p (type_at m n row)
      unfolding field_fits
      field_other f = rw (here, ← e, f)

      module _ (f : b ≡ true) {w : List ℕ} (g : w ≡ text_at m row) {s : Option ℕ} (h : s ≡ member t p w) where
        pub field_value : {v : ℕ} → s ≡ Some v → (j : ℕ) → type_at m n j ≡ type_of (type_at m n (row + 1)) → {x : Bool} → x ≡ go (type_at m n j) v
            → x ≡ field_fits t go p (type_at m n row)
        unfolding field_fits on_value
        field_value {v} i j k d = d ∙ ap (λ (type : List Row). go type v) k ∙ rw (here, ← e, f, ← g, ← h, i)

        pub field_default : s ≡ None → {x : Bool} → x ≡ has_default (row_at m row) → x ≡ field_fits t go p (type_at m n row)
        unfolding field_fits on_value
        field_default i d = d ∙ rw (here, ← e, f, ← g, ← h, i)

    -- a type with values inside
    module _ {a : Bool} (e : a ≡ is_kind Array kind) where
      pub nested_array : a ≡ true → {x : Bool} → x ≡ (is_array t p && every (go (type_at m n (row + 1))) (elements t p)) → x ≡ plain_fits t go (type_at m n row) p
      unfolding kind_fits
      nested_array f h = plain_kind m n t p row l refl (kind_is Array kind (sym e ∙ f)) go h

      module _ (f : a ≡ false) {b : Bool} (g : b ≡ is_kind Map kind) where
        pub nested_map : b ≡ true → {x : Bool} → x ≡ (is_object t p && every (member_fits t go (type_at m n (row + 1)) p) (members_at t p)) → x ≡ plain_fits t go (type_at m n row) p
        unfolding kind_fits
        nested_map i h = plain_kind m n t p row l refl (kind_is Map kind (sym g ∙ i)) go h

        pub nested_record : b ≡ false → is_nested kind ≡ true → {x : Bool}
            → x ≡ (is_object t p && every (field_fits t go p) (parts_under (entry_at m row).depth (type_at m n (row + 1)))) → x ≡ plain_fits t go (type_at m n row) p
        unfolding kind_fits is_nested
        nested_record i j h = plain_kind m n t p row l refl (kind_is Record kind (rw (← e, f, ← g, i) at j)) go h

    -- a reference
    module _ {b : Bool} (e : b ≡ is_kind Reference kind) {x : Bool} where
      pub one_reference : b ≡ true → (d : ℕ) → type_at m n d ≡ definition_in (text_at m row) rows → x ≡ plain_fits t go (type_at m n d) p → x ≡ one_fits rows t go p (type_at m n row)
      unfolding one_fits reached
      one_reference f d g h = h ∙ ap (λ (type : List Row). plain_fits t go type p) g ∙ rw (here, ← e, f)

      pub one_self : b ≡ false → x ≡ plain_fits t go (type_at m n row) p → x ≡ one_fits rows t go p (type_at m n row)
      unfolding one_fits reached
      one_self f h = h ∙ rw (here, ← e, f)

    -- a union
    module _ {b : Bool} (e : b ≡ is_kind Union kind) {x : Bool} where
      pub any_union : b ≡ true → x ≡ some (one_fits rows t go p) (parts_under (entry_at m row).depth (type_at m n (row + 1))) → x ≡ any_fits rows t go (type_at m n row) p
      unfolding any_fits
      any_union f h = h ∙ rw (here, ← e, f)

      pub any_one : b ≡ false → x ≡ one_fits rows t go p (type_at m n row) → x ≡ any_fits rows t go (type_at m n row) p
      unfolding any_fits
      any_one f h = h ∙ rw (here, ← e, f)

-- the parts of a row, whose depth is read
module _ (m : List ℕ) (n i : ℕ) (test : List Row → Bool) (next : List Row) {d depth : ℕ} (e : d ≡ depth) (f : parts_from m n d i ≡ parts_under d next) where
  pub some_start : some test (parts_from m n d i) ≡ some test (parts_under depth next)
  some_start = ap (some test) (f ∙ ap (λ (y : ℕ). parts_under y next) e)

  pub every_start : every test (parts_from m n d i) ≡ every test (parts_under depth next)
  every_start = ap (every test) (f ∙ ap (λ (y : ℕ). parts_under y next) e)

-- ---- the nesting left

module _ (rows : List Row) (t : List ℕ) (type : List Row) (p : ℕ) where
  pub fits_none : (left : ℕ) → left ≡ 0 → false ≡ fits rows t left type p
  unfolding fits
  fits_none left e = rw e

  pub fits_more : (left : ℕ) → (left ≡ 0 → ⊥) → {x : Bool} → x ≡ any_fits rows t (fits rows t (left - 1)) type p → x ≡ fits rows t left type p
  unfolding fits
  fits_more zero h e = absurd (h refl)
  fits_more (suc left) h e = e ∙ rw sub-one
