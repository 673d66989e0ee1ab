-- The default that a field's row keeps: its bytes, as they are written in the text, are a whole text with no white space at its ends.
-- Assumes nothing.
use Rattle.std.specs.Prelude.{Option, Some, None, Ok}
use mathlib.Core.Path.{◌≡◌, refl, sym, ◌∙◌}
use mathlib.Core.Bool.{true, false}
use mathlib.Core.List.{List}
use Prim.Native.Nat.{ℕ, ◌-◌, ◌<◌, ◌≤◌}
use native.Mathlib.Omega.{arith}
use lib.ListN.{length}
use borrow.Author.Tests.{lt-ltb, leb-true}
use Rattle.ground.proofs.Laws.{never, length_part}
use Rattle.name.specs.Name.{is_empty}
use Rattle.name.specs.Full.{kept_limit, is_short}
use Rattle.name.proofs.Laws.{empty_some}
use Rattle.json_scan.specs.Json.{longest}
use Rattle.json_scan.proofs.Laws.{not_too_long}
use Rattle.row.specs.declared.kind.Kind.TheVariants.{Field}
use Rattle.view.specs.Ends.{end_of}
use Rattle.view.specs.Members.{members_of}
use Rattle.tree.proofs.Cut.{Cut, value_cut}
use Rattle.form.specs.Checks.{fault}
use Rattle.schema.specs.Schema.{written_at, field_row, kept_check}
use Rattle.answer.specs.declared.refusal.Why.TheVariants.{DefaultTooLong}
use Rattle.fuel.proofs.Deep.{Opens}
use Rattle.fuel.proofs.Forms.{default_at_lem}
use Rattle.resolve.specs.Kinds.{is_kind, is_definition}
use Rattle.resolve.specs.Rules.{passes, is_default, good_default, good_strings, good_size, good_note, good_precision, good_decimal, good_numbers}
use Rattle.kept.proofs.Forest.{Placed}
use Rattle.kept.proofs.Passed.{must_true}
use Rattle.kept.proofs.Texts.{Own, own_text}

-- ---- a value, as it is written

module _ (t : List ℕ) (v : ℕ) (c : Cut t v) where
  written_some : is_empty (written_at t v) ≡ false
  unfolding written_at
  written_some =
      let some = c.some in
      let within = c.within in
      let l = length_part t v (end_of t v - v) (omega arith) in
      empty_some (written_at t v) (λ (h : length (written_at t v) ≡ 0). omega arith)

  written_default : is_short (written_at t v) ≡ true → is_default (written_at t v) ≡ true
  unfolding written_at is_default is_short passes
  written_default h =
      let s = written_at t v in
      let l = leb-true (length s) kept_limit h in
      rw (h, not_too_long s (omega arith) ∙ c.whole, c.first, c.last)

-- ---- the default of a field that was read: a value of the text, and short

pub record Default (t : List ℕ) (s : Option ℕ) : Type 0 where
  pub cut : (v : ℕ) → s ≡ Some v → Cut t v
  pub short : kept_check t s ≡ Ok tt

pub default_read : {t : List ℕ} {n f : ℕ} → Opens t n 123 f → kept_check t (members_of t f).default ≡ Ok tt → Default t (members_of t f).default
default_read {t} {n} {f} o h = record { cut = λ v e. (let i = default_at_lem t n f o v e in value_cut t v i.stack i.scanned); short = h }

-- ---- the field's row

module _ (t : List ℕ) (d q : ℕ) where
  pub field_strings : (s : Option ℕ) → Default t s → Own t q → good_strings (field_row t d q s) ≡ true
  unfolding good_strings good_default field_row kept_check is_kind is_definition is_empty
  field_strings None k o = rw (own_text Field refl refl refl o)
  field_strings (Some v) k o =
      let c = k.cut v refl in
      let h = must_true (is_short (written_at t v)) (fault DefaultTooLong v) k.short in
      rw (own_text Field refl refl refl o, written_some t v c, written_default t v c h)

  pub field_numbers : length t ≤ longest → q < length t → (s : Option ℕ) → Default t s → good_numbers (field_row t d q s) ≡ true
  unfolding good_numbers good_size good_note good_precision good_decimal field_row is_kind is_empty
  field_numbers short w None k = rw (lt-ltb q longest (omega arith))
  field_numbers short w (Some v) k =
      let c = k.cut v refl in
      let some = c.some in
      let within = c.within in
      rw (lt-ltb q longest (omega arith), written_some t v c, lt-ltb v longest (omega arith))

  pub field_placed : q < length t → (s : Option ℕ) → Default t s → Placed t (field_row t d q s)
  unfolding field_row is_empty
  field_placed w None k = record { position = w; default = λ h. never (sym h) }
  field_placed w (Some v) k =
      let c = k.cut v refl in
      let some = c.some in
      let within = c.within in
      record { position = w; default = λ h. record { within = omega arith; is = refl } }
