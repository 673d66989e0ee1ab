-- Rows with nothing under them: aliases, field aliases, symbols; and a definition's aliases.
-- Assumes nothing.
use Rattle.std.specs.Prelude.{Ok}
use mathlib.Core.Path.{◌≡◌, refl, sym}
use mathlib.Core.Bool.{Bool, true, not}
use mathlib.Core.List.{List, [], ◌∷◌, ◌++◌, map}
use Prim.Native.Nat.{ℕ, ◌+◌, ◌<◌, ◌≤◌}
use native.Mathlib.Omega.{arith}
use lib.ListN.{length}
use borrow.Author.Tests.{not-true}
use Rattle.name.specs.Name.{every, is_namespace, is_one_of}
use Rattle.json_scan.specs.Json.{longest}
use Rattle.row.specs.Rows.{Row}
use Rattle.row.specs.declared.kind.Kind.{Kind}
use Rattle.row.specs.declared.kind.Kind.TheVariants.{Symbol, Alias, FieldAlias}
use Rattle.view.specs.Strings.{string_at}
use Rattle.form.specs.Checks.{fault, must, ◌then◌}
use Rattle.form.specs.Names.{simple_check, full_at, alias_check}
use Rattle.form.specs.Notes.{noted}
use Rattle.rules.specs.Symbols.{symbols_new}
use Rattle.answer.specs.declared.refusal.Why.TheVariants.{SymbolTwice}
use Rattle.schema.specs.Out.{read, each}
use Rattle.schema.specs.Schema.{row_with, row, alias_rows, field_alias_rows, symbol_rows}
use Rattle.resolve.specs.Kinds.{is_kind, is_part_of, has_one, is_alias_of, is_definition, past, body_fits, parts_fit}
use Rattle.resolve.specs.Rules.{good_text, good_numbers, kinds_at, clash, same_symbol, no_two}
use Rattle.kept.proofs.Lists.{All, nil, cons, all_map, Misses, two_nil, two_cons}
use Rattle.kept.proofs.Forest.{end, Rows, plain_strings, plain_placed, good_row_lem, rows_none, rows_append, rows_tree}
use Rattle.kept.proofs.Passed.{must_true, then_fine, read_same, after_read, both_read, each_rows, each_all}
use Rattle.kept.proofs.Numbers.{plain_numbers}
use Rattle.kept.proofs.Texts.{simple_own, alias_free, free_text, own_text}
use Rattle.kept.proofs.Meets.{one_of_head, one_of_tail, one_of_front, one_of_behind, symbol_new}

-- a row with nothing under it
pub leaf : {t : List ℕ} {e : ℕ} {test : Kind → Bool} (r : Row) → r.depth ≡ e → test r.kind ≡ true → r.position < length t → r.default ≡ [] → good_text r.kind r.text ≡ true → good_numbers r ≡ true
    → parts_fit r.kind [] ≡ true → Rows t e test (r ∷ [])
unfolding kinds_at
leaf r d k p e s n f = rows_tree {below = λ j. true} r d k (plain_placed r e p) (good_row_lem r {m = 0} end (plain_strings r e s) n f (two_nil (clash r.kind r.depth))) rows_none

module _ (t : List ℕ) (short : length t ≤ longest) where
  -- ---- aliases

  module _ (namespace : List ℕ) (n : is_namespace namespace ≡ true) (d : ℕ) where
    alias_rows_lem : (q : ℕ) (rs : List Row) → alias_rows t namespace d q ≡ read rs → Rows t d (is_kind Alias) rs
    unfolding alias_rows is_kind is_definition parts_fit body_fits past every has_one is_alias_of is_part_of
    alias_rows_lem q rs e =
        let z = after_read (alias_check t namespace q) _ e in
        let f = alias_free t namespace q n z.0 in
        let w = f.named.within in
        rw (sym (read_same z.1))
        (leaf (row_with Alias d q (full_at t namespace q) 0 (noted 0)) refl refl w refl (free_text Alias refl f) (plain_numbers Alias d q _ (omega arith)) refl)

    alias_kind : (q : ℕ) (rs : List Row) → alias_rows t namespace d q ≡ read rs → All (λ r. is_kind Alias r.kind ≡ true) rs
    unfolding alias_rows is_kind
    alias_kind q rs e = let z = after_read (alias_check t namespace q) _ e in rw (sym (read_same z.1)) (cons refl nil)

    pub aliases_rows : (qs : List ℕ) {rs : List Row} → each (alias_rows t namespace d) qs ≡ read rs → Rows t d (is_kind Alias) rs
    aliases_rows = each_rows (alias_rows t namespace d) alias_rows_lem

    pub aliases_kind : (qs : List ℕ) {rs : List Row} → each (alias_rows t namespace d) qs ≡ read rs → All (λ r. is_kind Alias r.kind ≡ true) rs
    aliases_kind = each_all (alias_rows t namespace d) alias_kind

  -- ---- field aliases

  module _ (d : ℕ) where
    field_alias_rows_lem : (q : ℕ) (rs : List Row) → field_alias_rows t d q ≡ read rs → Rows t d (is_kind FieldAlias) rs
    unfolding field_alias_rows is_kind is_definition parts_fit body_fits past every has_one is_alias_of is_part_of
    field_alias_rows_lem q rs e =
        let z = after_read (simple_check t q) _ e in
        let o = simple_own t q z.0 in
        let w = o.within in
        rw (sym (read_same z.1))
        (leaf (row_with FieldAlias d q (string_at t q) 0 (noted 0)) refl refl w refl (own_text FieldAlias refl refl refl o) (plain_numbers FieldAlias d q _ (omega arith)) refl)

    pub field_aliases_rows : (qs : List ℕ) {rs : List Row} → each (field_alias_rows t d) qs ≡ read rs → Rows t d (is_kind FieldAlias) rs
    field_aliases_rows = each_rows (field_alias_rows t d) field_alias_rows_lem

    -- their strings are those at the places
    pub field_aliases_texts : (qs : List ℕ) {rs : List Row} → each (field_alias_rows t d) qs ≡ read rs → All (λ r. is_one_of (map (string_at t) qs) r.text ≡ true) rs
    unfolding each field_alias_rows
    field_aliases_texts [] e = rw (sym (read_same e)) nil
    field_aliases_texts (q ∷ qs) e =
        let z = both_read (field_alias_rows t d q) (each (field_alias_rows t d) qs) e in
        let y = after_read (simple_check t q) _ z.first in
        rw (z.is, sym (read_same y.1))
        (cons (one_of_head (string_at t q) (map (string_at t) qs))
        (all_map (λ r h. one_of_tail (string_at t q) r.text (map (string_at t) qs) h) (field_aliases_texts qs z.second)))

  -- ---- symbols, and 14

  pub record Symbols (d : ℕ) (taken : List (List ℕ)) (rs : List Row) : Type 0 where
    pub rows : Rows t (d + 1) (is_kind Symbol) rs
    pub missed : (a : Row) → is_one_of taken a.text ≡ true → Misses (same_symbol d) a rs
    pub apart : no_two (same_symbol d) rs ≡ true

  symbol_rows_lem : (d q : ℕ) → simple_check t q ≡ Ok tt → Rows t (d + 1) (is_kind Symbol) (row Symbol (d + 1) q (string_at t q))
  unfolding is_kind is_definition parts_fit body_fits past every has_one is_alias_of is_part_of
  symbol_rows_lem d q e =
      let o = simple_own t q e in
      let w = o.within in
      leaf (row_with Symbol (d + 1) q (string_at t q) 0 (noted 0)) refl refl w refl (own_text Symbol refl refl refl o) (plain_numbers Symbol (d + 1) q _ (omega arith)) refl

  pub symbols_apart : (d : ℕ) (taken : List (List ℕ)) (qs : List ℕ) {rs : List Row} → symbols_new t taken qs ≡ Ok tt → each (symbol_rows t (d + 1)) qs ≡ read rs → Symbols d taken rs
  unfolding symbols_new each symbol_rows
  symbols_apart d taken [] c e = rw (sym (read_same e)) (record { rows = rows_none; missed = λ a h. nil; apart = two_nil (same_symbol d) })
  symbols_apart d taken (q ∷ qs) c e =
      let s = string_at t q in
      let r = row_with Symbol (d + 1) q s 0 (noted 0) in
      let x = then_fine (simple_check t q) (must (not (is_one_of taken s)) (fault SymbolTwice q) then symbols_new t (taken ++ (s ∷ [])) qs) c in
      let y = then_fine (must (not (is_one_of taken s)) (fault SymbolTwice q)) (symbols_new t (taken ++ (s ∷ [])) qs) x.1 in
      let new = not-true (is_one_of taken s) (must_true (not (is_one_of taken s)) _ y.0) in
      let z = both_read (read (r ∷ [])) (each (symbol_rows t (d + 1)) qs) e in
      let rest = symbols_apart d (taken ++ (s ∷ [])) qs y.1 z.second in
      rw (z.is, sym (read_same z.first))
      (record {
        rows = rows_append (symbol_rows_lem d q x.0) rest.rows;
        missed = λ a h. cons (symbol_new d taken a r h new) (rest.missed a (one_of_front taken (s ∷ []) a.text h));
        apart = two_cons (same_symbol d) r (rest.missed r (one_of_behind taken (s ∷ []) s (one_of_head s []))) rest.apart;
      })
