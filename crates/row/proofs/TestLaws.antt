-- What the steps of the test come to, over plain values.
-- Assumes nothing.
use mathlib.Core.Path.{◌≡◌, sym, ap, ◌∙◌}
use mathlib.Core.Bool.{Bool, true, false, ◌&&◌}
use mathlib.Core.List.{List}
use Prim.Native.Nat.{ℕ, suc, ◌+◌, ◌-◌, ◌*◌, ◌<◌, ◌≤◌}
use native.Mathlib.Nat.{add-zero, sub-zero}
use native.Mathlib.Omega.{arith}
use lib.Dec.{eqb, leb}
use lib.ListN.{length, drop, get_or}
use lib.Seq.{drop-drop}
use borrow.Author.Tests.{eq-eqb, ne_eqb, le-leb, lt-leb, leb-true}
use Rattle.ground.proofs.Laws.{and_true}
use Rattle.row.specs.Kinds.{kind_number, kind_of}
use Rattle.row.specs.Numbers.{number}
use Rattle.row.specs.Layout.{declaration_limit, row_limit, string_limit, row_size, rows_start, layout_length}
use Rattle.row.specs.Rows.{text_start, strings_length}
use Rattle.row.specs.Sets.{count_in, is_encoding}
use Rattle.row.specs.Memory.{from_row, rows_before}
use Rattle.row.specs.Tidy.{tidy_row, tidy_end, rows_end, spare_zero, is_tidy}
use Rattle.row.proofs.ReadLaws.{byte_from}
use Rattle.row.proofs.TidyLaws.{AllBytes, tidy_exact}

-- ---- one row

module _ (m : List ℕ) (i o j : ℕ) (je : j ≡ kind_number (kind_of (get_or m (rows_start + row_size * i) 0))) where
  first : get_or m (rows_start + row_size * i) 0 ≡ number (from_row m i) 0 1
  first = ap (λ (n : ℕ). get_or m n 0) (sym (add-zero (rows_start + row_size * i))) ∙ byte_from m (rows_start + row_size * i) 0

  its_kind : j ≡ kind_number (kind_of (number (from_row m i) 0 1))
  its_kind = je ∙ ap (λ (n : ℕ). kind_number (kind_of n)) first

  -- the three tests, by what is read for each
  pub tidy_is : (s w : ℕ) → s ≡ text_start (from_row m i) → w ≡ strings_length (from_row m i)
      → eqb j (get_or m (rows_start + row_size * i) 0) && eqb s o && leb (o + w) string_limit ≡ tidy_row o (from_row m i)
  unfolding tidy_row
  tidy_is s w se we = rw (its_kind, first, se, we)

-- ---- many rows

pub end_start : (m : List ℕ) (n : ℕ) → tidy_end (n - 0) 0 (drop (rows_start + row_size * 0) m) ≡ rows_end m n
unfolding rows_end
end_start m n = rw sub-zero

pub end_fits : (o : ℕ) (l : List ℕ) (w : ℕ) → true ≡ tidy_row o l → w ≡ strings_length l → o + w ≤ string_limit
unfolding tidy_row
end_fits o l w t e =
    let p = and_true (eqb (kind_number (kind_of (number l 0 1))) (number l 0 1) && eqb (text_start l) o) (leb (o + strings_length l) string_limit) (sym t) in
    omega (arith, leb-true (o + strings_length l) string_limit p.1)

module _ (m : List ℕ) (n i o x : ℕ) (inv : tidy_end (n - i) o (drop (rows_start + row_size * i) m) ≡ x) where
  pub end_turn : i < n → true ≡ tidy_row o (from_row m i) → (w : ℕ) → w ≡ strings_length (from_row m i) → tidy_end (n - (i + 1)) (o + w) (drop (rows_start + row_size * (i + 1)) m) ≡ x
  unfolding tidy_end
  end_turn l t w e =
      let f : n - i ≡ suc (n - (i + 1)) = omega arith in
      let g : rows_start + row_size * i + row_size ≡ rows_start + row_size * (i + 1) = omega arith in
      rw e (rw (f, ← t, drop-drop row_size (rows_start + row_size * i) m, g) at inv)

  pub end_stop : i < n → false ≡ tidy_row o (from_row m i) → string_limit + 1 ≡ x
  unfolding tidy_end
  end_stop l t =
      let f : n - i ≡ suc (n - (i + 1)) = omega arith in
      rw (f, ← t) at inv

  pub end_end : n ≤ i → o ≡ x
  unfolding tidy_end
  end_end l = let f : n - i ≡ 0 = omega arith in rw f at inv

-- ---- the whole test

module _ (m : List ℕ) (all : AllBytes m) where
  pub wrong_length : (length m ≡ layout_length → ⊥) → false ≡ is_encoding m
  unfolding is_tidy
  wrong_length h = rw (ne_eqb (length m) layout_length h) at (tidy_exact m all)

  module _ (long : length m ≡ layout_length) (n : ℕ) (ne : n ≡ count_in m) where
    pub many_declarations : declaration_limit < n → false ≡ is_encoding m
    unfolding is_tidy
    many_declarations h = rw (eq-eqb (length m) layout_length long, ← ne, lt-leb n declaration_limit h) at (tidy_exact m all)

    module _ (few : n ≤ declaration_limit) (t : ℕ) (te : t ≡ rows_before m n) where
      pub many_rows : row_limit < t → false ≡ is_encoding m
      unfolding is_tidy
      many_rows h = rw (eq-eqb (length m) layout_length long, ← ne, le-leb n declaration_limit few, ← te, lt-leb t row_limit h) at (tidy_exact m all)

      module _ (fit : t ≤ row_limit) (e : ℕ) (ee : e ≡ rows_end m t) where
        pub not_tidy : string_limit < e → false ≡ is_encoding m
        unfolding is_tidy
        not_tidy h = rw (eq-eqb (length m) layout_length long, ← ne, le-leb n declaration_limit few, ← te, le-leb t row_limit fit, ← ee, lt-leb e string_limit h) at (tidy_exact m all)

        pub spare_decides : e ≤ string_limit → (r : Bool) → r ≡ spare_zero m n t e → r ≡ is_encoding m
        unfolding is_tidy
        spare_decides h r p = p ∙ (rw (eq-eqb (length m) layout_length long, ← ne, le-leb n declaration_limit few, ← te, le-leb t row_limit fit, ← ee, le-leb e string_limit h) at (tidy_exact m all))
