-- The lines of an answer: the word of each kind, and row after row.
-- Assumes nothing.
use mathlib.Core.Path.{◌≡◌, sym, ap}
use mathlib.Core.Bool.{true, false}
use mathlib.Core.List.{List, [], ◌++◌}
use Prim.Native.Nat.{ℕ, suc, ◌+◌, ◌-◌, ◌<◌, ◌≤◌}
use native.Mathlib.Omega.{arith}
use lib.Dec.{eqb, leb}
use lib.ListN.{length}
use borrow.Author.Tests.{eqb-true, leb-true}
use Rattle.ground.proofs.Laws.{and_true}
use Rattle.row.specs.Layout.{row_limit, layout_length}
use Rattle.row.specs.Memory.{entry_at, text_at, default_at}
use Rattle.row.specs.declared.Entry.{Entry}
use Rattle.script.specs.Lines.{row_line, row_lines, has_rows, rows_text}
use Rattle.script.specs.Put.{Put}
use Rattle.script.proofs.Laws.{put_none, put_then, put_is}
use Rattle.script.proofs.HexLaws.{Rest}

pub line_is : {e e' : Entry} {a a' d d' : List ℕ} → e ≡ e' → a ≡ a' → d ≡ d' → row_line e a d ≡ row_line e' a' d'
line_is p q r = λ i. row_line (p i) (q i) (r i)

module _ (m₀ : List ℕ) (at₀ : ℕ) (s₀ mem : List ℕ) (i end : ℕ) (m : List ℕ) (at : ℕ) (inv : Rest m at (row_lines mem (end - i) i) m₀ at₀ s₀) where
  pub rows_turn : (m₁ : List ℕ) (r : ℕ) → i < end → Put m at (row_line (entry_at mem i) (text_at mem i) (default_at mem i)) m₁ r → Rest m₁ r (row_lines mem (end - (i + 1)) (i + 1)) m₀ at₀ s₀
  unfolding row_lines
  rows_turn m₁ r h p m₂ q d =
      let e : end - i ≡ suc (end - (i + 1)) = omega arith in
      let g : row_line (entry_at mem i) (text_at mem i) (default_at mem i) ++ row_lines mem (end - (i + 1)) (i + 1) ≡ row_lines mem (end - i) i = ap (λ (k : ℕ). row_lines mem k i) (sym e) in
      inv m₂ q (put_is g (put_then p d))

  pub rows_end : end ≤ i → Put m₀ at₀ s₀ m at
  unfolding row_lines
  rows_end h =
      let e : 0 ≡ end - i = omega arith in
      inv m at (put_is (ap (λ (k : ℕ). row_lines mem k i) e) put_none)

-- ---- which rows are there

module _ (m : List ℕ) (n i : ℕ) where
  pub rows_there : has_rows m n i ≡ true → (length m ≡ layout_length) × (i + n ≤ row_limit)
  unfolding has_rows
  rows_there e =
      let p = and_true (eqb (length m) layout_length) (leb (i + n) row_limit) e in
      (eqb-true (length m) layout_length p.0, leb-true (i + n) row_limit p.1)

  pub rows_none : has_rows m n i ≡ false → [] ≡ rows_text m n i
  unfolding rows_text
  rows_none e = rw e

  pub rows_all : has_rows m n i ≡ true → row_lines m n i ≡ rows_text m n i
  unfolding rows_text
  rows_all e = rw e
