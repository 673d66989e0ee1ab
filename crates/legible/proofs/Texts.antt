-- The text of each row of a declaration is a value, nested as its rows say.
-- Assumes nothing.
use mathlib.Core.Path.{◌≡◌, subst}
use mathlib.Core.Bool.{true}
use mathlib.Core.List.{List, [], ◌∷◌, ◌++◌, map}
use Prim.Native.Nat.{ℕ, zero, suc, ◌+◌, ◌-◌, ◌≤◌, ◌<◌}
use native.Mathlib.Omega.{arith}
use lib.ListN.{length}
use Rattle.ground.proofs.Laws.{never}
use Rattle.row.specs.Rows.{Row}
use Rattle.row.specs.declared.kind.Kind.{Kind}
use Rattle.resolve.specs.Rules.{good_rows, is_declaration}
use Rattle.canonical.specs.Pieces.{opening, closing}
use Rattle.canonical.specs.Canonical.{is_written, parts_of, listed, text_of, canonical_of}
use Rattle.grammar.specs.Grammar.{value}
use Rattle.legible.specs.Nesting.{brackets, most, nesting_of, nesting}
use Rattle.legible.proofs.Values.{Each, nil, cons}
use Rattle.legible.proofs.Parts as P
use Rattle.legible.proofs.Parts.{Starts, Good, good_row_lem, schema_written, declared_good}
use Rattle.legible.proofs.Pieces.{text_in, row_value}
use Rattle.legible.proofs.Names.{name_chars}

-- with n rows under each other the text is a value
abbrev Texts : ℕ → Type 0
Texts n =
    (r : Row) (rows : List Row) → is_written r.kind ≡ true → good_rows (r ∷ rows) ≡ true → length rows < n
    → (m : ℕ) → nesting_of n (r ∷ rows) ≤ m → value m (text_of n (r ∷ rows))

each : (n j d m : ℕ) → Texts n → j ≤ n → {ks : List Kind} {ps : List (List Row)} → Starts j d ks ps → most (map (nesting_of n) ps) ≤ m → Each (value m) ks (map (text_of n) ps)
unfolding most
each n j d m f h P.nil l = nil
each n j d m f h (P.cons r rows p q w e g z) l = cons (text_of n (r ∷ rows)) (f r rows w e (omega arith) m (omega arith)) (each n j d m f h z (omega arith))

text_value : (n : ℕ) → Texts n
unfolding text_of nesting_of
text_value zero r rows w e h m l = absurd (omega arith)
text_value (suc n) r rows w e h m l =
    let g : Good r rows = good_row_lem r rows e in
    let b = brackets r.kind in
    let i : b + (m - b) ≡ m = omega arith in
    subst (λ (x : ℕ). value x (opening r.kind r.text r.size ++ (listed (map (text_of n) (parts_of r.depth rows)) ++ closing r.kind))) i
    (row_value r.text r.size (m - b) (each n (length rows) (r.depth + 1) (m - b) (text_value n) (omega arith) g.parts (omega arith)) r.kind w (name_chars r.text (text_in r.kind r.text g.text)) g.size g.fit)

pub canonical_value : (rows : List Row) → is_declaration rows ≡ true → (m : ℕ) → nesting rows ≤ m → value m (canonical_of rows)
unfolding is_declaration canonical_of nesting
canonical_value [] e m l = never e
canonical_value (r ∷ rows) e m l =
    let z = declared_good r rows e in
    text_value (suc (length rows)) r rows (schema_written r.kind z.0) z.1 (omega arith) m l
