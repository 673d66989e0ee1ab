-- How long a text is, that it needs no more rows than stand under its first one, and no more fuel than there are rows.
-- Assumes nothing.
use mathlib.Core.Path.{◌≡◌, refl, ap}
use mathlib.Core.Bool.{Bool, true, false, cond, ◌&&◌}
use mathlib.Core.List.{List, [], ◌∷◌, ◌++◌, map}
use Prim.Native.Nat.{ℕ, zero, suc, ◌+◌, ◌*◌, ◌≤◌}
use native.Mathlib.Omega.{arith}
use lib.Dec.{eqb, ltb}
use lib.ListN.{length, length-append}
use borrow.Author.Tests.{le-ltb, ltb-true, ltb-false, eqb-true}
use Rattle.ground.specs.Ascii.{ascii}
use Rattle.ground.proofs.Laws.{and_true}
use Rattle.row.specs.Rows.{Row, strings_of, texts}
use Rattle.row.proofs.RowLaws.{length_strings}
use Rattle.row.specs.declared.kind.Kind.{Kind}
use Rattle.row.specs.declared.kind.Kind.TheVariants.{Null, Boolean, Int, Long, Float, Double, Bytes, String, Reference, Array, Map, Union, Record, Enum, Fixed, Field, Symbol, Alias, FieldAlias}
use Rattle.resolve.specs.Rules.{under}
use Rattle.canonical.specs.Decimal.{decimal}
use Rattle.canonical.specs.Pieces.{opening, closing}
use Rattle.canonical.specs.Canonical.{is_written, starts_at, parts_of, listed, text_of}
use Rattle.canonical.proofs.DecimalLaws.{decimal_short}
use Rattle.canonical.specs.Walk.{row_cost}

-- ---- one row

own_length : (k : Kind) (s : List ℕ) (n : ℕ) → length (opening k s n) + length (closing k) ≤ 63 + length s
unfolding opening closing
own_length Null s n = omega arith
own_length Boolean s n = omega arith
own_length Int s n = omega arith
own_length Long s n = omega arith
own_length Float s n = omega arith
own_length Double s n = omega arith
own_length Bytes s n = omega arith
own_length String s n = omega arith
own_length Reference s n = omega (arith, length-append s (ascii "\""))
own_length Array s n = omega arith
own_length Map s n = omega arith
own_length Union s n = omega arith
own_length Record s n = omega (arith, length-append (s ++ ascii "\"") (ascii ",\"type\":\"record\",\"fields\":["), length-append s (ascii "\""))
own_length Enum s n = omega (arith, length-append (s ++ ascii "\"") (ascii ",\"type\":\"enum\",\"symbols\":["), length-append s (ascii "\""))
own_length Fixed s n = omega (arith, length-append (s ++ ascii "\"") (ascii ",\"type\":\"fixed\",\"size\":" ++ decimal n), length-append s (ascii "\""), decimal_short n)
own_length Field s n = omega (arith, length-append (s ++ ascii "\"") (ascii ",\"type\":"), length-append s (ascii "\""))
own_length Symbol s n = omega (arith, length-append s (ascii "\""))
own_length Alias s n = omega arith
own_length FieldAlias s n = omega arith

-- ---- many rows: each stands under one row only

-- what rows can cost
pub cost : List Row → ℕ
cost rows = row_cost * length rows + length (texts rows)

cost_none : cost [] ≡ 0
unfolding cost texts
cost_none = refl

cost_cons : (r : Row) (rows : List Row) → cost (r ∷ rows) ≡ row_cost + length r.text + length r.default + cost rows
unfolding cost texts
cost_cons r rows = omega (arith, length-append (strings_of r) (texts rows), length_strings r)

listed_longer : (p : List ℕ) (ps : List (List ℕ)) → length (listed (p ∷ ps)) ≤ length p + 1 + length (listed ps)
unfolding listed
listed_longer p [] = omega arith
listed_longer p (q ∷ ps) = omega (arith, length-append p (ascii "," ++ listed (q ∷ ps)))

-- the length of the texts of the parts at depth d
parts_length : ℕ → ℕ → List Row → ℕ
parts_length n d rows = length (listed (map (text_of n) (starts_at d rows)))

-- a row's text, and with it the rows under it
Bounded : ℕ → Type 0
Bounded n = (r : Row) (rows : List Row) → length (text_of n (r ∷ rows)) ≤ 63 + length r.text + cost (under r.depth rows)

module _ (n : ℕ) (h : Bounded n) (d : ℕ) where
  parts_bound : (rows : List Row) → cost (under d rows) + parts_length n d rows ≤ cost rows
  unfolding Bounded parts_length starts_at under listed
  parts_bound [] = omega (arith, cost_none)
  parts_bound (r ∷ rows) = go (ltb d r.depth) refl (eqb r.depth d && is_written r.kind) refl (parts_bound rows)
    where
      go : (x : Bool) → ltb d r.depth ≡ x → (y : Bool) → (eqb r.depth d && is_written r.kind) ≡ y → cost (under d rows) + parts_length n d rows ≤ cost rows
          → cost (cond x (r ∷ under d rows) []) + length (listed (map (text_of n) (cond y ((r ∷ rows) ∷ starts_at d rows) (starts_at d rows)))) ≤ cost (r ∷ rows)
      go true e true f k =
          let l = ltb-true d r.depth e in
          let q = eqb-true r.depth d (and_true (eqb r.depth d) _ f).0 in
          absurd (omega arith)
      go false e true f k =
          let q = eqb-true r.depth d (and_true (eqb r.depth d) _ f).0 in
          let z : cost (under r.depth rows) ≡ cost (under d rows) = ap (λ (i : ℕ). cost (under i rows)) q in
          omega (arith, h r rows, z, cost_none, cost_cons r rows, listed_longer (text_of n (r ∷ rows)) (map (text_of n) (starts_at d rows)))
      go true e false f k = omega (arith, cost_cons r rows, cost_cons r (under d rows))
      go false e false f k = omega (arith, cost_none, cost_cons r rows)

text_bound : (n : ℕ) → Bounded n
unfolding Bounded text_of parts_of parts_length
text_bound zero r rows = omega arith
text_bound (suc n) r rows =
    let d = r.depth in
    let inner : List ℕ = listed (map (text_of n) (starts_at (d + 1) (under d rows))) in
    let k = parts_bound n (text_bound n) (d + 1) (under d rows) in
    omega (arith, own_length r.kind r.text r.size, length-append (opening r.kind r.text r.size) (inner ++ closing r.kind), length-append inner (closing r.kind), k)

under_bound : (d : ℕ) (rows : List Row) → cost (under d rows) ≤ cost rows
under_bound d rows = omega (arith, parts_bound 0 (text_bound 0) d rows)

-- A TEXT IS NO LONGER than `row_cost` bytes for each row, and its strings
pub text_short : (n : ℕ) (rows : List Row) → length (text_of n rows) ≤ row_cost * length rows + length (texts rows)
unfolding text_of cost Bounded
text_short zero rows = omega arith
text_short (suc n) [] = omega arith
text_short (suc n) (r ∷ rows) = omega (arith, text_bound (suc n) r rows, under_bound r.depth rows, cost_cons r rows)

-- ---- a text needs no more rows than stand under its first one

pub under_under : (d e : ℕ) (rows : List Row) → d ≤ e → under e (under d rows) ≡ under e rows
unfolding under
under_under d e [] h = refl
under_under d e (r ∷ rows) h = go (ltb d r.depth) refl (under_under d e rows h)
  where
    go : (x : Bool) → ltb d r.depth ≡ x → under e (under d rows) ≡ under e rows → under e (cond x (r ∷ under d rows) []) ≡ cond (ltb e r.depth) (r ∷ under e rows) []
    go true p k = ap (λ (l : List Row). cond (ltb e r.depth) (r ∷ l) []) k
    go false p k = let l = ltb-false d r.depth p in rw (le-ltb e r.depth (omega arith))

pub text_cut : (n d : ℕ) (r : Row) (rows : List Row) → d ≤ r.depth → text_of n (r ∷ under d rows) ≡ text_of n (r ∷ rows)
unfolding text_of parts_of
text_cut zero d r rows h = refl
text_cut (suc n) d r rows h = rw (under_under d r.depth rows h)
