-- Decimals over a fixed: what a good row says of its precision.
-- Assumes nothing.
use mathlib.Core.Path.{◌≡◌, sym, ap, ◌∙◌}
use mathlib.Core.Bool.{true, cond, ◌&&◌}
use mathlib.Core.List.{List}
use Prim.Native.Nat.{ℕ, ◌^◌, ◌≤◌}
use lib.Dec.{eqb, leb, ltb}
use borrow.Author.Tests.{leb-true}
use Rattle.ground.proofs.Laws.{and_true}
use Rattle.decimals.specs.Limits.{largest_number, limit_of}
use Rattle.decimals.proofs.Laws.{limit_fits}
use Rattle.row.specs.Rows.{Row}
use Rattle.row.specs.declared.kind.Kind.{Kind}
use Rattle.row.specs.declared.kind.Kind.TheVariants.{Fixed}
use Rattle.resolve.specs.Kinds.{is_kind}
use Rattle.resolve.specs.Rules.{good_precision, good_decimal, good_row}
use Rattle.resolve.proofs.Laws.{numbered, row_numbers_lem}

-- a decimal that holds has a precision
has_precision : (note p s : ℕ) → note ≡ 1 → good_decimal note p s ≡ true → 1 ≤ p
unfolding good_decimal
has_precision note p s e g =
    let h : cond (eqb 1 1) (leb 1 p && leb s p && ltb p (2 ^ 64)) (eqb p 0 && eqb s 0) ≡ true = rw e at g in
    leb-true 1 p (and_true (leb 1 p) (leb s p) (and_true (leb 1 p && leb s p) (ltb p (2 ^ 64)) h).0).0

keeps_limit : (k : Kind) (size p : ℕ) → k ≡ Fixed → good_precision k size p ≡ true → p ≤ limit_of size
unfolding good_precision is_kind
keeps_limit k size p e g = leb-true p (limit_of size) (sym (ap (λ (k : Kind). good_precision k size p) e) ∙ g)

pub row_fits : (r : Row) (rest : List Row) → good_row r rest ≡ true → r.kind ≡ Fixed → r.note ≡ 1 → 10 ^ r.precision ≤ largest_number r.size
row_fits r rest g k n =
    let z = numbered r (row_numbers_lem r rest g) in
    limit_fits r.size r.precision (has_precision r.note r.precision r.scale n z.decimal) (keeps_limit r.kind r.size r.precision k z.precision)
