-- `row::tidy::is_encoding` meets its contract: each test that fails shows that the bytes are no encoding, and the last one decides.
-- Assumes nothing.
use mathlib.Core.Path.{refl}
use native.Mathlib.Omega.{arith}
use Rattle.row.proofs.TestLaws.{wrong_length, many_declarations, many_rows, not_tidy, spare_decides}
use Rattle.row.proofs.TidyLaws.{all_bytes}
use Rattle.row.proofs.tidy.is_encoding.Goals as goal

pub returns-then-mem-ne-LENGTH : goal.returns-then-mem-ne-LENGTH
returns-then-mem-ne-LENGTH c = wrong_length c.args.mem.now (all_bytes _ (λ i. omega (arith, c.type_inv.mem i))) c.if-mem-ne-LENGTH.true

pub returns-then-n-gt-DECLARATIONS : goal.returns-then-n-gt-DECLARATIONS
returns-then-n-gt-DECLARATIONS c = many_declarations c.args.mem.now (all_bytes _ (λ i. omega (arith, c.type_inv.mem i))) c.if-mem-ne-LENGTH.false _ c.declarations-n.ensures c.if-n-gt-DECLARATIONS.true

pub returns-then-rows-gt-ROWS : goal.returns-then-rows-gt-ROWS
returns-then-rows-gt-ROWS c = many_rows c.args.mem.now (all_bytes _ (λ i. omega (arith, c.type_inv.mem i))) c.if-mem-ne-LENGTH.false _ c.declarations-n.ensures c.if-n-gt-DECLARATIONS.false _ c.rows_before-rows.ensures c.if-rows-gt-ROWS.true

pub returns-in-None : goal.returns-in-None
returns-in-None c = not_tidy c.args.mem.now (all_bytes _ (λ i. omega (arith, c.type_inv.mem i))) c.if-mem-ne-LENGTH.false _ c.declarations-n.ensures c.if-n-gt-DECLARATIONS.false _ c.rows_before-rows.ensures c.if-rows-gt-ROWS.false _ refl c.in-None.ensures

pub returns-in-Some : goal.returns-in-Some
returns-in-Some c = spare_decides c.args.mem.now (all_bytes _ (λ i. omega (arith, c.type_inv.mem i))) c.if-mem-ne-LENGTH.false _ c.declarations-n.ensures c.if-n-gt-DECLARATIONS.false _ c.rows_before-rows.ensures c.if-rows-gt-ROWS.false _ c.in-Some.ensures.0 c.in-Some.ensures.1 _ c.spare_zero.ensures
