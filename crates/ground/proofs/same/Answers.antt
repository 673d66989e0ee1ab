-- `ground::same` meets its contract: of the bytes from the last on either all are the same or one differs.
-- Assumes nothing.
use mathlib.Core.Path.{◌≡◌}
use mathlib.Core.Bool.{false}
use native.Mathlib.Omega.{arith}
use lib.ListN.{length}
use borrow.Author.Rules.{rules}
use borrow.Author.Tests.{ne_eqb}
use Rattle.std.proofs.iter.runs.Made.{chains}
use Rattle.ground.specs.Bytes.{same}
use Rattle.ground.proofs.Laws.{same_unlike}
use Rattle.ground.proofs.Loops.{same_told}
use Rattle.ground.proofs.same.Goals as goal

pub returns-then-a-b : goal.returns-then-a-b
returns-then-a-b c = same_told c.args.a.now c.args.b.now _ (omega arith) (search (rules, chains))

pub returns-else-a-b : goal.returns-else-a-b
returns-else-a-b c =
    let e : same c.args.a.now c.args.b.now ≡ false = same_unlike c.args.a.now c.args.b.now c.if-a-b.false in
    rw (ne_eqb (length c.args.a.now) (length c.args.b.now) c.if-a-b.false, e)
