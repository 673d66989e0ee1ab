-- `view::table::keep` meets its contract.
-- Assumes nothing.
use mathlib.Core.Path.{sym}
use native.Mathlib.Omega.{arith}
use lib.Seq.{set_out}
use Rattle.view.proofs.table.keep.Goals as goal

pub returns-else-depth-lt-NESTING : goal.returns-else-depth-lt-NESTING
returns-else-depth-lt-NESTING c = sym (set_out c.args.kept.now _ _ (omega arith))
