-- `canonical::pieces::fixed` meets its contract: the name, then the size into the part that is left.
-- Assumes nothing.
use native.Mathlib.Omega.{arith}
use Rattle.canonical.proofs.PieceLaws.{fixed_text, fixed_fits}
use Rattle.canonical.proofs.WriteLaws.{wrote_then, wrote_eq, wrote_lent}
use Rattle.canonical.proofs.pieces.fixed.Goals as goal

pub overflow_add-result : goal.overflow_add-result
overflow_add-result c = omega (arith, fixed_fits c.args.name.now _ _ _ c.named-at.ensures.end c.write_decimal.ensures.end c.requires)

pub returns : goal.returns
returns c = wrote_eq (fixed_text _ _) (wrote_then c.named-at.ensures (wrote_lent _ _ _ _ _ _ c.min-from.ensures c.write_decimal.ensures))
