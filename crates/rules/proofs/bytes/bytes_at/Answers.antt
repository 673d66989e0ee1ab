-- `rules::bytes::bytes_at` meets its contract: a value ends behind its first byte.
-- Assumes nothing.
use Rattle.view.proofs.Laws.{end_ahead}
use native.Mathlib.Omega.{arith}
use Rattle.rules.proofs.bytes.bytes_at.Goals as goal

pub overflow_sub-result : goal.overflow_sub-result
overflow_sub-result c = let z = end_ahead c.args.text.now c.args.at in omega arith
