-- `canonical::pieces::quoted` meets its contract: three texts one behind the other.
-- Assumes nothing.
use Rattle.canonical.proofs.WriteLaws.{wrote_then}
use Rattle.canonical.proofs.pieces.quoted.Goals as goal

pub returns : goal.returns
returns c = wrote_then c.put-a.ensures (wrote_then c.put-b.ensures c.put.ensures)
