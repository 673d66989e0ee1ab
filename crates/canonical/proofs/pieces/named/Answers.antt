-- `canonical::pieces::named` meets its contract: four texts one behind the other.
-- Assumes nothing.
use Rattle.canonical.proofs.WriteLaws.{wrote_then}
use Rattle.canonical.proofs.pieces.named.Goals as goal

pub returns : goal.returns
returns c = wrote_then c.put-a.ensures (wrote_then (wrote_then c.put-b.ensures c.put-c.ensures) c.put.ensures)
