-- `rabin::fingerprint` meets its contract.
-- Assumes nothing.
use borrow.Author.Rules.{sfits_of}
use mir.Facts.{to_z-of_z}
use Rattle.rabin.proofs.fingerprint.Goals as goal

pub returns : goal.returns
returns c = cc (to_z-of_z (sfits_of c.result.type_inv))
