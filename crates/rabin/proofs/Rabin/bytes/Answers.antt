-- `rabin::Rabin::bytes` meets its contract.
-- Assumes nothing.
use mathlib.Core.Path.{◌∙◌}
use native.Mathlib.Omega.{arith}
use borrow.Author.Rules.{sfits_of}
use mir.Syntax.{w64}
use mir.Facts.{to_z-of_z}
use Rattle.rabin.proofs.Digits.{eight_bytes}
use Rattle.rabin.proofs.Rabin.bytes.Goals as goal

pub returns : goal.returns
returns c = cc (to_z-of_z {w = w64} {z = c.args.self.state} (sfits_of (omega arith))) ∙ eight_bytes _
