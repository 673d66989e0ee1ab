-- `script::hex::all_hex` meets its contract.
-- Assumes nothing.
use Rattle.std.proofs.Common.{rules, tests}
use Rattle.std.proofs.lemmas.Iterator.{YieldsList-from_slice}
use Rattle.std.proofs.lemmas.Iterator.Search.{all_from_yields_List}
use Rattle.script.specs.Hex.{is_hex}
use Rattle.script.proofs.hex.all_hex.Goals as goal

pub returns : goal.returns
returns c = all_from_yields_List (λ b. is_hex b) _ _ _ c.all.ensures.ran (YieldsList-from_slice c.args.word.now cc) (λ x b q k. search (rules, tests))
