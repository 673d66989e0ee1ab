-- `declare::sequence::all_space` meets its contract.
-- Assumes nothing.
use Rattle.std.proofs.Common.{rules, tests}
use Rattle.std.proofs.lemmas.Iterator.{YieldsList-from_slice}
use Rattle.std.proofs.lemmas.Iterator.Search.{all_from_yields_List}
use Rattle.json_scan.specs.Json.{is_space}
use Rattle.declare.proofs.sequence.all_space.Goals as goal

pub returns : goal.returns
returns c = all_from_yields_List (λ b. is_space b) _ _ _ c.all.ensures.ran (YieldsList-from_slice c.args.s.now cc) (λ x b q k. search (rules, tests))
