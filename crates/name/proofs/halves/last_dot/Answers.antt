-- `name::halves::last_dot` meets its contract. Assumes nothing.
use borrow.Author.Rules.{rules}
use Rattle.std.proofs.iter.runs.Made.{chains}
use Rattle.name.proofs.halves.Dots.{last_told}
use Rattle.name.proofs.halves.last_dot.Goals as goal

pub returns : goal.returns
returns c = last_told c.args.s.now _ (search (rules, chains))
