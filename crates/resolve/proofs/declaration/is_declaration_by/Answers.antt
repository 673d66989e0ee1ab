-- `resolve::declaration::is_declaration_by` meets its contract: its tests are those of a declaration, one after the other.
-- Assumes nothing.
use native.Mathlib.Omega.{arith}
use mathlib.Core.Path.{refl}
use Rattle.std.proofs.lemmas.Bool.Decides.{nat_tests}
use Rattle.resolve.proofs.TreeLaws.{declaration_is}
use Rattle.resolve.proofs.declaration.is_declaration_by.Goals as goal

pub returns-then-climbs_on : goal.returns-then-climbs_on
returns-then-climbs_on c = (grind (arith, nat_tests, declaration_is c.args.mem.now c.args.start c.args.n _ _ refl refl), c.good_rows.ensures.1)

pub returns-else-climbs_on : goal.returns-else-climbs_on
returns-else-climbs_on c = (grind (arith, nat_tests, declaration_is c.args.mem.now c.args.start c.args.n _ _ refl refl), c.requires.2)
