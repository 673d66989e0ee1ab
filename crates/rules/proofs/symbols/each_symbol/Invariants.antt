-- `rules::symbols::each_symbol` meets its contract: what is left of the check, given what was passed, is the whole one.
-- Assumes nothing.
use mathlib.Core.Path.{◌≡◌}
use mathlib.Core.List.{[], map}
use lib.ListN.{length}
use Rattle.rules.proofs.Listed.{symbols_left}
use Rattle.rules.proofs.Entering.{Marked}
use Rattle.rules.specs.Symbols.{symbols_new}
use Rattle.view.specs.Strings.{string_at}
use Rattle.view.specs.Elements.{elements, elements_at}
use Rattle.rules.proofs.symbols.each_symbol.Given as goal

abbrev pub invariant-loop-spot : goal.invariant-loop-spot
invariant-loop-spot l = (length l.table ≡ length l.initial.table) × Marked l.text l.array l.spot l.table (map (string_at l.text)) (symbols_left l.text) (symbols_new l.text [] (elements l.text l.array))

abbrev pub decreases-loop-spot : goal.decreases-loop-spot
decreases-loop-spot l = length (elements_at l.text l.spot)
