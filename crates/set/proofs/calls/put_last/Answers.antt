-- `set::calls::put_last` meets its contract.
-- Assumes nothing.
use mathlib.Core.Path.{refl, sym, ◌∙◌}
use Rattle.set.proofs.Places.{is_long}
use Rattle.set.proofs.Accepts.{joined_last}
use Rattle.set.proofs.CallLaws.{copied_asks, copied_settled}
use Rattle.set.proofs.calls.put_last.Goals as goal

pub asks_to_fit-requires : goal.asks_to_fit-requires
asks_to_fit-requires c = c.requires.2.drafted.long

pub returns-then-not-asks_to_fit : goal.returns-then-not-asks_to_fit
returns-then-not-asks_to_fit c = joined_last _ _ _ c.asks_to_fit.ensures c.if-not-asks_to_fit.true _ c.join.ensures

pub append-a-requires : goal.append-a-requires
append-a-requires c = let h = copied_asks _ c.requires.0 _ refl c.copy.ensures c.requires.1 in (h.0, h.1, c.requires.2)

pub settle-requires : goal.settle-requires
settle-requires c = is_long _ c.requires.0 ∙ sym (c.append-a.auto.out ∙ is_long _ (copied_asks _ c.requires.0 _ refl c.copy.ensures c.requires.1).0)

pub returns : goal.returns
returns c = copied_settled _ c.requires.0 _ refl c.copy.ensures _ c.append-a.ensures c.settle.ensures
