-- `form::spots::first_alias` meets its contract.
-- Assumes nothing.
use Rattle.form.proofs.Places.{aliases_here, aliases_none, aliases_other}
use Rattle.form.proofs.spots.first_alias.Goals as goal

pub returns-in_err-p : goal.returns-in_err-p
returns-in_err-p c = rw c.from_residual.ensures (aliases_none _ _ c.as_array.ensures c.in_err-p.was)

pub returns-then-all_texts : goal.returns-then-all_texts
returns-then-all_texts c = aliases_here _ _ c.as_array.ensures c.in_ok-p.was c.all_texts.ensures c.if-all_texts.true c.first_element.ensures

pub returns : goal.returns
returns c = aliases_other _ _ c.as_array.ensures c.in_ok-p.was c.all_texts.ensures c.if-all_texts.false
