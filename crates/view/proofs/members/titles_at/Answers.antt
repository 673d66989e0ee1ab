-- `view::members::titles_at` meets its contract: what will be found is the answer.
-- Assumes nothing.
use Rattle.view.proofs.OnePass.{pass_less}
use Rattle.view.proofs.Titled.{titling_start, titling_turn, titling_end}
use Rattle.view.proofs.members.titles_at.Goals as goal

pub loop-entry-init : goal.loop-entry-init
loop-entry-init c = titling_start _ _ c.first_member-entry.ensures

pub returns : goal.returns
returns c = titling_end _ _ c.loop-entry.invariant c.in_default.is

pub loop-entry-smaller : goal.loop-entry-smaller
loop-entry-smaller c = pass_less _ c.loop-entry.invariant.true_entry c.in-Some.is c.next_member-entry.ensures

pub loop-entry-preserved : goal.loop-entry-preserved
loop-entry-preserved c = titling_turn _ _ c.loop-entry.invariant c.in-Some.is c.title_number-n.ensures c.found_if-name.ensures c.found_if-aliases.ensures c.next_member-entry.ensures
