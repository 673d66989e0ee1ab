-- `values::members::under_key` meets its contract: what will be found is the answer.
-- Assumes nothing.
use Rattle.values.proofs.MemberLaws.{seek_start, seek_turn, seek_end}
use Rattle.view.proofs.Laws.{pass_less}
use Rattle.values.proofs.members.under_key.Goals.{then-strings_same, else-strings_same}
use Rattle.values.proofs.members.under_key.Goals as goal

pub loop-entry-init : goal.loop-entry-init
loop-entry-init c = seek_start _ _ _ c.first_member-entry.ensures

pub returns : goal.returns
returns c = seek_end _ _ _ c.loop-entry.invariant c.in_default.is

pub loop-entry-smaller : goal.loop-entry-smaller
loop-entry-smaller c = pass_less _ c.loop-entry.invariant.true_entry c.in-Some.is c.next_member-entry.ensures

pub loop-entry-preserved : goal.loop-entry-preserved
loop-entry-preserved c = seek_turn _ _ _ c.loop-entry.invariant c.in-Some.is c.strings_same.ensures (elim c.if-strings_same.branch [ then-strings_same w ↦ rw (w.if-strings_same.true) w.found-is | else-strings_same w ↦ rw (w.if-strings_same.false) w.found-is ]) c.next_member-entry.ensures
