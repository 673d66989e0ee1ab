-- `schema::fields::put_field_row` meets its contract.
-- Assumes nothing.
use native.Mathlib.Omega.{arith}
use Rattle.schema.proofs.Leaves.{field_plain, field_with, spans}
use Rattle.schema.proofs.fields.put_field_row.Goals as goal

pub returns-in_default : goal.returns-in_default
returns-in_default c = field_plain _ _ _ _ _ c.in_default.is c.put_string.ensures

pub slice_bounds-put_both-count : goal.slice_bounds-put_both-count
slice_bounds-put_both-count c = (spans _ c.in-Some.is c.requires.2 c.end-stop.ensures).0

pub slice_bounds-put_both-start : goal.slice_bounds-put_both-start
slice_bounds-put_both-start c = let a = (spans _ c.in-Some.is c.requires.2 c.end-stop.ensures).0 in let b = (spans _ c.in-Some.is c.requires.2 c.end-stop.ensures).1 in omega arith

pub slice_bounds-put_both-end : goal.slice_bounds-put_both-end
slice_bounds-put_both-end c = let a = (spans _ c.in-Some.is c.requires.2 c.end-stop.ensures).0 in let b = (spans _ c.in-Some.is c.requires.2 c.end-stop.ensures).1 in omega arith

pub returns : goal.returns
returns c = field_with _ _ _ _ _ c.in-Some.is c.entry-row.ensures c.end-stop.ensures c.put_both.ensures
