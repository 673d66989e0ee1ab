-- `schema::fields::kept_check` meets its contract.
-- Assumes nothing.
use Rattle.schema.proofs.Leaves.{spans, kept_none, kept_long, kept_short}
use Rattle.schema.proofs.fields.kept_check.Goals as goal

pub returns-in_default : goal.returns-in_default
returns-in_default c = kept_none _ c.in_default.is

pub overflow_sub-stop : goal.overflow_sub-stop
overflow_sub-stop c = (spans _ c.in-Some.is c.requires.0 c.end-stop.ensures).0

pub returns-then-stop-v-gt-LONGEST : goal.returns-then-stop-v-gt-LONGEST
returns-then-stop-v-gt-LONGEST c = kept_long _ c.in-Some.is c.requires.0 c.end-stop.ensures c.if-stop-v-gt-LONGEST.true

pub returns : goal.returns
returns c = kept_short _ c.in-Some.is c.requires.0 c.end-stop.ensures c.if-stop-v-gt-LONGEST.false
