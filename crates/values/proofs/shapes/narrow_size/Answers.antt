-- `values::shapes::narrow_size` meets its contract: what is left of the string is narrow where all of it is, and those that were counted and those that are
-- left are all.
-- Assumes nothing.
use mathlib.Core.Path.{ap}
use native.Mathlib.Omega.{arith}
use Rattle.values.proofs.ValueLaws.{narrow_all, narrow_not, narrow_end, narrow_stop, narrow_on, left_less, characters_end, characters_same, characters_more, characters_bound}
use Rattle.view.proofs.Laws.{read_within}
use Rattle.values.specs.Values.{characters, is_narrow}
use Rattle.values.proofs.shapes.narrow_size.Goals as goal

pub loop-b-init : goal.loop-b-init
loop-b-init c = (c.opening-c.ensures.1, ap is_narrow c.opening-c.ensures.0, omega (arith, ap characters c.opening-c.ensures.0))

pub next_byte-requires : goal.next_byte-requires
next_byte-requires c = c.loop-b.invariant.0

pub returns : goal.returns
returns c = narrow_all _ _ (narrow_end c.next_byte.ensures c.in_default.is c.loop-b.invariant.1) (characters_end c.next_byte.ensures c.in_default.is _ c.loop-b.invariant.2)

pub returns-then-b-ge196 : goal.returns-then-b-ge196
returns-then-b-ge196 c = narrow_not _ (narrow_stop c.next_byte.ensures c.in-Some.is c.if-b-ge196.true c.loop-b.invariant.1)

pub loop-b-smaller-then-goes_on : goal.loop-b-smaller-then-goes_on
loop-b-smaller-then-goes_on c = left_less c.next_byte.ensures c.in-Some.is

pub loop-b-preserved-then-goes_on : goal.loop-b-preserved-then-goes_on
loop-b-preserved-then-goes_on c = (read_within c.next_byte.ensures c.in-Some.is, narrow_on c.next_byte.ensures c.in-Some.is c.if-b-ge196.false c.loop-b.invariant.1, characters_same c.next_byte.ensures c.in-Some.is c.goes_on.ensures _ c.loop-b.invariant.2 c.if-goes_on.true)

pub overflow_add-n : goal.overflow_add-n
overflow_add-n c = omega (arith, characters_more c.next_byte.ensures c.in-Some.is c.goes_on.ensures _ c.loop-b.invariant.2 c.if-goes_on.false, characters_bound c.args.text.now c.args.at)

pub loop-b-smaller : goal.loop-b-smaller
loop-b-smaller c = left_less c.next_byte.ensures c.in-Some.is

pub loop-b-preserved : goal.loop-b-preserved
loop-b-preserved c = (read_within c.next_byte.ensures c.in-Some.is, narrow_on c.next_byte.ensures c.in-Some.is c.if-b-ge196.false c.loop-b.invariant.1, characters_more c.next_byte.ensures c.in-Some.is c.goes_on.ensures _ c.loop-b.invariant.2 c.if-goes_on.false)
