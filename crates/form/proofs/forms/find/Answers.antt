-- `form::forms::find` meets its contract: the form of the schema that is left to look at is the whole one's.
-- Assumes nothing.
use Prim.Native.Nat.{◌-◌, ◌+◌}
use mathlib.Core.Path.{◌≡◌}
use native.Mathlib.Omega.{arith}
use Rattle.form.specs.Forms.{most_nested}
use Rattle.form.proofs.Shapes.{find_missing, find_nested, find_object, find_other, find_out}
use Rattle.form.proofs.forms.find.Goals as goal

pub returns-then-not-is_object : goal.returns-then-not-is_object
returns-then-not-is_object c = find_other _ _ _ c.loop.invariant (omega arith) c.is_object.ensures c.if-not-is_object.true c.other_form.ensures

pub returns-in_default : goal.returns-in_default
returns-in_default c = find_missing _ _ _ c.loop.invariant (omega arith) c.is_object.ensures c.if-not-is_object.false c.members_at-members.ensures c.in_default.is c.wrong.ensures

pub returns-then-is_text : goal.returns-then-is_text
returns-then-is_text c = find_object _ _ _ c.loop.invariant (omega arith) c.is_object.ensures c.if-not-is_object.false c.members_at-members.ensures c.in-Some.is c.is_text.ensures c.if-is_text.true c.object_form-form.ensures

pub loop-preserved : goal.loop-preserved
loop-preserved c =
    let e : most_nested - (c.loop.counter + 1) ≡ most_nested - c.loop.counter - 1 = omega arith in
    rw e (find_nested _ _ _ c.loop.invariant (omega arith) c.is_object.ensures c.if-not-is_object.false c.members_at-members.ensures c.in-Some.is c.is_text.ensures c.if-is_text.false)

pub returns : goal.returns
returns c = find_out _ _ _ c.loop.invariant (omega arith) c.wrong-2.ensures
