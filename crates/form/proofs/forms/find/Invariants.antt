-- `form::forms::find` meets its contract: the form of the schema that is left to look at is the whole one's.
-- Assumes nothing.
use mathlib.Core.Path.{◌≡◌}
use Prim.Native.Nat.{◌-◌}
use Rattle.form.specs.Forms.{form_of, form_within, most_nested}
use Rattle.form.proofs.forms.find.Given as goal

abbrev pub invariant-loop : goal.invariant-loop
invariant-loop l = form_within (most_nested - l.counter) l.text l.p ≡ form_of l.text l.at
