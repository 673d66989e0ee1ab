-- `form::forms::object_form` meets its contract.
-- Assumes nothing.
use mathlib.Core.Path.{◌∙◌, sym, ap}
use mathlib.Core.List.{List}
use Prim.Native.Nat.{ℕ}
use native.Mathlib.Omega.{arith}
use Rattle.form.proofs.Words.{form_of_long}
use Rattle.form.proofs.Written.{copied_fit}
use Rattle.form.specs.Forms.{object_form}
use Rattle.view.specs.Strings.{string_at}
use Rattle.form.proofs.forms.object_form.Goals as goal

pub returns-in-Some : goal.returns-in-Some
returns-in-Some c = c.form_of.ensures ∙ ap (λ (w : List ℕ). object_form w c.args.at c.args.typed) c.in-Some.ensures.string

pub returns-then-n-gt16 : goal.returns-then-n-gt16
returns-then-n-gt16 c = sym (form_of_long (string_at c.args.text.now c.args.typed) _ _ (omega arith))

pub returns : goal.returns
returns c = c.form_of-2.ensures ∙ ap (λ (w : List ℕ). object_form w c.args.at c.args.typed) (copied_fit (string_at c.args.text.now c.args.typed) _ c.string_copy-n.ensures (omega arith)).front
