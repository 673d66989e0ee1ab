-- `form::forms::word_kind` meets its contract.
-- Assumes nothing.
use mathlib.Core.Path.{◌∙◌, sym, ap}
use native.Mathlib.Omega.{arith}
use Rattle.form.proofs.Words.{kind_of_long}
use Rattle.form.proofs.Written.{copied_fit}
use Rattle.form.specs.Forms.{word_kind}
use Rattle.view.specs.Strings.{string_at}
use Rattle.form.proofs.forms.word_kind.Goals as goal

pub returns-in-Some : goal.returns-in-Some
returns-in-Some c = c.kind_of.ensures ∙ ap word_kind c.in-Some.ensures.string

pub returns-then-n-gt16 : goal.returns-then-n-gt16
returns-then-n-gt16 c = sym (kind_of_long (string_at c.args.text.now c.args.at) (omega arith))

pub returns : goal.returns
returns c = c.kind_of-2.ensures ∙ ap word_kind (copied_fit (string_at c.args.text.now c.args.at) _ c.string_copy-n.ensures (omega arith)).front
