-- `view::members::key_number` meets its contract: as it stands in the text, or copied.
-- Assumes nothing.
use mathlib.Core.Path.{ap, ◌∙◌}
use mathlib.Core.List.{List}
use Prim.Native.Nat.{ℕ}
use native.Mathlib.Omega.{arith}
use Rattle.view.specs.Members.{key_number}
use Rattle.view.proofs.KeyNumber.{long_none, copied}
use Rattle.view.proofs.members.key_number.Goals as goal

pub returns-in-Some : goal.returns-in-Some
returns-in-Some c = c.number_of.ensures ∙ ap (λ (l : List ℕ). key_number l) c.in-Some.ensures.string

pub returns-then-n-gt16 : goal.returns-then-n-gt16
returns-then-n-gt16 c = long_none _ (omega arith)

pub returns : goal.returns
returns c = c.number_of-2.ensures ∙ ap (λ (l : List ℕ). key_number l) (copied _ _ c.read_copy-n.ensures.0 c.read_copy-n.ensures.1 c.if-n-gt16.false)
