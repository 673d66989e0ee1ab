-- `json_scan::byte` meets its contract. Assumes nothing.
use mathlib.Core.Path.{sym, ap, ◌∙◌}
use Prim.Native.Nat.{ℕ}
use borrow.Author.Tests.{ne_eqb}
use Rattle.ground.proofs.Laws.{byte_at_lem}
use Rattle.json_scan.specs.Json.{is_byte}
use Rattle.json_scan.specs.Meets.{took}
use Rattle.json_scan.proofs.Readers.{lt_of_class, apart}
use Rattle.json_scan.proofs.step.byte.Goals as goal

pub take-requires : goal.take-requires
take-requires c = λ e. lt_of_class (is_byte c.args.x) (ne_eqb 0 c.args.x (λ z. absurd (apart c.args.x c.requires z))) c.args.text.now c.args.at (ap (is_byte c.args.x) (sym ((c.byte_at-b.ensures ∙ byte_at_lem _ _))) ∙ e)

pub returns : goal.returns
returns c = c.take.ensures ∙ ap (λ (y : ℕ). took (is_byte c.args.x y) c.args.at) ((c.byte_at-b.ensures ∙ byte_at_lem _ _))
