-- `json_scan::within` meets its contract. Assumes nothing.
use mathlib.Core.Path.{sym, ap, ◌∙◌}
use mathlib.Core.Bool.{Bool}
use Rattle.ground.proofs.Laws.{byte_at_lem}
use Rattle.json_scan.specs.Json.{inside}
use Rattle.json_scan.specs.Meets.{took}
use Rattle.json_scan.proofs.Readers.{lt_of_class, inside_zero}
use Rattle.json_scan.proofs.step.within.Goals as goal

pub take-requires : goal.take-requires
take-requires c = λ e. lt_of_class (inside c.args.lo c.args.hi) (inside_zero c.args.lo c.args.hi c.requires) c.args.text.now c.args.at (ap (inside c.args.lo c.args.hi) (sym ((c.byte_at-b.ensures ∙ byte_at_lem _ _))) ∙ sym c.inside-ok.ensures ∙ e)

pub returns : goal.returns
returns c = c.take.ensures ∙ ap (λ (x : Bool). took x c.args.at) (c.inside-ok.ensures ∙ ap (inside c.args.lo c.args.hi) ((c.byte_at-b.ensures ∙ byte_at_lem _ _)))
