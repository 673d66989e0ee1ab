-- `json_scan::hex` meets its contract. Assumes nothing.
use mathlib.Core.Path.{refl, sym, ap, ◌∙◌}
use mathlib.Core.Bool.{Bool}
use Rattle.ground.proofs.Laws.{byte_at_lem}
use Rattle.json_scan.specs.Json.{is_hex}
use Rattle.json_scan.specs.Meets.{took}
use Rattle.json_scan.proofs.Readers.{lt_of_class}
use Rattle.json_scan.proofs.escape.hex.Goals as goal

pub take-requires : goal.take-requires
take-requires c = λ e. lt_of_class is_hex refl c.args.text.now c.args.at (ap is_hex (sym ((c.byte_at-b.ensures ∙ byte_at_lem _ _))) ∙ sym c.is_hex-ok.ensures ∙ e)

pub returns : goal.returns
returns c = c.take.ensures ∙ ap (λ (x : Bool). took x c.args.at) (c.is_hex-ok.ensures ∙ ap is_hex ((c.byte_at-b.ensures ∙ byte_at_lem _ _)))
