-- `canonical::calls::fingerprint` meets its contract: a refusal, or the fingerprint of the text.
-- Assumes nothing.
use mathlib.Core.Path.{ap, ◌∙◌}
use lib.IntN.{ℤ}
use mir.Facts.{to_z-of_z}
use mir.Syntax.{w64}
use borrow.Author.Rules.{sfits_of}
use Rattle.std.specs.Prelude.{Ok}
use Rattle.std.proofs.lemmas.Result.{err_from_is_err_and}
use Rattle.canonical.specs.Calls.{numbers_of_print}
use Rattle.canonical.proofs.CallLaws.{print_refused, print_found}
use Rattle.canonical.proofs.calls.fingerprint.Goals as goal

pub returns-in_err-found : goal.returns-in_err-found
returns-in_err-found c =
    let p = err_from_is_err_and c.from_residual.result c.from_residual.ensures.1 in
    rw (p.1, p.2) (print_refused _ _ c.in_err-found.ensures)

pub returns : goal.returns
returns c =
    ap (λ (f : ℤ). numbers_of_print (Ok f)) (to_z-of_z {w = w64} (sfits_of c.print_of.type_inv))
    ∙ print_found _ _ c.in_ok-found.ensures.0 c.in_ok-found.ensures.1 _ c.print_of.ensures.0
