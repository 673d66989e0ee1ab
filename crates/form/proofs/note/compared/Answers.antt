-- `form::note::compared` meets its contract.
-- Assumes nothing.
use mathlib.Core.Path.{sym, ◌∙◌}
use borrow.Author.Tests.{eq-eqb, le-ltb, lt-ltb, ne_eqb}
use Rattle.form.specs.Notes.{compared}
use Rattle.form.proofs.note.compared.Goals as goal

pub returns-then-precision-eq0 : goal.returns-then-precision-eq0
unfolding compared
returns-then-precision-eq0 c = rw (eq-eqb _ _ c.if-precision-eq0.true) c.noted.ensures

pub returns-then-precision-scale : goal.returns-then-precision-scale
unfolding compared
returns-then-precision-scale c = rw (ne_eqb _ _ c.if-precision-eq0.false, lt-ltb _ _ c.if-precision-scale.true) c.noted-then-precision-scale.ensures

pub returns-then-exceeds : goal.returns-then-exceeds
unfolding compared
returns-then-exceeds c = rw (ne_eqb _ _ c.if-precision-eq0.false, le-ltb _ _ c.if-precision-scale.false, sym c.exceeds.ensures ∙ c.if-exceeds.true) c.noted-then-exceeds.ensures

pub returns : goal.returns
unfolding compared
returns c = rw (ne_eqb _ _ c.if-precision-eq0.false, le-ltb _ _ c.if-precision-scale.false, sym c.exceeds.ensures ∙ c.if-exceeds.false)
