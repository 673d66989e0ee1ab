-- `name::qualify::full_name` meets its contract: a law for each of its four ways out. Assumes nothing.
use mathlib.Core.Path.{sym, ◌∙◌}
use native.Mathlib.Omega.{arith}
use Rattle.name.proofs.Laws.{lead_long}
use Rattle.name.proofs.qualify.Kept.{kept_lead, kept_none, kept_written, kept_within}
use Rattle.name.proofs.qualify.full_name.Goals as goal

pub slice_bounds-keep-count : goal.slice_bounds-keep-count
slice_bounds-keep-count c = let h = lead_long _ (sym c.starts_with_dot.ensures ∙ c.if-starts_with_dot.true) in omega arith

pub slice_bounds-keep-start : goal.slice_bounds-keep-start
slice_bounds-keep-start c = let h = lead_long _ (sym c.starts_with_dot.ensures ∙ c.if-starts_with_dot.true) in omega arith

pub returns-then-starts_with_dot : goal.returns-then-starts_with_dot
returns-then-starts_with_dot c = kept_lead _ _ _ _ _ (sym c.starts_with_dot.ensures ∙ c.if-starts_with_dot.true) c.keep.ensures

pub returns-then-namespace-eq0 : goal.returns-then-namespace-eq0
returns-then-namespace-eq0 c = kept_none _ _ _ _ _ (sym c.starts_with_dot.ensures ∙ c.if-starts_with_dot.false) c.if-namespace-eq0.true c.keep-then-namespace-eq0.ensures

pub returns-then-has_dot : goal.returns-then-has_dot
returns-then-has_dot c = kept_written _ _ _ _ _ (sym c.starts_with_dot.ensures ∙ c.if-starts_with_dot.false) (sym c.has_dot.ensures ∙ c.if-has_dot.true) c.keep-then-has_dot.ensures

pub returns : goal.returns
returns c = kept_within _ _ _ _ _ c.if-namespace-eq0.false (sym c.has_dot.ensures ∙ c.if-has_dot.false) c.keep_within.ensures
