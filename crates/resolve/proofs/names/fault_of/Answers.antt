-- `resolve::names::fault_of` meets its contract: what is known of the row's name decides.
-- Assumes nothing.
use mathlib.Core.Path.{◌∙◌, ap, sym}
use native.Mathlib.Omega.{arith}
use Rattle.std.proofs.lemmas.Grind.{common_steps}
use Rattle.resolve.specs.Kinds.{is_kind}
use Rattle.resolve.specs.Resolve.{is_defined}
use Rattle.resolve.proofs.LineLaws.{chain_defined}
use Rattle.resolve.proofs.ResolveLaws.{fault_is, fault_none}
use Rattle.resolve.proofs.names.fault_of.Goals as goal

pub returns-then-not-is_named : goal.returns-then-not-is_named
returns-then-not-is_named c = fault_none _ _ _ (sym (rw c.kind_at-kind.ensures at c.is_named.ensures) ∙ c.if-not-is_named.true)

pub returns-then-is_definition : goal.returns-then-is_definition
returns-then-is_definition c =
    let k = chain_defined _ _ _ _ _ _ c.requires.5 c.is_known-known.ensures ∙ ap (is_defined _) c.string_of.ensures.0 in
    rw (sym (rw c.kind_at-kind.ensures at c.is_definition.ensures) ∙ c.if-is_definition.true, c.if-known.true) at (fault_is _ _ _ _ _ k c.position_at-at.ensures)

pub returns-then-eq : goal.returns-then-eq
unfolding is_kind
returns-then-eq c =
    let k = chain_defined _ _ _ _ _ _ c.requires.5 c.is_known-known.ensures ∙ ap (is_defined _) c.string_of.ensures.0 in
    grind (arith, common_steps, fault_is _ _ _ _ _ k c.position_at-at.ensures)

pub returns : goal.returns
unfolding is_kind
returns c =
    let k = chain_defined _ _ _ _ _ _ c.requires.5 c.is_known-known.ensures ∙ ap (is_defined _) c.string_of.ensures.0 in
    grind (arith, common_steps, fault_is _ _ _ _ _ k c.position_at-at.ensures)
