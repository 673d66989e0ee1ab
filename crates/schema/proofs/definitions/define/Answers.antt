-- `schema::definitions::define` meets its contract.
-- Assumes nothing.
use Rattle.std.proofs.lemmas.Result.{err_from_is_err_and}
use Prim.Native.Nat.{◌<◌}
use mathlib.Core.Path.{sym, ◌∙◌, subst}
use Rattle.schema.proofs.Headed.{titled_none, titled_wrong, titled_stop, titled_done}
use Rattle.schema.proofs.Within.{definition_passed, definition_held}
use Rattle.form.proofs.Laws.{named_kept, named_wrong}
use Rattle.row.specs.declared.Entry.{Entry}
use native.Mathlib.Omega.{arith}
use Rattle.schema.proofs.definitions.define.Goals as goal

pub returns-in_default : goal.returns-in_default
returns-in_default c = titled_none _ _ _ _ _ _ _ _ _ c.as_text.ensures c.in_default.is

pub entry-row-requires : goal.entry-row-requires
entry-row-requires c = let h = (definition_passed _ _ _ _ (named_kept _ _ (sym c.in_ok-n.was ∙ c.definition.ensures.0)).0).within in omega arith

pub slice_bounds-put_definition-end : goal.slice_bounds-put_definition-end
slice_bounds-put_definition-end c = let h = (definition_held c.args.text.now c.args.namespace.now c.args.full.now _ c.args.members c.definition.ensures c.in_ok-n.was (omega arith)).room in omega arith

pub put_definition-requires : goal.put_definition-requires
put_definition-requires c = (c.requires.0, (definition_held c.args.text.now c.args.namespace.now c.args.full.now _ c.args.members c.definition.ensures c.in_ok-n.was (omega arith)).long, subst (λ (x : Entry). x.depth < 65535) (sym c.entry-row.ensures) c.requires.1, c.requires.2)

pub returns-in_err-n : goal.returns-in_err-n
returns-in_err-n c =
    let p = err_from_is_err_and c.from_residual.result c.from_residual.ensures.1 in
    rw (p.1, p.2) (titled_wrong _ _ _ _ _ _ _ _ _ c.as_text.ensures c.in-Some.is (named_wrong _ _ (sym c.in_err-n.was ∙ c.definition.ensures.0)))

pub returns-in_err-next : goal.returns-in_err-next
returns-in_err-next c =
    let p = err_from_is_err_and c.from_residual-in_err-next.result c.from_residual-in_err-next.ensures.1 in
    rw (p.1, p.2) (let h = (definition_held c.args.text.now c.args.namespace.now c.args.full.now _ c.args.members c.definition.ensures c.in_ok-n.was (omega arith)) in titled_stop _ _ _ _ _ _ _ _ _ c.as_text.ensures c.in-Some.is h.fine h.front c.entry-row.ensures c.put_definition.ensures c.in_err-next.was)

pub returns : goal.returns
returns c = let h = (definition_held c.args.text.now c.args.namespace.now c.args.full.now _ c.args.members c.definition.ensures c.in_ok-n.was (omega arith)) in titled_done _ _ _ _ _ _ _ _ _ c.as_text.ensures c.in-Some.is h.fine h.front c.entry-row.ensures c.put_definition.ensures c.in_ok-next.was h.room h.front
