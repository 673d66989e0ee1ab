-- `walk::turns::datum` meets its contract, by the kind of the row.
-- Assumes nothing.
use Rattle.std.proofs.Common.{sym, ap, ◌∙◌, rules, Ok}
use mathlib.Core.Logic.{⊎_elim}
use Rattle.walk.proofs.LeafLaws.{plain_kind, plains}
use Rattle.walk.proofs.DatumLaws.{reference_to, field_to, array_blocks, map_blocks}
use borrow.Enum.Refused.{opened}
use denote.Enum.Declared.{tag_of}
use Rattle.row.specs.contracts.kind.Kind.{the_type}
use Rattle.walk.proofs.turns.datum.Goals as goal

pub record_at-requires : goal.record_at-requires
record_at-requires c = (c.requires.0, c.requires.1, c.requires.2, sym c.kind_at-kind.ensures ∙ c.in-Record.is, c.requires.6, c.requires.5, c.requires.8)

pub branch-mem-requires : goal.branch-mem-requires
branch-mem-requires c = (c.requires.0, c.requires.1, c.requires.2, sym c.kind_at-kind.ensures ∙ c.in-Union.is, c.requires.4, c.requires.7, c.requires.8.at_bound, c.requires.9)

pub symbol-requires : goal.symbol-requires
symbol-requires c = (c.requires.0, c.requires.1, c.requires.2, sym c.kind_at-kind.ensures ∙ c.in-Enum.is, c.requires.4, c.requires.8.at_bound)

pub returns-in-Reference : goal.returns-in-Reference
returns-in-Reference c = (reference_to _ _ _ _ _ _ _ c.requires.2 c.kind_at-kind.ensures c.requires.8 c.requires.9 c.in-Reference.is c.requires.1 c.definition.ensures.0 c.definition.ensures.1 (ap Ok c.moved.ensures), c.definition.ensures.2, c.requires.4)

pub returns-in-Record : goal.returns-in-Record
returns-in-Record c = (c.record_at.ensures _ c.requires.9, c.requires.3, c.requires.4)

pub returns-in-Field : goal.returns-in-Field
returns-in-Field c = (field_to _ _ _ _ _ _ _ c.requires.2 c.kind_at-kind.ensures c.requires.8 c.requires.9 c.in-Field.is c.requires.1 c.requires.7 c.first_part.ensures c.given.ensures.1 (ap Ok c.given.ensures.0), c.requires.3, c.requires.4)

pub returns-in-Union : goal.returns-in-Union
returns-in-Union c = (c.branch-mem.ensures.0 _ c.requires.8, c.requires.3, c.branch-mem.ensures.1)

pub returns-in-Enum : goal.returns-in-Enum
returns-in-Enum c = (c.symbol.ensures.0 _ _ c.requires.8 c.requires.9, c.requires.3, c.symbol.ensures.1)

pub returns-in-Array : goal.returns-in-Array
returns-in-Array c =
    let t = c.header.ensures _ _ _ c.requires.9 in (
      ⊎_elim (λ e. array_blocks _ _ _ _ _ _ _ c.requires.2 c.kind_at-kind.ensures c.requires.8 c.requires.9 c.requires.5 t e)
          (λ e. map_blocks _ _ _ _ _ _ _ c.requires.2 c.kind_at-kind.ensures c.requires.8 c.requires.9 c.requires.5 t e) c.in-Array.is,
      c.requires.3,
      c.requires.4,
    )

pub returns-in_default : goal.returns-in_default
returns-in_default c = (c.plain.ensures _ _ _ _ _ c.requires.2 c.kind_at-kind.ensures c.size_at.ensures (plain_kind _ (opened {ks = plains} {x = tag_of the_type c.kind_at-kind.result} (search rules))) c.requires.8 c.requires.9, c.requires.3, c.requires.4)
