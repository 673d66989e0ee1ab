-- `schema::words::put_word` meets its contract.
-- Assumes nothing.
use Rattle.std.specs.Prelude.{eqb, true, false}
use mathlib.Core.Path.{◌≡◌}
use Rattle.row.specs.Kinds.{kind_number}
use Rattle.row.specs.declared.kind.Kind.TheVariants.{Reference}
use Rattle.schema.proofs.Leaves.{word_reference, word_other, word_primitive}
use Rattle.schema.proofs.Did.{did_eq}
use Rattle.schema.proofs.Within.{word_within}
use native.Mathlib.Omega.{arith}
use borrow.Author.Rules.{rules}
use Rattle.schema.proofs.words.put_word.Goals as goal

pub returns-then-eq : goal.returns-then-eq
returns-then-eq c =
    let e : eqb (kind_number c.word_kind-kind.result) (kind_number Reference) ≡ true = search rules in
    did_eq (word_reference _ _ c.word_kind-kind.ensures _ _ _ _ e) c.put_reference.ensures

pub put_primitive-requires : goal.put_primitive-requires
put_primitive-requires c =
    let e : eqb (kind_number c.word_kind-kind.result) (kind_number Reference) ≡ false = search rules in
    let h = word_within _ _ (word_other _ _ c.word_kind-kind.ensures e) in (omega arith, search rules)

pub returns : goal.returns
returns c =
    let e : eqb (kind_number c.word_kind-kind.result) (kind_number Reference) ≡ false = search rules in
    did_eq (word_primitive _ _ c.word_kind-kind.ensures _ _ _ _ e) c.put_primitive.ensures
