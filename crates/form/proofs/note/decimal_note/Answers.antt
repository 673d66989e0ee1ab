-- `form::note::decimal_note` meets its contract.
-- Assumes nothing.
use mathlib.Core.Path.{refl}
use Rattle.form.proofs.Decimal.{note_decimal, note_plain}
use Rattle.form.proofs.note.decimal_note.Goals as goal

pub returns-then-is_decimal : goal.returns-then-is_decimal
returns-then-is_decimal c = note_decimal _ _ _ c.is_decimal.ensures c.if-is_decimal.true c.with_precision.ensures

pub returns : goal.returns
returns c = note_plain _ _ _ c.is_decimal.ensures c.if-is_decimal.false refl
