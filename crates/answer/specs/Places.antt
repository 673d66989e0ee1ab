-- A fault of a text becomes the refusal of the declaration at a place.
-- Assumes nothing.
use Rattle.std.specs.Prelude.{ℕ}
use Rattle.answer.specs.declared.refusal.Fault.{Fault}
use Rattle.answer.specs.declared.refusal.Refusal.{Refusal}

abbrev pub placed : Fault → ℕ → Refusal
placed f place = record { why = f.why; place = place; at = f.at }
