-- Parts of the input in a buffer.
-- Assumes nothing.
use Rattle.std.specs.Prelude.{ℕ, ◌≤◌}
use Rattle.script.specs.declared.input.Part.{Part}

-- the part, and what is left, lie within the first n bytes
abbrev pub Within : ℕ → Part → Type 0
Within n p = (p.«from» ≤ p.to) × (p.to ≤ n) × (p.next ≤ p.end) × (p.end ≤ n)
