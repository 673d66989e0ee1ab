-- An answer is an enum. Here are document 01's number and values for each of its cases; promises and theorems speak of answers by them.
-- A fingerprint has its numbers in `canonical`, offsets theirs in `summary`, made of the same parts. That they tell the answer: proofs/Laws, `numbers_one`.
-- Assumes nothing.
use Rattle.std.specs.Prelude.{ℕ, Result, Ok, Err}
use Rattle.answer.specs.Numbers.{number_of}
use Rattle.answer.specs.declared.counts.Counts.{Counts}
use Rattle.answer.specs.declared.refusal.Refusal.{Refusal}
use Rattle.answer.specs.declared.numbers.Numbers.{Numbers}

-- accepted: 0, and up to three values
abbrev pub accepted : ℕ → ℕ → ℕ → Numbers
accepted a b c = record { number = 0; first = a; second = b; third = c }

-- refused: the number, the declaration's place, the byte position
abbrev pub refused : ℕ → ℕ → ℕ → Numbers
refused number place at = record { number = number; first = place; second = at; third = 0 }

-- the three counts of a set
abbrev pub of_counts : Counts → Numbers
of_counts c = accepted c.declarations c.rows c.string_bytes

abbrev pub of_refusal : Refusal → Numbers
of_refusal r = refused (number_of r.why) r.place r.at

-- a result, or a refusal
abbrev pub Answer : Type 0 → Type 0
Answer A = Result A Refusal

-- an answer that is one number, as a length or a place
abbrev pub numbers_of_value : Answer ℕ → Numbers
numbers_of_value (Ok n) = accepted n 0 0
numbers_of_value (Err r) = of_refusal r

-- what open and put answer
abbrev pub numbers_of : Answer Counts → Numbers
numbers_of (Ok c) = of_counts c
numbers_of (Err r) = of_refusal r
