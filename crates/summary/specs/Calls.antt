-- What is answered, in numbers: 0, the place and how many offsets; or the refusal's number, place and position. And the list afterwards.
-- Assumes nothing.
use Rattle.std.specs.Prelude.{ℕ, List, Ok, Err, length}
use Rattle.answer.specs.declared.numbers.Numbers.{Numbers}
use Rattle.answer.specs.declared.refusal.Refusal.{Refusal}
use Rattle.answer.specs.Answers.{accepted, of_refusal, numbers_of_value, Answer}
use Rattle.ground.specs.Bytes.{store}
use Rattle.summary.specs.Summary.{Reading, offsets, refused, Finding, found, nowhere}

-- a declaration's place and how many offsets are in the list, or a refusal
abbrev pub Offsets : Type 0
Offsets = Answer (ℕ × ℕ)

-- the place of a fingerprint, or a refusal
abbrev pub Place : Type 0
Place = Answer ℕ

-- the contracts read an answer by them, for each of its cases; they tell the answer (laws `offsets_one`, `place_one`)
abbrev pub numbers_of_offsets : Offsets → Numbers
numbers_of_offsets (Ok (p, n)) = accepted p n 0
numbers_of_offsets (Err r) = of_refusal r

unfoldable pub reading_of : Reading → Numbers
reading_of (offsets p list) = accepted p (length list) 0
reading_of (refused r) = of_refusal r

-- the offsets are stored from the list's start on; a refusal leaves it as it was
unfoldable pub list_after : Reading → List ℕ → List ℕ
list_after (offsets p list) out = store out 0 list
list_after (refused r) out = out

abbrev pub numbers_of_place : Answer ℕ → Numbers
numbers_of_place = numbers_of_value

unfoldable pub finding_of : Finding → Numbers
finding_of (found p) = accepted p 0 0
finding_of (nowhere r) = of_refusal r
