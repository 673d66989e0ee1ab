-- Canonical text and fingerprint of the declaration at a place of a set's memory.
-- Assumes nothing.
use Rattle.std.specs.Prelude.{ℕ, zero, suc, ◌+◌, cond, List, [], ◌∷◌, leb, ltb, ℤ, pos, length, Ok, Err}
use Rattle.answer.specs.declared.refusal.Why.{Why}
use Rattle.answer.specs.declared.refusal.Why.TheVariants.{NotWellFormed, NoSuchPlace, NoRoom}
use Rattle.answer.specs.declared.refusal.Refusal.{Refusal}
use Rattle.answer.specs.declared.numbers.Numbers.{Numbers}
use Rattle.answer.specs.Answers.{accepted, of_refusal, numbers_of_value, Answer}
use Rattle.ground.specs.Bytes.{store}
use Rattle.rabin.specs.Rabin.{rabin_of}
use Rattle.row.specs.Rows.{Row}
use Rattle.row.specs.Sets.{decode}
use Rattle.formed.specs.WellFormed.{well_formed}
use Rattle.canonical.specs.Canonical.{canonical_of}

-- the canonical text at a place, or a refusal
pub data Found : Type 0 where
  found : List ℕ → Found
  refused : Refusal → Found

abbrev pub refusal : Why → ℕ → ℕ → Refusal
refusal why place at = record { why = why; place = place; at = at }

unfoldable pub rows_at : List (List Row) → ℕ → List Row
rows_at [] place = []
rows_at (d ∷ ds) zero = d
rows_at (d ∷ ds) (suc place) = rows_at ds place

-- 20, then 21
unfoldable pub text_at : List ℕ → ℕ → Found
text_at m place =
    cond (well_formed m)
    (cond (ltb place (length (decode m))) (found (canonical_of (rows_at (decode m) place))) (refused (refusal NoSuchPlace place 0)))
    (refused (refusal NotWellFormed place 0))

-- 29: an offset past the end leaves too little room for any text, for none is empty
abbrev pub in_room : Found → ℕ → ℕ → ℕ → Found
in_room (found s) place offset room = cond (leb (offset + length s) room) (found s) (refused (refusal NoRoom place (length s)))
in_room (refused r) place offset room = refused r

-- the canonical text into a buffer of `room` bytes from an offset on
unfoldable pub written_at : List ℕ → ℕ → ℕ → ℕ → Found
written_at m place offset room = in_room (text_at m place) place offset room

-- ---- what is answered, in 01's numbers: 0 and the text's length, or the refusal's number, place and position

-- the contracts read an answer by them, for each of its cases; they tell the answer (laws `written_one`, `print_one`)
abbrev pub numbers_of_written : Answer ℕ → Numbers
numbers_of_written = numbers_of_value

unfoldable pub length_of : Found → Numbers
length_of (found s) = accepted (length s) 0 0
length_of (refused r) = of_refusal r

-- all bytes but those of the text stay
unfoldable pub buffer_after : Found → List ℕ → ℕ → List ℕ
buffer_after (found s) buffer offset = store buffer offset s
buffer_after (refused r) buffer offset = buffer

-- beside the numbers the fingerprint, 0 where it is refused
abbrev pub numbers_of_print : Answer ℤ → Numbers × ℤ
numbers_of_print (Ok f) = (accepted 0 0 0, f)
numbers_of_print (Err r) = (of_refusal r, pos 0)

unfoldable pub print_of : Found → Numbers × ℤ
print_of (found s) = (accepted 0 0 0, rabin_of s)
print_of (refused r) = (of_refusal r, pos 0)
