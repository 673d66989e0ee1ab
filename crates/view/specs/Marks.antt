-- The mark of a string: a number below 2^64. Equal strings have equal marks, and that is all that counts.
-- Assumes nothing.
use Rattle.std.specs.Prelude.{ℕ, ◌+◌, ◌*◌, ◌/◌, ◌%◌, ◌<◌, ◌≡◌, cond, List, [], ◌∷◌, eqb}
use Rattle.view.specs.declared.marks.Marking.{Marking}

-- a mark with the number w of some bytes behind it. The number is a part of the factor, so that a mark is no sum over the bytes
unfoldable pub mark_step : ℕ → ℕ → ℕ
mark_step h w = h % 4294967296 * (2654435769 + w) + h / 4294967296 + w

abbrev pub marking : ℕ → ℕ → ℕ → Marking
marking h w n = record { h = h; w = w; n = n }

-- three bytes make a step: n of them were read, and their number is w
unfoldable pub marked : Marking → ℕ → Marking
marked m b =
    let first = marking m.h b 1 in
    let second = marking m.h (m.w + 256 * b) 2 in
    let third = marking (mark_step m.h (m.w + 65536 * b)) 0 0 in
    cond (eqb m.n 0) first (cond (eqb m.n 1) second third)

-- how many are left is told in the last step
unfoldable pub mark_from : Marking → List ℕ → ℕ
mark_from m [] = mark_step m.h (m.w + 16777216 * m.n)
mark_from m (b ∷ bs) = mark_from (marked m b) bs

abbrev pub mark_of : List ℕ → ℕ
mark_of s = mark_from (marking 1442695040888963407 0 0) s

-- at most two bytes are held
pub record Held (m : Marking) : Type 0 where
  pub few : m.n < 3
  pub small : m.w < 65536
  pub first : m.n ≡ 1 → m.w < 256
