-- What each call answers, and what the memory holds afterwards.
-- Assumes nothing.
use Rattle.std.specs.Prelude.{ℕ, cond, List, [], eqb, length}
use Rattle.answer.specs.declared.numbers.Numbers.{Numbers}
use Rattle.answer.specs.Answers.{of_counts, of_refusal}
use Rattle.answer.specs.declared.refusal.Why.TheVariants.{NotWellFormed}
use Rattle.row.specs.Layout.{layout_length}
use Rattle.row.specs.Rows.{Row}
use Rattle.row.specs.Sets.{encode, decode}
use Rattle.row.specs.Memory.{set_counts}
use Rattle.formed.specs.WellFormed.{well_formed}
use Rattle.set.specs.Lists.{Result, becomes, refuses, refuse, put_in}

-- in 01's numbers: an accepted call answers 0 and the set's three counts, a refused one the refusal's number, place and position. The contracts read an
-- answer by `numbers_of` of `answer`; two answers with the same numbers are one (law `numbers_one` there), so nothing is lost
unfoldable pub answer_of : Result → Numbers
answer_of (becomes ds) = of_counts (set_counts ds)
answer_of (refuses r) = of_refusal r

-- a refusal leaves every byte as it was
unfoldable pub memory_of : List ℕ → Result → List ℕ
memory_of m (becomes ds) = encode ds
memory_of m (refuses r) = m

-- what becomes of the set that m holds; 20 has the place that was asked for
unfoldable pub on_set : List ℕ → ℕ → (List (List Row) → Result) → Result
on_set m place change = cond (well_formed m) (change (decode m)) (refuse NotWellFormed place 0)

-- open clears memory of the layout's length, whatever it held
unfoldable pub opened : List ℕ → Result
opened m = cond (eqb (length m) layout_length) (becomes []) (refuse NotWellFormed 0 0)

-- put a text at a place; the place equal to the count is that of one declaration more
unfoldable pub put : List ℕ → ℕ → List ℕ → Result
put m place text = on_set m place (λ ds. put_in ds place text)
