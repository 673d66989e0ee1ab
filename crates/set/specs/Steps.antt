-- What private functions ask and promise.
-- Assumes nothing.
use Rattle.std.specs.Prelude.{ℕ, ◌+◌, ◌≤◌, min, ◌≡◌, true, cond, List, [], ◌∷◌, ◌++◌, ltb, length, Ok, Err}
use Rattle.answer.specs.declared.counts.Counts.{Counts}
use Rattle.answer.specs.declared.refusal.Why.{Why}
use Rattle.answer.specs.declared.refusal.Why.TheVariants.{TooManyRows, TooManyStringBytes}
use Rattle.answer.specs.Limits.{counts_of}
use Rattle.answer.specs.Answers.{numbers_of, Answer}
use Rattle.row.specs.Layout.{row_limit, string_limit, layout_length}
use Rattle.row.specs.Rows.{Row, texts}
use Rattle.row.specs.Sets.{flat, rows_from}
use Rattle.row.specs.Memory.{entry_at, text_at, text_place, most, counted_all, pushed_all, declared}
use Rattle.resolve.specs.Rules.{is_declaration}
use Rattle.resolve.specs.Resolve.{fault_in}
use Rattle.schema.specs.Out.{Out, refused, read, Walked}
use Rattle.set.specs.Lists.{Result, becomes, refuse, on_resolved}
use Rattle.set.specs.Calls.{answer_of, memory_of}
use Rattle.set.specs.Naming.{has_full_name}

-- the full name of a row of the memory, and where it begins
unfoldable pub row_name : List ℕ → ℕ → List ℕ
row_name m i = cond (has_full_name (entry_at m i).kind) (text_at m i) []

unfoldable pub row_name_start : List ℕ → ℕ → ℕ
row_name_start m i = cond (has_full_name (entry_at m i).kind) (text_place m i) 0

-- there is no full name, for this reason
abbrev pub refused_name : Why → ℕ → Answer ℕ
refused_name why place = Err (record { why = why; place = place; at = 0 })

-- rows behind those that are counted, as one declaration more: the counts, and the memory
unfoldable pub counted_more : Counts → List Row → Counts
counted_more c rows = counts_of (c.declarations + 1) (counted_all c rows).rows (counted_all c rows).string_bytes

unfoldable pub pushed_more : List ℕ → Counts → List Row → List ℕ
pushed_more m c rows = declared (pushed_all m c rows) c.declarations (length rows)

-- one declaration more, but for 47: what `append` does before it looks at the defaults
unfoldable pub joined : List (List Row) → List Row → Result
joined ds rows =
    cond (ltb row_limit (length (flat ds) + length rows)) (refuse TooManyRows (length ds) 0)
    (cond (ltb string_limit (length (texts (flat ds)) + length (texts rows))) (refuse TooManyStringBytes (length ds) 0)
    (on_resolved (fault_in (flat ds) rows) (length ds)
    (becomes (ds ++ (rows ∷ [])))))

-- the numbers n and bytes, and where these are within the limits the memory from row `start` on, stand for the rows of a declaration
pub record Drafted («from» : List ℕ) (start n bytes : ℕ) (rows : List Row) : Type 0 where
  pub counted : n ≡ min (length rows) most
  pub strings : bytes ≡ min (length (texts rows)) most
  pub kept : is_declaration rows ≡ true
  pub long : length «from» ≡ layout_length
  pub fits : n ≤ row_limit → bytes ≤ string_limit → (start + n ≤ row_limit) × (rows_from «from» n start ≡ rows)

-- they stand for some
pub record IsDraft («from» : List ℕ) (start n bytes : ℕ) : Type 0 where
  pub rows : List Row
  pub drafted : Drafted «from» start n bytes rows

-- a draft d that was written for a text that gives o, and the answer r: the text's fault, or counts that with the draft stand for its rows
abbrev pub Wrote' : List ℕ → Walked → Out → Type 0
Wrote' d r (refused f) = r ≡ Err f
Wrote' d r (read rows) = (c : Counts) × (r ≡ Ok c) × Drafted d 0 c.rows c.string_bytes rows

pub record Wrote (d : List ℕ) (r : Walked) (o : Out) : Type 0 where
  pub wrote : Wrote' d r o

-- memory that held m holds m', and the answer is r: what became of the set is x
pub record Ended (m m' : List ℕ) (r : Answer Counts) (x : Result) : Type 0 where
  pub answer : numbers_of r ≡ answer_of x
  pub memory : m' ≡ memory_of m x
