-- What the demands speak of: calls one after the other, memory that calls built from texts, a text that may join a set, a row's place.
-- Assumes nothing.
use Rattle.std.specs.Prelude.{ℕ, suc, ◌+◌, ◌*◌, ◌<◌, ◌≤◌, ◌≡◌, Bool, true, false, cond, List, [], ◌∷◌, ◌++◌, eqb, length, take, drop}
use Rattle.answer.specs.Places.{placed}
use Rattle.answer.specs.declared.refusal.Why.{Why}
use Rattle.answer.specs.declared.refusal.Why.TheVariants.{TooManyRows, TooManyStringBytes, DefinedAlready, ReferenceUnknown, DefaultDoesNotFit}
use Rattle.answer.specs.declared.refusal.Fault.{Fault}
use Rattle.answer.specs.declared.numbers.Numbers.{Numbers}
use Rattle.answer.specs.Answers.{accepted, of_refusal, numbers_of, Answer}
use Rattle.ground.specs.Bytes.{part}
use Rattle.row.specs.Layout.{declaration_limit, row_limit, string_limit, row_size, rows_start, strings_start, layout_length}
use Rattle.row.specs.Rows.{Row, texts}
use Rattle.row.specs.Sets.{flat, encode}
use Rattle.row.specs.declared.kind.Kind.TheVariants.{Reference}
use Rattle.resolve.specs.Kinds.{is_kind, is_definition}
use Rattle.fits.specs.Misfits.{default_fits}
use Rattle.schema.specs.Out.{read}
use Rattle.schema.specs.Schema.{declared}
use Rattle.set.specs.Lists.{Result}
use Rattle.set.specs.Calls.{answer_of, memory_of, opened, put}
use Rattle.set.specs.Naming.{has_full_name}
use Rattle.answer.specs.declared.counts.Counts.{Counts}

-- ---- outcomes

-- what a call answers, in 01's numbers (`answer`: specs/Answers), and the lent memory afterwards
pub record Outcome : Type 0 where
  pub answer : Numbers
  pub memory : List ℕ

-- the outcome on memory m of a call with this result
unfoldable pub outcome : List ℕ → Result → Outcome
outcome m r = record { answer = answer_of r; memory = memory_of m r }

-- the contract of open and put: what it allows of answer and memory
abbrev pub Allowed : List ℕ → Result → Answer Counts × List ℕ → Type 0
Allowed m r o = (numbers_of o.0 ≡ answer_of r) × (o.1 ≡ memory_of m r)

-- accepted: the number is 0
abbrev pub is_done : Numbers → Bool
is_done n = eqb n.number 0

-- ---- calls one after the other

-- what open makes of any memory of the layout's length
unfoldable pub empty_set : Outcome
empty_set = record { answer = accepted 0 0 0; memory = encode [] }

-- the texts are put in turn, each at the count that the answer before it tells, until one is refused
unfoldable pub put_each : Outcome → List (List ℕ) → Outcome
put_each o [] = o
put_each o (t ∷ ts) = cond (is_done o.answer) (put_each (outcome o.memory (put o.memory o.answer.first t)) ts) o

-- the list with x at a place: in place of what stands there, or last where the place is the list's length
unfoldable pub edit : {A : Type 0} → List A → ℕ → A → List A
edit xs place x = take place xs ++ (x ∷ drop (place + 1) xs)

-- the first where the call was accepted, the second where it was refused
unfoldable pub if_done : Numbers → List (List ℕ) → List (List ℕ) → List (List ℕ)
if_done n changed old = cond (is_done n) changed old

-- memory that any calls made from texts, accepted or refused, with the texts that it stands for
pub data Built : List ℕ → List (List ℕ) → Type 0 where
  opens : (m : List ℕ) → length m ≡ layout_length → Built (memory_of m (opened m)) []
  puts : {m : List ℕ} {ts : List (List ℕ)} → Built m ts → (place : ℕ) (t : List ℕ) → Built (memory_of m (put m place t)) (if_done (answer_of (put m place t)) (edit ts place t) ts)

-- ---- what may join a set

-- some row is a definition with this full name
pub data Defines : List Row → List ℕ → Type 0 where
  here : {r : Row} {rows : List Row} {name : List ℕ} → is_definition r.kind ≡ true → r.text ≡ name → Defines (r ∷ rows) name
  later : {r : Row} {rows : List Row} {name : List ℕ} → Defines rows name → Defines (r ∷ rows) name

-- in preorder, behind earlier rows: each defined full name is new, and each referred one is defined already
unfoldable pub Clean : List Row → List Row → Type 0
Clean earlier [] = Unit {0}
Clean earlier (r ∷ rows) =
    (is_definition r.kind ≡ true → Defines earlier r.text → ⊥)
    × (is_kind Reference r.kind ≡ true → Defines earlier r.text)
    × Clean (earlier ++ (r ∷ [])) rows

-- in preorder, each row with the rows behind it: it has no default, or one that fits its field's type; references are looked up among all rows
unfoldable pub EachFits : List Row → List Row → Type 0
EachFits all [] = Unit {0}
EachFits all (r ∷ rest) = (default_fits all r rest ≡ true) × EachFits all rest

-- the text, whose rows these are, may join the set
pub record Joins (ds : List (List Row)) (text : List ℕ) (rows : List Row) : Type 0 where
  -- there is a place for it
  pub few : length ds < declaration_limit
  -- it is a declaration by the rules of 01, and these are its rows
  pub reads : declared text ≡ read rows
  -- rows and string bytes of the set are within the limits with it
  pub fit : length (flat ds) + length rows ≤ row_limit
  pub room : length (texts (flat ds)) + length (texts rows) ≤ string_limit
  -- its names are new where it defines them and known where it refers to them, earlier declarations counted first
  pub clean : Clean (flat ds) rows
  -- each default fits its field's type, whatever that refers to
  pub fitting : EachFits (flat ds ++ rows) rows

-- ---- places

-- x stands in the list at a place, from 0
pub data At {A : Type 0} : List A → ℕ → A → Type 0 where
  first : {x : A} {xs : List A} → At (x ∷ xs) 0 x
  behind : {x y : A} {xs : List A} {place : ℕ} → At xs place x → At (y ∷ xs) (suc place) x

-- two memories have the same bytes for the declarations a, which both hold first: their row counts, their rows, their strings
pub record SameFront (a : List (List Row)) (m n : List ℕ) : Type 0 where
  pub counts : part m 2 (2 * length a) ≡ part n 2 (2 * length a)
  pub rows : part m rows_start (row_size * length (flat a)) ≡ part n rows_start (row_size * length (flat a))
  pub strings : part m strings_start (length (texts (flat a))) ≡ part n strings_start (length (texts (flat a)))

-- why row i of the declaration at a place has no full name
pub data Nameless (ds : List (List Row)) (place i : ℕ) : Type 0 where
  no_place : length ds ≤ place → Nameless ds place i
  no_row : {rows : List Row} → At ds place rows → length rows ≤ i → Nameless ds place i
  no_name : {rows : List Row} {r : Row} → At ds place rows → At rows i r → has_full_name r.kind ≡ false → Nameless ds place i

-- ---- what may not join a set, and where

-- 25 and 26, of one row
pub data Broken (earlier : List Row) (r : Row) : Why → Type 0 where
  twice : is_definition r.kind ≡ true → Defines earlier r.text → Broken earlier r DefinedAlready
  unknown : is_kind Reference r.kind ≡ true → (Defines earlier r.text → ⊥) → Broken earlier r ReferenceUnknown

-- the first row in preorder that breaks them, at the position that it recorded
pub record FirstBroken (earlier rows : List Row) (f : Fault) : Type 0 where
  pub before : List Row
  pub row : Row
  pub rest : List Row
  pub is : rows ≡ before ++ (row ∷ rest)
  pub clean : Clean earlier before
  pub broken : Broken (earlier ++ before) row f.why
  pub position : f.at ≡ row.position

-- 47: the first row in preorder whose default does not fit, at the default's position
pub data FirstMisfit (all : List Row) : List Row → Fault → Type 0 where
  this : {r : Row} {rest : List Row} → default_fits all r rest ≡ false → FirstMisfit all (r ∷ rest) (record { why = DefaultDoesNotFit; at = r.size })
  further : {r : Row} {rest : List Row} {f : Fault} → default_fits all r rest ≡ true → FirstMisfit all rest f → FirstMisfit all (r ∷ rest) f

-- why rows may not join the set: 23, then 24, then 25 and 26, then 47
pub data Barred (ds : List (List Row)) (rows : List Row) : Fault → Type 0 where
  many_rows : row_limit < length (flat ds) + length rows → Barred ds rows (record { why = TooManyRows; at = 0 })
  many_bytes : length (flat ds) + length rows ≤ row_limit → string_limit < length (texts (flat ds)) + length (texts rows)
      → Barred ds rows (record { why = TooManyStringBytes; at = 0 })
  bad_name : {f : Fault} → length (flat ds) + length rows ≤ row_limit → length (texts (flat ds)) + length (texts rows) ≤ string_limit
      → FirstBroken (flat ds) rows f → Barred ds rows f
  bad_default : {f : Fault} → length (flat ds) + length rows ≤ row_limit → length (texts (flat ds)) + length (texts rows) ≤ string_limit → Clean (flat ds) rows
      → FirstMisfit (flat ds ++ rows) rows f → Barred ds rows f

-- a declaration behind the place asked for is at fault, by the rows that the set holds for it; n is the answer, n.first the place it tells
pub record LaterBarred (ds : List (List Row)) (place : ℕ) (text : List ℕ) (n : Numbers) : Type 0 where
  -- the new text's rows
  pub new : List Row
  pub reads : declared text ≡ read new
  -- the later declaration's rows
  pub rows : List Row
  pub recorded : At ds n.first rows
  -- they may not join the declarations before them in the edited list
  pub fault : Fault
  pub barred : Barred (take n.first (edit ds place new)) rows fault
  -- the answer is the fault's number, that place, the fault's position
  pub is : n ≡ of_refusal (placed fault n.first)
