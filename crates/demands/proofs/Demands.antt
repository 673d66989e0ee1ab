-- THE THREE DEMANDS on a set, over what its calls promise (crate `set`: specs/Calls and specs/Naming). The words are those of specs/Building.
-- Answers stand here in 01's numbers, as in the promises (crate `answer`: specs/Answers): `.number` is 0 where a call is accepted, and then `.first`,
-- `.second`, `.third` are the set's counts; else it is the refusal's, `.first` the declaration's place, `.second` the byte position.
-- Assumes nothing.
use mathlib.Core.Path.{◌≡◌, sym, ◌∙◌}
use mathlib.Core.Bool.{true, false}
use mathlib.Core.List.{List, [], ◌∷◌, ◌++◌}
use Prim.Native.Nat.{ℕ, ◌+◌, ◌^◌, ◌<◌, ◌≤◌}
use lib.ListN.{length, take}
use Rattle.answer.specs.declared.counts.Counts.{Counts}
use Rattle.answer.specs.Answers.{accepted, refused, of_counts, numbers_of, Answer}
use Rattle.answer.proofs.Laws.{numbers_one}
use Rattle.decimals.specs.Limits.{largest_number}
use Rattle.row.specs.Layout.{declaration_limit, strings_start, layout_length}
use Rattle.row.specs.Rows.{Row, texts}
use Rattle.row.specs.Sets.{flat, decode}
use Rattle.row.specs.Memory.{behind, set_counts}
use Rattle.row.specs.declared.kind.Kind.TheVariants.{Fixed}
use Rattle.formed.specs.WellFormed.{well_formed}
use Rattle.formed.proofs.Laws.{exact}
use Rattle.set.specs.Lists.{Result}
use Rattle.set.specs.Calls.{answer_of, memory_of, opened, put}
use Rattle.set.specs.Naming.{has_full_name, full_name_in, full_name_start, numbers_of_naming, naming_of}
use Rattle.set.proofs.Laws.{naming_one, full_part}
use Rattle.ground.specs.Bytes.{byte_at, part}
use Rattle.breach.specs.Breach.{BreaksAt}
use Rattle.breach.proofs.Theorems.{breaks_there}
use Rattle.told.specs.Told.{Rule, keeps_of, Told}
use Rattle.told.proofs.Told.{lettered}
use Rattle.demands.specs.Building.{outcome, Allowed, empty_set, put_each, edit, Built, Joins, At, SameFront, Nameless, LaterBarred}
use Rattle.demands.proofs.Steps.{edit_last}
use Rattle.demands.proofs.Holding.{refused_leaves, put_kept, opened_formed, opened_empty, opened_length, held_formed, built_holds, held_answer, held_memory, held_nowhere, held_is, accepted_built}
use Rattle.demands.proofs.Joined.{accepts_only, accepts_if}
use Rattle.demands.proofs.Staying.{put_front, put_later}
use Rattle.demands.proofs.Refusals.{formed_said, formed_only, nowhere_said, nowhere_only, full_said, full_only, put_tells}
use Rattle.demands.proofs.Named.{full_formed, name_of, nameless_if, nameless_only, nameless_said, calls_agree, start_of, apart, set_row}
use Rattle.demands.proofs.Fitting.{row_fits}

-- ---- DEMAND 1: each public result is described fully, refusal or not, together with the lent bytes afterwards

-- the scheme: any two outcomes that are both what the contract says coincide
pub one {ℓ} : {A : Type ℓ} {x y z : A} → x ≡ z → y ≡ z → x ≡ y
one p q = p ∙ sym q

-- an answer's numbers tell the answer: nothing is lost where promises and theorems speak of the numbers
pub answer_told : (a b : Answer Counts) → numbers_of a ≡ numbers_of b → a ≡ b
answer_told = numbers_one

pub naming_told : (a b : Answer ℕ) → numbers_of_naming a ≡ numbers_of_naming b → a ≡ b
naming_told = naming_one

-- answer and memory together
pub outcome_one : (m : List ℕ) (r : Result) (a b : Answer Counts × List ℕ) → Allowed m r a → Allowed m r b → a ≡ b
outcome_one m r a b p q = λ i. (answer_told a.0 b.0 (one p.0 q.0) i, one p.1 q.1 i)

pub open_one : (m : List ℕ) (a b : Answer Counts × List ℕ) → Allowed m (opened m) a → Allowed m (opened m) b → a ≡ b
open_one m = outcome_one m (opened m)

pub put_one : (m : List ℕ) (place : ℕ) (text : List ℕ) (a b : Answer Counts × List ℕ) → Allowed m (put m place text) a → Allowed m (put m place text) b → a ≡ b
put_one m place text = outcome_one m (put m place text)

-- a full name: its bytes, and the pointer to them, where memory's own is `first`
pub full_name_one : (m : List ℕ) (first : ℕ × ℕ) (place i : ℕ) (a b : List ℕ × (ℕ × ℕ)) → (a.0 ≡ full_name_in m place i) × (a.1 ≡ behind first (full_name_start m place i))
    → (b.0 ≡ full_name_in m place i) × (b.1 ≡ behind first (full_name_start m place i)) → a ≡ b
full_name_one m first place i a b p q = λ k. (one p.0 q.0 k, one p.1 q.1 k)

pub naming_of_one : (m : List ℕ) (place i : ℕ) (a b : Answer ℕ) → numbers_of_naming a ≡ naming_of m place i → numbers_of_naming b ≡ naming_of m place i → a ≡ b
naming_of_one m place i a b p q = naming_told a b (one p q)

-- a refusal writes nothing
pub refusal_writes_nothing : (m : List ℕ) (r : Result) → ((answer_of r).number ≡ 0 → ⊥) → memory_of m r ≡ m
refusal_writes_nothing = refused_leaves

-- whatever is asked of it, a well-formed set stays one, and open makes one
pub open_well_formed : (m : List ℕ) → length m ≡ layout_length → well_formed (memory_of m (opened m)) ≡ true
open_well_formed = opened_formed

pub put_well_formed : (m : List ℕ) → well_formed m ≡ true → (place : ℕ) (text : List ℕ) → well_formed (memory_of m (put m place text)) ≡ true
put_well_formed = put_kept

-- whatever the text: 20 exactly where memory is not well formed, 21 exactly above the count, 22 exactly at the place behind the last of a full set
module _ (m : List ℕ) (place : ℕ) (text : List ℕ) where
  pub twenty_if : well_formed m ≡ false → answer_of (put m place text) ≡ refused 20 place 0
  twenty_if = formed_said m place text

  pub twenty_only : (answer_of (put m place text)).number ≡ 20 → well_formed m ≡ false
  twenty_only = formed_only m place text

  pub twenty_one_if : well_formed m ≡ true → length (decode m) < place → answer_of (put m place text) ≡ refused 21 place 0
  twenty_one_if = nowhere_said m place text

  pub twenty_one_only : (answer_of (put m place text)).number ≡ 21 → (well_formed m ≡ true) × (length (decode m) < place)
  twenty_one_only = nowhere_only m place text

  pub twenty_two_if : well_formed m ≡ true → length (decode m) ≡ declaration_limit → place ≡ declaration_limit → answer_of (put m place text) ≡ refused 22 declaration_limit 0
  twenty_two_if = full_said m place text

  pub twenty_two_only : (answer_of (put m place text)).number ≡ 22 → (well_formed m ≡ true) × (length (decode m) ≡ declaration_limit) × (place ≡ declaration_limit)
  twenty_two_only = full_only m place text

-- ---- DEMAND 2: a text put at the count is accepted exactly if it may join the set, and then its rows are one declaration more

module _ (m : List ℕ) (wf : well_formed m ≡ true) (text : List ℕ) where
  -- only then: an accepted text joins, memory holds the set with its rows last, and the counts are that set's
  pub joins_only : (answer_of (put m (length (decode m)) text)).number ≡ 0
      → (rows : List Row) × Joins (decode m) text rows × (decode (memory_of m (put m (length (decode m)) text)) ≡ decode m ++ (rows ∷ []))
      × (answer_of (put m (length (decode m)) text) ≡ of_counts (set_counts (decode m ++ (rows ∷ []))))
  joins_only = accepts_only m wf text

  -- and always then: so a set that refuses all is ruled out
  pub joins_if : (rows : List Row) → Joins (decode m) text rows
      → (answer_of (put m (length (decode m)) text) ≡ of_counts (set_counts (decode m ++ (rows ∷ [])))) × (decode (memory_of m (put m (length (decode m)) text)) ≡ decode m ++ (rows ∷ []))
  joins_if = accepts_if m wf text

-- ---- DEMAND 3: a text put at a place of a set is the edited list of texts, put one by one at the end of the empty set

module _ {m : List ℕ} {ts : List (List ℕ)} (built : Built m ts) (place : ℕ) (text : List ℕ) where
  -- the whole answer: the counts, or number, place and position of the refusal
  pub put_answer : place ≤ length ts → answer_of (put m place text) ≡ (put_each empty_set (edit ts place text)).answer
  put_answer = held_answer (built_holds built) place text

  -- where it is accepted, every byte of memory
  pub put_memory : place ≤ length ts → (answer_of (put m place text)).number ≡ 0 → memory_of m (put m place text) ≡ (put_each empty_set (edit ts place text)).memory
  put_memory = held_memory (built_holds built) place text

  -- where it is refused, memory is as it was
  pub put_leaves : ((answer_of (put m place text)).number ≡ 0 → ⊥) → memory_of m (put m place text) ≡ m
  put_leaves = refused_leaves m (put m place text)

  -- above the count there is no edited list: 21
  pub put_nowhere : length ts < place → answer_of (put m place text) ≡ refused 21 place 0
  put_nowhere = held_nowhere (built_holds built) place text

-- at the count the edited list has the text behind all others
pub edited_last : {A : Type 0} (xs : List A) (x : A) → edit xs (length xs) x ≡ xs ++ (x ∷ [])
edited_last = edit_last

-- the empty set is what open makes of any memory of the layout's length, and it accepts no other
pub open_empties : (m : List ℕ) → length m ≡ layout_length → outcome m (opened m) ≡ empty_set
open_empties = opened_empty

pub open_accepts_only : (m : List ℕ) → (answer_of (opened m)).number ≡ 0 → length m ≡ layout_length
open_accepts_only = opened_length

-- memory that calls built from texts is what putting those texts one by one gives, and each of them is accepted
pub built_is : {m : List ℕ} {ts : List (List ℕ)} → Built m ts → (c : Counts) × (put_each empty_set ts ≡ record { answer = of_counts c; memory = m })
built_is b = held_is (built_holds b)

-- and what putting texts one by one gives, if each is accepted, is memory that calls built from them
pub accepted_is_built : (ts : List (List ℕ)) → (put_each empty_set ts).answer.number ≡ 0 → Built (put_each empty_set ts).memory ts
accepted_is_built = accepted_built

pub built_well_formed : {m : List ℕ} {ts : List (List ℕ)} → Built m ts → well_formed m ≡ true
built_well_formed b = held_formed (built_holds b)

-- ---- NOT MOVED: no row or string before the place moves, whatever the place; at the count these are all that the set had

pub put_moves_nothing : (m : List ℕ) → well_formed m ≡ true → (place : ℕ) (text : List ℕ) → (answer_of (put m place text)).number ≡ 0 → SameFront (take place (decode m)) (memory_of m (put m place text)) m
put_moves_nothing = put_front

-- ---- THE POSITION: where a later declaration breaks, it is reported by its place, with the byte position its rows recorded; 23 and 24 at 0

pub later_position : (m : List ℕ) → well_formed m ≡ true → (place : ℕ) (text : List ℕ) → ((answer_of (put m place text)).number ≡ 0 → ⊥) → place < (answer_of (put m place text)).first
    → LaterBarred (decode m) place text (answer_of (put m place text))
later_position = put_later

-- ---- THE LETTER: 7 is a fault of the text that is handed in, and it stands where a string of that text breaks its rule for names: at the first
-- character such that no string that keeps the rule begins with the characters up to and with it, or at the closing quote (`Told`, `BreaksAt`)

pub seven_tells : (m : List ℕ) (place : ℕ) (text : List ℕ) → (answer_of (put m place text)).number ≡ 7
    → ((answer_of (put m place text)).first ≡ place) × Told text (answer_of (put m place text)).second
seven_tells = put_tells

-- there is one such place for a string
pub told_once : (t : List ℕ) (r : Rule) (quote p q : ℕ) → byte_at t quote ≡ 34 → BreaksAt (keeps_of r) t quote p → BreaksAt (keeps_of r) t quote q → p ≡ q
told_once t r quote p q o a b = one (breaks_there (lettered r) t quote o p a) (breaks_there (lettered r) t quote o q b)

-- ---- DECIMALS: over a fixed of n bytes a decimal that holds, note 1, fits: 10 to its precision does not exceed 2^(8n - 1) - 1

pub decimals_fit : (m : List ℕ) → well_formed m ≡ true → {place i : ℕ} {rows : List Row} {r : Row} → At (decode m) place rows → At rows i r → r.kind ≡ Fixed → r.note ≡ 1 → 10 ^ r.precision ≤ largest_number r.size
decimals_fit m wf a b k n = let z = set_row (exact m wf).1.declarations a b in row_fits _ z.0 z.1 k n

-- ---- NAMES: the full name of a row, by place and row number there from 0

module _ (m : List ℕ) (wf : well_formed m ≡ true) (place i : ℕ) where
  -- of a definition, its alias or a reference: the string of the row
  pub full_name_is : {rows : List Row} {r : Row} → At (decode m) place rows → At rows i r → has_full_name r.kind ≡ true → full_name_in m place i ≡ r.text
  full_name_is a b h = full_formed m place i wf ∙ name_of a b h

  -- it lies in the set's memory where the row says: in the string area, behind the strings of all rows before it
  pub full_name_lies : {rows : List Row} {r : Row} → At (decode m) place rows → At rows i r → has_full_name r.kind ≡ true
      → full_name_start m place i ≡ strings_start + length (texts (flat (take place (decode m)) ++ take i rows))
  full_name_lies = start_of m place i wf

  -- no bytes exactly if there is no such place, no such row there, or it has no full name
  pub empty_only : full_name_in m place i ≡ [] → Nameless (decode m) place i
  empty_only e = nameless_only (decode m) (exact m wf).1.declarations place i (sym (full_formed m place i wf) ∙ e)

  pub empty_if : Nameless (decode m) place i → full_name_in m place i ≡ []
  empty_if h = full_formed m place i wf ∙ nameless_if h

  -- then the second call says 21, with the place that was asked for
  pub naming_refuses : Nameless (decode m) place i → naming_of m place i ≡ refused 21 place 0
  naming_refuses = nameless_said m place i wf

-- on any memory: full_name answers no bytes exactly where naming refuses, and naming answers its length otherwise
module _ (m : List ℕ) (place i : ℕ) where
  pub refused_where_empty : full_name_in m place i ≡ [] → (naming_of m place i).number ≡ 0 → ⊥
  refused_where_empty = (calls_agree m place i).none

  pub empty_where_refused : ((naming_of m place i).number ≡ 0 → ⊥) → full_name_in m place i ≡ []
  empty_where_refused = (calls_agree m place i).refusal

  pub named_by_length : (naming_of m place i).number ≡ 0 → (naming_of m place i ≡ accepted (length (full_name_in m place i)) 0 0) × (1 ≤ length (full_name_in m place i))
  named_by_length = (calls_agree m place i).named

  -- its place and its length are those of a part of memory that has its bytes
  pub full_name_part : part m (full_name_start m place i) (length (full_name_in m place i)) ≡ full_name_in m place i
  full_name_part = full_part m place i

-- and no two rows have theirs at one place: an equal string of another row is not the answer
pub names_apart : (m : List ℕ) (p i q j : ℕ) → (full_name_in m p i ≡ [] → ⊥) → (full_name_in m q j ≡ [] → ⊥) → full_name_start m p i ≡ full_name_start m q j → (p ≡ q) × (i ≡ j)
names_apart = apart
