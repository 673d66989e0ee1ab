-- What the contracts of the readers cite.
use Rattle.std.specs.Prelude.{ℕ, ◌+◌, ◌≤◌, ◌<◌, max, Bool, true, false, cond, ◌≡◌, List, ◌∷◌, length, get_or, drop, Result, Ok, Err}
use Rattle.answer.specs.declared.refusal.Fault.{Fault}
use Rattle.answer.specs.declared.refusal.Why.TheVariants.{NotJson}
use Rattle.json_scan.specs.Json.{deepest, Mode, Stack, Bracket, Move, go, step, whole, run, is_digit, Place, str, plain, val, done, first, key0, key, square, brace, simple, one, bottom, power, point, wide, Verdict}
use Rattle.json_scan.specs.declared.step.More.{More}
use Rattle.json_scan.specs.declared.step.More.TheVariants.{Again, Closed}

-- the verdict that the automaton comes to from a mode at a place of the text
unfoldable pub run_at : List ℕ → Mode → Stack → ℕ → Verdict
run_at t m k p = run m k p (drop p t)

-- where a reader stopped: past what it read, or at a fault
abbrev pub Step : Type 0
Step = Result ℕ Fault

-- the run goes on there in the mode m, or the fault is the verdict
abbrev pub on_step : List ℕ → Mode → Stack → Step → Verdict
on_step t m k (Ok p) = run_at t m k p
on_step t m k (Err f) = Err f

-- a reader goes forth, within the text
abbrev pub Forth : List ℕ → ℕ → Step → Type 0
Forth t p (Ok e) = (p < e) × (e ≤ length t)
Forth t p (Err f) = Unit {0}

-- from p in the mode m the automaton comes to the verdict that it comes to from where the reader stopped, in the mode m'
pub record Reads (t : List ℕ) (p : ℕ) (m m' : Mode) (r : Step) : Type 0 where
  pub same : (k : Stack) → run_at t m k p ≡ on_step t m' k r
  pub forth : Forth t p r

-- the same where `left` more brackets may be opened
pub record ReadsIn (t : List ℕ) (p left : ℕ) (m : Mode) (r : Step) : Type 0 where
  pub same : (k : Stack) → length k + left ≡ deepest → run_at t m k p ≡ on_step t done k r
  pub forth : Forth t p r

-- the same after the opening bracket x, which stands on the stack
pub record Brackets (t : List ℕ) (p left : ℕ) (x : Bracket) (m : Mode) (r : Step) : Type 0 where
  pub same : (k : Stack) → length k + 1 + left ≡ deepest → run_at t m (x ∷ k) p ≡ on_step t done k r
  pub forth : Forth t p r

-- a mode that a class of bytes does not change
abbrev pub Stays : (ℕ → Bool) → Mode → Type 0
Stays c m = (b : ℕ) (k : Stack) → c b ≡ true → step m b k ≡ go m k

-- every byte of the class is passed
pub record Passes (c : ℕ → Bool) (t : List ℕ) (p r : ℕ) : Type 0 where
  pub low : p ≤ r
  pub high : r ≤ max p (length t)
  pub same : (m : Mode) → Stays c m → (k : Stack) → run_at t m k p ≡ run_at t m k r
  pub past : c (get_or t r 0) ≡ false

-- what closes a bracket
abbrev pub closer : Bracket → ℕ
closer square = 93
closer brace = 125

-- the mode after the opening bracket, and after a comma in it
abbrev pub opening : Bracket → Mode
opening square = first
opening brace = key0

abbrev pub again : Bracket → Mode
again square = val
again brace = key

abbrev pub on_more : List ℕ → Bracket → Stack → Result More Fault → Verdict
on_more t x k (Ok (Again p)) = run_at t (again x) (x ∷ k) p
on_more t x k (Ok (Closed p)) = run_at t done k p
on_more t x k (Err f) = Err f

abbrev pub Further : List ℕ → ℕ → Result More Fault → Type 0
Further t p (Ok (Again e)) = (p < e) × (e ≤ length t)
Further t p (Ok (Closed e)) = (p < e) × (e ≤ length t)
Further t p (Err f) = Unit {0}

-- what follows an element of a bracket that `close` closes
pub record Follows (t : List ℕ) (p close : ℕ) (r : Result More Fault) : Type 0 where
  pub same : (x : Bracket) → closer x ≡ close → (k : Stack) → run_at t done (x ∷ k) p ≡ on_more t x k r
  pub forth : Further t p r

-- a value whose first byte is b, in any mode that takes b as a value's first byte, and that is no bracket
pub record Simple (t : List ℕ) (p b : ℕ) (r : Step) : Type 0 where
  pub same : (m : Mode) (k : Stack) → step m b k ≡ simple b k → whole m k ≡ false → run_at t m k p ≡ on_step t done k r
  pub forth : Forth t p r

-- past the byte at p, or no text has it there
abbrev pub took : Bool → ℕ → Step
took ok p = cond ok (Ok (p + 1)) (Err (record { why = NotJson; at = p }))

abbrev pub one_of : (ℕ → Bool) → List ℕ → ℕ → Step
one_of c t p = took (c (get_or t p 0)) p

abbrev pub then_one : (ℕ → Bool) → List ℕ → Step → Step
then_one c t (Ok p) = one_of c t p
then_one c t (Err f) = Err f

-- at the byte b the mode takes the class c, and goes on to m'
abbrev pub Takes : (ℕ → Bool) → ℕ → Mode → Mode → Type 0
Takes c b m m' = (k : Stack) → (step m b k ≡ one (c b) m' k) × (whole m k ≡ false)

-- a reader of digits stops at another byte
abbrev pub Past : List ℕ → Step → Type 0
Past t (Ok e) = is_digit (get_or t e 0) ≡ false
Past t (Err f) = Unit {0}

-- a digit or more, from a mode that takes one to a mode that takes more
pub record Digits (t : List ℕ) (p : ℕ) (r : Step) : Type 0 where
  pub same : (m m' : Mode) → Takes is_digit (get_or t p 0) m m' → Stays is_digit m' → (k : Stack) → run_at t m k p ≡ on_step t m' k r
  pub forth : Forth t p r
  pub past : Past t r

-- a reader that may stay where it is
abbrev pub Onward : List ℕ → ℕ → Step → Type 0
Onward t p (Ok e) = (p ≤ e) × (e ≤ max p (length t))
Onward t p (Err f) = Unit {0}

-- the end of a number, in a mode that does at this byte what `move` says, and in which the number may end
abbrev pub Like : (ℕ → Stack → Move) → ℕ → Mode → Type 0
Like move b m = (k : Stack) → (step m b k ≡ move b k) × (whole m k ≡ bottom k)

abbrev pub powered : ℕ → Stack → Move
powered = power

abbrev pub pointed : ℕ → Stack → Move
pointed = point

pub record Ends (move : ℕ → Stack → Move) (t : List ℕ) (p : ℕ) (r : Step) : Type 0 where
  pub same : (m : Mode) → Like move (get_or t p 0) m → (k : Stack) → run_at t m k p ≡ on_step t done k r
  pub forth : Onward t p r

-- a character of several bytes
abbrev pub Wide : Place → List ℕ → ℕ → ℕ → Step → Type 0
Wide w t p b r = ((k : Stack) → step (str w plain) b k ≡ wide w b k) → Reads t p (str w plain) (str w plain) r
