-- What the code holds on the way: types by the numbers of their rows in memory, two tables, and frames of what is still to come.
-- Assumes nothing.
use Rattle.std.specs.Prelude.{ℕ, zero, suc, ◌+◌, ◌-◌, ◌*◌, ◌%◌, ◌≤◌, ◌<◌, ◌≡◌, Bool, not, cond, ◌||◌, List, [], ◌∷◌, Option, Some, None, Result, Ok, Err, eqb, ltb, length, get_or, set, take}
use Rattle.answer.specs.declared.refusal.Fault.{Fault}
use Rattle.answer.specs.declared.refusal.Why.TheVariants.{CutShort, NumberWrong, OutOfRange, BlockSizeWrong}
use Rattle.binary.specs.Numbers.{Number, long_at}
use Rattle.binary.specs.declared.number.NumberError.TheVariants.{Cut, Wrong}
use Rattle.row.specs.Rows.{Row}
use Rattle.row.specs.Layout.{row_limit}
use Rattle.row.specs.Sets.{rows_from}
use Rattle.row.specs.Memory.{entry_at, text_at}
use Rattle.row.specs.declared.kind.Kind.{Kind}
use Rattle.row.specs.declared.kind.Kind.TheVariants.{Null, Boolean, Int, Long, Float, Double, Bytes, String, Reference, Array, Map, Union, Record, Enum, Fixed, Field, Symbol, Alias, FieldAlias}
use Rattle.resolve.specs.Kinds.{is_kind}
use Rattle.resolve.specs.Resolve.{definition_in}
use Rattle.walk.specs.Parts.{parts_at}
use Rattle.walk.specs.Walk.{Stand, Outcome, went, stopped, Item, datum, blocks, pick, and_then, times, moved_to, is_size, passed, on_int, on_long, flag, counted, chosen, in_turn, entry, block, one_item, visit, steps}
use Rattle.walk.specs.declared.states.Here.{Here}

-- ---- the first n rows of memory

-- the type at row i
abbrev pub type_at : List ℕ → ℕ → ℕ → List Row
type_at m n i = rows_from m (n - i) i

-- a part at row i, if there is such a row, and the parts behind it that are d deep
unfoldable pub parts_from : List ℕ → ℕ → ℕ → ℕ → List (List Row)
parts_from m n d i = cond (ltb i n) (type_at m n i ∷ parts_at d (type_at m n (i + 1))) []

-- the parts behind the part at row i
unfoldable pub parts_behind : List ℕ → ℕ → ℕ → List (List Row)
parts_behind m n i = parts_at (entry_at m i).depth (type_at m n (i + 1))

-- row j is the first part d deep from row i on; n where there is none
pub record FirstPart (m : List ℕ) (n d i j : ℕ) : Type 0 where
  pub below : j ≤ n
  pub deep : j < n → (entry_at m j).depth ≡ d
  pub parts : parts_from m n d j ≡ parts_at d (type_at m n i)

-- ---- tables that are asked for truth alone: an entry is a row, if one is known

-- row d defines what row i refers to
pub record Found (m : List ℕ) (n : ℕ) (found : List (Option ℕ)) : Type 0 where
  pub below : (i d : ℕ) → get_or found i None ≡ Some d → d ≤ n
  pub says : (i d : ℕ) → get_or found i None ≡ Some d → type_at m n d ≡ definition_in (text_at m i) (rows_from m n 0)

-- row j is the part behind the part at row i
pub record Follows (m : List ℕ) (n : ℕ) (next : List (Option ℕ)) : Type 0 where
  pub says : (i j : ℕ) → get_or next i None ≡ Some j → FirstPart m n (entry_at m i).depth (i + 1) j

-- ---- data without parts

-- what a reader answers: the offset behind the datum, or what is wrong
abbrev pub Read : Type 0
Read = Result ℕ Fault

unfoldable pub reading : Read → Stand → Outcome
reading (Ok p) h = went (moved_to p h)
reading (Err f) h = stopped f.why f.at

-- a number and the offset behind it, or what is wrong where none stands at an offset of so many bytes
abbrev pub Choice : Type 0
Choice = Result (ℕ × ℕ) Fault

unfoldable pub numbered : ℕ → ℕ → Number → Choice
numbered size at (Ok n) = Ok n
numbered size at (Err Cut) = Err (record { why = CutShort; at = size })
numbered size at (Err Wrong) = Err (record { why = NumberWrong; at = at })

unfoldable pub leaf_of : List ℕ → Kind → ℕ → Stand → Outcome
leaf_of bytes Null size h = went h
leaf_of bytes Boolean size h = flag bytes h
leaf_of bytes Int size h = on_int bytes (λ v k. went k) h
leaf_of bytes Long size h = on_long bytes (λ v k. went k) h
leaf_of bytes Float size h = passed bytes 4 h
leaf_of bytes Double size h = passed bytes 8 h
leaf_of bytes Bytes size h = counted bytes h
leaf_of bytes String size h = counted bytes h
leaf_of bytes Fixed size h = passed bytes size h
leaf_of bytes Reference size h = went h
leaf_of bytes Array size h = went h
leaf_of bytes Map size h = went h
leaf_of bytes Union size h = went h
leaf_of bytes Record size h = went h
leaf_of bytes Enum size h = went h
leaf_of bytes Field size h = went h
leaf_of bytes Symbol size h = went h
leaf_of bytes Alias size h = went h
leaf_of bytes FieldAlias size h = went h

-- the kinds whose data are walked by other lines
unfoldable pub is_leaf : Kind → Bool
is_leaf k =
    not (is_kind Reference k || is_kind Record k || is_kind Field k || is_kind Union k || is_kind Enum k || is_kind Array k || is_kind Map k)

-- what a reader of data answers: of a walk that stands at an offset, this outcome
pub record Reads (bytes : List ℕ) (at : ℕ) (r : Read) (of : Stand → Outcome) : Type 0 where
  pub says : (h : Stand) → h.at ≡ at → reading r h ≡ of h
  pub within : (p : ℕ) → r ≡ Ok p → p ≤ length bytes

-- a number says which part, or nothing does
unfoldable pub choosing : Choice → ℕ → List (List Row) → (List Row → Stand → Outcome) → Stand → Outcome
choosing (Ok (v, to)) at ps next h = pick (ltb v (length ps)) (next (get_or ps v []) (moved_to to h)) (stopped OutOfRange at)
choosing (Err f) at ps next h = stopped f.why f.at

pub record Chooses (bytes : List ℕ) (at : ℕ) (r : Choice) : Type 0 where
  pub says : (ps : List (List Row)) (next : List Row → Stand → Outcome) (h : Stand) → h.at ≡ at → choosing r at ps next h ≡ chosen bytes ps next h
  pub within : (v p : ℕ) → r ≡ Ok (v, p) → p ≤ length bytes

-- ---- frames: what is still to come

pub data Frame : Type 0 where
  -- the parts of a record
  parts : List (List Row) → Frame
  -- the blocks of an array or map, the entries of a block first: so many, and where its size stands, or 0
  entries : List Row → ℕ → ℕ → Frame

-- a block that ends here has no size, or the right one stands at an offset
unfoldable pub is_right : List ℕ → ℕ → ℕ → Bool
is_right bytes size to = eqb size 0 || is_size (long_at bytes size) to

module _ (bytes : List ℕ) (go : Item → Stand → Outcome) where
  -- the end of a block
  unfoldable pub block_end : ℕ → Stand → Outcome
  block_end size h = pick (is_right bytes size h.at) (went h) (stopped BlockSizeWrong size)

  unfoldable pub block_rest : List Row → ℕ → ℕ → Stand → Outcome
  block_rest type left size h =
      and_then (times (λ k. entry bytes go type k) left h) (λ k. and_then (block_end size k) (λ j. go (blocks type) j))

  unfoldable pub run : List Frame → Stand → Outcome
  run [] h = went h
  run (parts ps ∷ fs) h = and_then (in_turn go ps h) (λ k. run fs k)
  run (entries type left size ∷ fs) h = and_then (block_rest type left size h) (λ k. run fs k)

-- a frame is three numbers: a row of an array or map, or 1,024 more than the row of a record's part; entries left; where the size stands
unfoldable pub frame_of : List ℕ → ℕ → ℕ → ℕ → ℕ → Frame
frame_of m n row left size = cond (ltb row row_limit) (entries (type_at m n row) left size) (parts (parts_behind m n (row % row_limit)))

-- the last of d frames first
unfoldable pub frames_of : List ℕ → ℕ → List ℕ → ℕ → List Frame
frames_of m n frames zero = []
frames_of m n frames (suc d) = frame_of m n (get_or frames (3 * d) 0) (get_or frames (3 * d + 1) 0) (get_or frames (3 * d + 2) 0) ∷ frames_of m n frames d

-- frame d becomes these three numbers
unfoldable pub pushed : List ℕ → ℕ → ℕ → ℕ → ℕ → List ℕ
pushed frames d row left size = set (set (set frames (3 * d) row) (3 * d + 1) left) (3 * d + 2) size

-- ---- turns

abbrev pub here_of : ℕ → ℕ → ℕ → ℕ → Option ℕ → Here
here_of at left given depth row = record { at = at; left = left; given = given; depth = depth; row = row }

unfoldable pub standing : List ℕ → Here → Stand
standing list here = record { at = here.at; left = here.left; given = take here.given list }

-- among the first n rows of memory, with as many steps as a walk has
abbrev pub going : List ℕ → ℕ → List ℕ → Item → Stand → Outcome
going m n bytes = λ i k. visit (rows_from m n 0) bytes steps i k

-- what comes of the frames
unfoldable pub outcome : List ℕ → ℕ → List ℕ → List ℕ → ℕ → Stand → Outcome
outcome m n bytes frames depth h = run bytes (going m n bytes) (frames_of m n frames depth) h

-- what comes of an item before them
unfoldable pub after : List ℕ → ℕ → List ℕ → List ℕ → ℕ → Outcome → Outcome
after m n bytes frames depth o = and_then o (λ k. outcome m n bytes frames depth k)

-- what comes of a row that is to be visited now, if there is one, and then of them
unfoldable pub from_row : List ℕ → ℕ → List ℕ → List ℕ → ℕ → Option ℕ → Stand → Outcome
from_row m n bytes frames depth None h = outcome m n bytes frames depth h
from_row m n bytes frames depth (Some row) h = after m n bytes frames depth (going m n bytes (datum (type_at m n row)) h)

-- what comes of all that is still to come
unfoldable pub pending : List ℕ → ℕ → List ℕ → List ℕ → List ℕ → Here → Outcome
pending m n bytes frames list here = from_row m n bytes frames here.depth here.row (standing list here)

-- the numbers of a walk keep their bounds: a frame and an offset cost a step each
pub record Bounded (bytes frames : List ℕ) (here : Here) : Type 0 where
  pub at_bound : here.at ≤ length bytes
  pub frames_size : length frames ≡ 3 * steps
  pub frames_room : here.depth + here.left ≤ steps

pub record Listed (list : List ℕ) (here : Here) : Type 0 where
  pub list_size : length list ≡ steps + 1
  pub list_room : here.given + here.left ≤ steps

-- each turn takes a step, pops a frame or gives a row to visit
abbrev pub rowless : Option ℕ → ℕ
rowless None = 1
rowless (Some row) = 0

abbrev pub to_do : Here → ℕ
to_do here = 4 * here.left + (2 * here.depth + rowless here.row)

-- a turn of the walk: on, or what stops it
abbrev pub Turn : Type 0
Turn = Result Here Fault

-- it does not change what comes of it all
pub data Turned (m : List ℕ) (n : ℕ) (bytes frames list : List ℕ) (o : Outcome) (more : ℕ) : Turn → Type 0 where
  on : {here : Here} → Bounded bytes frames here → Listed list here → pending m n bytes frames list here ≡ o → to_do here < more
      → Turned m n bytes frames list o more (Ok here)
  stop : {f : Fault} → stopped f.why f.at ≡ o → Turned m n bytes frames list o more (Err f)

-- what comes of the datum at a row, once its step is taken, and then of the frames
unfoldable pub on_datum : List ℕ → ℕ → List ℕ → List ℕ → List ℕ → ℕ → Here → Outcome
on_datum m n bytes frames list row here =
    after m n bytes frames here.depth (one_item (rows_from m n 0) bytes (going m n bytes) (datum (type_at m n row)) (standing list here))

-- what comes of the blocks of the array or map at a row, and then of the frames; and of a block whose count was read
unfoldable pub on_blocks : List ℕ → ℕ → List ℕ → List ℕ → List ℕ → ℕ → Here → Outcome
on_blocks m n bytes frames list row here = after m n bytes frames here.depth (going m n bytes (blocks (type_at m n row)) (standing list here))

unfoldable pub on_block : List ℕ → ℕ → List ℕ → List ℕ → List ℕ → ℕ → ℕ → Here → Outcome
on_block m n bytes frames list row v here = after m n bytes frames here.depth (block bytes (going m n bytes) (type_at m n row) v (standing list here))

-- what is left to do before the step that was taken
abbrev pub before : Here → ℕ
before here = 4 * here.left + (2 * here.depth + 4)

-- what the walk of a type's datum, from an offset on, answers: where the datum ends and how many offsets were given, or what stops it; with the offsets that it
-- leaves in a list
abbrev pub Walked : Type 0
Walked = Result (ℕ × ℕ) Fault

pub data Gave (list : List ℕ) : Outcome → Walked → Type 0 where
  gave : {h : Stand} → length h.given ≤ steps → take (length h.given) list ≡ h.given → Gave list (went h) (Ok (h.at, length h.given))
  refused : {f : Fault} → Gave list (stopped f.why f.at) (Err f)
