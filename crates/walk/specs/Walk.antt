-- The walk of a datum by the rows of its type: a line for each kind, as Avro 1.12.0's binary encoding has them. Positions are offsets in the bytes.
-- Assumes nothing.
use Rattle.std.specs.Prelude.{ℕ, zero, suc, ◌+◌, ◌-◌, Bool, true, false, not, ◌&&◌, List, [], ◌∷◌, ◌++◌, Ok, Err, eqb, leb, ltb, length, get_or}
use Rattle.answer.specs.declared.refusal.Why.{Why}
use Rattle.answer.specs.declared.refusal.Why.TheVariants.{CutShort, NumberWrong, OutOfRange, TooManySteps, BlockSizeWrong}
use Rattle.ground.specs.Bytes.{byte_at}
use Rattle.binary.specs.Numbers.{Number, int_at, long_at, is_negative, absolute}
use Rattle.binary.specs.declared.number.NumberError.TheVariants.{Cut, Wrong}
use Rattle.row.specs.Rows.{Row}
use Rattle.row.specs.declared.kind.Kind.{Kind}
use Rattle.row.specs.declared.kind.Kind.TheVariants.{Null, Boolean, Int, Long, Float, Double, Bytes, String, Reference, Array, Map, Union, Record, Enum, Fixed, Field, Symbol, Alias, FieldAlias}
use Rattle.resolve.specs.Resolve.{definition_in}
use Rattle.walk.specs.Parts.{parts_of, first, inside, is_map}

-- where a walk stands: its offset, how many steps it has left, and the offsets that it has given
pub record Stand : Type 0 where
  pub at : ℕ
  pub left : ℕ
  pub given : List ℕ

-- it went on, or it stopped: why, and at which offset
pub data Outcome : Type 0 where
  went : Stand → Outcome
  stopped : Why → ℕ → Outcome

-- what takes a step: the datum of a type, or the blocks of an array or map, whose rows these are, from a block's header on
pub data Item : Type 0 where
  datum : List Row → Item
  blocks : List Row → Item

unfoldable pub pick : Bool → Outcome → Outcome → Outcome
pick true a b = a
pick false a b = b

unfoldable pub and_then : Outcome → (Stand → Outcome) → Outcome
and_then (went h) next = next h
and_then (stopped why at) next = stopped why at

-- n times, one after the other
unfoldable pub times : (Stand → Outcome) → ℕ → Stand → Outcome
times go zero h = went h
times go (suc n) h = and_then (go h) (λ k. times go n k)

unfoldable pub moved_to : ℕ → Stand → Stand
moved_to at h = record { at = at; left = h.left; given = h.given }

-- it gives the offset where it stands
unfoldable pub giving : Stand → Stand
giving h = record { at = h.at; left = h.left; given = h.given ++ (h.at ∷ []) }

unfoldable pub spent : Stand → Stand
spent h = record { at = h.at; left = h.left - 1; given = h.given }

-- ---- what stands in the bytes

-- a block's size, with the block behind it: is it right for a block that ends here?
unfoldable pub is_size : Number → ℕ → Bool
is_size (Ok (z, from)) to = not (is_negative z) && eqb (from + absolute z) to
is_size (Err e) to = false

module _ (bytes : List ℕ) where
  -- so many bytes, whatever they are
  unfoldable pub passed : ℕ → Stand → Outcome
  passed n h = pick (leb (h.at + n) (length bytes)) (went (moved_to (h.at + n) h)) (stopped CutShort (length bytes))

  -- a number, and what comes of it
  unfoldable pub on_number : Number → (ℕ → Stand → Outcome) → Stand → Outcome
  on_number (Ok (v, to)) next h = next v (moved_to to h)
  on_number (Err Cut) next h = stopped CutShort (length bytes)
  on_number (Err Wrong) next h = stopped NumberWrong h.at

  abbrev pub on_int : (ℕ → Stand → Outcome) → Stand → Outcome
  on_int next h = on_number (int_at bytes h.at) next h

  abbrev pub on_long : (ℕ → Stand → Outcome) → Stand → Outcome
  on_long next h = on_number (long_at bytes h.at) next h

  -- a boolean: one byte, 0 or 1
  unfoldable pub flag : Stand → Outcome
  flag h =
      pick (ltb h.at (length bytes))
      (pick (leb (byte_at bytes h.at) 1) (went (moved_to (h.at + 1) h)) (stopped OutOfRange h.at))
      (stopped CutShort (length bytes))

  -- a length, and so many bytes
  unfoldable pub counted : Stand → Outcome
  counted h = on_long (λ v k. pick (is_negative v) (stopped NumberWrong h.at) (passed (absolute v) k)) h

  -- an int that says which of some parts, from 0
  unfoldable pub chosen : List (List Row) → (List Row → Stand → Outcome) → Stand → Outcome
  chosen parts next h =
      on_int (λ v k. pick (not (is_negative v) && ltb (absolute v) (length parts)) (next (get_or parts (absolute v) []) k) (stopped OutOfRange h.at)) h

  -- before a map's value stands its key; it is read as a string is, and takes no step
  unfoldable pub key : List Row → Stand → Outcome
  key type h = pick (is_map type) (counted h) (went h)

  -- a block that has ended has the size that stands at an offset
  unfoldable pub ended : ℕ → Stand → Outcome
  ended size h = pick (is_size (long_at bytes size) h.at) (went h) (stopped BlockSizeWrong size)

-- ---- what has parts; `go` takes a step and walks on

unfoldable pub in_turn : (Item → Stand → Outcome) → List (List Row) → Stand → Outcome
in_turn go [] h = went h
in_turn go (part ∷ parts) h = and_then (go (datum part) h) (λ k. in_turn go parts k)

module _ (bytes : List ℕ) (go : Item → Stand → Outcome) where
  -- an array's item, or a map's pair
  unfoldable pub entry : List Row → Stand → Outcome
  entry type h = and_then (key bytes type h) (λ k. go (datum (inside type)) k)

  -- the n entries of a block, then the blocks behind it
  unfoldable pub plain_block : List Row → ℕ → Stand → Outcome
  plain_block type n h = and_then (times (λ k. entry type k) n h) (λ k. go (blocks type) k)

  -- the same of a block whose size stands at an offset
  unfoldable pub sized_block : List Row → ℕ → ℕ → Stand → Outcome
  sized_block type n size h = and_then (times (λ k. entry type k) n h) (λ k. and_then (ended bytes size k) (λ j. go (blocks type) j))

  -- a block by its count: one below 0 stands for its absolute value and is followed by the size
  unfoldable pub block : List Row → ℕ → Stand → Outcome
  block type v h =
      pick (is_negative v) (on_long bytes (λ z k. sized_block type (absolute v) h.at k) h) (plain_block type (absolute v) h)

  -- a block's header; a count of 0 ends the blocks
  unfoldable pub header : List Row → Stand → Outcome
  header type h = on_long bytes (λ v k. pick (eqb v 0) (went k) (block type v k)) h

-- ---- types, among rows in which the definitions are

module _ (rows : List Row) (bytes : List ℕ) (go : Item → Stand → Outcome) where
  -- the datum of a type, by the kind of its row r; `rest` are the rows behind it
  unfoldable pub kind_datum : Kind → Row → List Row → Stand → Outcome
  kind_datum Null r rest h = went h
  kind_datum Boolean r rest h = flag bytes h
  kind_datum Int r rest h = on_int bytes (λ v k. went k) h
  kind_datum Long r rest h = on_long bytes (λ v k. went k) h
  kind_datum Float r rest h = passed bytes 4 h
  kind_datum Double r rest h = passed bytes 8 h
  kind_datum Bytes r rest h = counted bytes h
  kind_datum String r rest h = counted bytes h
  kind_datum Fixed r rest h = passed bytes r.size h
  kind_datum Enum r rest h = chosen bytes (parts_of r rest) (λ part k. went k) h
  kind_datum Union r rest h = chosen bytes (parts_of r rest) (λ part k. go (datum part) (giving k)) h
  kind_datum Reference r rest h = go (datum (definition_in r.text rows)) h
  kind_datum Record r rest h = in_turn go (parts_of r rest) h
  kind_datum Field r rest h = go (datum (first (parts_of r rest))) (giving h)
  kind_datum Array r rest h = go (blocks (r ∷ rest)) h
  kind_datum Map r rest h = go (blocks (r ∷ rest)) h
  -- what is left has no datum
  kind_datum Symbol r rest h = went h
  kind_datum Alias r rest h = went h
  kind_datum FieldAlias r rest h = went h

  unfoldable pub one_item : Item → Stand → Outcome
  one_item (datum []) h = went h
  one_item (datum (r ∷ rest)) h = kind_datum r.kind r rest h
  one_item (blocks type) h = header bytes go type h

-- ---- steps: 45 where none is left, before anything of the item is read

-- the first number bounds how deep items stand in each other, and stops no walk where it is at least the steps that are left
unfoldable pub visit : List Row → List ℕ → ℕ → Item → Stand → Outcome
visit rows bytes zero item h = stopped TooManySteps h.at
visit rows bytes (suc f) item h =
    let more = one_item rows bytes (λ i k. visit rows bytes f i k) item (spent h) in
    pick (eqb h.left 0) (stopped TooManySteps h.at) more

abbrev pub steps : ℕ
steps = 4096

-- the datum of a type, from an offset on
unfoldable pub walked : List Row → List ℕ → List Row → ℕ → Outcome
walked rows bytes type at = visit rows bytes steps (datum type) (record { at = at; left = steps; given = [] })
