-- What callers cite of canonical text: how long it is, what it does not depend on, what its bytes are, where they go.
-- Assumes nothing.
use mathlib.Core.Path.{◌≡◌}
use mathlib.Core.Bool.{true, ◌&&◌}
use mathlib.Core.List.{List, [], ◌∷◌, ◌++◌, map}
use Prim.Native.Nat.{ℕ, ◌+◌, ◌*◌, ◌<◌, ◌≤◌}
use native.Mathlib.Omega.{arith}
use lib.Dec.{eqb}
use lib.ListN.{length, take, drop, length-append}
use borrow.Author.Tests.{lt-leb}
use Rattle.answer.specs.declared.refusal.Why.TheVariants.{NoRoom}
use Rattle.ground.proofs.Laws.{never, and_true, store_fits}
use Rattle.row.specs.Rows.{Row, texts}
use Rattle.row.specs.Sets.{flat, decode}
use Rattle.row.specs.declared.kind.Kind.{Kind}
use Rattle.row.specs.declared.kind.Kind.TheVariants.{Null, Boolean, Int, Long, Float, Double, Bytes, String, Reference, Array, Map, Union, Record, Enum, Fixed, Field, Symbol, Alias, FieldAlias}
use Rattle.resolve.specs.Kinds.{is_kind, is_schema}
use Rattle.resolve.specs.Rules.{climbs, is_declaration}
use Rattle.formed.specs.WellFormed.{well_formed}
use Rattle.canonical.specs.Pieces.{opening, closing}
use Rattle.canonical.specs.Canonical.{is_written, parts_of, listed, text_of, canonical_of}
use Rattle.canonical.specs.Calls.{found, refused, refusal, rows_at, text_at, written_at, buffer_after}
use Rattle.canonical.specs.Walk.{text_limit, row_cost}
use Rattle.canonical.proofs.TextLaws.{text_short}
use Rattle.canonical.proofs.CallLaws.{set_short, canonical_short}
use Rattle.canonical.proofs.SameLaws.{schema_written}
-- the numbers of an answer tell it
pub use Rattle.canonical.proofs.CallLaws.{written_one, print_one}
-- more fuel than there are rows changes nothing
pub use Rattle.canonical.proofs.FuelLaws.{enough}
-- positions, aliases, notes, precision and scale change nothing
pub use Rattle.canonical.proofs.SameLaws.{same_text, same_texts}
-- every byte of a declaration's text is printable ASCII
pub use Rattle.canonical.proofs.PrintLaws.{printable}

-- ---- how long it is

-- any rows: `row_cost` bytes for each at most, and their strings
pub bound : (rows : List Row) → length (canonical_of rows) ≤ row_cost * length rows + length (texts rows)
unfolding canonical_of
bound rows = text_short (length rows) rows

-- a declaration of a set: by the set's counts
pub counts_bound : (ds : List (List Row)) (place : ℕ) → place < length ds → length (canonical_of (rows_at ds place)) ≤ row_cost * length (flat ds) + length (texts (flat ds))
counts_bound ds place l = set_short ds place l

-- the declaration at a place of a well-formed set: 81,920 bytes at most
pub place_bound : (m : List ℕ) (place : ℕ) → well_formed m ≡ true → place < length (decode m) → length (canonical_of (rows_at (decode m) place)) ≤ text_limit
place_bound m place w l = canonical_short m w place l

opening_some : (k : Kind) (s : List ℕ) (n : ℕ) → is_written k ≡ true → 1 ≤ length (opening k s n)
unfolding opening is_written is_kind
opening_some Null s n e = omega arith
opening_some Boolean s n e = omega arith
opening_some Int s n e = omega arith
opening_some Long s n e = omega arith
opening_some Float s n e = omega arith
opening_some Double s n e = omega arith
opening_some Bytes s n e = omega arith
opening_some String s n e = omega arith
opening_some Reference s n e = omega arith
opening_some Array s n e = omega arith
opening_some Map s n e = omega arith
opening_some Union s n e = omega arith
opening_some Record s n e = omega arith
opening_some Enum s n e = omega arith
opening_some Fixed s n e = omega arith
opening_some Field s n e = omega arith
opening_some Symbol s n e = omega arith
opening_some Alias s n e = never e
opening_some FieldAlias s n e = never e

-- no declaration's text is empty
pub some_bytes : (rows : List Row) → is_declaration rows ≡ true → 1 ≤ length (canonical_of rows)
unfolding is_declaration canonical_of text_of
some_bytes [] e = never e
some_bytes (r ∷ rows) e =
    let a = (and_true (eqb r.depth 0 && is_schema r.kind && climbs 0 rows) _ e).0 in
    let b = (and_true (eqb r.depth 0 && is_schema r.kind) (climbs 0 rows) a).0 in
    let w = schema_written r.kind (and_true (eqb r.depth 0) _ b).1 in
    omega (arith, opening_some r.kind r.text r.size w, length-append (opening r.kind r.text r.size) (listed (map (text_of (length rows)) (parts_of r.depth rows)) ++ closing r.kind))

-- ---- where it goes

-- what stood before the offset, the text, what stood behind it
pub bytes_stay : (s b : List ℕ) (offset : ℕ) → offset + length s ≤ length b → buffer_after (found s) b offset ≡ take offset b ++ (s ++ drop (offset + length s) b)
unfolding buffer_after
bytes_stay s b offset h = store_fits b offset s h

-- an offset past the end leaves no room
pub past_end : (m : List ℕ) (place offset room : ℕ) (s : List ℕ) → text_at m place ≡ found s → room < offset → written_at m place offset room ≡ refused (refusal NoRoom place (length s))
unfolding written_at
past_end m place offset room s e h = rw (e, lt-leb (offset + length s) room (omega arith))
