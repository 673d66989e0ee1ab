-- A summary in Avro's single-object encoding: the bytes C3 01, eight fingerprint bytes, lowest first, and the datum of the declaration that has this
-- fingerprint. What the three calls read from one, or refuse, in the order of their tests.
-- Assumes nothing.
use Rattle.std.specs.Prelude.{ℕ, cond, ◌&&◌, List, [], ◌∷◌, ◌++◌, eqb, leb, ltb, length, drop}
use Rattle.answer.specs.declared.refusal.Why.{Why}
use Rattle.answer.specs.declared.refusal.Why.TheVariants.{NotWellFormed, NoSuchPlace, NoRoom, MarkerWrong, FingerprintUnknown, CutShort, BytesLeftOver}
use Rattle.answer.specs.declared.refusal.Refusal.{Refusal}
use Rattle.ground.specs.Bytes.{part}
use Rattle.row.specs.Rows.{Row}
use Rattle.row.specs.Sets.{flat, decode}
use Rattle.formed.specs.WellFormed.{well_formed}
use Rattle.canonical.specs.Places.{place_with}
use Rattle.walk.specs.Walk.{Outcome, went, stopped, walked}

-- a declaration's place and the offsets of its datum, or a refusal
pub data Reading : Type 0 where
  offsets : ℕ → List ℕ → Reading
  refused : Refusal → Reading

abbrev pub refusal : Why → ℕ → ℕ → Refusal
refusal why place at = record { why = why; place = place; at = at }

-- ---- the datum of the declaration at a place, in the bytes from an offset on

-- what was walked: 46 where bytes are left over; the end's offset is the last
unfoldable pub walked_over : ℕ → List ℕ → Outcome → Reading
walked_over place bytes (went h) = cond (ltb h.at (length bytes)) (refused (refusal BytesLeftOver place h.at)) (offsets place (h.given ++ (h.at ∷ [])))
walked_over place bytes (stopped why at) = refused (refusal why place at)

-- a declaration's type is its own rows; definitions are sought in the whole set
unfoldable pub datum_in : List (List Row) → ℕ → List ℕ → ℕ → Reading
datum_in ds place bytes at = walked_over place bytes (walked (flat ds) bytes (flat (drop place ds)) at)

-- 29, with the place that was asked for: a list of so many numbers is too short
unfoldable pub in_room : ℕ → ℕ → Reading → Reading
in_room asked room (offsets place list) = cond (leb (length list) room) (offsets place list) (refused (refusal NoRoom asked (length list)))
in_room asked room (refused r) = refused r

-- ---- a summary

-- where the marker C3 01 is wrong or cut; 2 where it is right
unfoldable pub marker_at : List ℕ → ℕ
marker_at [] = 0
marker_at (a ∷ []) = cond (eqb a 195) 1 0
marker_at (a ∷ b ∷ bytes) = cond (eqb a 195 && eqb b 1) 2 0

-- 41, or the datum
unfoldable pub on_place : List (List Row) → List ℕ → ℕ → Reading
on_place ds bytes place = cond (ltb place (length ds)) (datum_in ds place bytes 10) (refused (refusal FingerprintUnknown 0 2))

-- 40, 42, 41, the datum
unfoldable pub summary_in : List (List Row) → List ℕ → Reading
summary_in ds bytes =
    cond (eqb (marker_at bytes) 2)
    (cond (leb 10 (length bytes)) (on_place ds bytes (place_with (part bytes 2 8) ds)) (refused (refusal CutShort 0 (length bytes))))
    (refused (refusal MarkerWrong 0 (marker_at bytes)))

-- ---- the calls

-- the whole: 20, what is read, 29
unfoldable pub summary_of : List ℕ → List ℕ → ℕ → Reading
summary_of m bytes room = cond (well_formed m) (in_room 0 room (summary_in (decode m) bytes)) (refused (refusal NotWellFormed 0 0))

-- a datum alone, by the declaration at a place: 20, 21, what is walked, 29. Its first byte has the offset 0
unfoldable pub datum_of : List ℕ → ℕ → List ℕ → ℕ → Reading
datum_of m place bytes room =
    cond (well_formed m)
    (cond (ltb place (length (decode m))) (in_room place room (datum_in (decode m) place bytes 0)) (refused (refusal NoSuchPlace place 0)))
    (refused (refusal NotWellFormed place 0))

-- the place of a fingerprint alone
pub data Finding : Type 0 where
  found : ℕ → Finding
  nowhere : Refusal → Finding

-- 20, then 41
unfoldable pub place_of : List ℕ → List ℕ → Finding
place_of m print =
    cond (well_formed m)
    (cond (ltb (place_with print (decode m)) (length (decode m))) (found (place_with print (decode m))) (nowhere (refusal FingerprintUnknown 0 0)))
    (nowhere (refusal NotWellFormed 0 0))
