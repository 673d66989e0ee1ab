-- The returns of `summary`, `find` and `datum`.
-- Assumes nothing.
use mathlib.Core.Path.{◌≡◌, refl, sym, ap, subst, ◌∙◌}
use mathlib.Core.Bool.{true, false}
use mathlib.Core.List.{List}
use Prim.Native.Nat.{ℕ, ◌<◌, ◌≤◌}
use native.Mathlib.Omega.{arith}
use lib.ListN.{length, take, drop}
use borrow.Author.Tests.{ne_eqb, lt-ltb, le-ltb, le-leb, lt-leb}
use Rattle.answer.specs.declared.refusal.Why.TheVariants.{NotWellFormed, NoSuchPlace, MarkerWrong, FingerprintUnknown, CutShort}
use Rattle.answer.specs.declared.refusal.Refusal.{Refusal}
use Rattle.answer.specs.declared.numbers.Numbers.{Numbers}
use Rattle.answer.specs.Answers.{of_refusal}
use Rattle.ground.specs.Bytes.{part}
use Rattle.row.specs.Sets.{decode, count_in}
use Rattle.formed.specs.WellFormed.{well_formed}
use Rattle.canonical.specs.Places.{place_with}
use Rattle.summary.specs.Summary.{Reading, refusal, in_room, datum_in, marker_at, on_place, summary_in, summary_of, datum_of, place_of}
use Rattle.summary.specs.Calls.{Offsets, Place, numbers_of_offsets, numbers_of_place, reading_of, list_after, finding_of}
use Rattle.std.specs.Prelude.{Ok, Err, MatchResult}
use Rattle.summary.proofs.FormedLaws.{formed_count}

-- the place of a fingerprint among the declarations, or 41 at a position
abbrev pub Placed : List ℕ → List ℕ → ℕ → Place → Type 0
Placed m print at a =
    MatchResult a (λ place. (place ≡ place_with print (decode m)) × (place < length (decode m)))
    (λ r. (length (decode m) ≤ place_with print (decode m)) × (r ≡ refusal FingerprintUnknown 0 at))

-- ---- a summary

module _ (m bytes out : List ℕ) where
  abbrev Says : Offsets → Type 0
  Says a = (numbers_of_offsets a ≡ reading_of (summary_of m bytes (length out))) × (out ≡ list_after (summary_of m bytes (length out)) out)

  pub summary_broken : {r : Refusal} → (well_formed m ≡ false) × (r ≡ refusal NotWellFormed 0 0) → {a : Offsets} → a ≡ Err r → Says a
  unfolding summary_of reading_of list_after
  summary_broken h e = rw (e, h.0, h.1) (refl, refl)

  module _ (w : well_formed m ≡ true) where
    pub summary_marker : (k : ℕ) → k ≡ marker_at bytes → (k ≡ 2 → ⊥) → {r : Refusal} → r ≡ refusal MarkerWrong 0 k → Says (Err r)
    unfolding summary_of summary_in in_room reading_of list_after
    summary_marker k e n h = rw (w, h, ← e, ne_eqb k 2 n) (refl, refl)

    module _ (k : ℕ) (e : k ≡ marker_at bytes) (f : k ≡ 2) where
      marked : marker_at bytes ≡ 2
      marked = sym e ∙ f

      pub summary_cut : length bytes < 10 → {r : Refusal} → r ≡ refusal CutShort 0 (length bytes) → Says (Err r)
      unfolding summary_of summary_in in_room reading_of list_after
      summary_cut l h = rw (w, h, marked, lt-leb 10 (length bytes) l) (refl, refl)

      module _ (l : 10 ≤ length bytes) where
        pub summary_unknown : {r : Refusal} → Placed m (take 8 (drop 2 bytes)) 2 (Err r) → {a : Offsets} → a ≡ Err r → Says a
        unfolding summary_of summary_in on_place part in_room reading_of list_after
        summary_unknown h e =
            rw (e, w, h.1, marked, le-leb 10 (length bytes) l, le-ltb (place_with (take 8 (drop 2 bytes)) (decode m)) (length (decode m)) h.0) (refl, refl)

        pub summary_read : {place : ℕ} → Placed m (take 8 (drop 2 bytes)) 2 (Ok place) → in_room 0 (length out) (datum_in (decode m) place bytes 10) ≡ summary_of m bytes (length out)
        unfolding summary_of summary_in on_place part
        summary_read {place} h = rw (w, marked, le-leb 10 (length bytes) l, ← h.0, lt-ltb place (length (decode m)) h.1)

-- what was read is the answer
pub as_read : {r : Numbers} {a b : Reading} (out : List ℕ) {out' : List ℕ} → a ≡ b → (r ≡ reading_of a) × (out' ≡ list_after a out) → (r ≡ reading_of b) × (out' ≡ list_after b out)
as_read out e h = (h.0 ∙ ap reading_of e, h.1 ∙ ap (λ (x : Reading). list_after x out) e)

-- ---- a datum

module _ (m : List ℕ) (place : ℕ) (bytes out : List ℕ) where
  pub datum_broken : {r : Refusal} → (well_formed m ≡ false) × (r ≡ refusal NotWellFormed place 0) → {a : Offsets} → a ≡ Err r
      → (numbers_of_offsets a ≡ reading_of (datum_of m place bytes (length out))) × (out ≡ list_after (datum_of m place bytes (length out)) out)
  unfolding datum_of reading_of list_after
  datum_broken h e = rw (e, h.0, h.1) (refl, refl)

  module _ (w : well_formed m ≡ true) (count : ℕ) (c : count ≡ count_in m) where
    pub datum_absent : count ≤ place → {r : Refusal} → r ≡ refusal NoSuchPlace place 0
        → (of_refusal r ≡ reading_of (datum_of m place bytes (length out))) × (out ≡ list_after (datum_of m place bytes (length out)) out)
    unfolding datum_of reading_of list_after
    datum_absent a h =
        let b : length (decode m) ≤ place = omega (arith, formed_count m w) in
        rw (w, h, le-ltb place (length (decode m)) b) (refl, refl)

    pub datum_place : place < count → place < length (decode m)
    datum_place a = omega (arith, formed_count m w)

    pub datum_read : place < count → in_room place (length out) (datum_in (decode m) place bytes 0) ≡ datum_of m place bytes (length out)
    unfolding datum_of
    datum_read a = rw (w, lt-ltb place (length (decode m)) (datum_place a))

-- ---- the place of a fingerprint

module _ (m print : List ℕ) where
  pub find_broken : {r : Refusal} → (well_formed m ≡ false) × (r ≡ refusal NotWellFormed 0 0) → {a : Place} → a ≡ Err r → numbers_of_place a ≡ finding_of (place_of m print)
  unfolding place_of finding_of
  find_broken h e = rw (e, h.0, h.1)

  pub find_place : well_formed m ≡ true → {bytes : List ℕ} → bytes ≡ print → (a : Place) → Placed m bytes 0 a → numbers_of_place a ≡ finding_of (place_of m print)
  unfolding place_of finding_of
  find_place w {bytes = bytes} b (Ok place) h = let e : place_with print (decode m) ≡ place = sym (h.0 ∙ ap (λ (x : List ℕ). place_with x (decode m)) b) in rw (w, e, lt-ltb place (length (decode m)) h.1)
  find_place w {bytes = bytes} b (Err r) h =
      let l : length (decode m) ≤ place_with print (decode m) = subst (λ (x : List ℕ). length (decode m) ≤ place_with x (decode m)) b h.0 in
      rw (w, h.1, le-ltb (place_with print (decode m)) (length (decode m)) l)
