-- The returns of `read`: what comes of a walk.
-- Assumes nothing.
use mathlib.Core.Path.{◌≡◌, refl, sym, ap, ap₂, ◌∙◌}
use mathlib.Core.Bool.{true}
use mathlib.Core.List.{List, [], ◌∷◌, ◌++◌}
use Prim.Native.Nat.{ℕ, ◌+◌, ◌-◌, ◌<◌, ◌≤◌}
use native.Mathlib.Numerals.{add-one}
use native.Mathlib.Omega.{arith}
use lib.ListN.{length, take, set, length-append, length-set}
use lib.Seq.{take-suc-set}
use borrow.Author.Tests.{lt-ltb, le-ltb, le-leb, lt-leb}
use Rattle.std.specs.Prelude.{Result, Ok, Err, MatchResult}
use Rattle.answer.specs.declared.refusal.Why.TheVariants.{NoRoom, BytesLeftOver}
use Rattle.answer.specs.declared.refusal.Fault.{Fault}
use Rattle.answer.specs.declared.refusal.Refusal.{Refusal}
use Rattle.answer.specs.Answers.{accepted, of_refusal}
use Rattle.answer.specs.Places.{placed}
use Rattle.ground.specs.Bytes.{store}
use Rattle.row.specs.Rows.{Row}
use Rattle.row.specs.Sets.{decode, count_in, rows_from}
use Rattle.row.specs.Memory.{rows_before}
use Rattle.formed.specs.WellFormed.{well_formed}
use Rattle.walk.specs.Walk.{Outcome, stopped, walked, steps}
use Rattle.walk.proofs.Laws.{Went}
use Rattle.summary.specs.Summary.{Reading, offsets, refusal, walked_over, datum_in, in_room}
use Rattle.summary.specs.Calls.{Offsets, numbers_of_offsets, reading_of, list_after}
use Rattle.summary.proofs.FormedLaws.{formed_all, place_type}

-- the walk by rows in memory is that of the set
module _ (m : List ℕ) (w : well_formed m ≡ true) (count : ℕ) (c : count ≡ count_in m) (n : ℕ) (p : n ≡ rows_before m count) (place : ℕ) (l : place < length (decode m)) (start : ℕ) (q : start ≡ rows_before m place) where
  pub datum_is : (bytes : List ℕ) (at : ℕ) → datum_in (decode m) place bytes at ≡ walked_over place bytes (walked (rows_from m n 0) bytes (rows_from m (n - start) start) at)
  unfolding datum_in
  datum_is bytes at =
      ap₂ (λ (all type : List Row). walked_over place bytes (walked all bytes type at)) (sym (formed_all m w count c n p)) (sym (place_type m w count c n p place l start q))

-- an answer of the walk whose fault was placed
pub mapped_ok : (s : Result (ℕ × ℕ) Fault) {x : ℕ × ℕ} → MatchResult s (λ y. ◌≡◌ {A = Offsets} (Ok x) (Ok y)) (λ f. ⊥) → s ≡ Ok x
mapped_ok (Ok y) {x} h = let z : y ≡ x = cc in ap Ok z
mapped_ok (Err f) h = absurd h

pub mapped_err : (place : ℕ) (s : Result (ℕ × ℕ) Fault) {r : Refusal} {Q : Fault → Type 0} → MatchResult s (λ y. ◌≡◌ {A = Offsets} (Err r) (Ok y)) Q
    → ((f : Fault) → Q f → r ≡ placed f place) → (f : Fault) × (s ≡ Err f) × (r ≡ placed f place)
mapped_err place (Ok y) h q = absurd cc
mapped_err place (Err f) h q = (f, refl, q f h)

-- there is room for the end's offset
pub read_room : {list : List ℕ} {o : Outcome} {to given : ℕ} → Went list o to given → length list ≡ steps + 1 → given + 1 ≤ length (set list given to)
read_room {list} {o} {to} {given} g s = omega (arith, length-set list given to, g.few)

module _ (asked place : ℕ) (bytes out : List ℕ) (o : Outcome) (x : Reading) (e : x ≡ walked_over place bytes o) where
  abbrev y : Reading
  y = in_room asked (length out) x

  pub read_stopped : {f : Fault} → o ≡ stopped f.why f.at → {r : Refusal} → r ≡ placed f place → {a : Offsets} → a ≡ Err r → (numbers_of_offsets a ≡ reading_of y) × (out ≡ list_after y out)
  unfolding walked_over in_room reading_of list_after
  read_stopped q h g = rw (e, q, g, h) (refl, refl)

  module _ {list : List ℕ} {to given : ℕ} (g : Went list o to given) where
    pub read_left : to < length bytes → {r : Refusal} → r ≡ refusal BytesLeftOver place to → (of_refusal r ≡ reading_of y) × (out ≡ list_after y out)
    unfolding walked_over in_room reading_of list_after
    read_left l h =
        let k : g.stand.at < length bytes = omega (arith, g.end) in
        rw (e, g.whole, h, lt-ltb g.stand.at (length bytes) k, g.end) (refl, refl)

    abbrev all : List ℕ
    all = g.stand.given ++ (g.stand.at ∷ [])

    length_all : length all ≡ given + 1
    length_all = length-append g.stand.given (g.stand.at ∷ []) ∙ omega (arith, g.count)

    module _ (l : length bytes ≤ to) where
      over : x ≡ offsets place all
      unfolding walked_over
      over = let k : length bytes ≤ g.stand.at = omega (arith, g.end) in rw (e, g.whole, le-ltb g.stand.at (length bytes) k)

      pub read_full : length out < given + 1 → {r : Refusal} → r ≡ refusal NoRoom asked (given + 1) → (of_refusal r ≡ reading_of y) × (out ≡ list_after y out)
      unfolding in_room reading_of list_after
      read_full s h = rw (over, h, length_all, lt-leb (given + 1) (length out) s) (refl, refl)

      -- the end's offset is the last
      stored : length list ≡ steps + 1 → take (given + 1) (set list given to) ≡ all
      stored s =
          rw add-one (take-suc-set list given to (omega (arith, g.few)))
          ∙ ap₂ (λ (a : List ℕ) (b : ℕ). a ++ (b ∷ [])) g.front g.end

      pub read_given : given + 1 ≤ length out → length list ≡ steps + 1 → {out' : List ℕ} → out' ≡ store out 0 (take (given + 1) (set list given to))
          → (accepted place (given + 1) 0 ≡ reading_of y) × (out' ≡ list_after y out)
      unfolding in_room reading_of list_after
      read_given s t h = rw (over, length_all, le-leb (given + 1) (length out) s) (ap (λ (k : ℕ). accepted place k 0) (sym length_all), h ∙ ap (store out 0) (stored t))
