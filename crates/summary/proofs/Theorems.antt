-- What the definitions of summaries imply.
-- Assumes nothing.
use mathlib.Core.Path.{◌≡◌, refl, sym, ap, ap₂, ◌∙◌}
use mathlib.Core.Bool.{Bool, true, false, cond, ◌&&◌}
use mathlib.Core.List.{List, [], ◌∷◌, ◌++◌}
use Prim.Native.Nat.{ℕ, ◌≤◌}
use native.Mathlib.Omega.{arith}
use lib.Dec.{eqb, leb, ltb}
use lib.ListN.{length, get_or, take}
use borrow.Author.Tests.{eqb-true, eq-eqb, leb-true, le-leb, ltb-false}
use Rattle.answer.specs.declared.refusal.Why.TheVariants.{NoRoom, MarkerWrong, FingerprintUnknown, CutShort, BytesLeftOver}
use Rattle.answer.specs.declared.refusal.Refusal.{Refusal}
use Rattle.ground.specs.Bytes.{part}
use Rattle.ground.proofs.Laws.{and_true}
use Rattle.row.specs.Rows.{Row}
use Rattle.row.specs.Sets.{flat}
use Rattle.canonical.specs.Places.{place_with}
use Rattle.walk.specs.Walk.{Stand, Outcome, went, stopped}
use Rattle.walk.proofs.Longer.{walk_inside}
use Rattle.summary.specs.Summary.{Reading, offsets, refused, refusal, walked_over, datum_in, in_room, marker_at, on_place, summary_in}

-- a refusal has no offsets
never_read : {A : Type 0} {r : Refusal} {p : ℕ} {l : List ℕ} → refused r ≡ offsets p l → A
never_read e = let z : ◌≡◌ {A = ℕ} 0 1 = cc in absurd (omega arith)

-- ---- what is accepted is used to its last byte

-- the last number of a list
unfoldable pub last_of : List ℕ → ℕ
last_of [] = 0
last_of (x ∷ []) = x
last_of (x ∷ y ∷ l) = last_of (y ∷ l)

last_append : (l : List ℕ) (x : ℕ) → last_of (l ++ (x ∷ [])) ≡ x
unfolding last_of
last_append [] x = refl
last_append (a ∷ []) x = refl
last_append (a ∷ b ∷ l) x = last_append (b ∷ l) x

list_of : Reading → List ℕ
list_of (offsets p l) = l
list_of (refused r) = []

over_used : (place : ℕ) (bytes : List ℕ) (o : Outcome) → ((h : Stand) → o ≡ went h → h.at ≤ length bytes) → {p : ℕ} {l : List ℕ} → walked_over place bytes o ≡ offsets p l
    → last_of l ≡ length bytes
unfolding walked_over list_of
over_used place bytes (stopped why at) b e = never_read e
over_used place bytes (went h) b {p} {l} e = go (ltb h.at (length bytes)) refl e
  where
    go : (x : Bool) → ltb h.at (length bytes) ≡ x → cond x (refused (refusal BytesLeftOver place h.at)) (offsets place (h.given ++ (h.at ∷ []))) ≡ offsets p l → last_of l ≡ length bytes
    go true q e = never_read e
    go false q e = sym (ap (λ (r : Reading). last_of (list_of r)) e) ∙ last_append h.given h.at ∙ omega (arith, b h refl, ltb-false h.at (length bytes) q)

-- a datum that is accepted ends where its bytes end
pub datum_used : (ds : List (List Row)) (place : ℕ) (bytes : List ℕ) (at : ℕ) → at ≤ length bytes → {p : ℕ} {l : List ℕ} → datum_in ds place bytes at ≡ offsets p l → last_of l ≡ length bytes
unfolding datum_in
datum_used ds place bytes at h e = over_used place bytes _ (λ k q. walk_inside (flat ds) bytes _ at h k q) e

-- all bytes of a summary that is accepted are used: the last offset is where its bytes end
pub all_used : (ds : List (List Row)) (bytes : List ℕ) {p : ℕ} {l : List ℕ} → summary_in ds bytes ≡ offsets p l → last_of l ≡ length bytes
unfolding summary_in on_place
all_used ds bytes {p} {l} e = go (eqb (marker_at bytes) 2) (leb 10 (length bytes)) refl (ltb (place_with (part bytes 2 8) ds) (length ds)) e
  where
    go : (x y : Bool) → leb 10 (length bytes) ≡ y → (z : Bool)
        → cond x (cond y (cond z (datum_in ds (place_with (part bytes 2 8) ds) bytes 10) (refused (refusal FingerprintUnknown 0 2))) (refused (refusal CutShort 0 (length bytes)))) (refused (refusal MarkerWrong 0 (marker_at bytes))) ≡ offsets p l
        → last_of l ≡ length bytes
    go true true q true e = datum_used ds (place_with (part bytes 2 8) ds) bytes 10 (leb-true 10 (length bytes) q) e
    go true true q false e = never_read e
    go true false q z e = never_read e
    go false y q z e = never_read e

-- ---- what is read does not depend on the list's length

-- what one list holds, each list holds that is long enough
pub room_alone : (asked r s : ℕ) (x : Reading) {p : ℕ} {l : List ℕ} → in_room asked r x ≡ offsets p l → length l ≤ s → in_room asked s x ≡ offsets p l
unfolding in_room list_of
room_alone asked r s (refused f) e h = e
room_alone asked r s (offsets q k) {p} {l} e h = go (leb (length k) r) e
  where
    go : (x : Bool) → cond x (offsets q k) (refused (refusal NoRoom asked (length k))) ≡ offsets p l → cond (leb (length k) s) (offsets q k) (refused (refusal NoRoom asked (length k))) ≡ offsets p l
    go true e = let n : length k ≤ s = omega (arith, ap (λ (x : Reading). length (list_of x)) e) in rw (le-leb (length k) s n) e
    go false e = never_read e

-- ---- the marker

not_two : {A : Type 0} → ◌≡◌ {A = ℕ} 0 2 → A
not_two e = absurd (omega arith)

-- the marker is right exactly where the bytes begin with 195 and 1
pub marker_first : (bytes : List ℕ) → marker_at bytes ≡ 2 → take 2 bytes ≡ 195 ∷ 1 ∷ []
unfolding marker_at
marker_first [] e = not_two e
marker_first (a ∷ []) e = go (eqb a 195) e
  where
    go : (x : Bool) → ◌≡◌ {A = ℕ} (cond x 1 0) 2 → a ∷ [] ≡ 195 ∷ 1 ∷ []
    go true e = absurd (omega arith)
    go false e = not_two e
marker_first (a ∷ b ∷ bytes) e = go (eqb a 195 && eqb b 1) refl e
  where
    go : (x : Bool) → (eqb a 195 && eqb b 1) ≡ x → ◌≡◌ {A = ℕ} (cond x 2 0) 2 → a ∷ b ∷ [] ≡ 195 ∷ 1 ∷ []
    go true q e = let t = and_true (eqb a 195) (eqb b 1) q in ap₂ (λ (x y : ℕ). x ∷ y ∷ []) (eqb-true a 195 t.0) (eqb-true b 1 t.1)
    go false q e = not_two e

pub first_marker : (bytes : List ℕ) → take 2 bytes ≡ 195 ∷ 1 ∷ [] → marker_at bytes ≡ 2
unfolding marker_at
first_marker [] e = not_two (ap length e)
first_marker (a ∷ []) e = let n : ◌≡◌ {A = ℕ} 1 2 = ap length e in absurd (omega arith)
first_marker (a ∷ b ∷ bytes) e =
    let x : a ≡ 195 = ap (λ (l : List ℕ). get_or l 0 0) e in
    let y : b ≡ 1 = ap (λ (l : List ℕ). get_or l 1 0) e in
    rw (eq-eqb a 195 x, eq-eqb b 1 y)
