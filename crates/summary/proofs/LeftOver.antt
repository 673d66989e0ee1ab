-- Two summaries of which one goes on behind the end of the other's datum are not both accepted: the longer one is refused by 46, where the other ends.
-- Assumes nothing.
use mathlib.Core.Path.{◌≡◌, refl, ap, ◌∙◌}
use mathlib.Core.Bool.{Bool, true, false, cond}
use mathlib.Core.List.{List, [], ◌∷◌, ◌++◌}
use Prim.Native.Nat.{ℕ, ◌+◌, ◌-◌, ◌≤◌}
use native.Mathlib.Omega.{arith}
use lib.Dec.{eqb, leb, ltb}
use lib.ListN.{length, take, drop, length-append, length-drop}
use lib.Seq.{drop-append-le, take-append-le}
use borrow.Author.Tests.{eq-eqb, lt-ltb, le-leb, leb-true, eqb-true, ltb-false}
use Rattle.answer.specs.declared.refusal.Why.TheVariants.{BytesLeftOver, FingerprintUnknown, CutShort, MarkerWrong}
use Rattle.ground.specs.Bytes.{part}
use Rattle.row.specs.Rows.{Row}
use Rattle.row.specs.Sets.{flat}
use Rattle.canonical.specs.Places.{place_with}
use Rattle.walk.specs.Walk.{Stand, Outcome, went, stopped, walked}
use Rattle.walk.proofs.Longer.{walk_inside, walk_longer}
use Rattle.summary.specs.Summary.{Reading, offsets, refused, refusal, walked_over, datum_in, marker_at, on_place, summary_in}

-- the place that was read; 0 where nothing was
place_in : Reading → ℕ
place_in (offsets p list) = p
place_in (refused r) = 0

-- ---- of a datum

module _ (ds : List (List Row)) (place : ℕ) (bytes more : List ℕ) (b at : ℕ) (l : at ≤ length bytes) {p : ℕ} {list : List ℕ} where
  pub left_over : datum_in ds place bytes at ≡ offsets p list → datum_in ds place (bytes ++ (b ∷ more)) at ≡ refused (refusal BytesLeftOver p (length bytes))
  unfolding datum_in walked_over place_in
  left_over e = go (walked (flat ds) bytes (flat (drop place ds)) at) refl e
    where
      ends : (h : Stand) → walked (flat ds) bytes (flat (drop place ds)) at ≡ went h → (t : Bool) → ltb h.at (length bytes) ≡ t
          → cond t (refused (refusal BytesLeftOver place h.at)) (offsets place (h.given ++ (h.at ∷ []))) ≡ offsets p list
          → datum_in ds place (bytes ++ (b ∷ more)) at ≡ refused (refusal BytesLeftOver p (length bytes))
      ends h w true t q = let z : ◌≡◌ {A = ℕ} 0 1 = cc in absurd (omega arith)
      ends h w false t q =
          let k : length bytes ≤ h.at = ltb-false h.at (length bytes) t in
          let i : h.at ≤ length bytes = walk_inside (flat ds) bytes (flat (drop place ds)) at l h w in
          let s : h.at ≡ length bytes = omega arith in
          let x : place ≡ p = ap place_in q in
          let n : length (bytes ++ (b ∷ more)) ≡ length bytes + length (b ∷ more) = length-append bytes (b ∷ more) in
          ap (walked_over place (bytes ++ (b ∷ more))) (walk_longer (flat ds) bytes (flat (drop place ds)) at l h w (b ∷ more))
          ∙ rw (lt-ltb h.at (length (bytes ++ (b ∷ more))) (omega arith), s, x)

      go : (o : Outcome) → walked (flat ds) bytes (flat (drop place ds)) at ≡ o → walked_over place bytes o ≡ offsets p list
          → datum_in ds place (bytes ++ (b ∷ more)) at ≡ refused (refusal BytesLeftOver p (length bytes))
      go (went h) w q = ends h w (ltb h.at (length bytes)) refl q
      go (stopped why x) w q = let z : ◌≡◌ {A = ℕ} 0 1 = cc in absurd (omega arith)

-- ---- of a summary

marker_longer : (bytes more : List ℕ) → marker_at bytes ≡ 2 → marker_at (bytes ++ more) ≡ 2
unfolding marker_at
marker_longer [] more e = absurd (omega arith)
marker_longer (a ∷ []) more e = go (eqb a 195) e
  where
    go : (t : Bool) → ◌≡◌ {A = ℕ} (cond t 1 0) 2 → marker_at ((a ∷ []) ++ more) ≡ 2
    go true q = absurd (omega arith)
    go false q = absurd (omega arith)
marker_longer (a ∷ c ∷ bytes) more e = e

part_longer : (bytes more : List ℕ) → 10 ≤ length bytes → part (bytes ++ more) 2 8 ≡ part bytes 2 8
unfolding part
part_longer bytes more l =
    let n : length (drop 2 bytes) ≡ length bytes - 2 = length-drop 2 bytes in
    ap (take 8) (drop-append-le 2 bytes more (omega arith)) ∙ take-append-le 8 (drop 2 bytes) more (omega arith)

module _ (ds : List (List Row)) (bytes more : List ℕ) (b : ℕ) {p : ℕ} {list : List ℕ} where
  place_left_over : (place : ℕ) → 10 ≤ length bytes → on_place ds bytes place ≡ offsets p list → on_place ds (bytes ++ (b ∷ more)) place ≡ refused (refusal BytesLeftOver p (length bytes))
  unfolding on_place
  place_left_over place l e = go (ltb place (length ds)) e
    where
      go : (t : Bool) → cond t (datum_in ds place bytes 10) (refused (refusal FingerprintUnknown 0 2)) ≡ offsets p list
          → cond t (datum_in ds place (bytes ++ (b ∷ more)) 10) (refused (refusal FingerprintUnknown 0 2)) ≡ refused (refusal BytesLeftOver p (length bytes))
      go true q = left_over ds place bytes more b 10 l q
      go false q = let z : ◌≡◌ {A = ℕ} 0 1 = cc in absurd (omega arith)

  pub summary_left_over : summary_in ds bytes ≡ offsets p list → summary_in ds (bytes ++ (b ∷ more)) ≡ refused (refusal BytesLeftOver p (length bytes))
  unfolding summary_in
  summary_left_over e = go (eqb (marker_at bytes) 2) refl (leb 10 (length bytes)) refl e
    where
      go : (t : Bool) → eqb (marker_at bytes) 2 ≡ t → (u : Bool) → leb 10 (length bytes) ≡ u
          → cond t (cond u (on_place ds bytes (place_with (part bytes 2 8) ds)) (refused (refusal CutShort 0 (length bytes)))) (refused (refusal MarkerWrong 0 (marker_at bytes))) ≡ offsets p list
          → summary_in ds (bytes ++ (b ∷ more)) ≡ refused (refusal BytesLeftOver p (length bytes))
      go true f true g q =
          let l : 10 ≤ length bytes = leb-true 10 (length bytes) g in
          let k : marker_at (bytes ++ (b ∷ more)) ≡ 2 = marker_longer bytes (b ∷ more) (eqb-true (marker_at bytes) 2 f) in
          let n : length (bytes ++ (b ∷ more)) ≡ length bytes + length (b ∷ more) = length-append bytes (b ∷ more) in
          rw (eq-eqb (marker_at (bytes ++ (b ∷ more))) 2 k, le-leb 10 (length (bytes ++ (b ∷ more))) (omega arith), part_longer bytes (b ∷ more) l)
          (place_left_over (place_with (part bytes 2 8) ds) l q)
      go true f false g q = let z : ◌≡◌ {A = ℕ} 0 1 = cc in absurd (omega arith)
      go false f u g q = let z : ◌≡◌ {A = ℕ} 0 1 = cc in absurd (omega arith)
