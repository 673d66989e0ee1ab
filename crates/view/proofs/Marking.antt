-- Laws of marks: each turn leaves the mark of the whole.
-- Assumes nothing.
use mathlib.Core.Path.{◌≡◌, sym, ap, ◌∙◌}
use mathlib.Core.List.{List, [], ◌∷◌}
use Prim.Native.Nat.{ℕ, ◌+◌, ◌-◌, ◌*◌, ◌%◌, ◌<◌, ◌≤◌}
use native.Mathlib.Nat.{mul-le-mul}
use native.Mathlib.Omega.{arith}
use native.Mathlib.Numerals.{add-one}
use lib.ListN.{length, get_or, take, drop, drop_of_length-le}
use lib.Seq.{drop-cons}
use borrow.Author.Tests.{eq-eqb, ne_eqb}
use Rattle.ground.specs.Bytes.{part}
use Rattle.view.specs.Strings.{string_at}
use Rattle.view.specs.Known.{Literal}
use Rattle.view.specs.Marks.{mark_step, marking, marked, mark_from, mark_of, Held}
use Rattle.view.specs.declared.marks.Marking.{Marking}

-- a step stays below 2^64
pub step_fits : (h w : ℕ) → w < 67108864 → h % 4294967296 * (2654435769 + w) ≤ 4294967295 * 2721544632
step_fits h w l =
    let a : h % 4294967296 ≤ 4294967295 = omega arith in
    let b : 2654435769 + w ≤ 2721544632 = omega arith in
    mul-le-mul a b

-- ---- a byte at a turn

module _ (g : Marking) (x : ℕ) (l : List ℕ) (inv : mark_from g l ≡ x) where
  pub mark_end : l ≡ [] → {r : ℕ} → r ≡ mark_step g.h (g.w + 16777216 * g.n) → r ≡ x
  unfolding mark_from
  mark_end e f = f ∙ (rw e at inv)

  pub mark_turn : {b : ℕ} {k : List ℕ} → l ≡ b ∷ k → {g' : Marking} → g' ≡ marked g b → mark_from g' k ≡ x
  unfolding mark_from
  mark_turn e f = rw f (rw e at inv)

module _ (h w n b : ℕ) {v : ℕ} (e : v ≡ b) (small : v < 256) where
  pub held_first : n ≡ 0 → (marking h v 1 ≡ marked (marking h w n) b) × Held (marking h v 1)
  unfolding marked
  held_first f = (rw (e, eq-eqb n 0 f), record { few = omega arith; small = omega arith; first = λ z. small })

  pub held_second : n ≡ 1 → w < 256 → (marking h (w + 256 * v) 2 ≡ marked (marking h w n) b) × Held (marking h (w + 256 * v) 2)
  unfolding marked
  held_second f l = (rw (e, f), record { few = omega arith; small = omega arith; first = λ (z : ◌≡◌ {A = ℕ} 2 1). absurd (omega arith) })

  pub held_third : (n ≡ 0 → ⊥) → (n ≡ 1 → ⊥) → {g : ℕ} → g ≡ mark_step h (w + 65536 * v) → (marking g 0 0 ≡ marked (marking h w n) b) × Held (marking g 0 0)
  unfolding marked
  held_third f k j = (rw (ne_eqb n 0 f, ne_eqb n 1 k, ← e, ← j), record { few = omega arith; small = omega arith; first = λ (z : ◌≡◌ {A = ℕ} 0 1). absurd (omega arith) })

-- ---- three at a turn, of a string from a place on

front : (s : List ℕ) (i : ℕ) → i < length s → drop i s ≡ get_or s i 0 ∷ drop (i + 1) s
front s i l = rw (add-one i) (drop-cons s i 0 l)

behind : (s : List ℕ) (i j : ℕ) → i ≡ j → drop i s ≡ drop j s
behind s i j e = ap (λ (k : ℕ). drop k s) e

module _ (s : List ℕ) (i : ℕ) where
  front_two : i + 1 < length s → drop i s ≡ get_or s i 0 ∷ get_or s (i + 1) 0 ∷ drop (i + 2) s
  front_two l =
      front s i (omega arith)
      ∙ ap (λ (r : List ℕ). get_or s i 0 ∷ r) (front s (i + 1) l ∙ ap (λ (r : List ℕ). get_or s (i + 1) 0 ∷ r) (behind s (i + 1 + 1) (i + 2) (omega arith)))

  front_three : i + 2 < length s → drop i s ≡ get_or s i 0 ∷ get_or s (i + 1) 0 ∷ get_or s (i + 2) 0 ∷ drop (i + 3) s
  front_three l =
      front_two (omega arith)
      ∙ ap (λ (r : List ℕ). get_or s i 0 ∷ get_or s (i + 1) 0 ∷ r) (front s (i + 2) l ∙ ap (λ (r : List ℕ). get_or s (i + 2) 0 ∷ r) (behind s (i + 2 + 1) (i + 3) (omega arith)))

module _ (s : List ℕ) (i h x : ℕ) (inv : mark_from (marking h 0 0) (drop i s) ≡ x) where
  pub mark_three : i + 2 < length s → {w : ℕ} → w ≡ get_or s i 0 + 256 * get_or s (i + 1) 0 + 65536 * get_or s (i + 2) 0 → {g : ℕ} → g ≡ mark_step h w
      → mark_from (marking g 0 0) (drop (i + 3) s) ≡ x
  unfolding mark_from marked
  mark_three l e f = rw (f, e) (rw (front_three s i l) at inv)

module _ (s : List ℕ) (i h : ℕ) where
  pub last_none : length s - i ≡ 0 → {g : ℕ} → g ≡ mark_step h 0 → g ≡ mark_from (marking h 0 0) (drop i s)
  unfolding mark_from
  last_none l f = rw (drop_of_length-le s {i = i} (omega arith)) f

  pub last_one : length s - i ≡ 1 → {a : ℕ} → a ≡ get_or s i 0 → {g : ℕ} → g ≡ mark_step h (a + 16777216) → g ≡ mark_from (marking h 0 0) (drop i s)
  unfolding mark_from marked
  last_one l e f = rw (front s i (omega arith), drop_of_length-le s {i = i + 1} (omega arith), ← e) f

  pub last_two : length s - i ≡ 2 → {a b : ℕ} → a ≡ get_or s i 0 → b ≡ get_or s (i + 1) 0 → {g : ℕ} → g ≡ mark_step h (a + 256 * b + 33554432) → g ≡ mark_from (marking h 0 0) (drop i s)
  unfolding mark_from marked
  last_two l e d f = rw (front_two s i (omega arith), drop_of_length-le s {i = i + 2} (omega arith), ← e, ← d) f

pub held_none : (h : ℕ) → Held (marking h 0 0)
held_none h = record { few = omega arith; small = omega arith; first = λ (z : ◌≡◌ {A = ℕ} 0 1). absurd (omega arith) }
