-- The bytes of a name: a string may hold each as it is.
-- Assumes nothing.
use mathlib.Core.Path.{◌≡◌, refl}
use mathlib.Core.Bool.{Bool, true, false, cond, ◌&&◌, ◌||◌}
use mathlib.Core.List.{List, [], ◌∷◌}
use Prim.Native.Nat.{ℕ, ◌≤◌}
use native.Mathlib.Omega.{arith}
use lib.Dec.{eqb, leb}
use borrow.Author.Tests.{eqb-true, ne_eqb, leb-true, le-leb}
use Rattle.ground.proofs.Laws.{never, and_true, and_intro}
use Rattle.name.specs.Name.{every, is_within, is_letter, is_digit, is_first, is_later, is_simple, dot, onto_first, parts, is_dotted}
use Rattle.grammar.specs.Grammar.{within, this, that, Many, none, more, char}
use Rattle.legible.specs.Plain.{is_plain}

-- letters, digits, _ and dots
unfoldable pub in_name : ℕ → Bool
in_name b = is_later b || eqb b dot

-- ---- one byte

-- by its range: digits and the dot, capital letters, _ and the other letters
data Ranged (b : ℕ) : Type 0 where
  low : 46 ≤ b → b ≤ 90 → Ranged b
  high : 95 ≤ b → b ≤ 122 → Ranged b

bounds : (lo hi b : ℕ) → is_within lo hi b ≡ true → (lo ≤ b) × (b ≤ hi)
unfolding is_within
bounds lo hi b e = let z = and_true (leb lo b) (leb b hi) e in (leb-true lo b z.0, leb-true b hi z.1)

ranged : (b : ℕ) → in_name b ≡ true → Ranged b
unfolding in_name is_later is_letter is_digit
ranged b e = go (is_within 65 90 b) refl (is_within 97 122 b) refl (is_within 48 57 b) refl (eqb b 95) refl (eqb b 46) refl e
  where
    go : (u : Bool) → is_within 65 90 b ≡ u → (v : Bool) → is_within 97 122 b ≡ v → (w : Bool) → is_within 48 57 b ≡ w
        → (x : Bool) → eqb b 95 ≡ x → (y : Bool) → eqb b 46 ≡ y → (u || v || w || x || y) ≡ true → Ranged b
    go true p v q w r x s y t f = let z = bounds 65 90 b p in low (omega arith) (omega arith)
    go false p true q w r x s y t f = let z = bounds 97 122 b q in high (omega arith) (omega arith)
    go false p false q true r x s y t f = let z = bounds 48 57 b r in low (omega arith) (omega arith)
    go false p false q false r true s y t f = let z = eqb-true b 95 s in high (omega arith) (omega arith)
    go false p false q false r false s true t f = let z = eqb-true b 46 t in low (omega arith) (omega arith)
    go false p false q false r false s false t f = never f

byte_char : (b : ℕ) → Ranged b → char (b ∷ [])
byte_char b (low l h) = this (that (this (within {b = b} (omega arith) (omega arith))))
byte_char b (high l h) = this (that (that (this (within {b = b} (omega arith) (omega arith)))))

pub plain_byte : (b : ℕ) → 33 ≤ b → b ≤ 126 → (b ≡ 92 → ⊥) → is_plain b ≡ true
unfolding is_plain is_within
plain_byte b l h n = rw (le-leb 33 b l, le-leb b 126 h, ne_eqb b 92 n)

byte_plain : (b : ℕ) → Ranged b → is_plain b ≡ true
byte_plain b (low l h) = plain_byte b (omega arith) (omega arith) (λ (e : b ≡ 92). omega arith)
byte_plain b (high l h) = plain_byte b (omega arith) (omega arith) (λ (e : b ≡ 92). omega arith)

-- ---- all bytes

pub name_chars : (s : List ℕ) → every in_name s ≡ true → Many char s
unfolding every
name_chars [] e = none
name_chars (b ∷ s) e = let z = and_true (in_name b) (every in_name s) e in more (byte_char b (ranged b z.0)) (name_chars s z.1)

pub name_plain : (s : List ℕ) → every in_name s ≡ true → every is_plain s ≡ true
unfolding every
name_plain [] e = refl
name_plain (b ∷ s) e =
    let z = and_true (in_name b) (every in_name s) e in
    and_intro (is_plain b) (every is_plain s) (byte_plain b (ranged b z.0)) (name_plain s z.1)

-- ---- names

first_later : (b : ℕ) → is_first b ≡ true → is_later b ≡ true
unfolding is_first is_later
first_later b e = go (is_letter b) (is_digit b) (eqb b 95) e
  where
    go : (x y z : Bool) → x || z ≡ true → x || y || z ≡ true
    go true y z f = refl
    go false true z f = refl
    go false false z f = f

simple_later : (s : List ℕ) → is_simple s ≡ true → every is_later s ≡ true
unfolding is_simple every
simple_later [] e = refl
simple_later (b ∷ s) e =
    let z = and_true (is_first b) (every is_later s) e in
    and_intro (is_later b) (every is_later s) (first_later b z.0) z.1

parts_later : (ps : List (List ℕ)) → every is_simple ps ≡ true → every (every is_later) ps ≡ true
unfolding every
parts_later [] e = refl
parts_later (p ∷ ps) e =
    let z = and_true (is_simple p) (every is_simple ps) e in
    and_intro (every is_later p) (every (every is_later) ps) (simple_later p z.0) (parts_later ps z.1)

onto_later : (b : ℕ) (ps : List (List ℕ)) → every (every is_later) (onto_first b ps) ≡ true → (is_later b ≡ true) × (every (every is_later) ps ≡ true)
unfolding every onto_first
onto_later b [] e = ((and_true (is_later b) true (and_true (every is_later (b ∷ [])) true e).0).0, refl)
onto_later b (p ∷ ps) e =
    let z = and_true (every is_later (b ∷ p)) (every (every is_later) ps) e in
    let y = and_true (is_later b) (every is_later p) z.0 in
    (y.0, and_intro (every is_later p) (every (every is_later) ps) y.1 z.1)

later_in : (b : ℕ) → is_later b ≡ true → in_name b ≡ true
unfolding in_name
later_in b e = rw e

dot_in : (b : ℕ) → eqb b dot ≡ true → in_name b ≡ true
unfolding in_name
dot_in b e = go (is_later b)
  where
    go : (x : Bool) → x || eqb b dot ≡ true
    go true = refl
    go false = e

joined_in : (s : List ℕ) → every (every is_later) (parts s) ≡ true → every in_name s ≡ true
unfolding parts every
joined_in [] e = refl
joined_in (b ∷ s) e = go (eqb b dot) refl e (joined_in s)
  where
    go : (x : Bool) → eqb b dot ≡ x → every (every is_later) (cond x ([] ∷ parts s) (onto_first b (parts s))) ≡ true
        → (every (every is_later) (parts s) ≡ true → every in_name s ≡ true) → in_name b && every in_name s ≡ true
    go true q f r = and_intro (in_name b) (every in_name s) (dot_in b q) (r f)
    go false q f r = let z = onto_later b (parts s) f in and_intro (in_name b) (every in_name s) (later_in b z.0) (r z.1)

pub dotted_in : (s : List ℕ) → is_dotted s ≡ true → every in_name s ≡ true
unfolding is_dotted
dotted_in s e = joined_in s (parts_later (parts s) e)
