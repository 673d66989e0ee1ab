-- Laws of characters.
-- Assumes nothing.
use mathlib.Core.Path.{◌≡◌, refl, sym, ap, ◌∙◌, subst}
use mathlib.Core.Bool.{Bool, true, false, cond}
use mathlib.Core.List.{List, [], ◌∷◌}
use Prim.Native.Nat.{ℕ, zero, suc, ◌+◌, ◌*◌, ◌/◌, ◌%◌, ◌<◌, ◌≤◌}
use native.Mathlib.Omega.{arith}
use native.Mathlib.Decide.{dec_lt}
use lib.Dec.{eqb, ltb}
use lib.ListN.{length, take, get_or}
use borrow.Author.Tests.{eq-eqb, ne_eqb, eqb-true, eqb-false, ltb-true, lt-ltb, le-ltb}
use Rattle.ground.specs.Bytes.{byte_at}
use Rattle.ground.proofs.Laws.{byte_past}
use Rattle.view.specs.declared.strings.Piece.{Piece}
use Rattle.view.specs.Strings.{Part, part_of, part_at, utf8_of, Spells}
use Rattle.view.proofs.Laws.{part_holds, low_alone}
use Rattle.breach.specs.Characters.{size_of, four_from, character_at, code_of, code_at}

-- ---- sizes

module _ (b : ℕ) where
  pub size_one : b < 192 → 1 ≡ size_of b
  unfolding size_of
  size_one h = rw (lt-ltb b 192 h)

  pub size_two : 192 ≤ b → b < 224 → 2 ≡ size_of b
  unfolding size_of
  size_two g h = rw (le-ltb b 192 g, lt-ltb b 224 h)

  pub size_three : 224 ≤ b → b < 240 → 3 ≡ size_of b
  unfolding size_of
  size_three g h = rw (le-ltb b 192 (omega arith), le-ltb b 224 g, lt-ltb b 240 h)

  pub size_four : 240 ≤ b → 4 ≡ size_of b
  unfolding size_of
  size_four g = rw (le-ltb b 192 (omega arith), le-ltb b 224 (omega arith), le-ltb b 240 g)

  pub size_few : (0 < size_of b) × (size_of b ≤ 4)
  unfolding size_of
  size_few = go (ltb b 192) (ltb b 224) (ltb b 240)
    where
      go : (x y z : Bool) → (0 < cond x 1 (cond y 2 (cond z 3 4))) × (cond x 1 (cond y 2 (cond z 3 4)) ≤ 4)
      go true y z = (omega arith, omega arith)
      go false true z = (omega arith, omega arith)
      go false false true = (omega arith, omega arith)
      go false false false = (omega arith, omega arith)

  -- what has more than one byte begins with a high one
  pub size_high : (size_of b ≡ 1 → ⊥) → 192 ≤ b
  size_high n = go (dec_lt b 192)
    where
      go : Dec (b < 192) → 192 ≤ b
      go (yes l) = absurd (n (sym (size_one l)))
      go (no m) = omega arith

-- ---- the character at a place

module _ (t : List ℕ) (p : ℕ) where
  pub character_small : size_of (byte_at t p) ≡ 1 → character_at t p ≡ part_at t p
  unfolding character_at
  character_small e = rw (eq-eqb (size_of (byte_at t p)) 1 e)

  pub character_large : (size_of (byte_at t p) ≡ 1 → ⊥) → character_at t p ≡ part_of (p + size_of (byte_at t p)) (take (size_of (byte_at t p)) (four_from t p))
  unfolding character_at
  character_large n = rw (ne_eqb (size_of (byte_at t p)) 1 n)

  -- its bytes, where there are more than one
  pub character_high : (size_of (byte_at t p) ≡ 1 → ⊥) → (rest : List ℕ) × ((character_at t p).bytes ≡ byte_at t p ∷ rest)
  unfolding four_from
  character_high n = go (size_of (byte_at t p)) (size_few (byte_at t p)).0 (character_large n)
    where
      go : (k : ℕ) → 0 < k → character_at t p ≡ part_of (p + k) (take k (four_from t p)) → (rest : List ℕ) × ((character_at t p).bytes ≡ byte_at t p ∷ rest)
      go zero h e = absurd (omega arith)
      go (suc k) h e = (take k (byte_at t (p + 1) ∷ byte_at t (p + 2) ∷ byte_at t (p + 3) ∷ []), ap (λ (x : Part). x.bytes) e)

  pub character_ahead : p < (character_at t p).next
  character_ahead = go (eqb (size_of (byte_at t p)) 1) refl
    where
      go : (x : Bool) → eqb (size_of (byte_at t p)) 1 ≡ x → p < (character_at t p).next
      go true e =
          let a = (part_holds t p).ahead in
          let c = ap (λ (x : Part). x.next) (character_small (eqb-true (size_of (byte_at t p)) 1 e)) in
          omega arith
      go false e =
          let a = (size_few (byte_at t p)).0 in
          let c = ap (λ (x : Part). x.next) (character_large (eqb-false (size_of (byte_at t p)) 1 e)) in
          omega arith

  -- a character whose first byte is in ASCII has no other
  pub character_alone : (b : ℕ) (rest : List ℕ) → (character_at t p).bytes ≡ b ∷ rest → b < 128 → rest ≡ []
  character_alone b rest e h = go (eqb (size_of (byte_at t p)) 1) refl
    where
      go : (x : Bool) → eqb (size_of (byte_at t p)) 1 ≡ x → rest ≡ []
      go true f = low_alone t p b rest (sym (ap (λ (x : Part). x.bytes) (character_small (eqb-true (size_of (byte_at t p)) 1 f))) ∙ e) h
      go false f =
          let n = eqb-false (size_of (byte_at t p)) 1 f in
          let r = character_high n in
          let g = size_high (byte_at t p) n in
          let i = r.1 in
          let z : byte_at t p ≡ b = cc in
          absurd (omega arith)

-- ---- code points

three_digits : (c : ℕ) → c / 4096 * 4096 + c / 64 % 64 * 64 + c % 64 ≡ c
three_digits c = omega arith

four_digits : (c : ℕ) → c < 1114112 → (240 + c / 262144) % 8 * 262144 + (128 + c / 4096 % 64) % 64 * 4096 + (128 + c / 64 % 64) % 64 * 64 + (128 + c % 64) % 64 ≡ c
four_digits c h =
    let a : (240 + c / 262144) % 8 ≡ c / 262144 = omega arith in
    let b : (128 + c / 4096 % 64) % 64 ≡ c / 4096 % 64 = omega arith in
    let d : (128 + c / 64 % 64) % 64 ≡ c / 64 % 64 = omega arith in
    let e : (128 + c % 64) % 64 ≡ c % 64 = omega arith in
    rw (a, b, d, e) (rejoin (c / 262144) (c / 4096) (c / 64 % 64) (c % 64) c (omega arith) (three_digits c))
  where
    rejoin : (x y u v c : ℕ) → x * 64 + y % 64 ≡ y → y * 4096 + u * 64 + v ≡ c → x * 262144 + y % 64 * 4096 + u * 64 + v ≡ c
    rejoin x y u v c f g = omega arith

-- of the UTF-8 of a character it is that character
pub code_utf8 : (c : ℕ) → c < 1114112 → code_of (utf8_of c) ≡ c
unfolding code_of utf8_of
code_utf8 c h = go (ltb c 128) (ltb c 2048) refl (ltb c 65536) refl
  where
    go : (x y : Bool) → ltb c 2048 ≡ y → (z : Bool) → ltb c 65536 ≡ z
        → code_of (cond x (c ∷ []) (cond y ((192 + c / 64) ∷ (128 + c % 64) ∷ [])
        (cond z ((224 + c / 4096) ∷ (128 + c / 64 % 64) ∷ (128 + c % 64) ∷ [])
        ((240 + c / 262144) ∷ (128 + c / 4096 % 64) ∷ (128 + c / 64 % 64) ∷ (128 + c % 64) ∷ [])))) ≡ c
    go true y e z f = refl
    go false true e z f = let l = ltb-true c 2048 e in omega arith
    go false false e true f = let l = ltb-true c 65536 f in omega arith
    go false false e false f = four_digits c h

-- ---- four bytes

record Four (l : List ℕ) : Type 0 where
  a : ℕ
  b : ℕ
  c : ℕ
  d : ℕ
  is : l ≡ a ∷ b ∷ c ∷ d ∷ []

four : (l : List ℕ) → length l ≡ 4 → Four l
four [] h = absurd (omega arith)
four (a ∷ []) h = absurd (omega arith)
four (a ∷ b ∷ []) h = absurd (omega arith)
four (a ∷ b ∷ c ∷ []) h = absurd (omega arith)
four (a ∷ b ∷ c ∷ d ∷ []) h = record { a = a; b = b; c = c; d = d; is = refl }
four (a ∷ b ∷ c ∷ d ∷ e ∷ l) h = absurd (omega arith)

-- the code point from the first n of them
module _ (l : List ℕ) (h : length l ≡ 4) (n : ℕ) where
  pub code_one : n ≡ 1 → get_or l 0 0 ≡ code_of (take n l)
  unfolding code_of
  code_one e = rw (e, (four l h).is)

  pub code_two : n ≡ 2 → get_or l 0 0 % 32 * 64 + get_or l 1 0 % 64 ≡ code_of (take n l)
  unfolding code_of
  code_two e = rw (e, (four l h).is)

  pub code_three : n ≡ 3 → get_or l 0 0 % 16 * 4096 + get_or l 1 0 % 64 * 64 + get_or l 2 0 % 64 ≡ code_of (take n l)
  unfolding code_of
  code_three e = rw (e, (four l h).is)

  pub code_four : n ≡ 4 → get_or l 0 0 % 8 * 262144 + get_or l 1 0 % 64 * 4096 + get_or l 2 0 % 64 * 64 + get_or l 3 0 % 64 ≡ code_of (take n l)
  unfolding code_of
  code_four e = rw (e, (four l h).is)

-- ---- the character as a piece
module _ (t : List ℕ) (p : ℕ) {a n : ℕ} (e : a ≡ byte_at t p) (s : n ≡ size_of a) where
  sized : n ≡ size_of (byte_at t p)
  sized = s ∙ ap size_of e

  pub piece_small : n ≡ 1 → {x : Piece} → Spells x (part_at t p) → Spells x (character_at t p)
  piece_small i {x} h = subst (λ (y : Part). Spells x y) (sym (character_small t p (sym sized ∙ i))) h

  pub piece_few : n ≤ 4
  piece_few = let h = (size_few a).1 in omega arith

  module _ (i : n ≡ 1 → ⊥) {b c d : ℕ} (f : b ≡ byte_at t (p + 1)) (g : c ≡ byte_at t (p + 2)) (h : d ≡ byte_at t (p + 3)) where
    bytes_are : a ∷ b ∷ c ∷ d ∷ [] ≡ four_from t p
    unfolding four_from
    bytes_are = rw (e, f, g, h)

    pub piece_large : Spells (record { next = p + n; n = n; bytes = a ∷ b ∷ c ∷ d ∷ [] }) (character_at t p)
    piece_large =
        let k = size_few a in
        record {
          is = ap (λ (l : List ℕ). part_of (p + n) (take n l)) bytes_are ∙ ap (λ (m : ℕ). part_of (p + m) (take m (four_from t p))) sized
              ∙ sym (character_large t p (λ m. i (sized ∙ m)));
          some = omega arith;
          few = omega arith;
          four = refl;
        }

-- ---- the code point of the character as a piece
module _ (t : List ℕ) (p : ℕ) where
  pub code_piece : {x : Piece} → Spells x (character_at t p) → {r : ℕ} → r ≡ code_of (take x.n x.bytes) → r ≡ code_at t p
  unfolding code_at
  code_piece s e = e ∙ ap (λ (y : Part). code_of y.bytes) s.is

  -- behind the text
  pub code_past : length t ≤ p → 0 ≡ code_at t p
  unfolding code_at character_at size_of part_at code_of
  code_past h = rw (byte_past t p h)
