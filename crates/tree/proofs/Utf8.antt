-- What a string says is text in UTF-8; and the bytes of a character's number are one character of RFC 3629's grammar, with that number.
-- Assumes nothing.
use mathlib.Core.Path.{◌≡◌, refl, sym, subst}
use mathlib.Core.Bool.{Bool, true, false, cond}
use mathlib.Core.List.{List, [], ◌∷◌}
use Prim.Native.Nat.{ℕ, ◌+◌, ◌/◌, ◌%◌, ◌≤◌, ◌<◌}
use native.Mathlib.Decide.{dec_lt}
use native.Mathlib.Omega.{arith}
use lib.Dec.{leb}
use borrow.Author.Tests.{leb-true, leb-false}
use Rattle.grammar.specs.Grammar.{Byte, bytes, Range, within, ◌·◌, join, this, that, Many, none, more, UTF8_tail, UTF8_2, UTF8_3, UTF8_4, unescaped, hexchar, short, char, string}
use Rattle.tree.specs.Utf8.{Scalar, utf8, number_of}
use Rattle.tree.specs.Characters.{letter, paired, unicode, character, characters, string_of, UTF8_char, UTF8_octets, Writes}
use Rattle.tree.proofs.Digits.{four_number, single, high, low}

-- ---- bytes of a character
lead : {x : ℕ} (b : ℕ) → b ≡ x → Byte x (b ∷ [])
lead {x} b e = subst (λ (y : ℕ). Byte x (y ∷ [])) (sym e) bytes

between : {lo hi : ℕ} (b : ℕ) → lo ≤ b → b ≤ hi → Range lo hi (b ∷ [])
between b l g = within l g

tail : (n : ℕ) → n < 0x40 → UTF8_tail ((0x80 + n) ∷ [])
tail n h = between (0x80 + n) (omega arith) (omega arith)

module _ (c : ℕ) where
  last : UTF8_tail ((0x80 + c % 0x40) ∷ [])
  last = tail (c % 0x40) (omega arith)

  last_2 : (UTF8_tail · UTF8_tail) ((0x80 + c / 0x40 % 0x40) ∷ (0x80 + c % 0x40) ∷ [])
  last_2 = join (tail (c / 0x40 % 0x40) (omega arith)) last

  two : 0x7F < c → c ≤ 0x7FF → UTF8_2 ((0xC0 + c / 0x40) ∷ (0x80 + c % 0x40) ∷ [])
  two l g = join (between (0xC0 + c / 0x40) (omega arith) (omega arith)) last

  -- the cases are RFC 3629's: the first byte is E0, E1 to EC, ED, EE to EF
  three : 0x7FF < c → c ≤ 0xFFFF → Scalar c → UTF8_3 ((0xE0 + c / 0x1000) ∷ (0x80 + c / 0x40 % 0x40) ∷ (0x80 + c % 0x40) ∷ [])
  three l g h =
      let x = 0xE0 + c / 0x1000 in
      let y = 0x80 + c / 0x40 % 0x40 in
      elim (dec_lt c 0x1000) [
        | yes a ↦ this (join (lead x (omega arith)) (join (between y (omega arith) (omega arith)) last))
        | no a ↦ elim (dec_lt c 0xD000) [
          | yes b ↦ that (this (join (between x (omega arith) (omega arith)) last_2))
          | no b ↦ elim (dec_lt c 0xD800) [
            | yes d ↦ that (that (this (join (lead x (omega arith)) (join (between y (omega arith) (omega arith)) last))))
            | no d ↦ elim (dec_lt c 0xE000) [
              | yes f ↦ absurd (h.whole (omega arith) (omega arith))
              | no f ↦ that (that (that (join (between x (omega arith) (omega arith)) last_2)))
            ]
          ]
        ]
      ]

  -- F0, F1 to F3, F4
  four : 0xFFFF < c → c < 0x110000 → UTF8_4 ((0xF0 + c / 0x40000) ∷ (0x80 + c / 0x1000 % 0x40) ∷ (0x80 + c / 0x40 % 0x40) ∷ (0x80 + c % 0x40) ∷ [])
  four l g =
      let x = 0xF0 + c / 0x40000 in
      let y = 0x80 + c / 0x1000 % 0x40 in
      elim (dec_lt c 0x40000) [
        | yes a ↦ this (join (lead x (omega arith)) (join (between y (omega arith) (omega arith)) last_2))
        | no a ↦ elim (dec_lt c 0x100000) [
          | yes b ↦ that (this (join (between x (omega arith) (omega arith)) (join (tail (c / 0x1000 % 0x40) (omega arith)) last_2)))
          | no b ↦ that (that (join (lead x (omega arith)) (join (between y (omega arith) (omega arith)) last_2)))
        ]
      ]

-- the bytes of a character's number are one character of RFC 3629's grammar, and its number is that
pub utf8_writes : (c : ℕ) → Scalar c → Writes c (utf8 c)
unfolding utf8 number_of
utf8_writes c h = go (leb c 0x7F) refl (leb c 0x7FF) refl (leb c 0xFFFF) refl
  where
    go : (x : Bool) → leb c 0x7F ≡ x → (y : Bool) → leb c 0x7FF ≡ y → (z : Bool) → leb c 0xFFFF ≡ z
        → Writes c (cond x (c ∷ [])
        (cond y ((0xC0 + c / 0x40) ∷ (0x80 + c % 0x40) ∷ [])
        (cond z ((0xE0 + c / 0x1000) ∷ (0x80 + c / 0x40 % 0x40) ∷ (0x80 + c % 0x40) ∷ [])
        ((0xF0 + c / 0x40000) ∷ (0x80 + c / 0x1000 % 0x40) ∷ (0x80 + c / 0x40 % 0x40) ∷ (0x80 + c % 0x40) ∷ []))))
    go true e y f z g = let a = leb-true c 0x7F e in record { rule = this (between c (omega arith) a); number = refl }
    go false e true f z g =
        let a = leb-false c 0x7F e in
        let b = leb-true c 0x7FF f in
        record { rule = that (this (two c a b)); number = omega arith }
    go false e false f true g =
        let a = leb-false c 0x7FF f in
        let b = leb-true c 0xFFFF g in
        record { rule = that (that (this (three c a b h))); number = omega arith }
    go false e false f false g =
        let a = leb-false c 0xFFFF g in
        let i : c / 0x40 / 0x40 ≡ c / 0x1000 = omega arith in
        let j : c / 0x1000 / 0x40 ≡ c / 0x40000 = omega arith in
        record { rule = that (that (that (four c a h.below))); number = omega arith }

-- ---- what a string says
-- the number of a letter's character is a character's number
pub letter_scalar : {s : List ℕ} (d : short s) → Scalar (letter d)
unfolding letter
letter_scalar (this d) = omega arith
letter_scalar (that (this d)) = omega arith
letter_scalar (that (that (this d))) = omega arith
letter_scalar (that (that (that (this d)))) = omega arith
letter_scalar (that (that (that (that (this d))))) = omega arith
letter_scalar (that (that (that (that (that (this d)))))) = omega arith
letter_scalar (that (that (that (that (that (that (this d))))))) = omega arith
letter_scalar (that (that (that (that (that (that (that d))))))) = omega arith

-- the number of a \u's character is a character's number
pub unicode_scalar : {s : List ℕ} (d : hexchar s) → Scalar (unicode d)
unfolding unicode paired
unicode_scalar (this d) = let h = four_number (single d) in record { below = omega arith; whole = h.1 }
unicode_scalar (that (join d (join slash (join u f)))) =
    let h = four_number (high d) in
    let l = four_number (low f) in
    record { below = omega arith; whole = omega arith }

-- a character that stands for itself
plain_utf8 : {s : List ℕ} → unescaped s → UTF8_char s
plain_utf8 (this (within {b} l g)) = this (between b (omega arith) (omega arith))
plain_utf8 (that (this (within {b} l g))) = this (between b (omega arith) (omega arith))
plain_utf8 (that (that (this (within {b} l g)))) = this (between b (omega arith) (omega arith))
plain_utf8 (that (that (that d))) = that d

-- what a char of the grammar says is one character in UTF-8
pub character_utf8 : {s : List ℕ} (d : char s) → UTF8_char (character d)
unfolding character
character_utf8 (this d) = plain_utf8 d
character_utf8 (that (join slash (this d))) = (utf8_writes (letter d) (letter_scalar d)).rule
character_utf8 (that (join slash (that (join u d)))) = (utf8_writes (unicode d) (unicode_scalar d)).rule

characters_utf8 : {s : List ℕ} (d : Many char s) → UTF8_octets (characters d)
unfolding characters
characters_utf8 none = none
characters_utf8 (more c cs) = more (character_utf8 c) (characters_utf8 cs)

-- so what a string says is text in UTF-8
pub string_utf8 : {s : List ℕ} (d : string s) → UTF8_octets (string_of d)
unfolding string_of
string_utf8 (join mark (join cs mark')) = characters_utf8 cs
