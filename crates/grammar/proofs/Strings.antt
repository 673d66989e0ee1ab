-- The automaton takes white space and the strings of the grammar. Assumes nothing.
use mathlib.Core.Path.{◌≡◌, refl, ap, ◌∙◌}
use mathlib.Core.Bool.{Bool, true, false, cond}
use Prim.Native.Nat.{ℕ, suc, ◌≤◌, ◌<◌}
use native.Mathlib.Omega.{arith}
use borrow.Author.Tests.{ne_eqb, lt-ltb, le-ltb}
use Rattle.json_scan.specs.Json.{Mode, Stack, go, step, is_space, is_hex, is_d, is_high, inside, one, text, wide, Place, closed, str, plain, esc, h1, h2, h2d, h3, h4, g3, g4, g5, g7, g8, tail, Inside}
use Rattle.grammar.specs.Grammar.{Range, ◌·◌, ◌or◌, ws, UTF8_tail, UTF8_2, UTF8_3, UTF8_4, HEXDIG, non_surrogate, high_surrogate, low_surrogate, hexchar, unescaped, short, char, string}
use Rattle.grammar.proofs.Takes.{Takes, take_byte, take_range, take_alt, take_join, take_many}
use Rattle.grammar.proofs.Classes.{inside_true, inside_above, hex_1, hex_2, hex_3, high_1, high_2, high_3, low_1, low_2, no_D}

-- white space leaves these modes as they are
abbrev pub Spacious : Mode → Type 0
Spacious m = (b : ℕ) (k : Stack) → is_space b ≡ true → step m b k ≡ go m k

module _ (w : Place) (k : Stack) where
  is_wide : (b : ℕ) → 128 ≤ b → step (str w plain) b k ≡ wide w b k
  unfolding text
  is_wide b l =
      simp (ne_eqb b 34 (λ e. omega arith), le-ltb b 32 (omega arith), ne_eqb b 92 (λ e. omega arith), le-ltb b 128 l)

  ascii : (b : ℕ) → 32 ≤ b → b < 128 → (b ≡ 34 → ⊥) → (b ≡ 92 → ⊥) → step (str w plain) b k ≡ go (str w plain) k
  unfolding text
  ascii b l g n m = simp (ne_eqb b 34 n, le-ltb b 32 l, ne_eqb b 92 m, lt-ltb b 128 g)

module _ {Too : Type 0} where
  pub take_ws : {m : Mode} (k : Stack) → Spacious m → Takes Too ws m k m k
  take_ws k h = take_many (take_alt (take_byte 32 (h 32 k refl)) (take_alt (take_byte 9 (h 9 k refl)) (take_alt (take_byte 10 (h 10 k refl)) (take_byte 13 (h 13 k refl)))))

  -- one digit of a class that the mode takes
  take_hex : {m m' : Mode} {k : Stack} → ((b : ℕ) → is_hex b ≡ true → step m b k ≡ go m' k) → Takes Too HEXDIG m k m' k
  take_hex h =
      take_alt (take_range 48 57 (λ b l g. h b (hex_1 b l g)))
      (take_alt (take_range 65 70 (λ b l g. h b (hex_2 b l g))) (take_range 97 102 (λ b l g. h b (hex_3 b l g))))

  module _ (w : Place) (k : Stack) where
    -- a mode within a string that takes one byte of a class
    hex_in : (i i' : Inside) → ((b : ℕ) → step (str w i) b k ≡ one (is_hex b) (str w i') k) → Takes Too HEXDIG (str w i) k (str w i') k
    hex_in i i' h = take_hex (λ b t. h b ∙ ap (λ (x : Bool). one x (str w i') k) t)

    take_h3 : Takes Too (HEXDIG · HEXDIG) (str w h3) k (str w plain) k
    unfolding text
    take_h3 = take_join (hex_in h3 h4 (λ b. refl)) (hex_in h4 plain (λ b. refl))

    take_h2 : Takes Too (HEXDIG · HEXDIG · HEXDIG) (str w h2) k (str w plain) k
    unfolding text
    take_h2 = take_join (hex_in h2 h3 (λ b. refl)) take_h3

    take_g8 : Takes Too ((Range 67 70 or Range 99 102) · HEXDIG · HEXDIG) (str w g8) k (str w plain) k
    unfolding text
    take_g8 =
        take_join
        (take_alt (take_range 67 70 (λ b l g. ap (λ (x : Bool). one x (str w h3) k) (low_1 b l g))) (take_range 99 102 (λ b l g. ap (λ (x : Bool). one x (str w h3) k) (low_2 b l g))))
        take_h3

    take_low : Takes Too low_surrogate (str w g7) k (str w plain) k
    unfolding text
    take_low = take_join (take_alt (take_byte 68 refl) (take_byte 100 refl)) take_g8

    take_high : Takes Too high_surrogate (str w h1) k (str w g5) k
    unfolding text
    take_high =
        take_join (take_alt (take_byte 68 refl) (take_byte 100 refl))
        (take_join
        (take_alt (take_range 56 57 (λ b l g. second b (high_1 b l g) (inside_above 48 55 b (omega arith))))
        (take_alt (take_range 65 66 (λ b l g. second b (high_2 b l g) (inside_above 48 55 b (omega arith))))
        (take_range 97 98 (λ b l g. second b (high_3 b l g) (inside_above 48 55 b (omega arith))))))
        (take_join (hex_in g3 g4 (λ b. refl)) (hex_in g4 g5 (λ b. refl))))
      where
        second : (b : ℕ) → is_high b ≡ true → inside 48 55 b ≡ false → step (str w h2d) b k ≡ go (str w g3) k
        second b h n = ap (λ (x : Bool). cond x (go (str w h3) k) (one (is_high b) (str w g3) k)) n ∙ ap (λ (x : Bool). one x (str w g3) k) h

    take_plain_hex : Takes Too non_surrogate (str w h1) k (str w plain) k
    unfolding text
    take_plain_hex =
        take_alt
        (take_join
        (take_alt (take_range 48 57 (λ b l g. other b (hex_1 b l g) (no_D b (λ e. omega arith) (λ e. omega arith))))
        (take_alt (take_range 65 67 (λ b l g. other b (hex_2 b l (omega arith)) (no_D b (λ e. omega arith) (λ e. omega arith))))
        (take_alt (take_range 69 70 (λ b l g. other b (hex_2 b (omega arith) g) (no_D b (λ e. omega arith) (λ e. omega arith))))
        (take_alt (take_range 97 99 (λ b l g. other b (hex_3 b l (omega arith)) (no_D b (λ e. omega arith) (λ e. omega arith))))
        (take_range 101 102 (λ b l g. other b (hex_3 b (omega arith) g) (no_D b (λ e. omega arith) (λ e. omega arith))))))))
        take_h2)
        (take_join (take_alt (take_byte 68 refl) (take_byte 100 refl))
        (take_join (take_range 48 55 (λ b l g. ap (λ (x : Bool). cond x (go (str w h3) k) (one (is_high b) (str w g3) k)) (inside_true 48 55 b l g))) take_h3))
      where
        other : (b : ℕ) → is_hex b ≡ true → is_d b ≡ false → step (str w h1) b k ≡ go (str w h2) k
        other b h n = ap (λ (x : Bool). cond x (go (str w h2d) k) (one (is_hex b) (str w h2) k)) n ∙ ap (λ (x : Bool). one x (str w h2) k) h

    take_hexchar : Takes Too hexchar (str w h1) k (str w plain) k
    unfolding text
    take_hexchar = take_alt take_plain_hex (take_join take_high (take_join (take_byte 92 refl) (take_join (take_byte 117 refl) take_low)))

    take_short : Takes Too short (str w esc) k (str w plain) k
    unfolding text
    take_short =
        take_alt (take_byte 34 refl)
        (take_alt (take_byte 92 refl)
        (take_alt (take_byte 47 refl)
        (take_alt (take_byte 98 refl)
        (take_alt (take_byte 102 refl) (take_alt (take_byte 110 refl) (take_alt (take_byte 114 refl) (take_byte 116 refl)))))))

    -- UTF-8
    tail_byte : (lo hi : ℕ) → Takes Too (Range lo hi) (str w (tail lo hi 0)) k (str w plain) k
    unfolding text
    tail_byte lo hi = take_range lo hi (λ b l g. ap (λ (x : Bool). one x (str w plain) k) (inside_true lo hi b l g))

    tail_on : (lo hi n : ℕ) → Takes Too (Range lo hi) (str w (tail lo hi (suc n))) k (str w (tail 128 191 n)) k
    unfolding text
    tail_on lo hi n = take_range lo hi (λ b l g. ap (λ (x : Bool). one x (str w (tail 128 191 n)) k) (inside_true lo hi b l g))

    tail_1 : (lo hi : ℕ) → Takes Too (Range lo hi · UTF8_tail) (str w (tail lo hi 1)) k (str w plain) k
    tail_1 lo hi = take_join (tail_on lo hi 0) (tail_byte 128 191)

    tail_2 : (lo hi : ℕ) → Takes Too (Range lo hi · UTF8_tail · UTF8_tail) (str w (tail lo hi 2)) k (str w plain) k
    tail_2 lo hi = take_join (tail_on lo hi 1) (tail_1 128 191)

    take_2 : Takes Too UTF8_2 (str w plain) k (str w plain) k
    unfolding wide
    take_2 = take_join (take_range 194 223 (λ b l g. is_wide w k b (omega arith) ∙ simp (inside_true 194 223 b l g))) (tail_byte 128 191)

    take_3 : Takes Too UTF8_3 (str w plain) k (str w plain) k
    unfolding text wide
    take_3 =
        take_alt (take_join (take_byte 224 refl) (tail_1 160 191))
        (take_alt (take_join (take_range 225 236 (λ b l g. three b l (omega arith) (λ e. omega arith))) (tail_1 128 191))
        (take_alt (take_join (take_byte 237 refl) (tail_1 128 159))
        (take_join (take_range 238 239 (λ b l g. three b (omega arith) g (λ e. omega arith))) (tail_1 128 191))))
      where
        three : (b : ℕ) → 225 ≤ b → b ≤ 239 → (b ≡ 237 → ⊥) → step (str w plain) b k ≡ go (str w (tail 128 191 1)) k
        three b l g n =
            is_wide w k b (omega arith)
            ∙ simp (inside_above 194 223 b (omega arith), ne_eqb b 224 (λ e. omega arith), ne_eqb b 237 n, inside_true 225 239 b l g)

    take_4 : Takes Too UTF8_4 (str w plain) k (str w plain) k
    unfolding text wide
    take_4 =
        take_alt (take_join (take_byte 240 refl) (tail_2 144 191))
        (take_alt (take_join (take_range 241 243 four) (tail_2 128 191))
        (take_join (take_byte 244 refl) (tail_2 128 143)))
      where
        four : (b : ℕ) → 241 ≤ b → b ≤ 243 → step (str w plain) b k ≡ go (str w (tail 128 191 2)) k
        four b l g =
            is_wide w k b (omega arith)
            ∙ simp (inside_above 194 223 b (omega arith), ne_eqb b 224 (λ e. omega arith), ne_eqb b 237 (λ e. omega arith), inside_above 225 239 b (omega arith), ne_eqb b 240 (λ e. omega arith), ne_eqb b 244 (λ e. omega arith), inside_true 241 243 b l g)

    take_unescaped : Takes Too unescaped (str w plain) k (str w plain) k
    take_unescaped =
        take_alt (take_range 32 33 (λ b l g. ascii w k b l (omega arith) (λ e. omega arith) (λ e. omega arith)))
        (take_alt (take_range 35 91 (λ b l g. ascii w k b (omega arith) (omega arith) (λ e. omega arith) (λ e. omega arith)))
        (take_alt (take_range 93 127 (λ b l g. ascii w k b (omega arith) (omega arith) (λ e. omega arith) (λ e. omega arith)))
        (take_alt take_2 (take_alt take_3 take_4))))

    take_char : Takes Too char (str w plain) k (str w plain) k
    unfolding text
    take_char = take_alt take_unescaped (take_join (take_byte 92 refl) (take_alt take_short (take_join (take_byte 117 refl) take_hexchar)))

    -- a string, from a mode that takes its quotation mark
    pub take_string : {m : Mode} → step m 34 k ≡ go (str w plain) k → Takes Too string m k (closed w) k
    unfolding text
    take_string h = take_join (take_byte 34 h) (take_join (take_many take_char) (take_byte 34 refl))
