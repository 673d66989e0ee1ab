-- How many bytes until no string and no bracket is open any more, over the rules of the grammar. Assumes nothing.
use mathlib.Core.Path.{◌≡◌, refl, ap, ◌∙◌}
use mathlib.Core.Bool.{false}
use mathlib.Core.List.{List, [], ◌∷◌, ◌++◌, append_assoc}
use Prim.Native.Nat.{ℕ, zero, suc, ◌+◌, ◌≤◌}
use native.Mathlib.Omega.{arith}
use lib.ListN.{length, length-append}
use borrow.Author.Tests.{ne_eqb}
use Rattle.view.specs.Ends.{to_rest, mode_after, depth_after, at_rest}
use Rattle.viewed.proofs.Blocks.{open_still}
use Rattle.grammar.specs.Grammar.{Bytes, bytes, Byte, Range, within, ◌·◌, join, ◌or◌, this, that, Optional, absent, present, Many, none, more, ws, DIGIT, int, number, string, char, unescaped, short, hexchar, HEXDIG, non_surrogate, high_surrogate, low_surrogate, UTF8_tail, UTF8_2, UTF8_3, UTF8_4, value_separator, member, value}

-- over the bytes of a rule the mode and the number of open brackets go from one pair to another, and do not come to rest
pub record Runs (P : List ℕ → Type 0) (m d m' d' : ℕ) : Type 0 where
  pub ran : (s : List ℕ) → P s → (u : List ℕ) → to_rest m d (s ++ u) ≡ length s + to_rest m' d' u

-- ---- the operators
one_byte : (m d m' d' b : ℕ) (u : List ℕ) → mode_after m b ≡ m' → depth_after m b d ≡ d' → at_rest m' d' ≡ false → to_rest m d (b ∷ u) ≡ 1 + to_rest m' d' u
unfolding to_rest
one_byte m d m' d' b u e f n = rw (e, f, n) (omega arith)

module _ {m d m' d' : ℕ} where
  pub run_byte : (x : ℕ) → mode_after m x ≡ m' → depth_after m x d ≡ d' → at_rest m' d' ≡ false → Runs (Byte x) m d m' d'
  run_byte x e f n = record { ran = λ s c u. on c u }
    where
      on : {s : List ℕ} → Byte x s → (u : List ℕ) → to_rest m d (s ++ u) ≡ length s + to_rest m' d' u
      on bytes u = one_byte m d m' d' x u e f n

  pub run_range : (lo hi : ℕ) → at_rest m' d' ≡ false → ((b : ℕ) → lo ≤ b → b ≤ hi → (mode_after m b ≡ m') × (depth_after m b d ≡ d')) → Runs (Range lo hi) m d m' d'
  run_range lo hi n h = record { ran = λ s c u. on c u }
    where
      on : {s : List ℕ} → Range lo hi s → (u : List ℕ) → to_rest m d (s ++ u) ≡ length s + to_rest m' d' u
      on (within {b} l g) u = let z = h b l g in one_byte m d m' d' b u z.0 z.1 n

  pub run_alt : {P Q : List ℕ → Type 0} → Runs P m d m' d' → Runs Q m d m' d' → Runs (P or Q) m d m' d'
  run_alt {P} {Q} x y = record { ran = λ s c u. on c u }
    where
      on : {s : List ℕ} → (P or Q) s → (u : List ℕ) → to_rest m d (s ++ u) ≡ length s + to_rest m' d' u
      on (this c) u = x.ran _ c u
      on (that c) u = y.ran _ c u

  pub run_join : {P Q : List ℕ → Type 0} {m'' d'' : ℕ} → Runs P m d m' d' → Runs Q m' d' m'' d'' → Runs (P · Q) m d m'' d''
  run_join {P} {Q} {m''} {d''} x y = record { ran = λ s c u. on c u }
    where
      on : {s : List ℕ} → (P · Q) s → (u : List ℕ) → to_rest m d (s ++ u) ≡ length s + to_rest m'' d'' u
      on (join {s} {t} a b) u =
          let f : to_rest m d ((s ++ t) ++ u) ≡ length s + to_rest m' d' (t ++ u) = ap (to_rest m d) (append_assoc s t u) ∙ x.ran s a (t ++ u) in
          let g : to_rest m' d' (t ++ u) ≡ length t + to_rest m'' d'' u = y.ran t b u in
          let l : length (s ++ t) ≡ length s + length t = length-append s t in
          omega arith

module _ {m d : ℕ} where
  pub run_optional : {P : List ℕ → Type 0} → Runs P m d m d → Runs (Optional P) m d m d
  run_optional {P} x = record { ran = λ s c u. on c u }
    where
      on : {s : List ℕ} → Optional P s → (u : List ℕ) → to_rest m d (s ++ u) ≡ length s + to_rest m d u
      on absent u = omega arith
      on (present c) u = x.ran _ c u

  pub run_many : {P : List ℕ → Type 0} → Runs P m d m d → Runs (Many P) m d m d
  run_many {P} x = record { ran = λ s c u. on c u }
    where
      on : {s : List ℕ} → Many P s → (u : List ℕ) → to_rest m d (s ++ u) ≡ length s + to_rest m d u
      on none u = omega arith
      on (more {s} {t} a b) u =
          let f : to_rest m d ((s ++ t) ++ u) ≡ length s + to_rest m d (t ++ u) = ap (to_rest m d) (append_assoc s t u) ∙ x.ran s a (t ++ u) in
          let g : to_rest m d (t ++ u) ≡ length t + to_rest m d u = on b u in
          let l : length (s ++ t) ≡ length s + length t = length-append s t in
          omega arith

-- ---- outside of strings, with brackets open

-- small letters
abbrev Letters : List ℕ → Type 0
Letters [] = Unit {0}
Letters (x ∷ xs) = (94 ≤ x) × (x ≤ 122) × Letters xs

module _ (d : ℕ) where
  -- a byte that is no quote and no bracket
  neutral : (b : ℕ) → (b ≡ 34 → ⊥) → (b ≡ 91 → ⊥) → (b ≡ 123 → ⊥) → (b ≡ 93 → ⊥) → (b ≡ 125 → ⊥) → (mode_after 0 b ≡ 0) × (depth_after 0 b (suc d) ≡ suc d)
  unfolding mode_after depth_after
  neutral b q s c e f = (rw (ne_eqb b 34 q), rw (ne_eqb b 91 s, ne_eqb b 123 c, ne_eqb b 93 e, ne_eqb b 125 f))

  pub run_neutral : (x : ℕ) → (x ≡ 34 → ⊥) → (x ≡ 91 → ⊥) → (x ≡ 123 → ⊥) → (x ≡ 93 → ⊥) → (x ≡ 125 → ⊥) → Runs (Byte x) 0 (suc d) 0 (suc d)
  run_neutral x q s c e f = let z = neutral x q s c e f in run_byte x z.0 z.1 (open_still 0 d)

  run_low : (lo hi : ℕ) → 35 ≤ lo → hi ≤ 90 → Runs (Range lo hi) 0 (suc d) 0 (suc d)
  run_low lo hi l h = run_range lo hi (open_still 0 d) (λ b x y. neutral b (λ e. omega arith) (λ e. omega arith) (λ e. omega arith) (λ e. omega arith) (λ e. omega arith))

  -- bytes of a word
  plain : (x : ℕ) → 94 ≤ x → x ≤ 122 → Runs (Byte x) 0 (suc d) 0 (suc d)
  plain x l h = run_neutral x (λ e. omega arith) (λ e. omega arith) (λ e. omega arith) (λ e. omega arith) (λ e. omega arith)

  sign : (x : ℕ) → 35 ≤ x → x ≤ 90 → Runs (Byte x) 0 (suc d) 0 (suc d)
  sign x l h = run_neutral x (λ e. omega arith) (λ e. omega arith) (λ e. omega arith) (λ e. omega arith) (λ e. omega arith)

  space : (x : ℕ) → x ≤ 33 → Runs (Byte x) 0 (suc d) 0 (suc d)
  space x h = run_neutral x (λ e. omega arith) (λ e. omega arith) (λ e. omega arith) (λ e. omega arith) (λ e. omega arith)

  pub run_ws : Runs ws 0 (suc d) 0 (suc d)
  run_ws = run_many (run_alt (space 32 (omega arith)) (run_alt (space 9 (omega arith)) (run_alt (space 10 (omega arith)) (space 13 (omega arith)))))

  pub run_separator : (x : ℕ) → 35 ≤ x → x ≤ 90 → Runs (ws · Byte x · ws) 0 (suc d) 0 (suc d)
  run_separator x l h = run_join run_ws (run_join (sign x l h) run_ws)

  run_digit : Runs DIGIT 0 (suc d) 0 (suc d)
  run_digit = run_low 48 57 (omega arith) (omega arith)

  run_int : Runs int 0 (suc d) 0 (suc d)
  run_int = run_alt (sign 48 (omega arith) (omega arith)) (run_join (run_low 49 57 (omega arith) (omega arith)) (run_many run_digit))

  pub run_number : Runs number 0 (suc d) 0 (suc d)
  run_number =
      run_join (run_optional (sign 45 (omega arith) (omega arith)))
      (run_join run_int
      (run_join (run_optional (run_join (sign 46 (omega arith) (omega arith)) (run_join run_digit (run_many run_digit))))
      (run_optional
      (run_join (run_alt (plain 101 (omega arith) (omega arith)) (sign 69 (omega arith) (omega arith)))
      (run_join (run_optional (run_alt (sign 45 (omega arith) (omega arith)) (sign 43 (omega arith) (omega arith)))) (run_join run_digit (run_many run_digit)))))))

  -- a word of such bytes
  run_bytes : (w : List ℕ) → Letters w → Runs (Bytes w) 0 (suc d) 0 (suc d)
  run_bytes w h = record { ran = λ s c u. on c u }
    where
      all : (v : List ℕ) → Letters v → (u : List ℕ) → to_rest 0 (suc d) (v ++ u) ≡ length v + to_rest 0 (suc d) u
      all [] l u = omega arith
      all (x ∷ v) (l, g, k) u =
          let a : to_rest 0 (suc d) (x ∷ (v ++ u)) ≡ 1 + to_rest 0 (suc d) (v ++ u) = (plain x l g).ran (x ∷ []) bytes (v ++ u) in
          let b = all v k u in
          omega arith

      on : {s : List ℕ} → Bytes w s → (u : List ℕ) → to_rest 0 (suc d) (s ++ u) ≡ length s + to_rest 0 (suc d) u
      on bytes u = all w h u

-- ---- in a string
in_string_lem : (d : ℕ) → at_rest 1 d ≡ false
unfolding at_rest
in_string_lem d = refl

in_escape : (d : ℕ) → at_rest 2 d ≡ false
unfolding at_rest
in_escape d = refl

module _ (d : ℕ) where
  -- bytes that are no quote and no backslash
  inner : (lo hi : ℕ) → ((b : ℕ) → lo ≤ b → b ≤ hi → b ≡ 34 → ⊥) → ((b : ℕ) → lo ≤ b → b ≤ hi → b ≡ 92 → ⊥) → Runs (Range lo hi) 1 d 1 d
  unfolding mode_after depth_after
  inner lo hi q s = run_range lo hi (in_string_lem d) (λ b l h. (rw (ne_eqb b 34 (q b l h), ne_eqb b 92 (s b l h)), refl))

  upper : (lo hi : ℕ) → 93 ≤ lo → Runs (Range lo hi) 1 d 1 d
  upper lo hi l = inner lo hi (λ b x y e. omega arith) (λ b x y e. omega arith)

  middle : (lo hi : ℕ) → 35 ≤ lo → hi ≤ 91 → Runs (Range lo hi) 1 d 1 d
  middle lo hi l h = inner lo hi (λ b x y e. omega arith) (λ b x y e. omega arith)

  one_of : (x : ℕ) → (x ≡ 34 → ⊥) → (x ≡ 92 → ⊥) → Runs (Byte x) 1 d 1 d
  unfolding mode_after depth_after
  one_of x q s = run_byte x (rw (ne_eqb x 34 q, ne_eqb x 92 s)) refl (in_string_lem d)

  other : (x : ℕ) → 93 ≤ x → Runs (Byte x) 1 d 1 d
  other x l = one_of x (λ e. omega arith) (λ e. omega arith)

  run_tail : Runs UTF8_tail 1 d 1 d
  run_tail = upper 128 191 (omega arith)

  run_2 : Runs UTF8_2 1 d 1 d
  run_2 = run_join (upper 194 223 (omega arith)) run_tail

  run_3 : Runs UTF8_3 1 d 1 d
  run_3 =
      run_alt (run_join (other 224 (omega arith)) (run_join (upper 160 191 (omega arith)) run_tail))
      (run_alt (run_join (upper 225 236 (omega arith)) (run_join run_tail run_tail))
      (run_alt (run_join (other 237 (omega arith)) (run_join (upper 128 159 (omega arith)) run_tail))
      (run_join (upper 238 239 (omega arith)) (run_join run_tail run_tail))))

  run_4 : Runs UTF8_4 1 d 1 d
  run_4 =
      run_alt (run_join (other 240 (omega arith)) (run_join (upper 144 191 (omega arith)) (run_join run_tail run_tail)))
      (run_alt (run_join (upper 241 243 (omega arith)) (run_join run_tail (run_join run_tail run_tail)))
      (run_join (other 244 (omega arith)) (run_join (upper 128 143 (omega arith)) (run_join run_tail run_tail))))

  run_unescaped : Runs unescaped 1 d 1 d
  run_unescaped =
      run_alt (inner 32 33 (λ b x y e. omega arith) (λ b x y e. omega arith))
      (run_alt (middle 35 91 (omega arith) (omega arith)) (run_alt (upper 93 127 (omega arith)) (run_alt run_2 (run_alt run_3 run_4))))

  -- the digits of a \u
  run_hex : Runs HEXDIG 1 d 1 d
  run_hex = run_alt (middle 48 57 (omega arith) (omega arith)) (run_alt (middle 65 70 (omega arith) (omega arith)) (upper 97 102 (omega arith)))

  run_D : Runs (Byte 68 or Byte 100) 1 d 1 d
  run_D = run_alt (one_of 68 (λ e. omega arith) (λ e. omega arith)) (other 100 (omega arith))

  run_low_surrogate : Runs low_surrogate 1 d 1 d
  run_low_surrogate = run_join run_D (run_join (run_alt (middle 67 70 (omega arith) (omega arith)) (upper 99 102 (omega arith))) (run_join run_hex run_hex))

  run_high_surrogate : Runs high_surrogate 1 d 1 d
  run_high_surrogate =
      run_join run_D
      (run_join (run_alt (middle 56 57 (omega arith) (omega arith)) (run_alt (middle 65 66 (omega arith) (omega arith)) (upper 97 98 (omega arith)))) (run_join run_hex run_hex))

  run_non_surrogate : Runs non_surrogate 1 d 1 d
  run_non_surrogate =
      run_alt
      (run_join
      (run_alt (middle 48 57 (omega arith) (omega arith))
      (run_alt (middle 65 67 (omega arith) (omega arith))
      (run_alt (middle 69 70 (omega arith) (omega arith)) (run_alt (upper 97 99 (omega arith)) (upper 101 102 (omega arith))))))
      (run_join run_hex (run_join run_hex run_hex)))
      (run_join run_D (run_join (middle 48 55 (omega arith) (omega arith)) (run_join run_hex run_hex)))

  -- a backslash, and the byte behind it whatever it is
  run_slash : Runs (Byte 92) 1 d 2 d
  unfolding mode_after depth_after
  run_slash = run_byte 92 refl refl (in_escape d)

  run_any : (x : ℕ) → Runs (Byte x) 2 d 1 d
  unfolding mode_after depth_after
  run_any x = run_byte x refl refl (in_string_lem d)

  run_short : Runs short 2 d 1 d
  run_short =
      run_alt (run_any 34)
      (run_alt (run_any 92)
      (run_alt (run_any 47) (run_alt (run_any 98) (run_alt (run_any 102) (run_alt (run_any 110) (run_alt (run_any 114) (run_any 116)))))))

  run_hexchar : Runs hexchar 1 d 1 d
  run_hexchar = run_alt run_non_surrogate (run_join run_high_surrogate (run_join run_slash (run_join (run_any 117) run_low_surrogate)))

  run_char : Runs char 1 d 1 d
  run_char = run_alt run_unescaped (run_join run_slash (run_alt run_short (run_join (run_any 117) run_hexchar)))

  -- the opening quote and the characters
  pub run_opened : Runs (Byte 34 · Many char) 0 d 1 d
  unfolding mode_after depth_after
  run_opened = run_join (run_byte 34 refl refl (in_string_lem d)) (run_many run_char)

pub run_string : (d : ℕ) → Runs string 0 (suc d) 0 (suc d)
unfolding mode_after depth_after
run_string d = run_join (run_byte 34 refl refl (in_string_lem (suc d))) (run_join (run_many (run_char (suc d))) (run_byte 34 refl refl (open_still 0 d)))

-- ---- values
-- the bytes of the brackets x and y, and between them what runs
run_brackets : (d x y : ℕ) (P : List ℕ → Type 0) → depth_after 0 x (suc d) ≡ suc (suc d) → depth_after 0 y (suc (suc d)) ≡ suc d → mode_after 0 x ≡ 0 → mode_after 0 y ≡ 0
    → Runs P 0 (suc (suc d)) 0 (suc (suc d)) → Runs ((ws · Byte x · ws) · P · (ws · Byte y · ws)) 0 (suc d) 0 (suc d)
run_brackets d x y P e f g h r =
    run_join (run_join (run_ws d) (run_join (run_byte x g e (open_still 0 (suc d))) (run_ws (suc d))))
    (run_join r (run_join (run_ws (suc d)) (run_join (run_byte y h f (open_still 0 d)) (run_ws d))))

-- none, or some with commas between
run_items : (d : ℕ) (P : List ℕ → Type 0) → Runs P 0 (suc d) 0 (suc d) → Runs (Optional (P · Many (value_separator · P))) 0 (suc d) 0 (suc d)
run_items d P r = run_optional (run_join r (run_many (run_join (run_separator d 44 (omega arith) (omega arith)) r)))

run_member : (d : ℕ) (P : List ℕ → Type 0) → Runs P 0 (suc d) 0 (suc d) → Runs (member P) 0 (suc d) 0 (suc d)
run_member d P r = run_join (run_string d) (run_join (run_separator d 58 (omega arith) (omega arith)) r)

module _ (n d : ℕ) (inside : (e : ℕ) → Runs (value n) 0 (suc e) 0 (suc e)) where
  run_object : Runs ((ws · Byte 123 · ws) · Optional (member (value n) · Many (value_separator · member (value n))) · (ws · Byte 125 · ws)) 0 (suc d) 0 (suc d)
  unfolding mode_after depth_after
  run_object =
      run_brackets d 123 125 (Optional (member (value n) · Many (value_separator · member (value n)))) (omega arith) (omega arith) refl refl
      (run_items (suc d) (member (value n)) (run_member (suc d) (value n) (inside (suc d))))

  run_array : Runs ((ws · Byte 91 · ws) · Optional (value n · Many (value_separator · value n)) · (ws · Byte 93 · ws)) 0 (suc d) 0 (suc d)
  unfolding mode_after depth_after
  run_array =
      run_brackets d 91 93 (Optional (value n · Many (value_separator · value n))) (omega arith) (omega arith) refl refl
      (run_items (suc d) (value n) (inside (suc d)))

module _ (d : ℕ) where
  run_false : Runs (Bytes (102 ∷ 97 ∷ 108 ∷ 115 ∷ 101 ∷ [])) 0 (suc d) 0 (suc d)
  run_false = run_bytes d (102 ∷ 97 ∷ 108 ∷ 115 ∷ 101 ∷ []) (omega arith, omega arith, (omega arith, omega arith, (omega arith, omega arith, (omega arith, omega arith, (omega arith, omega arith, tt)))))

  run_null : Runs (Bytes (110 ∷ 117 ∷ 108 ∷ 108 ∷ [])) 0 (suc d) 0 (suc d)
  run_null = run_bytes d (110 ∷ 117 ∷ 108 ∷ 108 ∷ []) (omega arith, omega arith, (omega arith, omega arith, (omega arith, omega arith, (omega arith, omega arith, tt))))

  run_true : Runs (Bytes (116 ∷ 114 ∷ 117 ∷ 101 ∷ [])) 0 (suc d) 0 (suc d)
  run_true = run_bytes d (116 ∷ 114 ∷ 117 ∷ 101 ∷ []) (omega arith, omega arith, (omega arith, omega arith, (omega arith, omega arith, (omega arith, omega arith, tt))))

pub run_value : (n d : ℕ) → Runs (value n) 0 (suc d) 0 (suc d)
unfolding value
run_value zero d = run_alt (run_false d) (run_alt (run_null d) (run_alt (run_true d) (run_alt (run_number d) (run_string d))))
run_value (suc n) d =
    run_alt (run_false d)
    (run_alt (run_null d)
    (run_alt (run_true d)
    (run_alt (run_object n d (run_value n)) (run_alt (run_array n d (run_value n)) (run_alt (run_number d) (run_string d))))))

-- what stands between brackets
pub run_values : (n d : ℕ) → Runs (Optional (value n · Many (value_separator · value n))) 0 (suc d) 0 (suc d)
run_values n d = run_items d (value n) (run_value n d)

pub run_members : (n d : ℕ) → Runs (Optional (member (value n) · Many (value_separator · member (value n)))) 0 (suc d) 0 (suc d)
run_members n d = run_items d (member (value n)) (run_member d (value n) (run_value n d))
