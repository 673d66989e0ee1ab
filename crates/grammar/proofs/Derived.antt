-- What a run takes has a derivation: a byte before what the next state leaves open is what this state leaves open. Assumes nothing.
use mathlib.Core.Path.{◌≡◌, refl, sym, ap, subst, ◌∙◌}
use mathlib.Core.Bool.{Bool, true, false, cond, ◌&&◌, false≢true}
use mathlib.Core.List.{List, [], ◌∷◌, ◌++◌, append_assoc}
use Prim.Native.Nat.{ℕ, zero, suc, ◌-◌, ◌≤◌, ◌<◌}
use native.Mathlib.Decide.{dec_lt}
use native.Mathlib.Omega.{arith}
use borrow.Author.Tests.{eqb-true, eqb-false, ltb-true, ltb-false}
use lib.Dec.{eqb, ltb}
use lib.ListN.{length}
use Rattle.answer.specs.declared.refusal.Why.TheVariants.{NotJson, NestedTooDeep}
use Rattle.json_scan.specs.Json.{Mode, Stack, Bracket, square, brace, Move, go, die, step, one, opens, begin, next, after, power, point, digit1, simple, word_of, number as number-move, text, wide, rest, closed, spelt, whole, closes, bottom, deepest, inside, is_space, is_digit, is_hex, is_e, is_sign, is_d, is_high, is_low, is_short, Num, Inside, Place, val, first, done, key0, key, colon, word, num, str, as_key, as_value, plain, esc, h1, h2, h2d, h3, h4, g3, g4, g5, g6, g7, g8, tail}
use Rattle.json_scan.specs.Json as A
use Rattle.json_scan.specs.Json.{live, moved, reach, dead}
use Rattle.json_scan.proofs.Parts.{dead_stays}
use Rattle.json_scan.specs.Meets.{closer}
use Rattle.grammar.specs.Grammar.{Rule, Bytes, bytes, Byte, Range, within, ◌·◌, join, ◌or◌, this, that, Optional, absent, present, Many, none, more, Some, ws, value_separator, false as false-word, null as null_word, true as true-word, DIGIT, int, frac, exp, e, number, digit_D, digit_not_D, unescaped, UTF8_tail, UTF8_3, char, quotation_mark, string, value, JSON_text}
use Rattle.grammar.proofs.Endings.{taken, refused, ending, going}
use Rattle.grammar.proofs.Bracketed.{opener, end_bracket, bracketed}
use Rattle.grammar.proofs.Rests.{NumRest, Chars, quote, next as next-char, StrRest, Held, Item, After, over, space, close, comma, Opened, Keyed, Left}
use Rattle.grammar.proofs.OneByte.{bounds, is_byte, in_range, is_space_lem, is_e_lem, is_sign_lem, is_D, is_hex_lem, is_high_lem, is_low_lem, is_not_D, is_short_lem, is_ascii}

-- ---- a byte more in front of the first of two
module _ {b : ℕ} where
  lift : {P Q C : List ℕ → Type 0} {u : List ℕ} → ((v : List ℕ) → P v → Q (b ∷ v)) → (P · C) u → (Q · C) (b ∷ u)
  lift f (join p c) = join (f _ p) c

  push : {P Q C : List ℕ → Type 0} {u : List ℕ} → P (b ∷ []) → (Q · C) u → ((P · Q) · C) (b ∷ u)
  push p (join q c) = join (join p q) c

  push_2 : {P Q R C : List ℕ → Type 0} {u : List ℕ} → P (b ∷ []) → ((Q · R) · C) u → (((P · Q) · R) · C) (b ∷ u)
  push_2 p (join (join q r) c) = join (join (join p q) r) c

  space_more : {R : List ℕ → Type 0} {u : List ℕ} → is_space b ≡ true → (ws · R) u → (ws · R) (b ∷ u)
  space_more h (join w r) = join (more (is_space_lem b h) w) r

  -- numbers
  nonzero : {R : List ℕ → Type 0} {u : List ℕ} → Range 49 57 (b ∷ []) → (Many DIGIT · R) u → (int · R) (b ∷ u)
  nonzero d (join ds r) = join (that (join d ds)) r

  some_digits : {R : List ℕ → Type 0} {u : List ℕ} → DIGIT (b ∷ []) → (Many DIGIT · R) u → (Some DIGIT · R) (b ∷ u)
  some_digits d (join ds r) = join (join d ds) r

  dotted : {u : List ℕ} → Byte 46 (b ∷ []) → (Some DIGIT · Optional exp) u → (Optional frac · Optional exp) (b ∷ u)
  dotted p (join ds x) = join (present (join p ds)) x

  more_digits : {R : List ℕ → Type 0} {u : List ℕ} → DIGIT (b ∷ []) → (Many DIGIT · R) u → (Many DIGIT · R) (b ∷ u)
  more_digits d (join ds r) = join (more d ds) r

  -- strings
  escaped : {u : List ℕ} → Byte 92 (b ∷ []) → StrRest esc u → Chars (b ∷ u)
  escaped p (join x c) = next-char (that (join p x)) c

  unicode : {u : List ℕ} → Byte 117 (b ∷ []) → StrRest h1 u → StrRest esc (b ∷ u)
  unicode p (join x c) = join (that (join p x)) c

  after_D : {u : List ℕ} → digit_D (b ∷ []) → StrRest h2d u → StrRest h1 (b ∷ u)
  after_D d (join (this x) c) = join (this (that (join d x))) c
  after_D d (join (that (join x p)) c) = join (that (join (join d x) p)) c

  after_not_D : {u : List ℕ} → digit_not_D (b ∷ []) → StrRest h2 u → StrRest h1 (b ∷ u)
  after_not_D d (join x c) = join (this (this (join d x))) c

  below_8 : {u : List ℕ} → Range 48 55 (b ∷ []) → StrRest h3 u → StrRest h2d (b ∷ u)
  below_8 p (join x c) = join (this (join p x)) c

  from_8 : {u : List ℕ} → (Range 56 57 or Range 65 66 or Range 97 98) (b ∷ []) → StrRest g3 u → StrRest h2d (b ∷ u)
  from_8 p (join (join x y) c) = join (that (join (join p x) y)) c

  widened : {P : List ℕ → Type 0} {u : List ℕ} → ((v : List ℕ) → P v → unescaped (b ∷ v)) → (P · Chars) u → Chars (b ∷ u)
  widened f (join x c) = next-char (this (f _ x)) c

first_map : {P Q C : List ℕ → Type 0} {s : List ℕ} → ((v : List ℕ) → P v → Q v) → (P · C) s → (Q · C) s
first_map f (join p c) = join (f _ p) c

chars_quote : {s : List ℕ} → Chars s → (Many char · quotation_mark) s
chars_quote quote = join none bytes
chars_quote (next-char {s} {t} c cs) = put (chars_quote cs)
  where
    put : {v : List ℕ} → (Many char · quotation_mark) v → (Many char · quotation_mark) (s ++ v)
    put (join {s = x} {t = y} d q) = subst (Many char · quotation_mark) (append_assoc s x y) (join (more c d) q)

a_string : {b : ℕ} {s : List ℕ} → Byte 34 (b ∷ []) → Chars s → string (b ∷ s)
a_string p c = join p (chars_quote c)

-- ---- values
as_false : (n : ℕ) {s : List ℕ} → false-word s → value n s
unfolding value
as_false zero d = this d
as_false (suc n) d = this d

as_null : (n : ℕ) {s : List ℕ} → null_word s → value n s
unfolding value
as_null zero d = that (this d)
as_null (suc n) d = that (this d)

as_true : (n : ℕ) {s : List ℕ} → true-word s → value n s
unfolding value
as_true zero d = that (that (this d))
as_true (suc n) d = that (that (this d))

as_number : (n : ℕ) {s : List ℕ} → number s → value n s
unfolding value
as_number zero d = that (that (that (this d)))
as_number (suc n) d = that (that (that (that (that (this d)))))

as_string : (n : ℕ) {s : List ℕ} → string s → value n s
unfolding value
as_string zero d = that (that (that (that d)))
as_string (suc n) d = that (that (that (that (that (that d)))))

as_bracketed : (x : Bracket) (n : ℕ) {s : List ℕ} → bracketed x (value n) s → value (suc n) s
unfolding value
as_bracketed square n d = that (that (that (that (this d))))
as_bracketed brace n d = that (that (that (this d)))

-- ---- the first byte of a character of three
three : (b : ℕ) → inside 225 239 b ≡ true → eqb b 237 ≡ false → {v : List ℕ} → (UTF8_tail · UTF8_tail) v → UTF8_3 (b ∷ v)
three b h m x =
    let l = bounds 225 239 b h in
    let n : b ≡ 237 → ⊥ = eqb-false b 237 m in
    elim (dec_lt b 237) [
      | yes y ↦ that (this (join (within {b = b} l.0 (omega arith)) x))
      | no y ↦ that (that (that (join (within {b = b} (omega arith) l.1) x)))
    ]

-- ---- what follows a value, as the grammar has it
abbrev Follows : ℕ → Stack → Rule
Follows limit [] = ws
Follows limit (x ∷ k) = Many (value_separator · Item limit x k) · end_bracket x · After limit k

-- white space, or a comma and an item, in front of items and the closing bracket
space_items : {b c : ℕ} {P C : List ℕ → Type 0} {s : List ℕ} → is_space b ≡ true → (Many (value_separator · P) · (ws · Byte c · ws) · C) s
    → (Many (value_separator · P) · (ws · Byte c · ws) · C) (b ∷ s)
space_items {b = b} h (join none (join (join w c) r)) = join none (join (join (more (is_space_lem b h) w) c) r)
space_items {b = b} h (join (more (join (join w c) i) r) z) = join (more (join (join (more (is_space_lem b h) w) c) i) r) z

comma_items : {P C : List ℕ → Type 0} {a : List ℕ} (i : List ℕ) {r : List ℕ} → ws a → P i → (Many (value_separator · P) · C) r → (Many (value_separator · P) · C) (44 ∷ (a ++ (i ++ r)))
comma_items {P = P} {C = C} {a = a} i w d (join {s = m} {t = z} ms c) =
    subst (λ (y : List ℕ). (Many (value_separator · P) · C) (44 ∷ y)) (append_assoc (a ++ i) m z ∙ append_assoc a i (m ++ z))
    (join (more (join (join none (join bytes w)) d) ms) c)

follows : {limit : ℕ} {k : Stack} {s : List ℕ} → After limit k s → Follows limit k s
follows over = none
follows (space {b = b} {k = []} h a) = more (is_space_lem b h) (follows a)
follows (space {b = b} {k = x ∷ k} h a) = space_items h (follows a)
follows (close a) = join none (join (join none (join bytes none)) a)
follows (comma i w d r) = comma_items i w d (follows r)

-- ---- an opening bracket before what follows it
regroup : (w i m e a : List ℕ) → (w ++ ((i ++ m) ++ e)) ++ a ≡ w ++ (i ++ (m ++ (e ++ a)))
regroup w i m e a = append_assoc w ((i ++ m) ++ e) a ∙ ap (λ (y : List ℕ). w ++ y) (append_assoc (i ++ m) e a ∙ append_assoc i m (e ++ a))

module _ {limit : ℕ} {b : ℕ} (x : Bracket) (k : Stack) (p : Byte (opener x) (b ∷ [])) where
  with_items : {a : List ℕ} (i : List ℕ) {r : List ℕ} → ws a → Item limit x k i → Follows limit (x ∷ k) r → (bracketed x (Held limit (x ∷ k)) · After limit k) (b ∷ (a ++ (i ++ r)))
  with_items {a} i w d (join {s = m} ms (join {s = e'} {t = z} c f)) =
      subst (λ (y : List ℕ). (bracketed x (Held limit (x ∷ k)) · After limit k) (b ∷ y)) (regroup a i m e' z)
      (join (join (join none (join p w)) (join (present (join d ms)) c)) f)

  enclosed : {s : List ℕ} → Opened limit x k s → (bracketed x (Held limit (x ∷ k)) · After limit k) (b ∷ s)
  enclosed (join {s = a} w (this (join {t = z} bytes f))) =
      subst (λ (y : List ℕ). (bracketed x (Held limit (x ∷ k)) · After limit k) (b ∷ y)) (append_assoc a (closer x ∷ []) z)
      (join (join (join none (join p w)) (join absent (join none (join bytes none)))) f)
  enclosed (join w (that (join {s = i} d r))) = with_items i w d (follows r)

  -- where there is room for the bracket
  pub a_bracketed : length k < limit → {s : List ℕ} → Opened limit x k s → (Held limit k · After limit k) (b ∷ s)
  a_bracketed h l = first_map (λ u d. subst (λ (n : ℕ). value n u) room (as_bracketed x (limit - suc (length k)) d)) (enclosed l)
    where
      room : suc (limit - suc (length k)) ≡ limit - length k
      room = omega arith

-- ---- a key with its colon and its value
regroup_key : (c w p v x a : List ℕ) → (c ++ ((w ++ (p ++ v)) ++ x)) ++ a ≡ c ++ (w ++ (p ++ (v ++ (x ++ a))))
regroup_key c w p v x a = simp append_assoc

module _ {limit : ℕ} {b : ℕ} (k : Stack) (q : Byte 34 (b ∷ [])) where
  a_member : {s : List ℕ} → (Chars · Keyed limit k) s → (Item limit brace k · After limit (brace ∷ k)) (b ∷ s)
  a_member (join {s = c'} c (join {s = w'} w (join {s = p'} p (join {s = v'} v (join {s = x'} {t = z} d f))))) =
      subst (λ (y : List ℕ). (Item limit brace k · After limit (brace ∷ k)) (b ∷ y)) (regroup_key c' w' p' v' x' z)
      (join (join (a_string q c) (join (join w (join p v)) d)) f)

-- ---- one byte back
abbrev Back : ℕ → List ℕ → Type 0 → Move → Type 0
Back limit s X (go m k) = Left limit m k s → X
Back limit s X (die w) = Unit {0}

module _ (limit : ℕ) (s : List ℕ) where
  alt : (X : Type 0) (x : Bool) (u v : Move) → (x ≡ true → Back limit s X u) → (x ≡ false → Back limit s X v) → Back limit s X (cond x u v)
  alt X true u v f g = f refl
  alt X false u v f g = g refl

  only : (X : Type 0) (x : Bool) (m : Mode) (k : Stack) → (x ≡ true → Left limit m k s → X) → Back limit s X (one x m k)
  only X x m k f = alt X x (go m k) (die NotJson) f (λ _. tt)

  map_back : (X Y : Type 0) → (X → Y) → (v : Move) → Back limit s X v → Back limit s Y v
  map_back X Y f (go m k) h = λ l. f (h l)
  map_back X Y f (die w) h = tt

  any_back : (v : Move) → Back limit s (Unit {0}) v
  any_back (go m k) = λ l. tt
  any_back (die w) = tt

  module _ (b : ℕ) where
    comma_back : (x : Bracket) (k : Stack) → eqb b 44 ≡ true → {u : List ℕ} → (ws · Item limit x k · After limit (x ∷ k)) u → After limit (x ∷ k) (b ∷ u)
    comma_back x k h (join {s = a} w (join {s = i} {t = z} d r)) =
        subst (λ (y : ℕ). After limit (x ∷ k) (y ∷ (a ++ (i ++ z)))) (sym (eqb-true b 44 h)) (comma i w d r)

    close_back : (x : Bracket) (k : Stack) → eqb b (closer x) ≡ true → After limit k s → After limit (x ∷ k) (b ∷ s)
    close_back x k h a = subst (λ (y : ℕ). After limit (x ∷ k) (y ∷ s)) (sym (eqb-true b (closer x) h)) (close a)

    next_back : (k : Stack) → Back limit s (After limit k (b ∷ s)) (next b k)
    next_back [] = tt
    next_back (square ∷ k) =
        alt (After limit (square ∷ k) (b ∷ s)) (eqb b 93) (go done k) _ (close_back square k)
        (λ _. only (After limit (square ∷ k) (b ∷ s)) (eqb b 44) val (square ∷ k) (λ h l. comma_back square k h l))
    next_back (brace ∷ k) =
        alt (After limit (brace ∷ k) (b ∷ s)) (eqb b 125) (go done k) _ (close_back brace k)
        (λ _. only (After limit (brace ∷ k) (b ∷ s)) (eqb b 44) key (brace ∷ k) (λ h l. comma_back brace k h l))

    after_back : (k : Stack) → Back limit s (After limit k (b ∷ s)) (after b k)
    after_back k = alt (After limit k (b ∷ s)) (is_space b) (go done k) (next b k) (λ h a. space h a) (λ _. next_back k)

    -- ---- within a number
    module _ (k : Stack) where
      abbrev Numbered : Rule → Type 0
      Numbered P = (P · After limit k) (b ∷ s)

      -- the number ends before this byte
      ended : (P : List ℕ → Type 0) → P [] → Back limit s (Numbered P) (after b k)
      ended P p = map_back (After limit k (b ∷ s)) (Numbered P) (λ a. join p a) (after b k) (after_back k)

      power_back : (P : List ℕ → Type 0) → ((u : List ℕ) → Optional exp u → P u) → Back limit s (Numbered P) (power b k)
      power_back P f =
          alt (Numbered P) (is_e b) (go (num A.e) k) (after b k) (λ h. lift (λ u r. f (b ∷ u) (present (join (is_e_lem b h) r)))) (λ _. ended P (f [] absent))

      point_back : (P : List ℕ → Type 0) → ((u : List ℕ) → (Optional frac · Optional exp) u → P u) → Back limit s (Numbered P) (point b k)
      point_back P f =
          alt (Numbered P) (eqb b 46) (go (num A.dot) k) (power b k)
          (λ h. lift (λ u r. f (b ∷ u) (dotted (is_byte 46 b h) r)))
          (λ _. power_back P (λ u x. f u (join absent x)))

      digit : is_digit b ≡ true → DIGIT (b ∷ [])
      digit h = in_range 48 57 b h

      num_back : (n : Num) → Back limit s (Numbered (NumRest n)) (number-move n b k)
      unfolding number-move
      num_back A.minus =
          alt (Numbered (NumRest A.minus)) (eqb b 48) (go (num A.nought) k) _ (λ h. lift (λ u r. join (this (is_byte 48 b h)) r))
          (λ _. only (Numbered (NumRest A.minus)) (inside 49 57 b) (num A.int) k (λ h. lift (λ u r. nonzero (in_range 49 57 b h) r)))
      num_back A.nought = point_back (NumRest A.nought) (λ u r. r)
      num_back A.int =
          alt (Numbered (NumRest A.int)) (is_digit b) (go (num A.int) k) (point b k) (λ h. lift (λ u r. more_digits (digit h) r))
          (λ _. point_back (NumRest A.int) (λ u r. join none r))
      num_back A.dot = only (Numbered (NumRest A.dot)) (is_digit b) (num A.frac) k (λ h. lift (λ u r. some_digits (digit h) r))
      num_back A.frac =
          alt (Numbered (NumRest A.frac)) (is_digit b) (go (num A.frac) k) (power b k) (λ h. lift (λ u r. more_digits (digit h) r))
          (λ _. power_back (NumRest A.frac) (λ u r. join none r))
      num_back A.e =
          alt (Numbered (NumRest A.e)) (is_sign b) (go (num A.sign) k) _ (λ h. lift (λ u r. join (present (is_sign_lem b h)) r))
          (λ _. only (Numbered (NumRest A.e)) (is_digit b) (num A.exp) k (λ h. lift (λ u r. join absent (join (digit h) r))))
      num_back A.sign = only (Numbered (NumRest A.sign)) (is_digit b) (num A.exp) k (λ h. lift (λ u r. join (digit h) r))
      num_back A.exp = alt (Numbered (NumRest A.exp)) (is_digit b) (go (num A.exp) k) (after b k) (λ h. lift (λ u r. more (digit h) r)) (λ _. ended (NumRest A.exp) none)

    -- ---- within a string, before what C matches
    module _ (w : Place) (k : Stack) (C : List ℕ → Type 0) (into : (i : Inside) → Left limit (str w i) k s → (StrRest i · C) s) (out : Left limit (closed w) k s → C s) where
      abbrev Within : Inside → Type 0
      Within i = (StrRest i · C) (b ∷ s)

      -- on to another place of the string
      to : (i i' : Inside) → ((u : List ℕ) → StrRest i' u → StrRest i (b ∷ u)) → Left limit (str w i') k s → Within i
      to i i' f l = lift f (into i' l)

      wide_back : Back limit s (Within plain) (wide w b k)
      unfolding wide
      wide_back =
          alt (Within plain) (inside 194 223 b) (go (str w (tail 128 191 0)) k) _
          (λ h. to plain (tail 128 191 0) (λ u r. widened (λ v x. that (that (that (this (join (in_range 194 223 b h) x))))) r))
          (λ _. alt (Within plain) (eqb b 224) (go (str w (tail 160 191 1)) k) _
          (λ h. to plain (tail 160 191 1) (λ u r. widened (λ v x. that (that (that (that (this (this (join (is_byte 224 b h) x))))))) r))
          (λ n. alt (Within plain) (eqb b 237) (go (str w (tail 128 159 1)) k) _
          (λ h. to plain (tail 128 159 1) (λ u r. widened (λ v x. that (that (that (that (this (that (that (this (join (is_byte 237 b h) x))))))))) r))
          (λ m. alt (Within plain) (inside 225 239 b) (go (str w (tail 128 191 1)) k) _
          (λ h. to plain (tail 128 191 1) (λ u r. widened (λ v x. that (that (that (that (this (three b h m x)))))) r))
          (λ _. alt (Within plain) (eqb b 240) (go (str w (tail 144 191 2)) k) _
          (λ h. to plain (tail 144 191 2) (λ u r. widened (λ v x. that (that (that (that (that (this (join (is_byte 240 b h) x))))))) r))
          (λ _. alt (Within plain) (eqb b 244) (go (str w (tail 128 143 2)) k) _
          (λ h. to plain (tail 128 143 2) (λ u r. widened (λ v x. that (that (that (that (that (that (that (join (is_byte 244 b h) x)))))))) r))
          (λ _. only (Within plain) (inside 241 243 b) (str w (tail 128 191 2)) k
          (λ h. to plain (tail 128 191 2) (λ u r. widened (λ v x. that (that (that (that (that (that (this (join (in_range 241 243 b h) x)))))))) r))))))))

      tail_back : (n lo hi : ℕ) → Back limit s (Within (tail lo hi n)) (one (inside lo hi b) (str w (rest n)) k)
      tail_back zero lo hi = only (Within (tail lo hi 0)) (inside lo hi b) (str w plain) k (λ h. to (tail lo hi 0) plain (λ u r. join (in_range lo hi b h) r))
      tail_back (suc n) lo hi =
          only (Within (tail lo hi (suc n))) (inside lo hi b) (str w (tail 128 191 n)) k (λ h. to (tail lo hi (suc n)) (tail 128 191 n) (λ u r. push (in_range lo hi b h) r))

      text_back : (i : Inside) → Back limit s (Within i) (text w i b k)
      unfolding text
      text_back plain =
          alt (Within plain) (eqb b 34) (go (closed w) k) _ (λ h l. join (subst (λ (y : ℕ). Chars (y ∷ [])) (sym (eqb-true b 34 h)) quote) (out l))
          (λ n. alt (Within plain) (ltb b 32) (die NotJson) _ (λ _. tt)
          (λ g. alt (Within plain) (eqb b 92) (go (str w esc) k) _ (λ h. to plain esc (λ u r. escaped (is_byte 92 b h) r))
          (λ m. alt (Within plain) (ltb b 128) (go (str w plain) k) (wide w b k)
          (λ h. to plain plain (λ u r. next-char (this (is_ascii b (ltb-false b 32 g) (ltb-true b 128 h) (eqb-false b 34 n) (eqb-false b 92 m))) r))
          (λ _. wide_back))))
      text_back esc =
          alt (Within esc) (is_short b) (go (str w plain) k) _ (λ h. to esc plain (λ u r. join (this (is_short_lem b h)) r))
          (λ _. only (Within esc) (eqb b 117) (str w h1) k (λ h. to esc h1 (λ u r. unicode (is_byte 117 b h) r)))
      text_back h1 =
          alt (Within h1) (is_d b) (go (str w h2d) k) _ (λ h. to h1 h2d (λ u r. after_D (is_D b h) r))
          (λ n. only (Within h1) (is_hex b) (str w h2) k (λ h. to h1 h2 (λ u r. after_not_D (is_not_D b n h) r)))
      text_back h2 = only (Within h2) (is_hex b) (str w h3) k (λ h. to h2 h3 (λ u r. push (is_hex_lem b h) r))
      text_back h2d =
          alt (Within h2d) (inside 48 55 b) (go (str w h3) k) _ (λ h. to h2d h3 (λ u r. below_8 (in_range 48 55 b h) r))
          (λ _. only (Within h2d) (is_high b) (str w g3) k (λ h. to h2d g3 (λ u r. from_8 (is_high_lem b h) r)))
      text_back h3 = only (Within h3) (is_hex b) (str w h4) k (λ h. to h3 h4 (λ u r. push (is_hex_lem b h) r))
      text_back h4 = only (Within h4) (is_hex b) (str w plain) k (λ h. to h4 plain (λ u r. join (is_hex_lem b h) r))
      text_back g3 = only (Within g3) (is_hex b) (str w g4) k (λ h. to g3 g4 (λ u r. push_2 (is_hex_lem b h) r))
      text_back g4 = only (Within g4) (is_hex b) (str w g5) k (λ h. to g4 g5 (λ u r. push (is_hex_lem b h) r))
      text_back g5 = only (Within g5) (eqb b 92) (str w g6) k (λ h. to g5 g6 (λ u r. push (is_byte 92 b h) r))
      text_back g6 = only (Within g6) (eqb b 117) (str w g7) k (λ h. to g6 g7 (λ u r. push (is_byte 117 b h) r))
      text_back g7 = only (Within g7) (is_d b) (str w g8) k (λ h. to g7 g8 (λ u r. push (is_D b h) r))
      text_back g8 = only (Within g8) (is_low b) (str w h3) k (λ h. to g8 h3 (λ u r. push (is_low_lem b h) r))
      text_back (tail lo hi n) = tail_back n lo hi

    -- ---- values
    module _ (enough : deepest ≤ limit) (k : Stack) where
      abbrev Valued : Type 0
      Valued = (Held limit k · After limit k) (b ∷ s)

      open_back : (x : Bracket) → eqb b (opener x) ≡ true → ltb (length k) deepest ≡ true → Opened limit x k s → Valued
      open_back x o h l = let g = ltb-true (length k) deepest h in a_bracketed x k (is_byte (opener x) b o) (omega arith) l

      word_back : {c : ℕ} {xs : List ℕ} → eqb b c ≡ true → ((u : List ℕ) → Bytes (c ∷ xs) u → Held limit k u) → {u : List ℕ} → (Bytes xs · After limit k) u
          → (Held limit k · After limit k) (b ∷ u)
      word_back {c} {xs} h f (join {t = z} bytes a) =
          subst (λ (y : ℕ). (Held limit k · After limit k) (y ∷ (xs ++ z))) (sym (eqb-true b c h)) (join (f (c ∷ xs) bytes) a)

      digit1_back : Back limit s Valued (digit1 b k)
      digit1_back =
          alt Valued (eqb b 48) (go (num A.nought) k) _
          (λ h. lift (λ u r. as_number (limit - length k) (join absent (join (this (is_byte 48 b h)) r))))
          (λ _. only Valued (inside 49 57 b) (num A.int) k (λ h. lift (λ u r. as_number (limit - length k) (join absent (nonzero (in_range 49 57 b h) r)))))

      simple_back : Back limit s Valued (simple b k)
      unfolding simple word_of
      simple_back =
          alt Valued (eqb b 34) (go (str as_value plain) k) _ (λ h. lift (λ u r. as_string (limit - length k) (a_string (is_byte 34 b h) r)))
          (λ _. alt Valued (eqb b 45) (go (num A.minus) k) _ (λ h. lift (λ u r. as_number (limit - length k) (join (present (is_byte 45 b h)) r)))
          (λ _. alt Valued (eqb b 116) (go (word 114 (117 ∷ 101 ∷ [])) k) _ (λ h. word_back h (λ u d. as_true (limit - length k) d))
          (λ _. alt Valued (eqb b 102) (go (word 97 (108 ∷ 115 ∷ 101 ∷ [])) k) _ (λ h. word_back h (λ u d. as_false (limit - length k) d))
          (λ _. alt Valued (eqb b 110) (go (word 117 (108 ∷ 108 ∷ [])) k) (digit1 b k) (λ h. word_back h (λ u d. as_null (limit - length k) d)) (λ _. digit1_back)))))

      begin_back : Back limit s Valued (begin b k)
      begin_back =
          alt Valued (eqb b 91) (opens square first k) _ (λ o. alt Valued (ltb (length k) deepest) (go first (square ∷ k)) (die NestedTooDeep) (open_back square o) (λ _. tt))
          (λ _. alt Valued (eqb b 123) (opens brace key0 k) (simple b k)
          (λ o. alt Valued (ltb (length k) deepest) (go key0 (brace ∷ k)) (die NestedTooDeep) (open_back brace o) (λ _. tt))
          (λ _. simple_back))

      val_back : Back limit s (Left limit val k (b ∷ s)) (step val b k)
      val_back =
          alt (Left limit val k (b ∷ s)) (is_space b) (go val k) (begin b k) (λ h. space_more h)
          (λ _. map_back Valued (Left limit val k (b ∷ s)) (λ r. join none r) (begin b k) begin_back)

    first_back : deepest ≤ limit → (k : Stack) → Back limit s (Left limit first k (b ∷ s)) (step first b k)
    first_back enough [] = any_back (step first b [])
    first_back enough (brace ∷ k) = any_back (step first b (brace ∷ k))
    first_back enough (square ∷ k) =
        alt (Opened limit square k (b ∷ s)) (is_space b) (go first (square ∷ k)) _ (λ h. space_more h)
        (λ _. alt (Opened limit square k (b ∷ s)) (eqb b 93) (go done k) (begin b (square ∷ k)) (λ h a. join none (this (join (is_byte 93 b h) a)))
        (λ _. map_back (Valued enough (square ∷ k)) (Opened limit square k (b ∷ s)) (λ r. join none (that r)) (begin b (square ∷ k)) (begin_back enough (square ∷ k))))

    key0_back : (k : Stack) → Back limit s (Left limit key0 k (b ∷ s)) (step key0 b k)
    key0_back [] = any_back (step key0 b [])
    key0_back (square ∷ k) = any_back (step key0 b (square ∷ k))
    key0_back (brace ∷ k) =
        alt (Opened limit brace k (b ∷ s)) (is_space b) (go key0 (brace ∷ k)) _ (λ h. space_more h)
        (λ _. alt (Opened limit brace k (b ∷ s)) (eqb b 125) (go done k) _ (λ h a. join none (this (join (is_byte 125 b h) a)))
        (λ _. only (Opened limit brace k (b ∷ s)) (eqb b 34) (str as_key plain) (brace ∷ k) (λ h l. join none (that (a_member k (is_byte 34 b h) l)))))

    key_back : (k : Stack) → Back limit s (Left limit key k (b ∷ s)) (step key b k)
    key_back [] = any_back (step key b [])
    key_back (square ∷ k) = any_back (step key b (square ∷ k))
    key_back (brace ∷ k) =
        alt (Left limit key (brace ∷ k) (b ∷ s)) (is_space b) (go key (brace ∷ k)) _ (λ h. space_more h)
        (λ _. only (Left limit key (brace ∷ k) (b ∷ s)) (eqb b 34) (str as_key plain) (brace ∷ k) (λ h l. join none (a_member k (is_byte 34 b h) l)))

    colon_back : (k : Stack) → Back limit s (Left limit colon k (b ∷ s)) (step colon b k)
    colon_back [] = any_back (step colon b [])
    colon_back (square ∷ k) = any_back (step colon b (square ∷ k))
    colon_back (brace ∷ k) =
        alt (Keyed limit k (b ∷ s)) (is_space b) (go colon (brace ∷ k)) _ (λ h. space_more h)
        (λ _. only (Keyed limit k (b ∷ s)) (eqb b 58) val (brace ∷ k) (λ h l. join none (join (is_byte 58 b h) l)))

    spell_back : (x : ℕ) (xs : List ℕ) (k : Stack) → Back limit s (Left limit (word x xs) k (b ∷ s)) (one (eqb b x) (spelt xs) k)
    spell_back x [] k = only (Left limit (word x []) k (b ∷ s)) (eqb b x) done k (λ h a. join (is_byte x b h) a)
    spell_back x (y ∷ ys) k = only (Left limit (word x (y ∷ ys)) k (b ∷ s)) (eqb b x) (word y ys) k (λ h l. spell h l)
      where
        spell : eqb b x ≡ true → {u : List ℕ} → (Bytes (y ∷ ys) · After limit k) u → (Bytes (x ∷ y ∷ ys) · After limit k) (b ∷ u)
        spell h (join {t = z} bytes a) = subst (λ (c : ℕ). (Bytes (x ∷ y ∷ ys) · After limit k) (c ∷ ((y ∷ ys) ++ z))) (sym (eqb-true b x h)) (join bytes a)

    string_back : (w : Place) (i : Inside) (k : Stack) → Back limit s (Left limit (str w i) k (b ∷ s)) (text w i b k)
    string_back as_value i k = text_back as_value k (After limit k) (λ i' l. l) (λ l. l) i
    string_back as_key i [] = any_back (text as_key i b [])
    string_back as_key i (square ∷ k) = any_back (text as_key i b (square ∷ k))
    string_back as_key i (brace ∷ k) = text_back as_key (brace ∷ k) (Keyed limit k) (λ i' l. l) (λ l. l) i

    pub step_back : deepest ≤ limit → (m : Mode) (k : Stack) → Back limit s (Left limit m k (b ∷ s)) (step m b k)
    step_back enough val k = val_back enough k
    step_back enough first k = first_back enough k
    step_back enough done k = after_back k
    step_back enough key0 k = key0_back k
    step_back enough key k = key_back k
    step_back enough colon k = colon_back k
    step_back enough (word x xs) k = spell_back x xs k
    step_back enough (num n) k = num_back k n
    step_back enough (str w i) k = string_back w i k

-- ---- the end of the text
number_over : (n : Num) → closes n ≡ true → NumRest n []
number_over A.minus c = absurd (false≢true c)
number_over A.nought c = join absent absent
number_over A.int c = join none (join absent absent)
number_over A.dot c = absurd (false≢true c)
number_over A.frac c = join none absent
number_over A.e c = absurd (false≢true c)
number_over A.sign c = absurd (false≢true c)
number_over A.exp c = none

module _ (limit : ℕ) where
  at_the_end : (m : Mode) (k : Stack) → whole m k ≡ true → Left limit m k []
  at_the_end val k h = absurd (false≢true h)
  at_the_end first k h = absurd (false≢true h)
  at_the_end done [] h = over
  at_the_end done (x ∷ k) h = absurd (false≢true h)
  at_the_end key0 k h = absurd (false≢true h)
  at_the_end key k h = absurd (false≢true h)
  at_the_end colon k h = absurd (false≢true h)
  at_the_end (word x xs) k h = absurd (false≢true h)
  at_the_end (num n) k h = ended_number (closes n) refl k h
    where
      ended_number : (x : Bool) → closes n ≡ x → (l : Stack) → (x && bottom l) ≡ true → (NumRest n · After limit l) []
      ended_number true c [] g = join (number_over n c) over
      ended_number true c (y ∷ l) g = absurd (false≢true g)
      ended_number false c l g = absurd (false≢true g)
  at_the_end (str w i) k h = absurd (false≢true h)

  module _ (enough : deepest ≤ limit) where
    -- what a run takes is what the state leaves open
    pub left_of_lem : (s : List ℕ) (m : Mode) (k : Stack) → ending m k s ≡ taken → Left limit m k s
    unfolding ending
    left_of_lem [] m k h = at_the_end m k (cases (whole m k) h)
      where
        cases : (x : Bool) → cond x taken (refused NotJson) ≡ taken → x ≡ true
        cases true e = refl
        cases false e = let z : ◌≡◌ {A = ℕ} 0 1 = cc in absurd (no z)
          where
            no : ◌≡◌ {A = ℕ} 0 1 → ⊥
            no z = omega arith
    left_of_lem (b ∷ s) m k h = cases (step m b k) (step_back limit s b enough m k) h (left_of_lem s)
      where
        cases : (v : Move) → Back limit s (Left limit m k (b ∷ s)) v → going v (λ m' k'. ending m' k' s) ≡ taken
            → ((m' : Mode) (k' : Stack) → ending m' k' s ≡ taken → Left limit m' k' s) → Left limit m k (b ∷ s)
        cases (go m' k') f e r = f (r m' k' e)
        cases (die w) f e r = let z : ◌≡◌ {A = ℕ} 0 1 = cc in absurd (no z)
          where
            no : ◌≡◌ {A = ℕ} 0 1 → ⊥
            no z = omega arith

    -- what a state leaves open, after the bytes that lead to it, is what the state before them leaves open
    pub left_reach : (a : List ℕ) (m : Mode) (k : Stack) (p : ℕ) (m' : Mode) (k' : Stack) (q : ℕ) → reach (live m k p) a ≡ live m' k' q
        → (u : List ℕ) → Left limit m' k' u → Left limit m k (a ++ u)
    unfolding reach
    left_reach [] m k p m' k' q h u l =
        let i : m' ≡ m = cc in
        let j : k' ≡ k = cc in
        subst (λ (y : Mode). Left limit y k u) i (subst (λ (y : Stack). Left limit m' y u) j l)
    left_reach (b ∷ a) m k p m' k' q h u l = cases (step m b k) (step_back limit (a ++ u) b enough m k) h (left_reach a)
      where
        cases : (v : Move) → Back limit (a ++ u) (Left limit m k (b ∷ (a ++ u))) v → reach (moved v p) a ≡ live m' k' q
            → ((m'' : Mode) (k'' : Stack) (p'' : ℕ) (n : Mode) (o : Stack) (q'' : ℕ) → reach (live m'' k'' p'') a ≡ live n o q'' → (u : List ℕ) → Left limit n o u → Left limit m'' k'' (a ++ u))
            → Left limit m k (b ∷ (a ++ u))
        cases (go m'' k'') f e r = f (r m'' k'' (suc p) m' k' q e u l)
        cases (die w) f e r = absurd (no (sym (dead_stays a w p) ∙ e))
          where
            no : dead w p ≡ live m' k' q → ⊥
            no i = let z : ◌≡◌ {A = ℕ} 0 1 = cc in omega arith

  -- a text
  pub text_of : {t : List ℕ} → (ws · value limit · After limit []) t → JSON_text limit t
  text_of (join w (join v a)) = join w (join v (follows a))
