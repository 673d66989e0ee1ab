-- JSON texts (RFC 8259) as a pushdown automaton on bytes: a mode, and a stack of the brackets that are open.
-- Assumes nothing: these are definitions.
use Rattle.std.specs.Prelude.{ℕ, zero, suc, Bool, true, false, cond, not, ◌&&◌, ◌||◌, List, [], ◌∷◌, length, ltb, leb, eqb, Result, Ok, Err}
use Rattle.answer.specs.declared.refusal.Fault.{Fault}
use Rattle.answer.specs.declared.refusal.Why.{Why}
use Rattle.answer.specs.declared.refusal.Why.TheVariants.{TextTooLong, NotJson, NestedTooDeep}

-- a text has at most so many bytes, and its brackets nest at most so deep
abbrev pub longest : ℕ
longest = 32768

abbrev pub deepest : ℕ
deepest = 64

pub data Bracket : Type 0 where
  square brace : Bracket

-- what a string is: a key of an object, or a value
pub data Place : Type 0 where
  as_key as_value : Place

-- where in a string: between characters; after a \; at each digit of a \u; `tail lo hi n`: the next byte is lo to hi, and then come n of 0x80 to 0xbf
pub data Inside : Type 0 where
  plain esc h1 h2 h2d h3 h4 g3 g4 g5 g6 g7 g8 : Inside
  tail : ℕ → ℕ → ℕ → Inside

-- where in a number: what was read last
pub data Num : Type 0 where
  minus nought int dot frac e sign exp : Num

-- what must come: a value; a value or the end of an array; what may follow a value; a key or the end of an object; a key; a colon;
-- the byte x of a word and then the rest of it; or what goes on within a number or a string
pub data Mode : Type 0 where
  val first done key0 key colon : Mode
  word : ℕ → List ℕ → Mode
  num : Num → Mode
  str : Place → Inside → Mode

-- the brackets that are open, the innermost first
abbrev pub Stack : Type 0
Stack = List Bracket

-- what a byte does: the automaton goes on, or no text goes on so, for this reason
pub data Move : Type 0 where
  go : Mode → Stack → Move
  die : Why → Move

-- ---- classes of bytes
abbrev pub inside : ℕ → ℕ → ℕ → Bool
inside lo hi b = leb lo b && leb b hi

abbrev pub is_space : ℕ → Bool
is_space b = eqb b 32 || eqb b 9 || eqb b 10 || eqb b 13

-- RFC 8259's "unescaped", of one byte: no control character, no quote, no \
abbrev pub is_unescaped : ℕ → Bool
is_unescaped b = inside 32 127 b && not (eqb b 34 || eqb b 92)

abbrev pub is_digit : ℕ → Bool
is_digit b = inside 48 57 b

abbrev pub is_hex : ℕ → Bool
is_hex b = inside 48 57 b || inside 65 70 b || inside 97 102 b

abbrev pub is_byte : ℕ → ℕ → Bool
is_byte x b = eqb b x

abbrev pub is_e : ℕ → Bool
is_e b = eqb b 101 || eqb b 69

abbrev pub is_sign : ℕ → Bool
is_sign b = eqb b 43 || eqb b 45

-- the first digit of a surrogate's escape is d; the second of a high one is 8 to b, of a low one c to f
abbrev pub is_d : ℕ → Bool
is_d b = eqb b 100 || eqb b 68

abbrev pub is_high : ℕ → Bool
is_high b = inside 56 57 b || inside 65 66 b || inside 97 98 b

abbrev pub is_low : ℕ → Bool
is_low b = inside 67 70 b || inside 99 102 b

-- what may follow a \ but for u: " \ / b f n r t
abbrev pub is_short : ℕ → Bool
is_short b = eqb b 34 || eqb b 92 || eqb b 47 || eqb b 98 || eqb b 102 || eqb b 110 || eqb b 114 || eqb b 116

-- ---- moves
-- white space leaves the mode
abbrev pub spaced : Mode → Stack → ℕ → Move → Move
spaced m k b x = cond (is_space b) (go m k) x

-- one byte of the class, and on to the next
abbrev pub one : Bool → Mode → Stack → Move
one t m k = cond t (go m k) (die NotJson)

-- a bracket is opened, the 65th never
abbrev pub opens : Bracket → Mode → Stack → Move
opens x m k = cond (ltb (length k) deepest) (go m (x ∷ k)) (die NestedTooDeep)

-- the bracket just opened is closed
abbrev pub shut : Stack → Move
shut [] = die NotJson
shut (x ∷ k) = go done k

-- true, false, null
unfoldable pub word_of : ℕ → Stack → Move → Move
word_of b k x =
    cond (eqb b 116) (go (word 114 (117 ∷ 101 ∷ [])) k)
    (cond (eqb b 102) (go (word 97 (108 ∷ 115 ∷ 101 ∷ [])) k)
    (cond (eqb b 110) (go (word 117 (108 ∷ 108 ∷ [])) k) x))

abbrev pub spelt : List ℕ → Mode
spelt [] = done
spelt (x ∷ xs) = word x xs

abbrev pub digit1 : ℕ → Stack → Move
digit1 b k = cond (eqb b 48) (go (num nought) k) (one (inside 49 57 b) (num int) k)

-- the first byte of a value that is no array and no object
unfoldable pub simple : ℕ → Stack → Move
simple b k =
    cond (eqb b 34) (go (str as_value plain) k)
    (cond (eqb b 45) (go (num minus) k) (word_of b k (digit1 b k)))

-- the first byte of a value
abbrev pub begin : ℕ → Stack → Move
begin b k = cond (eqb b 91) (opens square first k) (cond (eqb b 123) (opens brace key0 k) (simple b k))

-- the byte after a value, no white space
abbrev pub next : ℕ → Stack → Move
next b [] = die NotJson
next b (square ∷ k) = cond (eqb b 93) (go done k) (one (eqb b 44) val (square ∷ k))
next b (brace ∷ k) = cond (eqb b 125) (go done k) (one (eqb b 44) key (brace ∷ k))

abbrev pub after : ℕ → Stack → Move
after b k = spaced done k b (next b k)

-- ---- numbers
abbrev pub power : ℕ → Stack → Move
power b k = cond (is_e b) (go (num e) k) (after b k)

abbrev pub point : ℕ → Stack → Move
point b k = cond (eqb b 46) (go (num dot) k) (power b k)

unfoldable pub number : Num → ℕ → Stack → Move
number minus b k = digit1 b k
number nought b k = point b k
number int b k = cond (is_digit b) (go (num int) k) (point b k)
number dot b k = one (is_digit b) (num frac) k
number frac b k = cond (is_digit b) (go (num frac) k) (power b k)
number e b k = cond (is_sign b) (go (num sign) k) (one (is_digit b) (num exp) k)
number sign b k = one (is_digit b) (num exp) k
number exp b k = cond (is_digit b) (go (num exp) k) (after b k)

-- ---- strings
-- the mode after a string, and after a byte of a character of several
abbrev pub closed : Place → Mode
closed as_key = colon
closed as_value = done

abbrev pub rest : ℕ → Inside
rest zero = plain
rest (suc n) = tail 128 191 n

-- the first byte of a character of several (RFC 3629)
unfoldable pub wide : Place → ℕ → Stack → Move
wide w b k =
    cond (inside 194 223 b) (go (str w (tail 128 191 0)) k)
    (cond (eqb b 224) (go (str w (tail 160 191 1)) k)
    (cond (eqb b 237) (go (str w (tail 128 159 1)) k)
    (cond (inside 225 239 b) (go (str w (tail 128 191 1)) k)
    (cond (eqb b 240) (go (str w (tail 144 191 2)) k)
    (cond (eqb b 244) (go (str w (tail 128 143 2)) k)
    (one (inside 241 243 b) (str w (tail 128 191 2)) k))))))

unfoldable pub text : Place → Inside → ℕ → Stack → Move
text w plain b k =
    cond (eqb b 34) (go (closed w) k)
    (cond (ltb b 32) (die NotJson)
    (cond (eqb b 92) (go (str w esc) k) (cond (ltb b 128) (go (str w plain) k) (wide w b k))))
text w esc b k = cond (is_short b) (go (str w plain) k) (one (eqb b 117) (str w h1) k)
text w h1 b k = cond (is_d b) (go (str w h2d) k) (one (is_hex b) (str w h2) k)
text w h2 b k = one (is_hex b) (str w h3) k
text w h2d b k = cond (inside 48 55 b) (go (str w h3) k) (one (is_high b) (str w g3) k)
text w h3 b k = one (is_hex b) (str w h4) k
text w h4 b k = one (is_hex b) (str w plain) k
text w g3 b k = one (is_hex b) (str w g4) k
text w g4 b k = one (is_hex b) (str w g5) k
text w g5 b k = one (eqb b 92) (str w g6) k
text w g6 b k = one (eqb b 117) (str w g7) k
text w g7 b k = one (is_d b) (str w g8) k
text w g8 b k = one (is_low b) (str w h3) k
text w (tail lo hi n) b k = one (inside lo hi b) (str w (rest n)) k

-- ---- the automaton
abbrev pub step : Mode → ℕ → Stack → Move
step val b k = spaced val k b (begin b k)
step first b k = spaced first k b (cond (eqb b 93) (shut k) (begin b k))
step done b k = after b k
step key0 b k = spaced key0 k b (cond (eqb b 125) (shut k) (one (eqb b 34) (str as_key plain) k))
step key b k = spaced key k b (one (eqb b 34) (str as_key plain) k)
step colon b k = spaced colon k b (one (eqb b 58) val k)
step (word x xs) b k = one (eqb b x) (spelt xs) k
step (num n) b k = number n b k
step (str w i) b k = text w i b k

-- may the text end here?
abbrev pub closes : Num → Bool
closes minus = false
closes nought = true
closes int = true
closes dot = false
closes frac = true
closes e = false
closes sign = false
closes exp = true

abbrev pub bottom : Stack → Bool
bottom [] = true
bottom (x ∷ k) = false

abbrev pub whole : Mode → Stack → Bool
whole val k = false
whole first k = false
whole done k = bottom k
whole key0 k = false
whole key k = false
whole colon k = false
whole (word x xs) k = false
whole (num n) k = closes n && bottom k
whole (str w i) k = false

-- what the scan finds: a whole text, or its first fault
abbrev pub Verdict : Type 0
Verdict = Result (Unit {0}) Fault

abbrev pub fault : Why → ℕ → Verdict
fault w p = Err (record { why = w; at = p })

-- the run over the bytes that stand from place p on
abbrev pub onward : Move → ℕ → (Mode → Stack → Verdict) → Verdict
onward (go m k) p f = f m k
onward (die w) p f = fault w p

unfoldable pub run : Mode → Stack → ℕ → List ℕ → Verdict
run m k p [] = cond (whole m k) (Ok tt) (fault NotJson p)
run m k p (b ∷ bs) = onward (step m b k) p (λ m' k'. run m' k' (suc p) bs)

-- the verdict on a text of any length
unfoldable pub verdict : List ℕ → Verdict
verdict t = run val [] 0 t

-- the scan: a text that is too long is not read at all
unfoldable pub scanned : List ℕ → Verdict
scanned t = cond (ltb longest (length t)) (fault TextTooLong longest) (verdict t)

-- ---- the automaton's state as a value
-- in a mode, with these brackets open, before the byte at this place; or dead of a fault
pub data State : Type 0 where
  live : Mode → Stack → ℕ → State
  dead : Why → ℕ → State

-- before the first byte
abbrev pub start : State
start = live val [] 0

-- the state after the byte at p
abbrev pub moved : Move → ℕ → State
moved (go m k) p = live m k (suc p)
moved (die w) p = dead w p

-- the state after some bytes
unfoldable pub reach : State → List ℕ → State
reach s [] = s
reach (live m k p) (b ∷ bs) = reach (moved (step m b k) p) bs
reach (dead w p) (b ∷ bs) = dead w p

-- the run over bytes from a state on
abbrev pub run_from : State → List ℕ → Verdict
run_from (live m k p) s = run m k p s
run_from (dead w p) s = fault w p
