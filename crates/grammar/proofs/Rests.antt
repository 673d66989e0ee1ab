-- What each state leaves open, in the rules of the grammar. Assumes nothing.
use mathlib.Core.Path.{◌≡◌}
use mathlib.Core.Bool.{true}
use mathlib.Core.List.{List, [], ◌∷◌, ◌++◌}
use Prim.Native.Nat.{ℕ, zero, suc, ◌-◌}
use lib.ListN.{length}
use Rattle.json_scan.specs.Json.{Mode, Stack, Bracket, square, brace, is_space, Num, Inside, val, first, done, key0, key, colon, word, num, str, as_key, as_value, plain, esc, h1, h2, h2d, h3, h4, g3, g4, g5, g6, g7, g8, tail}
use Rattle.json_scan.specs.Json as A
use Rattle.json_scan.specs.Meets.{closer}
use Rattle.grammar.specs.Grammar.{Rule, Bytes, Byte, Range, ◌·◌, ◌or◌, Optional, Many, Some, ws, DIGIT, minus, plus, int, frac, exp, HEXDIG, low_surrogate, hexchar, short, char, value}
use Rattle.grammar.proofs.Bracketed.{item}

-- ---- within a number
abbrev pub NumRest : Num → Rule
NumRest A.minus = int · Optional frac · Optional exp
NumRest A.nought = Optional frac · Optional exp
NumRest A.int = Many DIGIT · Optional frac · Optional exp
NumRest A.dot = Some DIGIT · Optional exp
NumRest A.frac = Many DIGIT · Optional exp
NumRest A.e = Optional (minus or plus) · Some DIGIT
NumRest A.sign = Some DIGIT
NumRest A.exp = Many DIGIT

-- ---- within a string: the rest of a character, then characters and the quotation mark
pub data Chars : List ℕ → Type 0 where
  quote : Chars (34 ∷ [])
  next : {s t : List ℕ} → char s → Chars t → Chars (s ++ t)

-- the second half of a pair of surrogates
abbrev pub Pair : Rule
Pair = Byte 92 · Byte 117 · low_surrogate

-- a byte from lo to hi, and then n more
abbrev pub Tail : ℕ → ℕ → ℕ → Rule
Tail lo hi zero = Range lo hi
Tail lo hi (suc n) = Range lo hi · Tail 128 191 n

abbrev pub StrRest : Inside → Rule
StrRest plain = Chars
StrRest esc = (short or Byte 117 · hexchar) · Chars
StrRest h1 = hexchar · Chars
StrRest h2 = (HEXDIG · HEXDIG · HEXDIG) · Chars
StrRest h2d = (Range 48 55 · HEXDIG · HEXDIG or ((Range 56 57 or Range 65 66 or Range 97 98) · HEXDIG · HEXDIG) · Pair) · Chars
StrRest h3 = (HEXDIG · HEXDIG) · Chars
StrRest h4 = HEXDIG · Chars
StrRest g3 = ((HEXDIG · HEXDIG) · Pair) · Chars
StrRest g4 = (HEXDIG · Pair) · Chars
StrRest g5 = Pair · Chars
StrRest g6 = (Byte 117 · low_surrogate) · Chars
StrRest g7 = low_surrogate · Chars
StrRest g8 = ((Range 67 70 or Range 99 102) · HEXDIG · HEXDIG) · Chars
StrRest (tail lo hi n) = Tail lo hi n · Chars

-- ---- outside of both, where brackets may nest as deep as the limit
module _ (limit : ℕ) where
  -- the values that have room within the brackets
  abbrev pub Held : Stack → Rule
  Held k = value (limit - length k)

  abbrev pub Item : Bracket → Stack → Rule
  Item x k = item x (Held (x ∷ k))

  -- what may follow a value
  pub data After : Stack → List ℕ → Type 0 where
    over : After [] []
    space : {b : ℕ} {k : Stack} {s : List ℕ} → is_space b ≡ true → After k s → After k (b ∷ s)
    close : {x : Bracket} {k : Stack} {s : List ℕ} → After k s → After (x ∷ k) (closer x ∷ s)
    comma : {x : Bracket} {k : Stack} {a : List ℕ} (i : List ℕ) {r : List ℕ} → ws a → Item x k i → After (x ∷ k) r → After (x ∷ k) (44 ∷ (a ++ (i ++ r)))

  -- what may follow an opening bracket, and a key
  abbrev pub Opened : Bracket → Stack → Rule
  Opened x k = ws · (Byte (closer x) · After k or Item x k · After (x ∷ k))

  abbrev pub Keyed : Stack → Rule
  Keyed k = ws · Byte 58 · ws · Held (brace ∷ k) · After (brace ∷ k)

  abbrev pub Anything : Rule
  Anything s = Unit {0}

  -- of states that no text leads to, nothing is said
  abbrev pub Left : Mode → Stack → Rule
  Left val k = ws · Held k · After k
  Left first (square ∷ k) = Opened square k
  Left first (brace ∷ k) = Anything
  Left first [] = Anything
  Left done k = After k
  Left key0 (brace ∷ k) = Opened brace k
  Left key0 (square ∷ k) = Anything
  Left key0 [] = Anything
  Left key (brace ∷ k) = ws · Item brace k · After (brace ∷ k)
  Left key (square ∷ k) = Anything
  Left key [] = Anything
  Left colon (brace ∷ k) = Keyed k
  Left colon (square ∷ k) = Anything
  Left colon [] = Anything
  Left (word x xs) k = Bytes (x ∷ xs) · After k
  Left (num n) k = NumRest n · After k
  Left (str as_value i) k = StrRest i · After k
  Left (str as_key i) (brace ∷ k) = StrRest i · Keyed k
  Left (str as_key i) (square ∷ k) = Anything
  Left (str as_key i) [] = Anything
