-- What a string of the grammar says: the bytes of its characters in UTF-8, read off its derivation, rule by rule.
-- Assumes nothing: these are definitions.
use Rattle.std.specs.Prelude.{ℕ, ◌+◌, ◌-◌, ◌*◌, cond, ◌≡◌, List, [], ◌∷◌, ◌++◌, leb}
use Rattle.grammar.specs.Grammar.{Rule, Range, join, ◌or◌, this, that, Many, none, more, UTF8_2, UTF8_3, UTF8_4, hexchar, short, char, string}
use Rattle.tree.specs.Utf8.{utf8, number_of}

-- ---- RFC 8259, section 7: what follows a backslash

-- a letter: quotation mark, reverse solidus, solidus, and the characters that b, f, n, r, t stand for
unfoldable pub letter : {s : List ℕ} → short s → ℕ
letter (this d) = 0x22
letter (that (this d)) = 0x5C
letter (that (that (this d))) = 0x2F
letter (that (that (that (this d)))) = 0x08
letter (that (that (that (that (this d))))) = 0x0C
letter (that (that (that (that (that (this d)))))) = 0x0A
letter (that (that (that (that (that (that (this d))))))) = 0x0D
letter (that (that (that (that (that (that (that d))))))) = 0x09

-- a digit: 0 to 9, A to F, a to f
unfoldable pub digit : ℕ → ℕ
digit b = cond (leb b 0x39) (b - 0x30) (cond (leb b 0x46) (b - 0x41 + 10) (b - 0x61 + 10))

-- the number that hexadecimal digits write, behind v
unfoldable pub hexadecimal : ℕ → List ℕ → ℕ
hexadecimal v [] = v
hexadecimal v (b ∷ bs) = hexadecimal (v * 16 + digit b) bs

-- RFC 2781, section 2.2: two surrogates, a high one and a low one, are one character
unfoldable pub paired : ℕ → ℕ → ℕ
paired high low = 0x10000 + (high - 0xD800) * 0x400 + (low - 0xDC00)

-- the character of a \u and its digits, or of two
unfoldable pub unicode : {s : List ℕ} → hexchar s → ℕ
unicode (this {s = s} d) = hexadecimal 0 s
unicode (that (join {s = s} high (join slash (join {t = t} u low)))) = paired (hexadecimal 0 s) (hexadecimal 0 t)

-- ---- characters: an escape is undone, every other one stands for itself
unfoldable pub character : {s : List ℕ} → char s → List ℕ
character (this {s = s} d) = s
character (that (join slash (this d))) = utf8 (letter d)
character (that (join slash (that (join u d)))) = utf8 (unicode d)

unfoldable pub characters : {s : List ℕ} → Many char s → List ℕ
characters none = []
characters (more c cs) = character c ++ characters cs

-- what stands between the quotation marks
unfoldable pub string_of : {s : List ℕ} → string s → List ℕ
string_of (join mark (join cs mark')) = characters cs

-- ---- RFC 3629, section 4: text in UTF-8
abbrev pub UTF8_1 : Rule
UTF8_1 = Range 0x00 0x7F

abbrev pub UTF8_char : Rule
UTF8_char = UTF8_1 or UTF8_2 or UTF8_3 or UTF8_4

abbrev pub UTF8_octets : Rule
UTF8_octets = Many UTF8_char

-- bytes that write one character, and its number
pub record Writes (c : ℕ) (s : List ℕ) : Type 0 where
  pub rule : UTF8_char s
  pub number : number_of s ≡ c
