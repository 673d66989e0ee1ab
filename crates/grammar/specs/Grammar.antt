-- JSON texts by RFC 8259's ABNF, production by production and by its names, over bytes; and in them UTF-8 by RFC 3629's.
-- Assumes nothing: these are definitions.
use Rattle.std.specs.Prelude.{ℕ, suc, ◌≤◌, List, [], ◌∷◌, ◌++◌}

-- ---- the operators of ABNF (RFC 5234). A rule is a set of strings of bytes
abbrev pub Rule : Type 1
Rule = List ℕ → Type 0

-- %x6E.75.6C.6C: just these bytes
pub data Bytes (w : List ℕ) : List ℕ → Type 0 where
  bytes : Bytes w w

-- %x5B
abbrev pub Byte : ℕ → Rule
Byte x = Bytes (x ∷ [])

-- %x30-39
pub data Range (lo hi : ℕ) : List ℕ → Type 0 where
  within : {b : ℕ} → lo ≤ b → b ≤ hi → Range lo hi (b ∷ [])

infixr 40 ◌·◌
infixr 30 ◌or◌
-- P Q
pub data ◌·◌ (P Q : List ℕ → Type 0) : List ℕ → Type 0 where
  join : {s t : List ℕ} → P s → Q t → (P · Q) (s ++ t)

-- P / Q
pub data ◌or◌ (P Q : List ℕ → Type 0) : List ℕ → Type 0 where
  this : {s : List ℕ} → P s → (P or Q) s
  that : {s : List ℕ} → Q s → (P or Q) s

-- [ P ]
pub data Optional (P : List ℕ → Type 0) : List ℕ → Type 0 where
  absent : Optional P []
  present : {s : List ℕ} → P s → Optional P s

-- *P
pub data Many (P : List ℕ → Type 0) : List ℕ → Type 0 where
  none : Many P []
  more : {s t : List ℕ} → P s → Many P t → Many P (s ++ t)

-- 1*P
abbrev pub Some : Rule → Rule
Some P = P · Many P

-- ---- RFC 8259, section 2: white space and structural characters
abbrev pub ws : Rule
ws = Many (Byte 0x20 or Byte 0x09 or Byte 0x0A or Byte 0x0D)

abbrev pub begin_array : Rule
begin_array = ws · Byte 0x5B · ws

abbrev pub begin_object : Rule
begin_object = ws · Byte 0x7B · ws

abbrev pub end_array : Rule
end_array = ws · Byte 0x5D · ws

abbrev pub end_object : Rule
end_object = ws · Byte 0x7D · ws

abbrev pub name_separator : Rule
name_separator = ws · Byte 0x3A · ws

abbrev pub value_separator : Rule
value_separator = ws · Byte 0x2C · ws

-- ---- section 6: numbers
abbrev pub DIGIT : Rule
DIGIT = Range 0x30 0x39

abbrev pub minus : Rule
minus = Byte 0x2D

abbrev pub plus : Rule
plus = Byte 0x2B

abbrev pub decimal_point : Rule
decimal_point = Byte 0x2E

abbrev pub digit1_9 : Rule
digit1_9 = Range 0x31 0x39

abbrev pub e : Rule
e = Byte 0x65 or Byte 0x45

abbrev pub zero : Rule
zero = Byte 0x30

abbrev pub int : Rule
int = zero or digit1_9 · Many DIGIT

abbrev pub frac : Rule
frac = decimal_point · Some DIGIT

abbrev pub exp : Rule
exp = e · Optional (minus or plus) · Some DIGIT

abbrev pub number : Rule
number = Optional minus · int · Optional frac · Optional exp

-- ---- RFC 3629, section 4: UTF-8; the characters of one byte are below, in `unescaped`
abbrev pub UTF8_tail : Rule
UTF8_tail = Range 0x80 0xBF

abbrev pub UTF8_2 : Rule
UTF8_2 = Range 0xC2 0xDF · UTF8_tail

abbrev pub UTF8_3 : Rule
UTF8_3 =
    Byte 0xE0 · Range 0xA0 0xBF · UTF8_tail
    or Range 0xE1 0xEC · UTF8_tail · UTF8_tail
    or Byte 0xED · Range 0x80 0x9F · UTF8_tail
    or Range 0xEE 0xEF · UTF8_tail · UTF8_tail

abbrev pub UTF8_4 : Rule
UTF8_4 =
    Byte 0xF0 · Range 0x90 0xBF · UTF8_tail · UTF8_tail
    or Range 0xF1 0xF3 · UTF8_tail · UTF8_tail · UTF8_tail
    or Byte 0xF4 · Range 0x80 0x8F · UTF8_tail · UTF8_tail

-- ---- the digits of a \u: RFC 8259 has 4HEXDIG; 01 wants a surrogate to be half of a pair, and RFC 9535, section 2.3.1.1, has the rules for that
abbrev pub HEXDIG : Rule
HEXDIG = DIGIT or Range 0x41 0x46 or Range 0x61 0x66

-- D, and the other digits
abbrev pub digit_D : Rule
digit_D = Byte 0x44 or Byte 0x64

abbrev pub digit_not_D : Rule
digit_not_D = DIGIT or Range 0x41 0x43 or Range 0x45 0x46 or Range 0x61 0x63 or Range 0x65 0x66

abbrev pub non_surrogate : Rule
non_surrogate = digit_not_D · HEXDIG · HEXDIG · HEXDIG or digit_D · Range 0x30 0x37 · HEXDIG · HEXDIG

-- D8 to DB
abbrev pub high_surrogate : Rule
high_surrogate = digit_D · (Range 0x38 0x39 or Range 0x41 0x42 or Range 0x61 0x62) · HEXDIG · HEXDIG

-- DC to DF
abbrev pub low_surrogate : Rule
low_surrogate = digit_D · (Range 0x43 0x46 or Range 0x63 0x66) · HEXDIG · HEXDIG

abbrev pub hexchar : Rule
hexchar = non_surrogate or high_surrogate · Byte 0x5C · Byte 0x75 · low_surrogate

-- ---- RFC 8259, section 7: strings
abbrev pub quotation_mark : Rule
quotation_mark = Byte 0x22

abbrev pub escape : Rule
escape = Byte 0x5C

-- %x20-21 / %x23-5B / %x5D-10FFFF, in UTF-8
abbrev pub unescaped : Rule
unescaped = Range 0x20 0x21 or Range 0x23 0x5B or Range 0x5D 0x7F or UTF8_2 or UTF8_3 or UTF8_4

-- " \ / b f n r t
abbrev pub short : Rule
short = Byte 0x22 or Byte 0x5C or Byte 0x2F or Byte 0x62 or Byte 0x66 or Byte 0x6E or Byte 0x72 or Byte 0x74

abbrev pub char : Rule
char = unescaped or escape · (short or Byte 0x75 · hexchar)

abbrev pub string : Rule
string = quotation_mark · Many char · quotation_mark

-- ---- sections 3, 4, 5: values, objects, arrays
abbrev pub false : Rule
false = Bytes (0x66 ∷ 0x61 ∷ 0x6C ∷ 0x73 ∷ 0x65 ∷ [])

abbrev pub null : Rule
null = Bytes (0x6E ∷ 0x75 ∷ 0x6C ∷ 0x6C ∷ [])

abbrev pub true : Rule
true = Bytes (0x74 ∷ 0x72 ∷ 0x75 ∷ 0x65 ∷ [])

-- of the values v
abbrev pub member : Rule → Rule
member v = string · name_separator · v

abbrev pub object : Rule → Rule
object v = begin_object · Optional (member v · Many (value_separator · member v)) · end_object

abbrev pub array : Rule → Rule
array v = begin_array · Optional (v · Many (value_separator · v)) · end_array

-- the values whose brackets nest at most n deep
unfoldable pub value : ℕ → Rule
value ℕ.zero = false or null or true or number or string
value (suc n) = false or null or true or object (value n) or array (value n) or number or string

-- ---- section 2: texts whose brackets nest at most n deep
abbrev pub JSON_text : ℕ → Rule
JSON_text n = ws · value n · ws
