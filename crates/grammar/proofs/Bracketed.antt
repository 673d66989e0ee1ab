-- What arrays and objects have in common. Assumes nothing.
use Prim.Native.Nat.{ℕ}
use Rattle.json_scan.specs.Json.{Bracket, square, brace}
use Rattle.json_scan.specs.Meets.{closer}
use Rattle.grammar.specs.Grammar.{Rule, Byte, ◌·◌, Optional, Many, ws, value_separator, member}

abbrev pub opener : Bracket → ℕ
opener square = 91
opener brace = 123

-- what they hold, of the values v
abbrev pub item : Bracket → Rule → Rule
item square v = v
item brace v = member v

abbrev pub end_bracket : Bracket → Rule
end_bracket x = ws · Byte (closer x) · ws

-- the array or the object
abbrev pub bracketed : Bracket → Rule → Rule
bracketed x v = (ws · Byte (opener x) · ws) · Optional (item x v · Many (value_separator · item x v)) · end_bracket x
