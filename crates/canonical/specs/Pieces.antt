-- What each row writes, before its parts and behind them. ORDER: name, type, fields, symbols, items, values, size. WHITESPACE: none.
-- FULLNAMES: a row keeps the full name. STRINGS: it keeps it with escapes undone. PRIMITIVES: a primitive's row is its word alone.
-- STRIP: nothing is written of aliases, positions and decimals' notes.
-- Assumes nothing.
use Rattle.std.specs.Prelude.{ℕ, List, [], ◌++◌}
use Rattle.ground.specs.Ascii.{ascii}
use Rattle.row.specs.declared.kind.Kind.{Kind}
use Rattle.row.specs.declared.kind.Kind.TheVariants.{Null, Boolean, Int, Long, Float, Double, Bytes, String, Reference, Array, Map, Union, Record, Enum, Fixed, Field, Symbol, Alias, FieldAlias}
use Rattle.canonical.specs.Decimal.{decimal}

-- a string in quotes. It is a name, so that no byte of it needs an escape
abbrev pub quoted : List ℕ → List ℕ
quoted s = ascii "\"" ++ (s ++ ascii "\"")

-- the name that an object begins with
abbrev pub named : List ℕ → List ℕ
named s = ascii "{\"name\":" ++ quoted s

unfoldable pub opening : Kind → List ℕ → ℕ → List ℕ
opening Null name size = ascii "\"null\""
opening Boolean name size = ascii "\"boolean\""
opening Int name size = ascii "\"int\""
opening Long name size = ascii "\"long\""
opening Float name size = ascii "\"float\""
opening Double name size = ascii "\"double\""
opening Bytes name size = ascii "\"bytes\""
opening String name size = ascii "\"string\""
opening Reference name size = quoted name
opening Array name size = ascii "{\"type\":\"array\",\"items\":"
opening Map name size = ascii "{\"type\":\"map\",\"values\":"
opening Union name size = ascii "["
opening Record name size = named name ++ ascii ",\"type\":\"record\",\"fields\":["
opening Enum name size = named name ++ ascii ",\"type\":\"enum\",\"symbols\":["
opening Fixed name size = named name ++ (ascii ",\"type\":\"fixed\",\"size\":" ++ decimal size)
opening Field name size = named name ++ ascii ",\"type\":"
opening Symbol name size = quoted name
opening Alias name size = []
opening FieldAlias name size = []

unfoldable pub closing : Kind → List ℕ
closing Array = ascii "}"
closing Map = ascii "}"
closing Union = ascii "]"
closing Record = ascii "]}"
closing Enum = ascii "]}"
closing Fixed = ascii "}"
closing Field = ascii "}"
closing Null = []
closing Boolean = []
closing Int = []
closing Long = []
closing Float = []
closing Double = []
closing Bytes = []
closing String = []
closing Reference = []
closing Symbol = []
closing Alias = []
closing FieldAlias = []
