-- The number that document 01, and for a request document 02, gives to each refusal.
-- Assumes nothing.
use Rattle.std.specs.Prelude.{ℕ}
use Rattle.answer.specs.declared.refusal.Why.{Why}
use Rattle.answer.specs.declared.refusal.Why.TheVariants.{TextTooLong, NotJson, NestedTooDeep, NotASchema, TypeMissing, NameMissing, NotAName, Reserved, StringTooLong, FieldsMissing, FieldNameTaken, SymbolsMissing, SymbolNotAString, SymbolTwice, DefaultNotAString, DefaultNotASymbol, SizeMissing, NotASize, UnionRuleBroken, NotWellFormed, NoSuchPlace, TooManyDeclarations, TooManyRows, TooManyStringBytes, DefinedAlready, ReferenceUnknown, ItemsMissing, ValuesMissing, NoRoom, MarkerWrong, FingerprintUnknown, CutShort, NumberWrong, OutOfRange, TooManySteps, BytesLeftOver, DefaultDoesNotFit, DefaultTooLong, BlockSizeWrong}

abbrev pub number_of : Why → ℕ
number_of TextTooLong = 1
number_of NotJson = 2
number_of NestedTooDeep = 3
number_of NotASchema = 4
number_of TypeMissing = 5
number_of NameMissing = 6
number_of NotAName = 7
number_of Reserved = 8
number_of StringTooLong = 9
number_of FieldsMissing = 10
number_of FieldNameTaken = 11
number_of SymbolsMissing = 12
number_of SymbolNotAString = 13
number_of SymbolTwice = 14
number_of DefaultNotAString = 15
number_of DefaultNotASymbol = 16
number_of SizeMissing = 17
number_of NotASize = 18
number_of UnionRuleBroken = 19
number_of NotWellFormed = 20
number_of NoSuchPlace = 21
number_of TooManyDeclarations = 22
number_of TooManyRows = 23
number_of TooManyStringBytes = 24
number_of DefinedAlready = 25
number_of ReferenceUnknown = 26
number_of ItemsMissing = 27
number_of ValuesMissing = 28
number_of NoRoom = 29
number_of MarkerWrong = 40
number_of FingerprintUnknown = 41
number_of CutShort = 42
number_of NumberWrong = 43
number_of OutOfRange = 44
number_of TooManySteps = 45
number_of BytesLeftOver = 46
number_of DefaultDoesNotFit = 47
number_of DefaultTooLong = 48
number_of BlockSizeWrong = 57
