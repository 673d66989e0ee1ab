-- Two refusals with one number are one refusal, and two answers with the same numbers are one answer.
-- Assumes nothing.
use Rattle.std.specs.Prelude.{Ok, Err}
use mathlib.Core.Path.{◌≡◌, refl, sym, ap, ◌∙◌}
use mathlib.Core.Bool.{cond}
use mathlib.Core.List.{List, [], ◌∷◌}
use Prim.Native.Nat.{ℕ, ◌-◌}
use native.Mathlib.Omega.{arith}
use lib.Dec.{eqb, leb}
use lib.ListN.{get_or}
use Rattle.answer.specs.declared.refusal.Why.{Why}
use Rattle.answer.specs.declared.refusal.Why.TheVariants.{TextTooLong, NotJson, NestedTooDeep, NotASchema, TypeMissing, NameMissing, NotAName, Reserved, StringTooLong, FieldsMissing, FieldNameTaken, SymbolsMissing, SymbolNotAString, SymbolTwice, DefaultNotAString, DefaultNotASymbol, SizeMissing, NotASize, UnionRuleBroken, NotWellFormed, NoSuchPlace, TooManyDeclarations, TooManyRows, TooManyStringBytes, DefinedAlready, ReferenceUnknown, ItemsMissing, ValuesMissing, NoRoom, MarkerWrong, FingerprintUnknown, CutShort, NumberWrong, OutOfRange, TooManySteps, BytesLeftOver, DefaultDoesNotFit, DefaultTooLong, BlockSizeWrong}
use Rattle.answer.specs.declared.counts.Counts.{Counts}
use Rattle.answer.specs.declared.refusal.Refusal.{Refusal}
use Rattle.answer.specs.declared.numbers.Numbers.{Numbers}
use Rattle.answer.specs.Numbers.{number_of}
use Rattle.answer.specs.Answers.{accepted, of_counts, of_refusal, numbers_of, Answer}

-- the cases from 1 on in the order of their numbers, those from 40 on, and the one that has a number
cases : List Why
cases =
    TextTooLong
    ∷ NotJson
    ∷ NestedTooDeep
    ∷ NotASchema
    ∷ TypeMissing
    ∷ NameMissing
    ∷ NotAName
    ∷ Reserved
    ∷ StringTooLong
    ∷ FieldsMissing
    ∷ FieldNameTaken
    ∷ SymbolsMissing
    ∷ SymbolNotAString
    ∷ SymbolTwice
    ∷ DefaultNotAString
    ∷ DefaultNotASymbol
    ∷ SizeMissing
    ∷ NotASize
    ∷ UnionRuleBroken
    ∷ NotWellFormed
    ∷ NoSuchPlace
    ∷ TooManyDeclarations
    ∷ TooManyRows
    ∷ TooManyStringBytes
    ∷ DefinedAlready
    ∷ ReferenceUnknown
    ∷ ItemsMissing
    ∷ ValuesMissing
    ∷ NoRoom
    ∷ []

later : List Why
later =
    MarkerWrong
    ∷ FingerprintUnknown
    ∷ CutShort
    ∷ NumberWrong
    ∷ OutOfRange
    ∷ TooManySteps
    ∷ BytesLeftOver
    ∷ DefaultDoesNotFit
    ∷ DefaultTooLong
    ∷ []

case_of : ℕ → Why
case_of n = cond (eqb n 57) BlockSizeWrong (cond (leb 40 n) (get_or later (n - 40) NoRoom) (get_or cases (n - 1) NoRoom))

case_of_number : (w : Why) → case_of (number_of w) ≡ w
unfolding cases later case_of
case_of_number TextTooLong = refl
case_of_number NotJson = refl
case_of_number NestedTooDeep = refl
case_of_number NotASchema = refl
case_of_number TypeMissing = refl
case_of_number NameMissing = refl
case_of_number NotAName = refl
case_of_number Reserved = refl
case_of_number StringTooLong = refl
case_of_number FieldsMissing = refl
case_of_number FieldNameTaken = refl
case_of_number SymbolsMissing = refl
case_of_number SymbolNotAString = refl
case_of_number SymbolTwice = refl
case_of_number DefaultNotAString = refl
case_of_number DefaultNotASymbol = refl
case_of_number SizeMissing = refl
case_of_number NotASize = refl
case_of_number UnionRuleBroken = refl
case_of_number NotWellFormed = refl
case_of_number NoSuchPlace = refl
case_of_number TooManyDeclarations = refl
case_of_number TooManyRows = refl
case_of_number TooManyStringBytes = refl
case_of_number DefinedAlready = refl
case_of_number ReferenceUnknown = refl
case_of_number ItemsMissing = refl
case_of_number ValuesMissing = refl
case_of_number NoRoom = refl
case_of_number MarkerWrong = refl
case_of_number FingerprintUnknown = refl
case_of_number CutShort = refl
case_of_number NumberWrong = refl
case_of_number OutOfRange = refl
case_of_number TooManySteps = refl
case_of_number BytesLeftOver = refl
case_of_number DefaultDoesNotFit = refl
case_of_number DefaultTooLong = refl
case_of_number BlockSizeWrong = refl

pub one_case : (v w : Why) → number_of v ≡ number_of w → v ≡ w
one_case v w e = sym (case_of_number v) ∙ ap case_of e ∙ case_of_number w

-- 0 is no refusal's
pub never_zero : (w : Why) → number_of w ≡ 0 → ⊥
unfolding cases later case_of
never_zero w e = let n : number_of w ≡ 1 = ap number_of (sym (case_of_number w) ∙ ap case_of e) in omega arith

-- ---- by each number

pub number : {a b : Numbers} → a ≡ b → a.number ≡ b.number
number e = ap (λ (n : Numbers). n.number) e

pub first : {a b : Numbers} → a ≡ b → a.first ≡ b.first
first e = ap (λ (n : Numbers). n.first) e

pub second : {a b : Numbers} → a ≡ b → a.second ≡ b.second
second e = ap (λ (n : Numbers). n.second) e

pub third : {a b : Numbers} → a ≡ b → a.third ≡ b.third
third e = ap (λ (n : Numbers). n.third) e

-- ---- the numbers tell the answer

pub refusal_one : (r s : Refusal) → of_refusal r ≡ of_refusal s → r ≡ s
refusal_one r s e = λ i. record { why = one_case r.why s.why (number e) i; place = first e i; at = second e i }

pub counts_one : (c d : Counts) → of_counts c ≡ of_counts d → c ≡ d
counts_one c d e = λ i. record { declarations = first e i; rows = second e i; string_bytes = third e i }

pub never_both : (r : Refusal) (a b c : ℕ) → of_refusal r ≡ accepted a b c → ⊥
never_both r a b c e = never_zero r.why (number e)

pub numbers_one : (a b : Answer Counts) → numbers_of a ≡ numbers_of b → a ≡ b
numbers_one (Ok c) (Ok d) e = ap Ok (counts_one c d e)
numbers_one (Ok c) (Err s) e = absurd (never_both s _ _ _ (sym e))
numbers_one (Err r) (Ok d) e = absurd (never_both r _ _ _ e)
numbers_one (Err r) (Err s) e = ap Err (refusal_one r s e)
