-- What single pieces are.
-- Assumes nothing.
use mathlib.Core.Path.{◌≡◌, refl, sym, ap, ◌∙◌}
use mathlib.Core.Bool.{Bool, true}
use mathlib.Core.Logic.{⊎_elim}
use mathlib.Core.List.{List, [], ◌∷◌, ◌++◌, append_assoc}
use Prim.Native.Nat.{ℕ, ◌+◌, ◌≤◌}
use native.Mathlib.Omega.{arith}
use lib.ListN.{length, drop, get_or, length-append, length-take, length-drop}
use types.Run.{OneOf}
use denote.Enum.Declared.{tag_of}
use Rattle.ground.specs.Ascii.{ascii}
use Rattle.ground.specs.Bytes.{part, same}
use Rattle.ground.proofs.Laws.{and_true, same_true}
use Rattle.name.specs.Name.{every}
use Rattle.row.specs.Kinds.{kinds}
use Rattle.row.specs.Layout.{string_limit, strings_start, layout_length}
use Rattle.row.specs.Rows.{text_start, text_length, text_of}
use Rattle.row.specs.Memory.{from_row, text_at}
use Rattle.row.specs.declared.kind.Kind.{Kind}
use Rattle.row.specs.contracts.kind.Kind.{the_type}
use Rattle.row.specs.declared.kind.Kind.TheVariants.{Null, Boolean, Int, Long, Float, Double, Bytes, String, Reference, Array, Map, Union, Record, Enum, Fixed, Field, Symbol, Alias, FieldAlias}
use Rattle.canonical.specs.Decimal.{decimal}
use Rattle.resolve.specs.Kinds.{is_kind, is_primitive}
use Rattle.canonical.specs.Pieces.{quoted, named, opening, closing}
use Rattle.canonical.specs.Walk.{word_of}
use Rattle.canonical.proofs.DecimalLaws.{decimal_short}

abbrev sized : List ℕ
sized = ascii ",\"type\":\"fixed\",\"size\":"

pub fixed_text : (s : List ℕ) (n : ℕ) → (named s ++ sized) ++ decimal n ≡ opening Fixed s n
unfolding opening
fixed_text s n = append_assoc (named s) sized (decimal n)

pub fixed_fits : (s : List ℕ) (n at k : ℕ) → at ≡ 0 + length (named s ++ sized) → k ≡ 0 + length (decimal n) → length s ≤ string_limit → at + k ≤ 20000
fixed_fits s n at k p q h = omega (arith, length-append (s ++ ascii "\"") sized, length-append s (ascii "\""), decimal_short n)

-- ---- the arms of a match: a kind is told by its number among the variants, or by several

abbrev nth : ℕ → Kind
nth x = get_or kinds x Null

nth_tag : (k : Kind) → nth (tag_of the_type k) ≡ k
nth_tag Null = refl
nth_tag Boolean = refl
nth_tag Int = refl
nth_tag Long = refl
nth_tag Float = refl
nth_tag Double = refl
nth_tag Bytes = refl
nth_tag String = refl
nth_tag Reference = refl
nth_tag Array = refl
nth_tag Map = refl
nth_tag Union = refl
nth_tag Record = refl
nth_tag Enum = refl
nth_tag Fixed = refl
nth_tag Field = refl
nth_tag Symbol = refl
nth_tag Alias = refl
nth_tag FieldAlias = refl

told_as : (test : Kind → Bool) (x : ℕ) (k : Kind) → test (nth x) ≡ true → tag_of the_type k ≡ x → test k ≡ true
told_as test x k t e = ap test (sym (nth_tag k) ∙ ap nth e) ∙ t

-- what holds of each of them holds of the kind
told : (test : Kind → Bool) (xs : List ℕ) → every (λ (x : ℕ). test (nth x)) xs ≡ true → (k : Kind) → OneOf xs (tag_of the_type k) → test k ≡ true
unfolding every
told test [] t k h = absurd h
told test (x ∷ []) t k h = told_as test x k (and_true (test (nth x)) _ t).0 h
told test (x ∷ y ∷ xs) t k h =
    let p = and_true (test (nth x)) _ t in
    ⊎_elim (λ e. told_as test x k p.0 e) (λ r. told test (y ∷ xs) p.1 k r) h

same_told : (f g : Kind → List ℕ) (xs : List ℕ) → every (λ (x : ℕ). same (f (nth x)) (g (nth x))) xs ≡ true → (k : Kind) → OneOf xs (tag_of the_type k) → f k ≡ g k
same_told f g xs t k h = same_true (f k) (g k) (told (λ (k : Kind). same (f k) (g k)) xs t k h)

-- as a kind that is told
pub opening_told : (kind k : Kind) (s : List ℕ) (n : ℕ) → kind ≡ k → opening k s n ≡ opening kind s n
opening_told kind k s n e = rw e

-- with a name that is read
pub opening_name : (k : Kind) (s t : List ℕ) (n : ℕ) → s ≡ t → opening k s n ≡ opening k t n
opening_name k s t n e = rw e

-- a string that is read from memory lies in the string area
pub name_fits : (m : List ℕ) (i : ℕ) (s : List ℕ) → s ≡ text_at m i → length m ≡ layout_length → length s ≤ string_limit
unfolding text_at text_of part
name_fits m i s e h =
    let l : List ℕ = drop strings_start m in
    let a : ℕ = text_start (from_row m i) in
    omega (arith, ap length e, length-take (text_length (from_row m i)) (drop a l), length-drop a l, length-drop strings_start m)

-- ---- the arms

abbrev braced : List ℕ
braced = 9 ∷ 10 ∷ 14 ∷ 15 ∷ []

pub closing_brace : (k : Kind) → OneOf braced (tag_of the_type k) → ascii "}" ≡ closing k
unfolding every same closing
closing_brace k h = same_told (λ (k : Kind). ascii "}") closing braced refl k h

abbrev listing : List ℕ
listing = 12 ∷ 13 ∷ []

pub closing_both : (k : Kind) → OneOf listing (tag_of the_type k) → ascii "]}" ≡ closing k
unfolding every same closing
closing_both k h = same_told (λ (k : Kind). ascii "]}") closing listing refl k h

abbrev pub open_ended : List ℕ
open_ended = 0 ∷ 1 ∷ 2 ∷ 3 ∷ 4 ∷ 5 ∷ 6 ∷ 7 ∷ 8 ∷ 16 ∷ 17 ∷ 18 ∷ []

pub closing_none : (k : Kind) → OneOf open_ended (tag_of the_type k) → [] ≡ closing k
unfolding every same closing
closing_none k h = same_told (λ (k : Kind). []) closing open_ended refl k h

abbrev pub wordless : List ℕ
wordless = 8 ∷ 9 ∷ 10 ∷ 11 ∷ 12 ∷ 13 ∷ 14 ∷ 15 ∷ 16 ∷ 17 ∷ 18 ∷ []

pub word_none : (k : Kind) → OneOf wordless (tag_of the_type k) → [] ≡ word_of k
unfolding every same word_of is_primitive is_kind
word_none k h = same_told (λ (k : Kind). []) word_of wordless refl k h

abbrev worded : List ℕ
worded = 0 ∷ 1 ∷ 2 ∷ 3 ∷ 4 ∷ 5 ∷ 6 ∷ 7 ∷ []

pub opening_word : (k : Kind) (s : List ℕ) (n : ℕ) → OneOf worded (tag_of the_type k) → word_of k ≡ opening k s n
unfolding every same word_of is_primitive is_kind opening
opening_word k s n h = same_told word_of (λ (k : Kind). opening k s n) worded refl k h

abbrev dropped : List ℕ
dropped = 17 ∷ 18 ∷ []

pub opening_none : (k : Kind) (s : List ℕ) (n : ℕ) → OneOf dropped (tag_of the_type k) → [] ≡ opening k s n
unfolding every same opening
opening_none k s n h = same_told (λ (k : Kind). []) (λ (k : Kind). opening k s n) dropped refl k h

pub opening_quoted : (k : Kind) (s : List ℕ) (n : ℕ) → OneOf (8 ∷ 16 ∷ []) (tag_of the_type k) → quoted s ≡ opening k s n
unfolding opening
opening_quoted k s n h = ⊎_elim (λ e. go 8 refl e) (λ e. go 16 refl e) h
  where
    go : (x : ℕ) → quoted s ≡ opening (nth x) s n → tag_of the_type k ≡ x → quoted s ≡ opening k s n
    go x q e = q ∙ ap (λ (k : Kind). opening k s n) (sym (ap nth e) ∙ nth_tag k)
