-- The text of a row of each kind is a value, where the texts of its parts are.
-- Assumes nothing.
use mathlib.Core.Path.{◌≡◌, refl, sym, ap, subst, ◌∙◌}
use mathlib.Core.Bool.{Bool, true, false, not, cond, ◌&&◌, ◌||◌}
use mathlib.Core.List.{List, [], ◌∷◌, ◌++◌, append_assoc, append-nil}
use Prim.Native.Nat.{ℕ, suc, ◌+◌, ◌^◌, ◌<◌}
use native.Mathlib.Omega.{arith}
use lib.Dec.{eqb}
use lib.ListN.{length}
use borrow.Author.Tests.{eqb-true}
use Rattle.ground.specs.Ascii.{ascii}
use Rattle.ground.proofs.Laws.{never, and_true}
use Rattle.name.specs.Name.{every, is_empty, is_within, is_letter, is_digit, is_later, is_simple, is_dotted, is_reserved}
use Rattle.name.specs.Full.{is_short}
use Rattle.name.proofs.Laws.{simple_dotted, empty_nil}
use Rattle.row.specs.declared.kind.Kind.{Kind}
use Rattle.row.specs.declared.kind.Kind.TheVariants.{Null, Boolean, Int, Long, Float, Double, Bytes, String, Reference, Array, Map, Union, Record, Enum, Fixed, Field, Symbol, Alias, FieldAlias}
use Rattle.resolve.specs.Kinds.{is_kind, is_definition, has_one, is_part_of, body_fits}
use Rattle.resolve.specs.Rules.{is_full_name, is_own_name, good_text}
use Rattle.canonical.specs.Decimal.{decimal}
use Rattle.canonical.specs.Pieces.{quoted, named, opening, closing}
use Rattle.canonical.specs.Canonical.{is_written, listed}
use Rattle.grammar.specs.Grammar.{Many, char, member, value}
use Rattle.legible.specs.Nesting.{brackets}
use Rattle.legible.proofs.Digits.{decimal_json}
use Rattle.legible.proofs.Names.{in_name, name_chars, dotted_in}
use Rattle.legible.proofs.Values.{as_number, string_value, one_more, last_one, Each, nil, cons, array_value, a_member, object_value}

-- ---- names and words

full_in : (s : List ℕ) → is_full_name s ≡ true → every in_name s ≡ true
unfolding is_full_name
full_in s e = dotted_in s (and_true (is_short s) (is_dotted s) e).1

own_in : (s : List ℕ) → is_own_name s ≡ true → every in_name s ≡ true
unfolding is_own_name
own_in s e = dotted_in s (simple_dotted s (and_true (is_short s) (is_simple s) e).1)

-- a string that a row keeps
pub text_in : (k : Kind) (s : List ℕ) → good_text k s ≡ true → every in_name s ≡ true
unfolding good_text every
text_in k s e = go (is_definition k || is_kind Alias k) (is_kind Reference k) (is_kind Field k || is_kind FieldAlias k || is_kind Symbol k) e
  where
    go : (x y z : Bool) → cond x (is_full_name s && not (is_reserved s)) (cond y (is_full_name s) (cond z (is_own_name s) (is_empty s))) ≡ true → every in_name s ≡ true
    go true y z f = full_in s (and_true (is_full_name s) (not (is_reserved s)) f).0
    go false true z f = full_in s f
    go false false true f = own_in s f
    go false false false f = rw (empty_nil s f)

a_word : (n : ℕ) (s : List ℕ) → every in_name s ≡ true → value n (34 ∷ (s ++ (34 ∷ [])))
a_word n s e = string_value n s (name_chars s e)

-- a name, and nothing behind it
quoted_value : (n : ℕ) (s : List ℕ) → Many char s → value n (quoted s ++ [])
quoted_value n s d = subst (λ (x : List ℕ). value n x) (sym (append-nil (quoted s))) (string_value n s d)

-- ---- objects

regroup : (a x v c : List ℕ) → (a ++ (x ++ v)) ++ c ≡ (a ++ x) ++ (v ++ c)
regroup a x v c = append_assoc a (x ++ v) c ∙ ap (λ (l : List ℕ). a ++ l) (append_assoc x v c) ∙ sym (append_assoc a x (v ++ c))

-- {"type":"array","items":v} and {"type":"map","values":v}
module _ (n : ℕ) (v : List ℕ) (d : value n v) where
  array_row : value (suc n) (ascii "{\"type\":\"array\",\"items\":" ++ (v ++ ascii "}"))
  unfolding every in_name is_later is_letter is_digit is_within
  array_row =
      object_value n _ _ (a_member n (ascii "type") refl _ (a_word n (ascii "array") refl))
      (last_one (member (value n)) _ (a_member n (ascii "items") refl v d))

  map_row : value (suc n) (ascii "{\"type\":\"map\",\"values\":" ++ (v ++ ascii "}"))
  unfolding every in_name is_later is_letter is_digit is_within
  map_row =
      object_value n _ _ (a_member n (ascii "type") refl _ (a_word n (ascii "map") refl))
      (last_one (member (value n)) _ (a_member n (ascii "values") refl v d))

-- what begins with a name
module _ (s : List ℕ) (c : Many char s) where
  the_name : (n : ℕ) → member (value n) (ascii "\"name\":" ++ quoted s)
  unfolding every in_name is_later is_letter is_digit is_within
  the_name n = a_member n (ascii "name") refl _ (string_value n s c)

  field_row_lem : (n : ℕ) (v : List ℕ) → value n v → value (suc n) ((named s ++ ascii ",\"type\":") ++ (v ++ ascii "}"))
  unfolding every in_name is_later is_letter is_digit is_within
  field_row_lem n v d =
      subst (λ (x : List ℕ). value (suc n) (ascii "{\"name\":\"" ++ x)) (regroup (s ++ ascii "\"") (ascii ",\"type\":") v (ascii "}"))
      (object_value n _ _ (the_name n) (last_one (member (value n)) _ (a_member n (ascii "type") refl v d)))

  fixed_row : (n size : ℕ) → size < 2 ^ 64 → value (suc n) ((named s ++ (ascii ",\"type\":\"fixed\",\"size\":" ++ decimal size)) ++ ascii "}")
  unfolding every in_name is_later is_letter is_digit is_within
  fixed_row n size h =
      object_value n _ _ (the_name n)
      (one_more (member (value n)) _ _ (a_member n (ascii "type") refl _ (a_word n (ascii "fixed") refl))
      (last_one (member (value n)) _ (a_member n (ascii "size") refl (decimal size) (as_number n (decimal_json size h)))))

  -- an array of parts last
  module _ (n : ℕ) {A : Type 0} {xs : List A} {ps : List (List ℕ)} (z : Each (value n) xs ps) where
    ends : (x : List ℕ) → (s ++ ascii "\"" ++ (x ++ (listed ps ++ ascii "]"))) ++ ascii "}" ≡ (s ++ ascii "\"" ++ x) ++ (listed ps ++ ascii "]}")
    ends x =
        regroup (s ++ ascii "\"") x (listed ps ++ ascii "]") (ascii "}")
        ∙ ap (λ (l : List ℕ). (s ++ ascii "\"" ++ x) ++ l) (append_assoc (listed ps) (ascii "]") (ascii "}"))

    record_row : value (suc (suc n)) ((named s ++ ascii ",\"type\":\"record\",\"fields\":[") ++ (listed ps ++ ascii "]}"))
    unfolding every in_name is_later is_letter is_digit is_within
    record_row =
        subst (λ (x : List ℕ). value (suc (suc n)) (ascii "{\"name\":\"" ++ x)) (ends (ascii ",\"type\":\"record\",\"fields\":["))
        (object_value (suc n) _ _ (the_name (suc n))
        (one_more (member (value (suc n))) _ _ (a_member (suc n) (ascii "type") refl _ (a_word (suc n) (ascii "record") refl))
        (last_one (member (value (suc n))) _ (a_member (suc n) (ascii "fields") refl _ (array_value n z)))))

    enum_row : value (suc (suc n)) ((named s ++ ascii ",\"type\":\"enum\",\"symbols\":[") ++ (listed ps ++ ascii "]}"))
    unfolding every in_name is_later is_letter is_digit is_within
    enum_row =
        subst (λ (x : List ℕ). value (suc (suc n)) (ascii "{\"name\":\"" ++ x)) (ends (ascii ",\"type\":\"enum\",\"symbols\":["))
        (object_value (suc n) _ _ (the_name (suc n))
        (one_more (member (value (suc n))) _ _ (a_member (suc n) (ascii "type") refl _ (a_word (suc n) (ascii "enum") refl))
        (last_one (member (value (suc n))) _ (a_member (suc n) (ascii "symbols") refl _ (array_value n z)))))

-- ---- how many parts

module _ (k : Kind) (P : List ℕ → Type 0) where
  -- a row of a kind with exactly one
  one_part : {ks : List Kind} {ps : List (List ℕ)} → has_one k ≡ true → body_fits k ks ≡ true → Each P ks ps → (v : List ℕ) × ((ps ≡ v ∷ []) × P v)
  unfolding body_fits
  one_part o e nil = let y = (and_true (every (is_part_of k) []) (not (has_one k) || eqb 0 1) e).1 in never (rw o at y)
  one_part o e (cons v d nil) = (v, (refl, d))
  one_part {ks = ks} o e (cons v d (cons w f z)) =
      let y = (and_true (every (is_part_of k) ks) (not (has_one k) || eqb (length ks) 1) e).1 in
      let g : eqb (length ks) 1 ≡ true = rw o at y in
      let h : length ks ≡ 1 = eqb-true (length ks) 1 g in
      absurd (omega arith)

  -- and of a kind with none
  no_part : {ks : List Kind} {ps : List (List ℕ)} → ((x : Kind) → is_part_of k x ≡ false) → body_fits k ks ≡ true → Each P ks ps → ps ≡ []
  unfolding body_fits every
  no_part h e nil = refl
  no_part h e (cons {x = x} {xs = xs} v d z) =
      let y = and_true (is_part_of k x && every (is_part_of k) xs) (not (has_one k) || eqb (suc (length xs)) 1) e in
      never (sym (h x) ∙ (and_true (is_part_of k x) (every (is_part_of k) xs) y.0).0)

-- ---- one row

module _ (s : List ℕ) (size m : ℕ) {ks : List Kind} {ps : List (List ℕ)} (z : Each (value m) ks ps) where
  -- the whole row, its parts nested m deep
  abbrev Row_value : Kind → Type 0
  Row_value k = value (brackets k + m) (opening k s size ++ (listed ps ++ closing k))

  none_row : (k : Kind) → ((x : Kind) → is_part_of k x ≡ false) → body_fits k ks ≡ true → value (brackets k + m) (opening k s size ++ closing k) → Row_value k
  unfolding listed
  none_row k h e d = subst (λ (l : List (List ℕ)). value (brackets k + m) (opening k s size ++ (listed l ++ closing k))) (sym (no_part k (value m) h e z)) d

  one_row : (k : Kind) → has_one k ≡ true → body_fits k ks ≡ true → ((v : List ℕ) → value m v → value (brackets k + m) (opening k s size ++ (v ++ closing k))) → Row_value k
  unfolding listed
  one_row k o e f =
      let y = one_part k (value m) o e z in
      subst (λ (l : List (List ℕ)). value (brackets k + m) (opening k s size ++ (listed l ++ closing k))) (sym y.1.0) (f y.0 y.1.1)

  up_1 : (t : List ℕ) → value (suc m) t → value (1 + m) t
  up_1 t d = let e : suc m ≡ 1 + m = omega arith in subst (λ (n : ℕ). value n t) e d

  up_2 : (t : List ℕ) → value (suc (suc m)) t → value (2 + m) t
  up_2 t d = let e : suc (suc m) ≡ 2 + m = omega arith in subst (λ (n : ℕ). value n t) e d

  pub row_value : (k : Kind) → is_written k ≡ true → Many char s → size < 2 ^ 64 → body_fits k ks ≡ true → Row_value k
  unfolding brackets opening closing is_written is_kind is_definition is_part_of has_one every in_name is_later is_letter is_digit is_within
  row_value Null w c g e = none_row Null (λ x. refl) e (a_word (0 + m) (ascii "null") refl)
  row_value Boolean w c g e = none_row Boolean (λ x. refl) e (a_word (0 + m) (ascii "boolean") refl)
  row_value Int w c g e = none_row Int (λ x. refl) e (a_word (0 + m) (ascii "int") refl)
  row_value Long w c g e = none_row Long (λ x. refl) e (a_word (0 + m) (ascii "long") refl)
  row_value Float w c g e = none_row Float (λ x. refl) e (a_word (0 + m) (ascii "float") refl)
  row_value Double w c g e = none_row Double (λ x. refl) e (a_word (0 + m) (ascii "double") refl)
  row_value Bytes w c g e = none_row Bytes (λ x. refl) e (a_word (0 + m) (ascii "bytes") refl)
  row_value String w c g e = none_row String (λ x. refl) e (a_word (0 + m) (ascii "string") refl)
  row_value Reference w c g e = none_row Reference (λ x. refl) e (quoted_value (0 + m) s c)
  row_value Array w c g e = one_row Array refl e (λ v d. up_1 _ (array_row m v d))
  row_value Map w c g e = one_row Map refl e (λ v d. up_1 _ (map_row m v d))
  row_value Union w c g e = up_1 _ (array_value m z)
  row_value Record w c g e = up_2 _ (record_row s c m z)
  row_value Enum w c g e = up_2 _ (enum_row s c m z)
  row_value Fixed w c g e = none_row Fixed (λ x. refl) e (up_1 _ (fixed_row s c m size g))
  row_value Field w c g e = one_row Field refl e (λ v d. up_1 _ (field_row_lem s c m v d))
  row_value Symbol w c g e = none_row Symbol (λ x. refl) e (quoted_value (0 + m) s c)
  row_value Alias w c g e = never w
  row_value FieldAlias w c g e = never w
