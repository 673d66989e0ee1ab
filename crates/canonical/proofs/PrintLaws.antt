-- Every byte of a declaration's canonical text is printable ASCII.
-- Assumes nothing.
use mathlib.Core.Path.{◌≡◌, refl, ap, ◌∙◌}
use mathlib.Core.Bool.{Bool, true, false, not, cond, ◌&&◌, ◌||◌}
use mathlib.Core.List.{List, [], ◌∷◌, ◌++◌, map}
use Prim.Native.Nat.{ℕ, zero, suc, ◌+◌, ◌/◌, ◌%◌, ◌<◌, ◌≤◌}
use native.Mathlib.Omega.{arith}
use lib.Dec.{eqb, leb, ltb}
use lib.ListN.{length}
use borrow.Author.Tests.{leb-true, le-leb, eqb-true, ltb-true}
use Rattle.ground.specs.Ascii.{ascii}
use Rattle.ground.proofs.Laws.{never, and_true, and_intro}
use Rattle.name.specs.Name.{every, is_empty, is_within, is_letter, is_digit, is_first, is_later, is_simple, dot, onto_first, parts, is_dotted, is_reserved}
use Rattle.name.specs.Full.{is_short}
use Rattle.name.proofs.Laws.{empty_nil}
use Rattle.row.specs.Rows.{Row}
use Rattle.row.specs.declared.kind.Kind.{Kind}
use Rattle.row.specs.declared.kind.Kind.TheVariants.{Null, Boolean, Int, Long, Float, Double, Bytes, String, Reference, Array, Map, Union, Record, Enum, Fixed, Field, Symbol, Alias, FieldAlias}
use Rattle.resolve.specs.Kinds.{is_kind, is_definition, is_schema}
use Rattle.resolve.specs.Rules.{is_full_name, is_own_name, good_text, good_row, good_rows, under, climbs, is_declaration}
use Rattle.resolve.proofs.Laws.{every_append, strings_text, row_keeps}
use Rattle.canonical.specs.Decimal.{digit, digits_of, decimal}
use Rattle.canonical.specs.Pieces.{quoted, named, opening, closing}
use Rattle.canonical.specs.Claims.{is_printable}
use Rattle.canonical.specs.Canonical.{is_written, starts_at, parts_of, listed, text_of, canonical_of}

-- ---- parts of texts

both : (a b : List ℕ) → every is_printable a ≡ true → every is_printable b ≡ true → every is_printable (a ++ b) ≡ true
both a b p q = every_append is_printable a b ∙ and_intro (every is_printable a) (every is_printable b) p q

within : (low high b : ℕ) → 32 ≤ low → high ≤ 126 → is_within low high b ≡ true → is_printable b ≡ true
unfolding is_printable is_within
within low high b p q e =
    let a = and_true (leb low b) (leb b high) e in
    let l = leb-true low b a.0 in
    let h = leb-true b high a.1 in
    and_intro (leb 32 b) (leb b 126) (le-leb 32 b (omega arith)) (le-leb b 126 (omega arith))

one : (n : ℕ) → n < 10 → every is_printable (digit n) ≡ true
unfolding every is_printable is_within
one n h = rw (le-leb 32 (48 + n) (omega arith), le-leb (48 + n) 126 (omega arith))

digits : (k n : ℕ) → every is_printable (digits_of k n) ≡ true
unfolding digits_of every
digits zero n = refl
digits (suc k) n = go (ltb n 10) refl (digits k (n / 10))
  where
    go : (x : Bool) → ltb n 10 ≡ x → every is_printable (digits_of k (n / 10)) ≡ true → every is_printable (cond x (digit n) (digits_of k (n / 10) ++ digit (n % 10))) ≡ true
    go true e h = one n (ltb-true n 10 e)
    go false e h = both (digits_of k (n / 10)) (digit (n % 10)) h (one (n % 10) (omega arith))

sized : (n : ℕ) → every is_printable (decimal n) ≡ true
unfolding decimal
sized n = digits 20 n

-- ---- names

letter : (b : ℕ) → is_letter b ≡ true → is_printable b ≡ true
unfolding is_letter
letter b e = go (is_within 65 90 b) refl e
  where
    go : (x : Bool) → is_within 65 90 b ≡ x → (x || is_within 97 122 b) ≡ true → is_printable b ≡ true
    go true p e = within 65 90 b (omega arith) (omega arith) p
    go false p e = within 97 122 b (omega arith) (omega arith) e

underscore : (b n : ℕ) → is_printable n ≡ true → eqb b n ≡ true → is_printable b ≡ true
underscore b n h e = ap is_printable (eqb-true b n e) ∙ h

first : (b : ℕ) → is_first b ≡ true → is_printable b ≡ true
unfolding is_first is_printable is_within
first b e = go (is_letter b) refl e
  where
    go : (x : Bool) → is_letter b ≡ x → (x || eqb b 95) ≡ true → is_printable b ≡ true
    go true p e = letter b p
    go false p e = underscore b 95 refl e

later : (b : ℕ) → is_later b ≡ true → is_printable b ≡ true
unfolding is_later is_digit is_printable is_within
later b e = go (is_letter b) refl (is_within 48 57 b) refl e
  where
    go : (x : Bool) → is_letter b ≡ x → (y : Bool) → is_within 48 57 b ≡ y → (x || y || eqb b 95) ≡ true → is_printable b ≡ true
    go true p y q e = letter b p
    go false p true q e = within 48 57 b (omega arith) (omega arith) q
    go false p false q e = underscore b 95 refl e

laters : (s : List ℕ) → every is_later s ≡ true → every is_printable s ≡ true
unfolding every
laters [] e = refl
laters (b ∷ s) e = let a = and_true (is_later b) (every is_later s) e in and_intro (is_printable b) (every is_printable s) (later b a.0) (laters s a.1)

simple : (s : List ℕ) → is_simple s ≡ true → every is_printable s ≡ true
unfolding is_simple every
simple [] e = refl
simple (b ∷ s) e = let a = and_true (is_first b) (every is_later s) e in and_intro (is_printable b) (every is_printable s) (first b a.0) (laters s a.1)

simples : (ps : List (List ℕ)) → every is_simple ps ≡ true → every (every is_printable) ps ≡ true
unfolding every
simples [] e = refl
simples (p ∷ ps) e = let a = and_true (is_simple p) (every is_simple ps) e in and_intro (every is_printable p) (every (every is_printable) ps) (simple p a.0) (simples ps a.1)

-- a byte in front of the first of some parts
onto : (b : ℕ) (ps : List (List ℕ)) → every (every is_printable) (onto_first b ps) ≡ true → (is_printable b ≡ true) × (every (every is_printable) ps ≡ true)
unfolding onto_first every
onto b [] e = ((and_true (is_printable b) true (and_true (is_printable b && true) true e).0).0, refl)
onto b (p ∷ ps) e =
    let a = and_true (every is_printable (b ∷ p)) (every (every is_printable) ps) e in
    let c = and_true (is_printable b) (every is_printable p) a.0 in
    (c.0, and_intro (every is_printable p) (every (every is_printable) ps) c.1 a.1)

joins : (s : List ℕ) → every (every is_printable) (parts s) ≡ true → every is_printable s ≡ true
unfolding parts every is_printable is_within
joins [] e = refl
joins (b ∷ s) e = go (eqb b dot) refl e (λ h. joins s h)
  where
    go : (x : Bool) → eqb b dot ≡ x → every (every is_printable) (cond x ([] ∷ parts s) (onto_first b (parts s))) ≡ true → (every (every is_printable) (parts s) ≡ true → every is_printable s ≡ true) → every is_printable (b ∷ s) ≡ true
    go true p e h = and_intro (is_printable b) (every is_printable s) (underscore b 46 refl p) (h e)
    go false p e h = let a = onto b (parts s) e in and_intro (is_printable b) (every is_printable s) a.0 (h a.1)

full : (s : List ℕ) → is_full_name s ≡ true → every is_printable s ≡ true
unfolding is_full_name is_dotted
full s e = joins s (simples (parts s) (and_true (is_short s) _ e).1)

own : (s : List ℕ) → is_own_name s ≡ true → every is_printable s ≡ true
unfolding is_own_name
own s e = simple s (and_true (is_short s) _ e).1

empty : (s : List ℕ) → is_empty s ≡ true → every is_printable s ≡ true
unfolding every
empty s e = rw (empty_nil s e)

name : (k : Kind) (s : List ℕ) → good_text k s ≡ true → every is_printable s ≡ true
unfolding good_text
name k s e = go (is_definition k || is_kind Alias k) (is_kind Reference k) (is_kind Field k || is_kind FieldAlias k || is_kind Symbol k) e
  where
    go : (x y z : Bool) → cond x (is_full_name s && not (is_reserved s)) (cond y (is_full_name s) (cond z (is_own_name s) (is_empty s))) ≡ true → every is_printable s ≡ true
    go true y z e = full s (and_true (is_full_name s) _ e).0
    go false true z e = full s e
    go false false true e = own s e
    go false false false e = empty s e

-- ---- pieces

quoted_prints : (s : List ℕ) → every is_printable s ≡ true → every is_printable (quoted s) ≡ true
unfolding every is_printable is_within
quoted_prints s e = both s (ascii "\"") e refl

named_prints : (s t : List ℕ) → every is_printable s ≡ true → every is_printable t ≡ true → every is_printable (named s ++ t) ≡ true
unfolding every is_printable is_within
named_prints s t e f = both (s ++ ascii "\"") t (both s (ascii "\"") e refl) f

opening_prints : (k : Kind) (s : List ℕ) (n : ℕ) → every is_printable s ≡ true → every is_printable (opening k s n) ≡ true
unfolding opening every is_printable is_within
opening_prints Null s n e = refl
opening_prints Boolean s n e = refl
opening_prints Int s n e = refl
opening_prints Long s n e = refl
opening_prints Float s n e = refl
opening_prints Double s n e = refl
opening_prints Bytes s n e = refl
opening_prints String s n e = refl
opening_prints Reference s n e = quoted_prints s e
opening_prints Array s n e = refl
opening_prints Map s n e = refl
opening_prints Union s n e = refl
opening_prints Record s n e = named_prints s (ascii ",\"type\":\"record\",\"fields\":[") e refl
opening_prints Enum s n e = named_prints s (ascii ",\"type\":\"enum\",\"symbols\":[") e refl
opening_prints Fixed s n e = named_prints s (ascii ",\"type\":\"fixed\",\"size\":" ++ decimal n) e (both (ascii ",\"type\":\"fixed\",\"size\":") (decimal n) refl (sized n))
opening_prints Field s n e = named_prints s (ascii ",\"type\":") e refl
opening_prints Symbol s n e = quoted_prints s e
opening_prints Alias s n e = refl
opening_prints FieldAlias s n e = refl

closing_prints : (k : Kind) → every is_printable (closing k) ≡ true
unfolding closing every is_printable is_within
closing_prints Null = refl
closing_prints Boolean = refl
closing_prints Int = refl
closing_prints Long = refl
closing_prints Float = refl
closing_prints Double = refl
closing_prints Bytes = refl
closing_prints String = refl
closing_prints Reference = refl
closing_prints Array = refl
closing_prints Map = refl
closing_prints Union = refl
closing_prints Record = refl
closing_prints Enum = refl
closing_prints Fixed = refl
closing_prints Field = refl
closing_prints Symbol = refl
closing_prints Alias = refl
closing_prints FieldAlias = refl

-- ---- rows

prints : Row → Bool
prints r = every is_printable r.text

under_prints : (d : ℕ) (rows : List Row) → every prints rows ≡ true → every prints (under d rows) ≡ true
unfolding every under
under_prints d [] e = refl
under_prints d (r ∷ rows) e = let a = and_true (prints r) (every prints rows) e in go (ltb d r.depth) a.0 (under_prints d rows a.1)
  where
    go : (x : Bool) → prints r ≡ true → every prints (under d rows) ≡ true → every prints (cond x (r ∷ under d rows) []) ≡ true
    go true p q = and_intro (prints r) (every prints (under d rows)) p q
    go false p q = refl

listed_prints : (ps : List (List ℕ)) → every (every is_printable) ps ≡ true → every is_printable (listed ps) ≡ true
unfolding every listed is_printable is_within
listed_prints [] e = refl
listed_prints (p ∷ []) e = (and_true (every is_printable p) true e).0
listed_prints (p ∷ q ∷ ps) e =
    let a = and_true (every is_printable p) (every (every is_printable) (q ∷ ps)) e in
    both p (ascii "," ++ listed (q ∷ ps)) a.0 (both (ascii ",") (listed (q ∷ ps)) refl (listed_prints (q ∷ ps) a.1))

starts_print : (f : List Row → List ℕ) (d : ℕ) → ((rows : List Row) → every prints rows ≡ true → every is_printable (f rows) ≡ true) → (rows : List Row) → every prints rows ≡ true → every (every is_printable) (map f (starts_at d rows)) ≡ true
unfolding starts_at every
starts_print f d h [] e = refl
starts_print f d h (r ∷ rows) e =
    let a = and_true (prints r) (every prints rows) e in
    go (eqb r.depth d && is_written r.kind) (starts_print f d h rows a.1)
  where
    go : (x : Bool) → every (every is_printable) (map f (starts_at d rows)) ≡ true → every (every is_printable) (map f (cond x ((r ∷ rows) ∷ starts_at d rows) (starts_at d rows))) ≡ true
    go true k = and_intro (every is_printable (f (r ∷ rows))) _ (h (r ∷ rows) e) k
    go false k = k

text_prints : (n : ℕ) (rows : List Row) → every prints rows ≡ true → every is_printable (text_of n rows) ≡ true
unfolding text_of parts_of every prints
text_prints zero rows e = refl
text_prints (suc n) [] e = refl
text_prints (suc n) (r ∷ rows) e =
    let a = and_true (prints r) (every prints rows) e in
    let d = r.depth in
    let inner : List ℕ = listed (map (text_of n) (starts_at (d + 1) (under d rows))) in
    let k = listed_prints (map (text_of n) (starts_at (d + 1) (under d rows))) (starts_print (text_of n) (d + 1) (text_prints n) (under d rows) (under_prints d rows a.1)) in
    both (opening r.kind r.text r.size) (inner ++ closing r.kind) (opening_prints r.kind r.text r.size a.0) (both inner (closing r.kind) k (closing_prints r.kind))

good_prints : (rows : List Row) → good_rows rows ≡ true → every prints rows ≡ true
unfolding good_rows every prints
good_prints [] e = refl
good_prints (r ∷ rows) e =
    let a = and_true (good_row r rows) (good_rows rows) e in
    and_intro (prints r) (every prints rows) (name r.kind r.text (strings_text r (row_keeps r rows a.0).0)) (good_prints rows a.1)

-- PRINTABLE ASCII
pub printable : (rows : List Row) → is_declaration rows ≡ true → every is_printable (canonical_of rows) ≡ true
unfolding is_declaration canonical_of
printable [] e = never e
printable (r ∷ rows) e =
    text_prints (length (r ∷ rows)) (r ∷ rows) (good_prints (r ∷ rows) (and_true (eqb r.depth 0 && is_schema r.kind && climbs 0 rows) _ e).1)
