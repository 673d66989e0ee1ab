-- The canonical text of a declaration has no white space, no escape and no byte outside ASCII.
-- Assumes nothing.
use mathlib.Core.Path.{◌≡◌, refl}
use mathlib.Core.Bool.{Bool, true, false, cond}
use mathlib.Core.List.{List, [], ◌∷◌, ◌++◌, map}
use Prim.Native.Nat.{ℕ, zero, suc, ◌+◌, ◌/◌, ◌%◌, ◌<◌}
use native.Mathlib.Omega.{arith}
use lib.Dec.{ltb}
use lib.ListN.{length}
use borrow.Author.Tests.{ltb-true}
use Rattle.ground.specs.Ascii.{ascii}
use Rattle.ground.proofs.Laws.{never, and_true, and_intro}
use Rattle.name.specs.Name.{every, is_within}
use Rattle.row.specs.Rows.{Row}
use Rattle.row.specs.declared.kind.Kind.{Kind}
use Rattle.row.specs.declared.kind.Kind.TheVariants.{Null, Boolean, Int, Long, Float, Double, Bytes, String, Reference, Array, Map, Union, Record, Enum, Fixed, Field, Symbol, Alias, FieldAlias}
use Rattle.resolve.specs.Rules.{good_rows, is_declaration}
use Rattle.canonical.specs.Decimal.{digit, digits_of, decimal}
use Rattle.canonical.specs.Pieces.{quoted, named, opening, closing}
use Rattle.canonical.specs.Canonical.{parts_of, listed, text_of, canonical_of}
use Rattle.legible.specs.Plain.{is_plain}
use Rattle.legible.proofs.Names.{plain_byte, name_plain}
use Rattle.legible.proofs.Values.{Each, nil, cons}
use Rattle.legible.proofs.Pieces.{text_in}
use Rattle.legible.proofs.Parts as P
use Rattle.legible.proofs.Parts.{Starts, Good, good_row_lem, declared_good}

abbrev Plain : List ℕ → Type 0
Plain s = every is_plain s ≡ true

both : (a b : List ℕ) → Plain a → Plain b → Plain (a ++ b)
unfolding every
both [] b p q = q
both (x ∷ a) b p q = let z = and_true (is_plain x) (every is_plain a) p in and_intro (is_plain x) (every is_plain (a ++ b)) z.0 (both a b z.1 q)

-- ---- what a row writes

digits_plain : (k n : ℕ) → Plain (digits_of k n)
unfolding digits_of every
digits_plain zero n = refl
digits_plain (suc k) n = go (ltb n 10) refl (digits_plain k (n / 10))
  where
    one : (d : ℕ) → d < 10 → Plain (digit d)
    one d h = and_intro (is_plain (48 + d)) true (plain_byte (48 + d) (omega arith) (omega arith) (λ (e : 48 + d ≡ 92). omega arith)) refl

    go : (b : Bool) → ltb n 10 ≡ b → Plain (digits_of k (n / 10)) → Plain (cond b (digit n) (digits_of k (n / 10) ++ digit (n % 10)))
    go true q i = one n (ltb-true n 10 q)
    go false q i = both (digits_of k (n / 10)) (digit (n % 10)) i (one (n % 10) (omega arith))

module _ (s : List ℕ) (p : Plain s) where
  quoted_plain : Plain (quoted s)
  unfolding every is_plain is_within
  quoted_plain = both (ascii "\"") (s ++ ascii "\"") refl (both s (ascii "\"") p refl)

  named_plain : Plain (named s)
  unfolding every is_plain is_within
  named_plain = both (ascii "{\"name\":") (quoted s) refl quoted_plain

  opening_plain : (k : Kind) (size : ℕ) → Plain (opening k s size)
  unfolding opening decimal every is_plain is_within
  opening_plain Null size = refl
  opening_plain Boolean size = refl
  opening_plain Int size = refl
  opening_plain Long size = refl
  opening_plain Float size = refl
  opening_plain Double size = refl
  opening_plain Bytes size = refl
  opening_plain String size = refl
  opening_plain Reference size = quoted_plain
  opening_plain Array size = refl
  opening_plain Map size = refl
  opening_plain Union size = refl
  opening_plain Record size = both (named s) (ascii ",\"type\":\"record\",\"fields\":[") named_plain refl
  opening_plain Enum size = both (named s) (ascii ",\"type\":\"enum\",\"symbols\":[") named_plain refl
  opening_plain Fixed size =
      both (named s) (ascii ",\"type\":\"fixed\",\"size\":" ++ decimal size) named_plain
      (both (ascii ",\"type\":\"fixed\",\"size\":") (decimal size) refl (digits_plain 20 size))
  opening_plain Field size = both (named s) (ascii ",\"type\":") named_plain refl
  opening_plain Symbol size = quoted_plain
  opening_plain Alias size = refl
  opening_plain FieldAlias size = refl

closing_plain : (k : Kind) → Plain (closing k)
unfolding closing every is_plain is_within
closing_plain Null = refl
closing_plain Boolean = refl
closing_plain Int = refl
closing_plain Long = refl
closing_plain Float = refl
closing_plain Double = refl
closing_plain Bytes = refl
closing_plain String = refl
closing_plain Reference = refl
closing_plain Array = refl
closing_plain Map = refl
closing_plain Union = refl
closing_plain Record = refl
closing_plain Enum = refl
closing_plain Fixed = refl
closing_plain Field = refl
closing_plain Symbol = refl
closing_plain Alias = refl
closing_plain FieldAlias = refl

-- ---- rows

first_plain : {ks : List Kind} (p : List ℕ) {ps : List (List ℕ)} → Plain p → Each Plain ks ps → Plain (listed (p ∷ ps))
unfolding listed every is_plain is_within
first_plain p d nil = d
first_plain p d (cons q {ps = ps} e z) = both p (ascii "," ++ listed (q ∷ ps)) d (both (ascii ",") (listed (q ∷ ps)) refl (first_plain q e z))

listed_plain : {ks : List Kind} {ps : List (List ℕ)} → Each Plain ks ps → Plain (listed ps)
unfolding listed every
listed_plain nil = refl
listed_plain (cons p d z) = first_plain p d z

abbrev Plains : ℕ → Type 0
Plains n = (r : Row) (rows : List Row) → good_rows (r ∷ rows) ≡ true → Plain (text_of n (r ∷ rows))

each : (n : ℕ) → Plains n → {j d : ℕ} {ks : List Kind} {ps : List (List Row)} → Starts j d ks ps → Each Plain ks (map (text_of n) ps)
each n f P.nil = nil
each n f (P.cons r rows p q w e g z) = cons (text_of n (r ∷ rows)) (f r rows e) (each n f z)

text_plain : (n : ℕ) → Plains n
unfolding text_of every
text_plain zero r rows e = refl
text_plain (suc n) r rows e =
    let g : Good r rows = good_row_lem r rows e in
    let parts = listed (map (text_of n) (parts_of r.depth rows)) in
    both (opening r.kind r.text r.size) (parts ++ closing r.kind)
    (opening_plain r.text (name_plain r.text (text_in r.kind r.text g.text)) r.kind r.size)
    (both parts (closing r.kind) (listed_plain (each n (text_plain n) g.parts)) (closing_plain r.kind))

pub canonical_bytes : (rows : List Row) → is_declaration rows ≡ true → every is_plain (canonical_of rows) ≡ true
unfolding is_declaration canonical_of
canonical_bytes [] e = never e
canonical_bytes (r ∷ rows) e = text_plain (suc (length rows)) r rows (declared_good r rows e).1
