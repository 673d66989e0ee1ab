-- The declaration at a place of well-formed memory, and the three calls.
-- Assumes nothing.
use mathlib.Core.Path.{◌≡◌, refl, sym, ap, ap₂, ◌∙◌}
use mathlib.Core.Bool.{Bool, true, false, cond}
use mathlib.Core.List.{List, [], ◌∷◌, ◌++◌}
use Prim.Native.Nat.{ℕ, zero, suc, ◌+◌, ◌-◌, ◌*◌, ◌<◌, ◌≤◌}
use native.Mathlib.Nat.{sub-zero}
use native.Mathlib.Omega.{arith}
use lib.Dec.{leb, ltb}
use lib.ListN.{length, take, drop, get_or, length-append, take-append-drop}
use lib.Seq.{drop-cons, length-take-le, take_at}
use lib.IntN.{ℤ}
use borrow.Rule.Slice.PartMut.{mid_of, put_mid}
use borrow.Author.Tests.{ltb-true, lt-ltb, le-ltb, leb-true}
use Rattle.std.specs.Prelude.{Result, Ok, Err}
use Rattle.answer.specs.declared.refusal.Why.TheVariants.{NotWellFormed, NoSuchPlace, NoRoom}
use Rattle.answer.specs.declared.refusal.Refusal.{Refusal}
use Rattle.answer.specs.Answers.{accepted, of_refusal, Answer}
use Rattle.answer.proofs.Laws.{first, refusal_one, never_both}
use Rattle.ground.proofs.Laws.{never, and_true, store_fits}
use Rattle.name.specs.Name.{every}
use Rattle.row.specs.Layout.{declaration_limit, row_limit, layout_length}
use Rattle.row.specs.Rows.{Row, texts}
use Rattle.row.specs.Sets.{flat, encode, decode, count_in, rows_from, Within}
use Rattle.row.specs.Memory.{size_at, rows_before}
use Rattle.row.proofs.RowLaws.{texts_append}
use Rattle.row.proofs.SetLaws.{flat_append}
use Rattle.row.proofs.Laws.{length_encode, count_encode, before_encode, size_encode, declaration_encode}
use Rattle.resolve.specs.Rules.{is_declaration}
use Rattle.formed.specs.WellFormed.{Good, well_formed}
use Rattle.resolve.proofs.Laws.{every_append}
use Rattle.formed.proofs.Laws.{exact, good_within}
use Rattle.canonical.specs.Canonical.{text_of, canonical_of}
use Rattle.canonical.specs.Calls.{Found, found, refused, refusal, rows_at, text_at, written_at, numbers_of_written, length_of, buffer_after, numbers_of_print, print_of}
use Rattle.canonical.specs.Wrote.{Wrote}
use Rattle.canonical.specs.Walk.{piece_text, text_limit, row_cost}
use Rattle.rabin.specs.Rabin.{rabin_of}
use Rattle.canonical.proofs.TextLaws.{text_short}
use Rattle.canonical.proofs.WriteLaws.{wrote_lent}

-- ---- the declaration at a place

pub rows_get_d : (ds : List (List Row)) (k : ℕ) → rows_at ds k ≡ get_or ds k []
unfolding rows_at
rows_get_d [] k = refl
rows_get_d (d ∷ ds) zero = refl
rows_get_d (d ∷ ds) (suc k) = rows_get_d ds k

module _ (ds : List (List Row)) (k : ℕ) (l : k < length ds) where
  around : ds ≡ take k ds ++ (rows_at ds k ∷ drop (suc k) ds)
  around = sym (take-append-drop k ds) ∙ ap (λ (x : List (List Row)). take k ds ++ x) (drop-cons ds k [] l ∙ ap (λ (d : List Row). d ∷ drop (suc k) ds) (sym (rows_get_d ds k)))

  before_length : length (take k ds) ≡ k
  before_length = length-take-le k ds (omega arith)

  flat_around : flat ds ≡ flat (take k ds) ++ (rows_at ds k ++ flat (drop (suc k) ds))
  unfolding flat
  flat_around = ap flat around ∙ flat_append (take k ds) (rows_at ds k ∷ drop (suc k) ds)

  rows_around : length (flat ds) ≡ length (flat (take k ds)) + (length (rows_at ds k) + length (flat (drop (suc k) ds)))
  rows_around = ap length flat_around ∙ length-append (flat (take k ds)) _ ∙ ap (λ (n : ℕ). length (flat (take k ds)) + n) (length-append (rows_at ds k) _)

  texts_around : length (texts (rows_at ds k)) ≤ length (texts (flat ds))
  texts_around =
      let a = flat (take k ds) in
      let b = flat (drop (suc k) ds) in
      let e : length (texts (flat ds)) ≡ length (texts a ++ (texts (rows_at ds k) ++ texts b)) = ap (λ (x : List Row). length (texts x)) flat_around ∙ ap length (texts_append a (rows_at ds k ++ b) ∙ ap (λ (x : List ℕ). texts a ++ x) (texts_append (rows_at ds k) b)) in
      omega (arith, e, length-append (texts a) (texts (rows_at ds k) ++ texts b), length-append (texts (rows_at ds k)) (texts b))

  -- by the counts of the set
  pub set_short : length (canonical_of (rows_at ds k)) ≤ row_cost * length (flat ds) + length (texts (flat ds))
  unfolding canonical_of
  set_short = omega (arith, text_short (length (rows_at ds k)) (rows_at ds k), rows_around, texts_around)

  is_declaration_lem : every is_declaration ds ≡ true → is_declaration (rows_at ds k) ≡ true
  unfolding every
  is_declaration_lem e =
      let a = sym (every_append is_declaration (take k ds) (rows_at ds k ∷ drop (suc k) ds)) ∙ ap (every is_declaration) (sym around) ∙ e in
      (and_true (is_declaration (rows_at ds k)) _ (and_true (every is_declaration (take k ds)) _ a).1).0

some_rows : (rows : List Row) → is_declaration rows ≡ true → 1 ≤ length rows
unfolding is_declaration
some_rows [] e = never e
some_rows (r ∷ rows) e = omega arith

module _ (m : List ℕ) (w : well_formed m ≡ true) where
  ds : List (List Row)
  ds = decode m

  good : Good (decode m)
  good = (exact m w).1

  within : Within (decode m)
  within = good_within (decode m) good

  is : m ≡ encode (decode m)
  is = (exact m w).0

  pub formed_long : length m ≡ layout_length
  formed_long = ap length is ∙ length_encode (decode m) within

  pub formed_count : count_in m ≡ length (decode m)
  formed_count = ap count_in is ∙ count_encode (decode m) within

  module _ (place : ℕ) (l : place < length (decode m)) where
    pub place_few : place < declaration_limit
    place_few = omega (arith, good.few)

    size_is : size_at m place ≡ length (rows_at (decode m) place)
    size_is =
        let a = take place (decode m) in
        let b = drop (suc place) (decode m) in
        let e = around (decode m) place l in
        ap₂ size_at (is ∙ ap encode e) (sym (before_length (decode m) place l)) ∙ size_encode a (rows_at (decode m) place) b (rw e at within)

    start_is : rows_before m place ≡ length (flat (take place (decode m)))
    start_is = ap (λ (x : List ℕ). rows_before x place) is ∙ before_encode (decode m) within place (omega arith)

    rows_are : rows_from m (size_at m place) (rows_before m place) ≡ rows_at (decode m) place
    rows_are =
        let a = take place (decode m) in
        let b = drop (suc place) (decode m) in
        let e = around (decode m) place l in
        rw (size_is, start_is) (ap (λ (x : List ℕ). rows_from x (length (rows_at (decode m) place)) (length (flat a))) (is ∙ ap encode e) ∙ declaration_encode a (rows_at (decode m) place) b (rw e at within))

    module _ (s n : ℕ) (p : s ≡ rows_before m place) (q : n ≡ size_at m place) where
      pub place_rows : s + n ≤ row_limit
      place_rows = omega (arith, good.rows, rows_around (decode m) place l, size_is, start_is)

      pub place_some : s < s + n
      place_some = omega (arith, size_is, some_rows (rows_at (decode m) place) (is_declaration_lem (decode m) place l good.declarations))

      -- THE TEXT OF ITS FIRST ROW is the canonical text
      pub place_text : piece_text m n s (s + n) ≡ canonical_of (rows_at (decode m) place)
      unfolding piece_text canonical_of
      place_text = let e : s + n - s ≡ size_at m place = omega arith in rw (e, p, rows_are) (ap (λ (k : ℕ). text_of k (rows_at (decode m) place)) (q ∙ size_is))

      pub place_short : length (piece_text m n s (s + n)) ≤ text_limit
      unfolding canonical_of
      place_short =
          let d = rows_at (decode m) place in
          let k : length d ≤ row_limit = omega (arith, good.rows, rows_around (decode m) place l) in
          omega (arith, ap length place_text, text_short (length d) d, texts_around (decode m) place l, good.strings)

    pub canonical_short : length (canonical_of (rows_at (decode m) place)) ≤ text_limit
    canonical_short = omega (arith, ap length (place_text (rows_before m place) (size_at m place) refl refl), place_short (rows_before m place) (size_at m place) refl refl)

-- ---- what the calls answer

-- the canonical text, where there is a declaration
abbrev canonical_at : List ℕ → ℕ → List ℕ
canonical_at m place = canonical_of (rows_at (decode m) place)

module _ (m : List ℕ) (place : ℕ) where
  pub text_broken : well_formed m ≡ false → text_at m place ≡ refused (refusal NotWellFormed place 0)
  unfolding text_at
  text_broken w = rw w

  module _ (w : well_formed m ≡ true) where
    pub text_absent : (n : ℕ) → n ≡ count_in m → n ≤ place → text_at m place ≡ refused (refusal NoSuchPlace place 0)
    unfolding text_at
    text_absent n e h = let k : length (decode m) ≤ place = omega (arith, formed_count m w) in rw (w, le-ltb place (length (decode m)) k)

    pub place_counted : (n : ℕ) → n ≡ count_in m → place < n → place < length (decode m)
    place_counted n e h = omega (arith, formed_count m w)

    text_found : place < length (decode m) → text_at m place ≡ found (canonical_at m place)
    unfolding text_at
    text_found l = rw (w, lt-ltb place (length (decode m)) l)

    pub length_found : place < length (decode m) → (n : ℕ) → n ≡ 0 + length (canonical_at m place) → accepted n 0 0 ≡ length_of (text_at m place)
    unfolding length_of
    length_found l n e = rw (text_found l) (ap (λ (k : ℕ). accepted k 0 0) (omega arith))

  -- a refusal is told as it is
  pub length_refused : {r : Refusal} → text_at m place ≡ refused r → of_refusal r ≡ length_of (text_at m place)
  unfolding length_of
  length_refused e = rw e

  pub print_refused : {r : Refusal} → text_at m place ≡ refused r → numbers_of_print (Err r) ≡ print_of (text_at m place)
  unfolding print_of
  print_refused e = rw e

  pub print_broken : well_formed m ≡ false → numbers_of_print (Err (refusal NotWellFormed place 0)) ≡ print_of (text_at m place)
  print_broken w = print_refused (text_broken w)

  pub print_absent : well_formed m ≡ true → (n : ℕ) → n ≡ count_in m → n ≤ place → numbers_of_print (Err (refusal NoSuchPlace place 0)) ≡ print_of (text_at m place)
  print_absent w n e h = print_refused (text_absent w n e h)

  -- what a length tells
  pub length_told : (n : ℕ) → accepted n 0 0 ≡ length_of (text_at m place) → (well_formed m ≡ true) × (place < length (decode m)) × (n ≡ length (canonical_at m place))
  unfolding text_at length_of
  length_told n e = go (well_formed m) (ltb place (length (decode m))) refl refl e
    where
      go : (x y : Bool) → well_formed m ≡ x → ltb place (length (decode m)) ≡ y
          → accepted n 0 0 ≡ length_of (cond x (cond y (found (canonical_at m place)) (refused (refusal NoSuchPlace place 0))) (refused (refusal NotWellFormed place 0)))
          → (well_formed m ≡ true) × (place < length (decode m)) × (n ≡ length (canonical_at m place))
      go true true p q e = (p, ltb-true place (length (decode m)) q, first e)
      go true false p q e = absurd (never_both (refusal NoSuchPlace place 0) _ _ _ (sym e))
      go false y p q e = absurd (never_both (refusal NotWellFormed place 0) _ _ _ (sym e))

  -- and a refusal
  pub refused_told : (r : Refusal) → of_refusal r ≡ length_of (text_at m place) → text_at m place ≡ refused r
  unfolding length_of
  refused_told r e = go (text_at m place) e
    where
      go : (f : Found) → of_refusal r ≡ length_of f → f ≡ refused r
      go (found s) e = absurd (never_both r _ _ _ e)
      go (refused q) e = ap refused (refusal_one q r (sym e))

  -- ---- into a buffer

  module _ (offset : ℕ) (b : List ℕ) where
    pub canonical_refused : {a : Answer ℕ} {r : Refusal} → a ≡ Err r → numbers_of_written a ≡ length_of (text_at m place) → (of_refusal r ≡ length_of (written_at m place offset (length b))) × (b ≡ buffer_after (written_at m place offset (length b)) b offset)
    unfolding written_at length_of buffer_after
    canonical_refused {r = r} g e = rw (refused_told r (sym (ap numbers_of_written g) ∙ e)) (refl, refl)

    module _ (n : ℕ) (e : accepted n 0 0 ≡ length_of (text_at m place)) where
      abbrev s : List ℕ
      s = canonical_at m place

      text_is : text_at m place ≡ found s
      text_is = let t = length_told n e in text_found t.0 t.1

      pub canonical_full : leb (offset + n) (length b) ≡ false → (of_refusal (refusal NoRoom place n) ≡ length_of (written_at m place offset (length b))) × (b ≡ buffer_after (written_at m place offset (length b)) b offset)
      unfolding written_at length_of buffer_after
      canonical_full h = let k = (length_told n e).2 in rw (text_is, ← k, h) (refl, refl)

      module _ (h : leb (offset + n) (length b) ≡ true) where
        pub canonical_room : offset ≤ length b
        canonical_room = omega (arith, leb-true (offset + n) (length b) h)

        pub canonical_written : (ys : List ℕ) (k : ℕ) → Wrote (mid_of offset (length b - offset) b) 0 ys k s
            → (accepted n 0 0 ≡ length_of (written_at m place offset (length b))) × (put_mid offset (length b - offset) b ys ≡ buffer_after (written_at m place offset (length b)) b offset)
        unfolding written_at length_of buffer_after
        canonical_written ys k w =
            let q = (length_told n e).2 in
            let g = (wrote_lent b ys offset offset k s (omega (arith, canonical_room)) w).bytes in
            rw (text_is, ← q, h) (ap (λ (k : ℕ). accepted k 0 0) q, g)

  -- ---- the fingerprint

  module _ (w : well_formed m ≡ true) where
    module _ (l : place < length (decode m)) where
      pub print_found : (x : ℤ) → x ≡ rabin_of (canonical_at m place) → numbers_of_print (Ok x) ≡ print_of (text_at m place)
      unfolding print_of
      print_found x q = rw (text_found w l) (ap (λ (f : ℤ). numbers_of_print (Ok f)) q)

      -- a buffer that has room for any text holds this one in front
      module _ (b b' : List ℕ) (n : ℕ) (h : length b ≡ text_limit) (g : Wrote b 0 b' n (canonical_at m place)) where
        pub print_fits : n ≤ text_limit
        print_fits = omega (arith, canonical_short m w place l, g.end)

        pub print_front : take (n - 0) (drop 0 b') ≡ canonical_at m place
        print_front =
            let a : List ℕ = canonical_at m place in
            let f : 0 + length a ≤ length b = omega (arith, print_fits, g.end) in
            let e : length a ≡ n = omega (arith, g.end) in
            let t : b' ≡ a ++ drop (0 + length a) b = g.bytes ∙ store_fits b 0 a f in
            rw (sub-zero, t) (take_at a (drop (0 + length a) b) n e)

-- ---- the numbers tell the answer

pub written_one : (a b : Answer ℕ) → numbers_of_written a ≡ numbers_of_written b → a ≡ b
written_one (Ok n) (Ok k) e = ap Ok (first e)
written_one (Ok n) (Err s) e = absurd (never_both s _ _ _ (sym e))
written_one (Err r) (Ok k) e = absurd (never_both r _ _ _ e)
written_one (Err r) (Err s) e = ap Err (refusal_one r s e)

pub print_one : (a b : Answer ℤ) → numbers_of_print a ≡ numbers_of_print b → a ≡ b
print_one (Ok f) (Ok g) e = λ i. Ok (e i).1
print_one (Ok f) (Err s) e = absurd (never_both s _ _ _ (λ i. (sym e i).0))
print_one (Err r) (Ok g) e = absurd (never_both r _ _ _ (λ i. (e i).0))
print_one (Err r) (Err s) e = ap Err (refusal_one r s (λ i. (e i).0))
