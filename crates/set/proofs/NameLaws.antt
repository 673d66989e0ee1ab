-- The full name of a row and where it lies, test by test.
-- Assumes nothing.
use Rattle.std.specs.Prelude.{Ok, Err}
use mathlib.Core.Path.{◌≡◌, refl, sym, ap, ap₂, ◌∙◌}
use mathlib.Core.Bool.{Bool, true, false, cond}
use mathlib.Core.List.{List, [], ◌∷◌, ◌++◌}
use Prim.Native.Nat.{ℕ, zero, suc, ◌+◌, ◌-◌, ◌<◌, ◌≤◌, min}
use native.Mathlib.Nat.{add-zero}
use native.Mathlib.Omega.{arith}
use native.Mathlib.Decide.{dec_lt, dec_le}
use lib.ListN.{length, take, drop, length-append, length-drop, drop_of_length-le, take-append-drop}
use lib.Seq.{drop-drop, take_all, take-nil, take-append-le, take-append-add, length-take-le}
use lib.Dec.{eqb}
use Rattle.answer.specs.declared.refusal.Why.TheVariants.{NotWellFormed, NoSuchPlace}
use Rattle.answer.proofs.Laws.{first, refusal_one, never_both}
use Rattle.ground.specs.Bytes.{part}
use Rattle.row.specs.Layout.{declaration_limit, row_limit, string_limit, strings_start, layout_length}
use Rattle.row.specs.Rows.{Row, strings_of, texts, text_of}
use Rattle.row.specs.Sets.{flat, decode, count_in, rows_from}
use Rattle.row.specs.Memory.{entry_at, text_at, row_at, text_place, behind, size_at, rows_before}
use Rattle.row.proofs.RowLaws.{texts_append}
use Rattle.row.proofs.SetLaws.{flat_append}
use Rattle.row.proofs.Laws.{place_encode}
use Rattle.row.specs.declared.kind.Kind.{Kind}
use Rattle.formed.specs.WellFormed.{well_formed}
use Rattle.resolve.proofs.MemoryLaws.{rows_cons}
use Rattle.resolve.proofs.RuleLaws.{no_bytes}
use Rattle.set.specs.Naming.{has_full_name, name_among, name_in, full_name_in, start_among, start_in, full_name_start, numbers_of_naming, naming_of}
use Rattle.set.specs.Steps.{row_name, row_name_start, refused_name}
use Rattle.set.proofs.Places.{Place, is_encoded, is_within, is_long, is_count, is_good, is_before, place_of}
use Rattle.answer.specs.Answers.{Answer}

-- ---- lists

name_past : (ds : List (List Row)) (place i : ℕ) → length ds ≤ place → name_in ds place i ≡ []
unfolding name_in
name_past [] place i h = refl
name_past (d ∷ ds) zero i h = absurd (omega arith)
name_past (d ∷ ds) (suc place) i h = name_past ds place i (omega arith)

among_past : (rows : List Row) (i : ℕ) → length rows ≤ i → name_among rows i ≡ []
unfolding name_among
among_past [] i h = refl
among_past (r ∷ rows) zero h = absurd (omega arith)
among_past (r ∷ rows) (suc i) h = among_past rows i (omega arith)

name_there : (ds : List (List Row)) (place i : ℕ) (rows : List Row) (more : List (List Row)) → drop place ds ≡ rows ∷ more → name_in ds place i ≡ name_among rows i
unfolding name_in
name_there [] zero i rows more e = cc
name_there [] (suc place) i rows more e = cc
name_there (d ∷ ds) zero i rows more e = cc
name_there (d ∷ ds) (suc place) i rows more e = name_there ds place i rows more e

-- row i of the n rows of memory from s on
among_memory : (m : List ℕ) (n s i : ℕ) → i < n → name_among (rows_from m n s) i ≡ cond (has_full_name (entry_at m (s + i)).kind) (text_at m (s + i)) []
unfolding name_among
among_memory m zero s i h = absurd (omega arith)
among_memory m (suc n) s zero h = rw (rows_cons m n s, add-zero)
among_memory m (suc n) s (suc i) h = let e : s + 1 + i ≡ s + suc i = omega arith in rw (rows_cons m n s) (among_memory m n (s + 1) i (omega arith) ∙ rw e)

-- ---- where it lies

start_past : (ds : List (List Row)) (at place i : ℕ) → length ds ≤ place → start_in at ds place i ≡ 0
unfolding start_in
start_past [] at place i h = refl
start_past (d ∷ ds) at zero i h = absurd (omega arith)
start_past (d ∷ ds) at (suc place) i h = start_past ds _ place i (omega arith)

start_among_past : (rows : List Row) (at i : ℕ) → length rows ≤ i → start_among at rows i ≡ 0
unfolding start_among
start_among_past [] at i h = refl
start_among_past (r ∷ rows) at zero h = absurd (omega arith)
start_among_past (r ∷ rows) at (suc i) h = start_among_past rows _ i (omega arith)

start_there : (ds : List (List Row)) (at place i : ℕ) (rows : List Row) (more : List (List Row)) → drop place ds ≡ rows ∷ more
    → start_in at ds place i ≡ start_among (at + length (texts (flat (take place ds)))) rows i
unfolding start_in flat texts
start_there [] at zero i rows more e = cc
start_there [] at (suc place) i rows more e = cc
start_there (d ∷ ds) at zero i rows more e = let k : d ≡ rows = cc in rw (add-zero, k)
start_there (d ∷ ds) at (suc place) i rows more e =
    let n : length (texts (d ++ flat (take place ds))) ≡ length (texts d) + length (texts (flat (take place ds))) = ap length (texts_append d (flat (take place ds))) ∙ length-append (texts d) (texts (flat (take place ds))) in
    let k : at + length (texts d) + length (texts (flat (take place ds))) ≡ at + length (texts (d ++ flat (take place ds))) = omega (arith, n) in
    start_there ds _ place i rows more e ∙ ap (λ (x : ℕ). start_among x rows i) k

start_memory : (m : List ℕ) (n s i at : ℕ) → i < n
    → start_among at (rows_from m n s) i ≡ cond (has_full_name (entry_at m (s + i)).kind) (at + length (texts (take i (rows_from m n s)))) 0
unfolding start_among texts
start_memory m zero s i at h = absurd (omega arith)
start_memory m (suc n) s zero at h = rw (rows_cons m n s, add-zero, add-zero)
start_memory m (suc n) s (suc i) at h =
    let e : s + 1 + i ≡ s + suc i = omega arith in
    let x : List ℕ = strings_of (row_at m s) in
    let r : List Row = take i (rows_from m n (s + 1)) in
    let k : at + length x + length (texts r) ≡ at + length (x ++ texts r) = omega (arith, length-append x (texts r)) in
    rw (rows_cons m n s) (start_memory m n (s + 1) i (at + length x) (omega arith) ∙ rw (e, k))

-- a declaration's rows among all
rows_split : (ds : List (List Row)) (place i : ℕ) (rows : List Row) (more : List (List Row)) → drop place ds ≡ rows ∷ more → i < length rows
    → (length (flat (take place ds)) + i < length (flat ds)) × (length (texts (take (length (flat (take place ds)) + i) (flat ds))) ≡ length (texts (flat (take place ds))) + length (texts (take i rows)))
unfolding flat
rows_split ds place i rows more e h =
    let a : List Row = flat (take place ds) in
    let f : flat ds ≡ a ++ (rows ++ flat more) = ap flat (sym (take-append-drop place ds)) ∙ flat_append (take place ds) (drop place ds) ∙ ap (λ (x : List (List Row)). a ++ flat x) e in
    let n : length (flat ds) ≡ length a + (length rows + length (flat more)) = ap length f ∙ length-append a (rows ++ flat more) ∙ ap (λ (x : ℕ). length a + x) (length-append rows (flat more)) in
    let t : take (length a + i) (flat ds) ≡ a ++ take i rows = ap (take (length a + i)) f ∙ take-append-add a (rows ++ flat more) i ∙ ap (λ (x : List Row). a ++ x) (take-append-le i rows (flat more) (omega arith)) in
    (omega (arith, n), ap (λ (x : List Row). length (texts x)) t ∙ ap length (texts_append a (take i rows)) ∙ length-append (texts a) (texts (take i rows)))

-- ---- name_at

-- a slice of these bytes at this pointer is the full name, where memory's own pointer is p
abbrev Lies : List ℕ → ℕ → ℕ → ℕ × ℕ → List ℕ → ℕ × ℕ → Type 0
Lies m place row p x q = (x ≡ name_in (decode m) place row) × (q ≡ behind p (start_in strings_start (decode m) place row))

module _ (m : List ℕ) (i : ℕ) (kind : Kind) (e : kind ≡ (entry_at m i).kind) (p : ℕ × ℕ) where
  pub has_name : has_full_name kind ≡ true → {x : List ℕ} {r : ℕ × ℕ} → (x ≡ text_at m i) × (r ≡ behind p (text_place m i)) → (x ≡ row_name m i) × (r ≡ behind p (row_name_start m i))
  unfolding row_name row_name_start
  has_name h g = rw (← e, h) g

  pub no_name : has_full_name kind ≡ false → ([] ≡ row_name m i) × (behind p 0 ≡ behind p (row_name_start m i))
  unfolding row_name row_name_start
  no_name h = rw (← e, h) (refl, refl)

module _ (m : List ℕ) (w : well_formed m ≡ true) (place n : ℕ) (e : n ≡ count_in m) (l : place < n) where
  pub rows_asks : (length m ≡ layout_length) × (place < declaration_limit)
  rows_asks = (is_long m w, omega (arith, is_count m w, (is_good m w).few))

  pub before_asks : (length m ≡ layout_length) × (place ≤ declaration_limit)
  before_asks = (is_long m w, omega (arith, rows_asks.1))

module _ (m : List ℕ) (w : well_formed m ≡ true) (place row : ℕ) (n : ℕ) (e : n ≡ count_in m) where
  lies : (p : ℕ × ℕ) {x : List ℕ} {at : ℕ} → x ≡ name_in (decode m) place row → at ≡ start_in strings_start (decode m) place row → Lies m place row p x (behind p at)
  lies p e f = (e, ap (behind p) f)

  pub none_place : (p : ℕ × ℕ) → n ≤ place → Lies m place row p [] (behind p 0)
  none_place p h = lies p (sym (name_past (decode m) place row (omega (arith, is_count m w)))) (sym (start_past (decode m) strings_start place row (omega (arith, is_count m w))))

  module _ (l : place < n) where
    here : Place m (decode m) place
    here = place_of m w place (omega (arith, is_count m w))

    name_among_lem : name_in (decode m) place row ≡ name_among here.rows row
    name_among_lem = name_there (decode m) place row here.rows (drop (place + 1) (decode m)) here.first

    start_among_lem : start_in strings_start (decode m) place row ≡ start_among (strings_start + length (texts (flat (take place (decode m))))) here.rows row
    start_among_lem = start_there (decode m) strings_start place row here.rows (drop (place + 1) (decode m)) here.first

    module _ (k : ℕ) (g : k ≡ size_at m place) where
      size_is : k ≡ length here.rows
      size_is = g ∙ here.size

      pub none_row : (p : ℕ × ℕ) → k ≤ row → Lies m place row p [] (behind p 0)
      none_row p h = lies p (sym (name_among_lem ∙ among_past here.rows row (omega (arith, size_is)))) (sym (start_among_lem ∙ start_among_past here.rows _ row (omega (arith, size_is))))

      module _ (h : row < k) (s : ℕ) (q : s ≡ rows_before m place) where
        start_is : s ≡ length (flat (take place (decode m)))
        start_is = q ∙ is_before m w place (omega (arith, is_count m w))

        pub row_asks : (length m ≡ layout_length) × (s + row < row_limit)
        row_asks = (is_long m w, omega (arith, start_is, size_is, here.room))

        name_is : name_in (decode m) place row ≡ cond (has_full_name (entry_at m (s + row)).kind) (text_at m (s + row)) []
        name_is =
            name_among_lem ∙ ap (λ (x : List Row). name_among x row) (sym (ap₂ (rows_from m) size_is start_is ∙ here.lie)) ∙ among_memory m k s row h

        start_is_place : start_in strings_start (decode m) place row ≡ cond (has_full_name (entry_at m (s + row)).kind) (text_place m (s + row)) 0
        start_is_place =
            let r : rows_from m k s ≡ here.rows = ap₂ (rows_from m) size_is start_is ∙ here.lie in
            let z = rows_split (decode m) place row here.rows (drop (place + 1) (decode m)) here.first (omega (arith, size_is)) in
            let at : ℕ = strings_start + length (texts (flat (take place (decode m)))) in
            let e : text_place m (s + row) ≡ strings_start + length (texts (take (s + row) (flat (decode m))))
            = ap (λ (x : List ℕ). text_place x (s + row)) (is_encoded m w) ∙ place_encode (decode m) (is_within m w) (s + row) (omega (arith, z.0, start_is)) in
            let f : length (texts (take (s + row) (flat (decode m)))) ≡ length (texts (flat (take place (decode m)))) + length (texts (take row here.rows))
            = ap (λ (x : ℕ). length (texts (take (x + row) (flat (decode m))))) start_is ∙ z.1 in
            let h' : at + length (texts (take row (rows_from m k s))) ≡ text_place m (s + row) = ap (λ (x : List Row). at + length (texts (take row x))) r ∙ omega (arith, e, f) in
            start_among_lem ∙ ap (λ (x : List Row). start_among at x row) (sym r) ∙ start_memory m k s row at h ∙ ap (λ (x : ℕ). cond (has_full_name (entry_at m (s + row)).kind) x 0) h'

        pub is_name_lem : (p : ℕ × ℕ) {x : List ℕ} {r : ℕ × ℕ} → (x ≡ row_name m (s + row)) × (r ≡ behind p (row_name_start m (s + row))) → Lies m place row p x r
        unfolding row_name row_name_start
        is_name_lem p g = (g.0 ∙ sym name_is, g.1 ∙ ap (behind p) (sym start_is_place))

-- ---- its part of memory has its bytes

take_most : (n : ℕ) (s : List ℕ) → take (length (take n s)) s ≡ take n s
take_most n s = elim (dec_le n (length s)) [ yes h ↦ rw (length-take-le n s h) | no h ↦ let e : take n s ≡ s = take_all n s (omega arith) in rw e (take_all (length s) s (omega arith)) ]

cut_again : (s : List ℕ) (a b n : ℕ) → part s (a + min b (length s - a)) (length (part (drop a s) b n)) ≡ part (drop a s) b n
unfolding part
cut_again s a b n = elim (dec_le b (length s - a)) [ yes h ↦ inside h | no h ↦ outside (omega arith) ]
  where
    inside : b ≤ length s - a → take (length (take n (drop b (drop a s)))) (drop (a + min b (length s - a)) s) ≡ take n (drop b (drop a s))
    inside h = let e : min b (length s - a) ≡ b = omega arith in rw (e, ← drop-drop b a s) (take_most n (drop b (drop a s)))

    outside : length s - a ≤ b → take (length (take n (drop b (drop a s)))) (drop (a + min b (length s - a)) s) ≡ take n (drop b (drop a s))
    outside h = let e : drop b (drop a s) ≡ [] = drop_of_length-le (drop a s) {i = b} (omega (arith, length-drop a s)) in rw (e, take-nil n)

text_part : (m : List ℕ) (i : ℕ) → length m ≡ layout_length → part m (text_place m i) (length (text_at m i)) ≡ text_at m i
unfolding text_place text_at text_of
text_part m i l = let e : string_limit ≡ length m - strings_start = omega arith in rw e (cut_again m strings_start _ _)

none_part : (m : List ℕ) (at : ℕ) {x : List ℕ} → [] ≡ x → part m at (length x) ≡ x
unfolding part
none_part m at e = rw (← e)

module _ (m : List ℕ) (w : well_formed m ≡ true) (place row : ℕ) where
  named_part : part m (start_in strings_start (decode m) place row) (length (name_in (decode m) place row)) ≡ name_in (decode m) place row
  named_part = elim (dec_lt place (count_in m)) [ yes l ↦ there l | no h ↦ none_part m _ (none_place m w place row _ refl (0, 0) (omega arith)).0 ]
    where
      there : place < count_in m → part m (start_in strings_start (decode m) place row) (length (name_in (decode m) place row)) ≡ name_in (decode m) place row
      there l = elim (dec_lt row (size_at m place)) [ yes h ↦ go (has_full_name (entry_at m (rows_before m place + row)).kind) (name_is m w place row _ refl l _ refl h _ refl) (start_is_place m w place row _ refl l _ refl h _ refl) | no h ↦ none_part m _ (none_row m w place row _ refl l _ refl (0, 0) (omega arith)).0 ]
        where
          go : (b : Bool) → name_in (decode m) place row ≡ cond b (text_at m (rows_before m place + row)) [] → start_in strings_start (decode m) place row ≡ cond b (text_place m (rows_before m place + row)) 0
              → part m (start_in strings_start (decode m) place row) (length (name_in (decode m) place row)) ≡ name_in (decode m) place row
          go true e f = rw (e, f) (text_part m (rows_before m place + row) (is_long m w))
          go false e f = none_part m _ (sym e)

pub full_part : (m : List ℕ) (place row : ℕ) → part m (full_name_start m place row) (length (full_name_in m place row)) ≡ full_name_in m place row
unfolding full_name_in full_name_start
full_part m place row = go (well_formed m) refl
  where
    go : (b : Bool) → well_formed m ≡ b → part m (cond b (start_in strings_start (decode m) place row) 0) (length (cond b (name_in (decode m) place row) [])) ≡ cond b (name_in (decode m) place row) []
    go true w = named_part m w place row
    go false w = none_part m 0 refl

-- ---- full_name, naming_of

module _ (m : List ℕ) (place row : ℕ) where
  pub full_name_lem : (p : ℕ × ℕ) → well_formed m ≡ true → {x : List ℕ} {q : ℕ × ℕ} → Lies m place row p x q → (x ≡ full_name_in m place row) × (q ≡ behind p (full_name_start m place row))
  unfolding full_name_in full_name_start
  full_name_lem p w e = rw w e

  pub full_none : (p : ℕ × ℕ) → well_formed m ≡ false → ([] ≡ full_name_in m place row) × (behind p 0 ≡ behind p (full_name_start m place row))
  unfolding full_name_in full_name_start
  full_none p w = rw w (refl, refl)

  pub naming_not : well_formed m ≡ false → {r : Answer ℕ} → r ≡ refused_name NotWellFormed place → numbers_of_naming r ≡ naming_of m place row
  unfolding naming_of
  naming_not w g = rw w (ap numbers_of_naming g)

  module _ (w : well_formed m ≡ true) (x : List ℕ) (e : x ≡ name_in (decode m) place row) where
    pub naming_none : eqb (length x) 0 ≡ true → {r : Answer ℕ} → r ≡ refused_name NoSuchPlace place → numbers_of_naming r ≡ naming_of m place row
    unfolding naming_of
    naming_none h g = rw (w, ← e, ← no_bytes x, h) (ap numbers_of_naming g)

    pub naming_done : eqb (length x) 0 ≡ false → numbers_of_naming (Ok (length x)) ≡ naming_of m place row
    unfolding naming_of
    naming_done h = rw (w, ← e, ← no_bytes x, h)

-- the numbers tell the answer
pub naming_one : (a b : Answer ℕ) → numbers_of_naming a ≡ numbers_of_naming b → a ≡ b
naming_one (Ok n) (Ok k) e = ap Ok (first e)
naming_one (Ok n) (Err s) e = absurd (never_both s _ _ _ (sym e))
naming_one (Err r) (Ok k) e = absurd (never_both r _ _ _ e)
naming_one (Err r) (Err s) e = ap Err (refusal_one r s e)
