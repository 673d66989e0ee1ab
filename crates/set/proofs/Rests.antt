-- The declarations before a place, copied, and those behind it, appended in turn.
-- Assumes nothing.
use Rattle.std.specs.Prelude.{Ok, Err}
use mathlib.Core.Path.{◌≡◌, refl, sym, ap, ap₂, ◌∙◌}
use mathlib.Core.Bool.{true}
use mathlib.Core.List.{List, [], ◌∷◌, ◌++◌}
use Prim.Native.Nat.{ℕ, ◌+◌, ◌-◌, ◌<◌, ◌≤◌}
use native.Mathlib.Omega.{arith}
use lib.ListN.{length, take, drop, length-take, length-replicate, drop_of_length-le}
use Rattle.answer.specs.declared.counts.Counts.{Counts}
use Rattle.answer.specs.declared.refusal.Refusal.{Refusal}
use Rattle.answer.specs.Limits.{no_counts}
use Rattle.row.specs.Layout.{declaration_limit, row_limit, layout_length}
use Rattle.row.specs.Rows.{Row, texts}
use Rattle.row.specs.Sets.{flat, zeros, encode, decode, count_in, rows_from, Within}
use Rattle.row.specs.Memory.{size_at, rows_before, strings_before, counts_in, set_counts}
use Rattle.row.proofs.Laws.{encode_none, length_encode}
use Rattle.formed.specs.WellFormed.{well_formed}
use Rattle.formed.proofs.Laws.{good_within, cut_good}
use Rattle.set.specs.Lists.{Result, next, append, append_all}
use Rattle.set.specs.Steps.{counted_more, pushed_more, Drafted, IsDraft, Ended}
use Rattle.set.proofs.Places.{Place, is_encoded, is_good, is_long, is_count, is_counts, is_before, place_of}
use Rattle.set.proofs.Appends.{push_encode, counted_encode, ended_no, ended_done, told_no}
use Rattle.set.proofs.Accepts.{Stepped, stepped}
use Rattle.answer.specs.Answers.{Answer}

-- ---- the declarations before a place: out holds the first i of m, and c counts them

pub record Copied (m : List ℕ) (i : ℕ) (out : List ℕ) (c : Counts) : Type 0 where
  pub bytes : out ≡ encode (take i (decode m))
  pub counts : c ≡ set_counts (take i (decode m))

pub copied_none : (m out : List ℕ) (c : Counts) → out ≡ zeros layout_length → c ≡ no_counts → Copied m 0 out c
unfolding set_counts flat texts
copied_none m out c e p = record { bytes = e ∙ sym encode_none; counts = p }

module _ (m : List ℕ) (w : well_formed m ≡ true) (i : ℕ) (l : i < count_in m) where
  here : Place m (decode m) i
  here = place_of m w i (omega (arith, is_count m w))

  pub place_few : i < declaration_limit
  place_few = omega (arith, is_count m w, (is_good m w).few)

  pub place_asks : (length m ≡ layout_length) × (i < declaration_limit)
  place_asks = (is_long m w, place_few)

  length_before : length (take i (decode m)) ≡ i
  length_before = length-take i (decode m) ∙ omega (arith, is_count m w)

  module _ (n : ℕ) (e : n ≡ size_at m i) where
    size_is : n ≡ length here.rows
    size_is = e ∙ here.size

    module _ (out : List ℕ) (c : Counts) (z : Copied m i out c) where
      start_is : c.rows ≡ length (flat (take i (decode m)))
      unfolding set_counts
      start_is = ap (λ (x : Counts). x.rows) z.counts

      pub copy_asks : (c.declarations < declaration_limit) × (length m ≡ layout_length) × (c.rows + n ≤ row_limit)
      unfolding set_counts
      copy_asks = (omega (arith, ap (λ (x : Counts). x.declarations) z.counts, length_before, place_few), is_long m w, omega (arith, start_is, size_is, here.room))

      rows_are : rows_from m n c.rows ≡ here.rows
      rows_are = ap₂ (rows_from m) size_is start_is ∙ here.lie

      more_within : Within (take i (decode m) ++ (here.rows ∷ []))
      more_within = rw (← here.last) (good_within (take (i + 1) (decode m)) (cut_good (decode m) (i + 1) (is_good m w)))

      pub copied_more : (out' : List ℕ) (c' : Counts) → c' ≡ counted_more c (rows_from m n c.rows) → out' ≡ pushed_more out c (rows_from m n c.rows) → Copied m (i + 1) out' c'
      copied_more out' c' p q = record {
        bytes = q ∙ ap (pushed_more out c) rows_are ∙ ap₂ (λ (x : List ℕ) (y : Counts). pushed_more x y here.rows) z.bytes z.counts ∙ push_encode (take i (decode m)) here.rows more_within ∙ ap encode (sym here.last);
        counts = p ∙ ap (counted_more c) rows_are ∙ ap (λ (y : Counts). counted_more y here.rows) z.counts ∙ counted_encode (take i (decode m)) here.rows more_within ∙ ap set_counts (sym here.last);
      }

pub copied_long : (m : List ℕ) → well_formed m ≡ true → (i : ℕ) (out₀ out : List ℕ) → out₀ ≡ zeros layout_length → {c : Counts} → Copied m i out c → length out ≡ length out₀
copied_long m w i out₀ out e z =
    ap length z.bytes ∙ length_encode (take i (decode m)) (good_within (take i (decode m)) (cut_good (decode m) i (is_good m w))) ∙ sym (ap length e ∙ length-replicate {A = ℕ} layout_length 0)

pub copied_all : (m : List ℕ) (place i : ℕ) → i ≤ place → place ≤ i → (out : List ℕ) (c : Counts) → Copied m i out c → out ≡ encode (take place (decode m))
copied_all m place i l h out c z = let e : i ≡ place = omega arith in z.bytes ∙ ap (λ (k : ℕ). encode (take k (decode m))) e

-- ---- the declarations from a place on: x is what becomes of all, out holds i of them, and start is the next one's first row

pub record Left (x : Result) (m out : List ℕ) (start i : ℕ) : Type 0 where
  pub well : well_formed out ≡ true
  pub count : count_in out ≡ i
  pub starts : start ≡ length (flat (take i (decode m)))
  pub left : x ≡ append_all (decode out) (drop i (decode m))

pub left_all : (m : List ℕ) → well_formed m ≡ true → (out : List ℕ) → well_formed out ≡ true → (start i : ℕ) → count_in out ≡ i → i ≤ count_in m → start ≡ rows_before m i
    → Left (append_all (decode out) (drop i (decode m))) m out start i
left_all m w out v start i e l p = record { well = v; count = e; starts = p ∙ is_before m w i (omega (arith, is_count m w)); left = refl }

pub places_asks : (m : List ℕ) → well_formed m ≡ true → (i : ℕ) → i ≤ count_in m → (length m ≡ layout_length) × (i ≤ declaration_limit)
places_asks m w i l = (is_long m w, omega (arith, is_count m w, (is_good m w).few))

module _ (m : List ℕ) (w : well_formed m ≡ true) (i : ℕ) (l : i < count_in m) (n : ℕ) (e : n ≡ size_at m i) (x : Result) (out : List ℕ) (start : ℕ) (z : Left x m out start i) where
  row_room : start + n ≤ row_limit
  row_room = omega (arith, z.starts, size_is m w i l n e, (here m w i l).room)

  pub end_asks : (length m ≡ layout_length) × (start + n ≤ row_limit)
  end_asks = (is_long m w, row_room)

  pub start_asks : (length m ≡ layout_length) × (start ≤ row_limit)
  start_asks = (is_long m w, omega (arith, row_room))

  module _ (b : ℕ) (p : b ≡ strings_before m (start + n)) (a : ℕ) (q : a ≡ strings_before m start) where
    bytes_are : b ≡ a + length (texts (here m w i l).rows)
    bytes_are =
        p ∙ ap₂ (λ (s k : ℕ). strings_before m (s + k)) z.starts (size_is m w i l n e) ∙ (here m w i l).bytes
        ∙ ap (λ (s : ℕ). strings_before m s + length (texts (here m w i l).rows)) (sym z.starts) ∙ ap (λ (s : ℕ). s + length (texts (here m w i l).rows)) (sym q)

    pub bytes_order : a ≤ b
    bytes_order = omega (arith, bytes_are)

    drafted : Drafted m start n (b - a) (here m w i l).rows
    drafted = record {
      counted = omega (arith, size_is m w i l n e, (here m w i l).room);
      strings = omega (arith, bytes_are, (here m w i l).few);
      kept = (here m w i l).kept;
      long = is_long m w;
      fits = λ h j. (row_room, ap₂ (rows_from m) (size_is m w i l n e) z.starts ∙ (here m w i l).lie);
    }

    pub rest_asks : (well_formed out ≡ true) × (count_in out < declaration_limit) × IsDraft m start n (b - a)
    rest_asks = (z.well, omega (arith, z.count, place_few m w i l), record { rows = (here m w i l).rows; drafted = drafted })

    module _ (out' : List ℕ) (r : Answer Counts) (did : (rows : List Row) → Drafted m start n (b - a) rows → Ended out' out' r (append (decode out) rows)) where
      was : Ended out' out' r (append (decode out) (here m w i l).rows)
      was = did (here m w i l).rows drafted

      turns : x ≡ next (append (decode out) (here m w i l).rows) (λ longer. append_all longer (drop (i + 1) (decode m)))
      unfolding append_all
      turns = z.left ∙ ap (append_all (decode out)) (here m w i l).first

      pub rest_refused : (s : Refusal) → r ≡ Err s → (o : List ℕ) → Ended o o (Err s) x
      rest_refused s g o = ended_no o s (turns ∙ rw (told_no (append (decode out) (here m w i l).rows) was.answer g))

      pub rest_more : (c : Counts) → r ≡ Ok c → Left x m out' (start + n) (i + 1)
      unfolding flat
      rest_more c g =
          let t : Stepped out (here m w i l).rows out' = stepped z.well (omega (arith, z.count, place_few m w i l)) (here m w i l).kept was g in
          record {
            well = t.well;
            count = t.more ∙ ap (λ (k : ℕ). k + 1) z.count;
            starts = omega (arith, z.starts, size_is m w i l n e, (here m w i l).ends);
            left = turns ∙ rw t.ok;
          }

pub rest_end : (m : List ℕ) → well_formed m ≡ true → (i : ℕ) → count_in m ≤ i → (x : Result) (out : List ℕ) (start : ℕ) → Left x m out start i → (c : Counts) → c ≡ counts_in out → Ended out out (Ok c) x
unfolding append_all
rest_end m w i l x out start z c e =
    let h : length (decode m) ≤ i = omega (arith, is_count m w) in
    ended_done out (decode out) (z.left ∙ rw (drop_of_length-le (decode m) h)) (e ∙ is_counts out z.well) (is_encoded out z.well)
