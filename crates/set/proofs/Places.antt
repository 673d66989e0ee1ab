-- Well-formed memory, place by place.
-- Assumes nothing.
use mathlib.Core.Path.{◌≡◌, sym, ap, subst, ◌∙◌}
use mathlib.Core.Bool.{true}
use mathlib.Core.List.{List, [], ◌∷◌, ◌++◌, append-nil}
use Prim.Native.Nat.{ℕ, suc, ◌+◌, ◌<◌, ◌≤◌}
use native.Mathlib.Omega.{arith}
use lib.ListN.{length, take, drop, get_or, length-append}
use lib.Seq.{take_all, split_at, take-append_seam, take-append-add, drop-append_seam, drop-append-add, length-take-le}
use Rattle.ground.proofs.Laws.{and_true}
use Rattle.name.specs.Name.{every}
use Rattle.row.specs.Layout.{declaration_limit, row_limit, string_limit, layout_length}
use Rattle.row.specs.Rows.{Row, texts}
use Rattle.row.specs.Sets.{flat, encode, decode, count_in, rows_from, Within}
use Rattle.row.specs.Memory.{size_at, rows_before, strings_before, counts_in, set_counts}
use Rattle.row.proofs.RowLaws.{texts_append}
use Rattle.row.proofs.SetLaws.{flat_append}
use Rattle.row.proofs.Laws.{length_encode, count_encode, before_encode, counts_encode, rows_encode, strings_encode, size_encode, declaration_encode}
use Rattle.resolve.specs.Rules.{is_declaration}
use Rattle.formed.specs.WellFormed.{Good, well_formed}
use Rattle.resolve.proofs.Laws.{every_append}
use Rattle.formed.proofs.Laws.{exact, good_within}

-- the declaration at a place: how many rows and string bytes it has, and where they lie
pub record Place (m : List ℕ) (ds : List (List Row)) (i : ℕ) : Type 0 where
  pub rows : List Row
  pub last : take (i + 1) ds ≡ take i ds ++ (rows ∷ [])
  pub first : drop i ds ≡ rows ∷ drop (i + 1) ds
  pub size : size_at m i ≡ length rows
  pub lie : rows_from m (length rows) (length (flat (take i ds))) ≡ rows
  pub room : length (flat (take i ds)) + length rows ≤ row_limit
  pub ends : length (flat (take (i + 1) ds)) ≡ length (flat (take i ds)) + length rows
  pub bytes : strings_before m (length (flat (take i ds)) + length rows) ≡ strings_before m (length (flat (take i ds))) + length (texts rows)
  pub few : length (texts rows) ≤ string_limit
  pub kept : is_declaration rows ≡ true

-- ---- a set in its middle

module _ (a : List (List Row)) (d : List Row) (b : List (List Row)) (w : Within (a ++ (d ∷ b))) where
  before : take (length a) (a ++ (d ∷ b)) ≡ a
  before = take-append_seam a (d ∷ b)

  behind : drop (length a + 1) (a ++ (d ∷ b)) ≡ b
  behind = drop-append-add a (d ∷ b) 1

  middle : flat (a ++ (d ∷ b)) ≡ flat a ++ (d ++ flat b)
  unfolding flat
  middle = flat_append a (d ∷ b)

  count_middle : length (flat (a ++ (d ∷ b))) ≡ length (flat a) + (length d + length (flat b))
  count_middle = ap length middle ∙ length-append (flat a) (d ++ flat b) ∙ ap (λ (x : ℕ). length (flat a) + x) (length-append d (flat b))

  first_rows : take (length (flat a)) (flat (a ++ (d ∷ b))) ≡ flat a
  first_rows = ap (take (length (flat a))) middle ∙ take-append_seam (flat a) (d ++ flat b)

  more_rows : take (length (flat a) + length d) (flat (a ++ (d ∷ b))) ≡ flat a ++ d
  more_rows = ap (take (length (flat a) + length d)) middle ∙ take-append-add (flat a) (d ++ flat b) (length d) ∙ ap (λ (x : List Row). flat a ++ x) (take-append_seam d (flat b))

  last_middle : take (length a + 1) (a ++ (d ∷ b)) ≡ a ++ (d ∷ [])
  last_middle = take-append-add a (d ∷ b) 1

  ends_middle : length (flat (take (length a + 1) (a ++ (d ∷ b)))) ≡ length (flat a) + length d
  unfolding flat
  ends_middle =
      ap (λ (x : List (List Row)). length (flat x)) last_middle ∙ ap length (flat_append a (d ∷ []) ∙ ap (λ (x : List Row). flat a ++ x) (append-nil d)) ∙ length-append (flat a) d

  texts_middle : length (texts (flat (a ++ (d ∷ b)))) ≡ length (texts (flat a)) + (length (texts d) + length (texts (flat b)))
  texts_middle =
      ap (λ (x : List Row). length (texts x)) middle ∙ ap length (texts_append (flat a) (d ++ flat b) ∙ ap (λ (x : List ℕ). texts (flat a) ++ x) (texts_append d (flat b)))
      ∙ length-append (texts (flat a)) (texts d ++ texts (flat b)) ∙ ap (λ (x : ℕ). length (texts (flat a)) + x) (length-append (texts d) (texts (flat b)))

  bytes_middle : strings_before (encode (a ++ (d ∷ b))) (length (flat a) + length d) ≡ strings_before (encode (a ++ (d ∷ b))) (length (flat a)) + length (texts d)
  bytes_middle =
      strings_encode (a ++ (d ∷ b)) w (length (flat a) + length d) (omega (arith, count_middle))
      ∙ ap (λ (x : List Row). length (texts x)) more_rows ∙ ap length (texts_append (flat a) d) ∙ length-append (texts (flat a)) (texts d)
      ∙ ap (λ (x : ℕ). x + length (texts d)) (sym (strings_encode (a ++ (d ∷ b)) w (length (flat a)) (omega (arith, count_middle)) ∙ ap (λ (x : List Row). length (texts x)) first_rows))

  middle_place : every is_declaration (a ++ (d ∷ b)) ≡ true → Place (encode (a ++ (d ∷ b))) (a ++ (d ∷ b)) (length a)
  unfolding every
  middle_place g =
      let k = and_true (every is_declaration a) _ (sym (every_append is_declaration a (d ∷ b)) ∙ g) in
      record {
        rows = d;
        last = last_middle ∙ ap (λ (x : List (List Row)). x ++ (d ∷ [])) (sym before);
        first = drop-append_seam a (d ∷ b) ∙ ap (λ (x : List (List Row)). d ∷ x) (sym behind);
        size = size_encode a d b w;
        lie = rw before (declaration_encode a d b w);
        room = rw before (omega (arith, count_middle, w.rows));
        ends = rw before ends_middle;
        bytes = rw before bytes_middle;
        few = omega (arith, texts_middle, w.strings);
        kept = (and_true (is_declaration d) _ k.1).0;
      }

-- ---- well-formed memory

module _ (m : List ℕ) (w : well_formed m ≡ true) where
  pub is_encoded : m ≡ encode (decode m)
  is_encoded = (exact m w).0

  pub is_good : Good (decode m)
  is_good = (exact m w).1

  pub is_within : Within (decode m)
  is_within = good_within (decode m) is_good

  pub is_long : length m ≡ layout_length
  is_long = ap length is_encoded ∙ length_encode (decode m) is_within

  pub is_count : count_in m ≡ length (decode m)
  is_count = ap count_in is_encoded ∙ count_encode (decode m) is_within

  pub is_counts : counts_in m ≡ set_counts (decode m)
  is_counts = ap counts_in is_encoded ∙ counts_encode (decode m) is_within

  pub is_before : (i : ℕ) → i ≤ length (decode m) → rows_before m i ≡ length (flat (take i (decode m)))
  is_before i h = ap (λ (x : List ℕ). rows_before x i) is_encoded ∙ before_encode (decode m) is_within i h

  pub is_rows : rows_from m (length (flat (decode m))) 0 ≡ flat (decode m)
  is_rows = ap (λ (x : List ℕ). rows_from x (length (flat (decode m))) 0) is_encoded ∙ rows_encode (decode m) is_within (length (flat (decode m))) 0 (omega arith) ∙ take_all (length (flat (decode m))) (flat (decode m)) (omega arith)

  -- what `counts` asks
  pub counts_asks : (length m ≡ layout_length) × (count_in m ≤ declaration_limit) × (rows_before m (count_in m) ≤ row_limit)
  counts_asks =
      let n : rows_before m (count_in m) ≡ length (flat (decode m))
      = ap (rows_before m) is_count ∙ is_before (length (decode m)) (omega arith) ∙ ap (λ (x : List (List Row)). length (flat x)) (take_all (length (decode m)) (decode m) (omega arith)) in
      (is_long, omega (arith, is_count, is_good.few), omega (arith, n, is_good.rows))

  pub place_of : (i : ℕ) → i < length (decode m) → Place m (decode m) i
  place_of i h =
      let a : List (List Row) = take i (decode m) in
      let d : List Row = get_or (decode m) i [] in
      let b : List (List Row) = drop (suc i) (decode m) in
      let e : decode m ≡ a ++ (d ∷ b) = split_at (decode m) i [] h in
      let n : length a ≡ i = length-take-le i (decode m) (omega arith) in
      go a d b n e
    where
      go : (a : List (List Row)) (d : List Row) (b : List (List Row)) → length a ≡ i → decode m ≡ a ++ (d ∷ b) → Place m (decode m) i
      go a d b n e =
          let p : m ≡ encode (a ++ (d ∷ b)) = is_encoded ∙ ap encode e in
          let x : Place (encode (a ++ (d ∷ b))) (a ++ (d ∷ b)) (length a) = middle_place a d b (subst Within e is_within) (ap (every is_declaration) (sym e) ∙ is_good.declarations) in
          subst (λ (k : ℕ). Place m (decode m) k) n (subst (λ (y : List ℕ). Place y (decode m) (length a)) (sym p) (subst (λ (y : List (List Row)). Place (encode (a ++ (d ∷ b))) y (length a)) (sym e) x))
