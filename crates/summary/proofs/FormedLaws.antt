-- Well-formed memory: how many declarations and rows it has, and which rows stand from a place on.
-- Assumes nothing.
use mathlib.Core.Path.{◌≡◌, sym, ap, ◌∙◌}
use mathlib.Core.Bool.{true}
use mathlib.Core.List.{List, [], ◌∷◌, ◌++◌}
use Prim.Native.Nat.{ℕ, zero, suc, ◌+◌, ◌-◌, ◌<◌, ◌≤◌}
use native.Mathlib.Omega.{arith}
use lib.ListN.{length, take, drop, length-append, take-append-drop}
use lib.Seq.{take_all, drop_at}
use Rattle.ground.proofs.Laws.{never, and_true}
use Rattle.name.specs.Name.{every}
use Rattle.row.specs.Layout.{declaration_limit, row_limit, layout_length}
use Rattle.row.specs.Rows.{Row}
use Rattle.row.specs.Sets.{flat, encode, decode, count_in, rows_from, Within}
use Rattle.row.specs.Memory.{rows_before}
use Rattle.row.proofs.SetLaws.{flat_append}
use Rattle.row.proofs.Laws.{length_encode, count_encode, before_encode, rows_encode}
use Rattle.resolve.specs.Rules.{is_declaration}
use Rattle.formed.specs.WellFormed.{Good, well_formed}
use Rattle.formed.proofs.Laws.{exact, good_within}

some_rows : (rows : List Row) → is_declaration rows ≡ true → 1 ≤ length rows
unfolding is_declaration
some_rows [] e = never e
some_rows (r ∷ rows) e = omega arith

-- from a place on there is a row
some_left : (ds : List (List Row)) (place : ℕ) → every is_declaration ds ≡ true → place < length ds → 1 ≤ length (flat (drop place ds))
unfolding every flat
some_left [] place e l = absurd (omega arith)
some_left (d ∷ ds) zero e l = omega (arith, some_rows d (and_true (is_declaration d) (every is_declaration ds) e).0, length-append d (flat ds))
some_left (d ∷ ds) (suc place) e l = some_left ds place (and_true (is_declaration d) (every is_declaration ds) e).1 (omega arith)

module _ (m : List ℕ) (w : well_formed m ≡ true) where
  good : Good (decode m)
  good = (exact m w).1

  within : Within (decode m)
  within = good_within (decode m) good

  is : m ≡ encode (decode m)
  is = (exact m w).0

  pub formed_long : length m ≡ layout_length
  formed_long = ap length is ∙ length_encode (decode m) within

  pub formed_count : count_in m ≡ length (decode m)
  formed_count = ap count_in is ∙ count_encode (decode m) within

  before_is : (k : ℕ) → k ≤ length (decode m) → rows_before m k ≡ length (flat (take k (decode m)))
  before_is k h = ap (λ (x : List ℕ). rows_before x k) is ∙ before_encode (decode m) within k h

  rows_are : (n i : ℕ) → i + n ≤ length (flat (decode m)) → rows_from m n i ≡ take n (drop i (flat (decode m)))
  rows_are n i h = ap (λ (x : List ℕ). rows_from x n i) is ∙ rows_encode (decode m) within n i h

  module _ (count : ℕ) (c : count ≡ count_in m) where
    pub formed_few : count ≤ declaration_limit
    formed_few = omega (arith, formed_count, good.few)

    module _ (n : ℕ) (p : n ≡ rows_before m count) where
      all_rows : n ≡ length (flat (decode m))
      all_rows =
          let k : count ≡ length (decode m) = c ∙ formed_count in
          p ∙ ap (rows_before m) k ∙ before_is (length (decode m)) (omega arith)
          ∙ ap (λ (x : List (List Row)). length (flat x)) (take_all (length (decode m)) (decode m) (omega arith))

      pub formed_rows : n ≤ row_limit
      formed_rows = omega (arith, all_rows, good.rows)

      -- the rows of the whole set
      pub formed_all : rows_from m n 0 ≡ flat (decode m)
      formed_all = rows_are n 0 (omega (arith, all_rows)) ∙ take_all n (flat (decode m)) (omega (arith, all_rows))

      module _ (place : ℕ) (l : place < length (decode m)) where
        pub place_few : place ≤ declaration_limit
        place_few = omega (arith, good.few)

        module _ (start : ℕ) (q : start ≡ rows_before m place) where
          split : flat (decode m) ≡ flat (take place (decode m)) ++ flat (drop place (decode m))
          split = ap flat (sym (take-append-drop place (decode m))) ∙ flat_append (take place (decode m)) (drop place (decode m))

          begins : length (flat (take place (decode m))) ≡ start
          begins = sym (q ∙ before_is place (omega arith))

          left : n ≡ start + length (flat (drop place (decode m)))
          left =
              let e = ap length split ∙ length-append (flat (take place (decode m))) (flat (drop place (decode m))) in
              omega (arith, all_rows, begins, e)

          pub place_start : start < n
          place_start = omega (arith, left, some_left (decode m) place good.declarations l)

          -- and from the place on
          pub place_type : rows_from m (n - start) start ≡ flat (drop place (decode m))
          place_type =
              rows_are (n - start) start (omega (arith, left, all_rows))
              ∙ ap (λ (x : List Row). take (n - start) (drop start x)) split
              ∙ ap (take (n - start)) (drop_at (flat (take place (decode m))) (flat (drop place (decode m))) start begins)
              ∙ take_all (n - start) (flat (drop place (decode m))) (omega (arith, left))
