-- The declarations that memory holds, one after the other, and the tests of well-formedness.
-- Assumes nothing.
use mathlib.Core.Path.{◌≡◌, refl, sym, ap, ap₂, ◌∙◌}
use mathlib.Core.Bool.{Bool, true, false, ◌&&◌, ◌||◌}
use mathlib.Core.List.{List, [], ◌∷◌, ◌++◌}
use Prim.Native.Nat.{ℕ, zero, suc, ◌+◌, ◌-◌, ◌*◌, ◌<◌, ◌≤◌}
use native.Mathlib.Nat.{sub-zero, zero-add}
use native.Mathlib.Omega.{arith}
use lib.ListN.{length, take, drop}
use lib.Seq.{drop-drop, take_at, drop_at, take_all}
use Rattle.ground.specs.Bytes.{part}
use Rattle.ground.proofs.Laws.{never}
use Rattle.name.specs.Name.{every}
use Rattle.row.specs.Layout.{declaration_limit, row_limit, layout_length}
use Rattle.row.specs.Rows.{Row}
use Rattle.row.specs.Sets.{flat, sum, encode, words_of, count_in, sizes_in, rows_from, split, decode, Within, is_encoding}
use Rattle.row.specs.Memory.{size_at, rows_before}
use Rattle.row.proofs.Laws.{length_encode, count_encode, before_encode, encoding_true}
use Rattle.resolve.specs.Rules.{some, is_declaration}
use Rattle.resolve.specs.Resolve.{Resolution, fault_in, is_resolved, resolves}
use Rattle.formed.specs.WellFormed.{defaults_fit, keeps_rules, well_formed}
use Rattle.fits.specs.Types.{has_default}
use Rattle.fits.specs.Misfits.{misfit_in}
use Rattle.fits.proofs.MisfitLaws.{none_fit}
use Rattle.resolve.proofs.ResolveLaws.{some_append}
use Rattle.resolve.proofs.MemoryLaws.{rows_none, rows_add, length_rows}

-- ---- k places from p on, whose rows start at s

-- how many rows they have
pub rows_left : List ℕ → ℕ → ℕ → ℕ
rows_left m p k = sum (words_of k (drop (2 + 2 * p) m))

-- their declarations
pub left : List ℕ → ℕ → ℕ → ℕ → List (List Row)
left m p k s = split (words_of k (drop (2 + 2 * p) m)) (rows_from m (rows_left m p k) s)

words_next : (m : List ℕ) (p k : ℕ) → words_of (suc k) (drop (2 + 2 * p) m) ≡ size_at m p ∷ words_of k (drop (2 + 2 * (p + 1)) m)
unfolding words_of size_at part
words_next m p k =
    let e : 2 + 2 * p + 2 ≡ 2 + 2 * (p + 1) = omega arith in
    ap (λ (l : List ℕ). size_at m p ∷ words_of k l) (drop-drop 2 (2 + 2 * p) m ∙ ap (λ (i : ℕ). drop i m) e)

rows_left_next : (m : List ℕ) (p k : ℕ) → rows_left m p (suc k) ≡ size_at m p + rows_left m (p + 1) k
unfolding rows_left sum
rows_left_next m p k = rw (words_next m p k)

left_next : (m : List ℕ) (p k s : ℕ) → left m p (suc k) s ≡ rows_from m (size_at m p) s ∷ left m (p + 1) k (s + size_at m p)
unfolding left split
left_next m p k s =
    let n : ℕ = size_at m p in
    let a : List Row = rows_from m n s in
    let b : List Row = rows_from m (rows_left m (p + 1) k) (s + n) in
    let e : rows_from m (rows_left m p (suc k)) s ≡ a ++ b = ap (λ (i : ℕ). rows_from m i s) (rows_left_next m p k) ∙ rows_add m n (rows_left m (p + 1) k) s in
    rw (words_next m p k, e, take_at a b n (length_rows m n s), drop_at a b n (length_rows m n s))

flat_left : (m : List ℕ) (k p s : ℕ) → flat (left m p k s) ≡ rows_from m (rows_left m p k) s
unfolding flat left split words_of sum rows_left
flat_left m zero p s = sym (rows_none m s)
flat_left m (suc k) p s = flat_more m k p s (flat_left m k (p + 1) (s + size_at m p))
  where
    flat_more : (m : List ℕ) (k p s : ℕ) → flat (left m (p + 1) k (s + size_at m p)) ≡ rows_from m (rows_left m (p + 1) k) (s + size_at m p) → flat (left m p (suc k) s) ≡ rows_from m (rows_left m p (suc k)) s
    flat_more m k p s h =
        ap flat (left_next m p k s)
        ∙ ap (λ (x : List Row). rows_from m (size_at m p) s ++ x) h
        ∙ sym (ap (λ (i : ℕ). rows_from m i s) (rows_left_next m p k) ∙ rows_add m (size_at m p) (rows_left m (p + 1) k) s)

decode_left : (m : List ℕ) → decode m ≡ left m 0 (count_in m) 0
unfolding decode left rows_left sizes_in
decode_left m = refl

before_left : (m : List ℕ) (n : ℕ) → rows_before m n ≡ rows_left m 0 n
unfolding rows_before rows_left sizes_in
before_left m n = refl

-- ---- the turns of are_declarations and of defaults_fit: n places, p of them passed, whose rows end at s

pub places_start : (m : List ℕ) (n : ℕ) → n ≡ count_in m → rows_before m n ≤ row_limit
    → (0 + rows_left m 0 (n - 0) ≤ row_limit) × (every is_declaration (decode m) ≡ every is_declaration (left m 0 (n - 0) 0))
places_start m n e h = (rw (sub-zero, zero-add, ← before_left m n) h, rw (sub-zero, e) (ap (every is_declaration) (decode_left m)))

module _ (m : List ℕ) (n p s : ℕ) (l : p < n) (fit : s + rows_left m p (n - p) ≤ row_limit) (t : ℕ) (e : t ≡ size_at m p) where
  rest : rows_left m p (n - p) ≡ t + rows_left m (p + 1) (n - (p + 1))
  rest = let k : n - p ≡ suc (n - (p + 1)) = omega arith in rw (k, e) (rows_left_next m p (n - (p + 1)))

  pub places_room : s + t ≤ row_limit
  places_room = omega (arith, rest)

  pub places_fit : s + t + rows_left m (p + 1) (n - (p + 1)) ≤ row_limit
  places_fit = omega (arith, rest)

  first_left : left m p (n - p) s ≡ rows_from m t s ∷ left m (p + 1) (n - (p + 1)) (s + t)
  first_left = let k : n - p ≡ suc (n - (p + 1)) = omega arith in rw (k, e) (left_next m p (n - (p + 1)) s)

  module _ (x : Bool) (inv : x ≡ every is_declaration (left m p (n - p) s)) where
    first : every is_declaration (left m p (n - p) s) ≡ (is_declaration (rows_from m t s) && every is_declaration (left m (p + 1) (n - (p + 1)) (s + t)))
    unfolding every
    first = rw first_left

    pub places_bad : is_declaration (rows_from m t s) ≡ false → false ≡ x
    places_bad h = sym (inv ∙ first ∙ rw h)

    pub places_more : is_declaration (rows_from m t s) ≡ true → x ≡ every is_declaration (left m (p + 1) (n - (p + 1)) (s + t))
    places_more h = inv ∙ first ∙ rw h

pub places_end : (m : List ℕ) (n p s : ℕ) (x : Bool) → n ≤ p → x ≡ every is_declaration (left m p (n - p) s) → true ≡ x
unfolding every left words_of split
places_end m n p s x l inv = let k : n - p ≡ 0 = omega arith in sym (inv ∙ rw k)

pub fitting_start : (m : List ℕ) (n : ℕ) → n ≡ count_in m → defaults_fit [] (decode m) ≡ defaults_fit (rows_from m 0 0) (left m 0 (n - 0) 0)
fitting_start m n e = rw (sub-zero, e, rows_none) (ap (defaults_fit []) (decode_left m))

module _ (m : List ℕ) (n p s : ℕ) (l : p < n) (fit : s + rows_left m p (n - p) ≤ row_limit) (t : ℕ) (e : t ≡ size_at m p) where
  module _ (x : Bool) (inv : x ≡ defaults_fit (rows_from m s 0) (left m p (n - p) s)) (r : Resolution) (f : r ≡ misfit_in (rows_from m (s + t) 0) (rows_from m t s)) where
    first_fits : x ≡ (is_resolved r && defaults_fit (rows_from m (s + t) 0) (left m (p + 1) (n - (p + 1)) (s + t)))
    unfolding defaults_fit
    first_fits =
        let a : rows_from m s 0 ++ rows_from m t s ≡ rows_from m (s + t) 0 = sym (rows_add m s t 0 ∙ rw zero-add) in
        inv ∙ rw (first_left m n p s l fit t e, a, f)

    pub fitting_bad : is_resolved r ≡ false → false ≡ x
    fitting_bad h = sym (first_fits ∙ rw h)

    pub fitting_more : is_resolved r ≡ true → x ≡ defaults_fit (rows_from m (s + t) 0) (left m (p + 1) (n - (p + 1)) (s + t))
    fitting_more h = first_fits ∙ rw h

pub fitting_end : (m : List ℕ) (n p s : ℕ) (x : Bool) → n ≤ p → x ≡ defaults_fit (rows_from m s 0) (left m p (n - p) s) → true ≡ x
unfolding defaults_fit left words_of split
fitting_end m n p s x l inv = let k : n - p ≡ 0 = omega arith in sym (inv ∙ rw k)

-- no row has a default, so all fit
none_fitting : (earlier : List Row) (ds : List (List Row)) → some has_default (flat ds) ≡ false → defaults_fit earlier ds ≡ true
unfolding defaults_fit flat
none_fitting earlier [] h = refl
none_fitting earlier (d ∷ ds) h = go (some has_default d) refl (sym (some_append has_default d (flat ds)) ∙ h) (none_fitting (earlier ++ d) ds)
  where
    go : (b : Bool) → some has_default d ≡ b → (b || some has_default (flat ds)) ≡ false → (some has_default (flat ds) ≡ false → defaults_fit (earlier ++ d) ds ≡ true)
        → (is_resolved (misfit_in (earlier ++ d) d) && defaults_fit (earlier ++ d) ds) ≡ true
    go true e h k = never (sym h)
    go false e h k = rw (none_fit (earlier ++ d) d e) (k h)

rows_of_all : (m : List ℕ) (n : ℕ) → n ≡ count_in m → (t : ℕ) → t ≡ rows_before m n → flat (decode m) ≡ rows_from m t 0
rows_of_all m n c t g = ap flat (decode_left m) ∙ flat_left m (count_in m) 0 0 ∙ ap (λ (i : ℕ). rows_from m i 0) (sym (before_left m (count_in m)) ∙ ap (rows_before m) (sym c) ∙ sym g)

pub fitting_none : (m : List ℕ) (n : ℕ) → n ≡ count_in m → (t : ℕ) → t ≡ rows_before m n → some has_default (rows_from m t 0) ≡ false → true ≡ defaults_fit [] (decode m)
fitting_none m n c t g h = sym (none_fitting [] (decode m) (ap (some has_default) (rows_of_all m n c t g) ∙ h))

-- ---- the tests of well_formed

pub resolved_start : (m : List ℕ) (n : ℕ) (r : Resolution) → r ≡ fault_in (rows_from m 0 0) (rows_from m n 0) → is_resolved r ≡ is_resolved (fault_in [] (rows_from m n 0))
resolved_start m n r e = ap is_resolved (rw rows_none at e)

module _ (m : List ℕ) where
  pub formed_not : is_encoding m ≡ false → false ≡ well_formed m
  unfolding well_formed
  formed_not e = rw e

  module _ (e : is_encoding m ≡ true) where
    is : m ≡ encode (decode m)
    is = (encoding_true m e).0

    within : Within (decode m)
    within = (encoding_true m e).1

    pub formed_long : length m ≡ layout_length
    formed_long = ap length is ∙ length_encode (decode m) within

    count_is : count_in m ≡ length (decode m)
    count_is = ap count_in is ∙ count_encode (decode m) within

    module _ (n : ℕ) (c : n ≡ count_in m) where
      pub formed_few : n ≤ declaration_limit
      formed_few = omega (arith, count_is, within.declarations)

      pub formed_fit : rows_before m n ≤ row_limit
      formed_fit =
          let k : n ≡ length (decode m) = c ∙ count_is in
          let a : rows_before m n ≡ rows_before (encode (decode m)) (length (decode m)) = ap₂ rows_before is k in
          let b = before_encode (decode m) within (length (decode m)) (omega arith) in
          let d : length (flat (take (length (decode m)) (decode m))) ≡ length (flat (decode m)) = ap (λ (x : List (List Row)). length (flat x)) (take_all (length (decode m)) (decode m) (omega arith)) in
          omega (arith, a, b, d, within.rows)

      pub formed_asks : (length m ≡ layout_length) × (n ≡ count_in m) × (n ≤ declaration_limit) × (rows_before m n ≤ row_limit)
      formed_asks = (formed_long, c, formed_few, formed_fit)

      pub formed_bad : every is_declaration (decode m) ≡ false → false ≡ well_formed m
      unfolding well_formed keeps_rules
      formed_bad h = rw (e, h)

      module _ (h : every is_declaration (decode m) ≡ true) (t : ℕ) (g : t ≡ rows_before m n) where
        all_rows : flat (decode m) ≡ rows_from m t 0
        all_rows = rows_of_all m n c t g

        pub formed_faulty : is_resolved (fault_in [] (rows_from m t 0)) ≡ false → false ≡ well_formed m
        unfolding well_formed keeps_rules resolves
        formed_faulty f = rw (e, h, all_rows, f)

        pub formed_last : is_resolved (fault_in [] (rows_from m t 0)) ≡ true → defaults_fit [] (decode m) ≡ well_formed m
        unfolding well_formed keeps_rules resolves
        formed_last f = rw (e, h, all_rows, f)
