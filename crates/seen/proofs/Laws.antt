-- Laws of the table: what was entered is marked, and stays so.
-- Assumes nothing.
use mathlib.Core.Path.{◌≡◌, refl, sym, ap, ◌∙◌}
use mathlib.Core.Bool.{Bool, true, false, ◌||◌, or-false}
use mathlib.Core.List.{List, [], ◌∷◌, ◌++◌}
use Prim.Native.Nat.{ℕ, zero, suc, ◌+◌, ◌*◌, ◌/◌, ◌%◌, ◌<◌, ◌≤◌}
use native.Mathlib.Nat.{mul-le-mul, mul-lt-mul_of_pos_right, div-le_self}
use native.Mathlib.Omega.{arith}
use lib.Dec.{eqb}
use lib.ListN.{length, get_or, set, length-set}
use lib.Seq.{get_or-set_same, get_or-set_other}
use borrow.Author.Tests.{eqb-true, eqb-false, eq-eqb, ne_eqb}
use Rattle.ground.specs.Bytes.{same}
use Rattle.ground.proofs.Laws.{never, same_true}
use Rattle.name.specs.Name.{is_one_of}
use Rattle.name.proofs.Laws.{one_of_append}
use Rattle.view.specs.Marks.{mark_of}
use Rattle.std.specs.Prelude.{Option, Some, None}
use Rattle.seen.specs.Seen.{span, Sized, place_in, next_of, from, free_place, is_there, is_marked, put, entered, Holds}

pub place_product : (size x : ℕ) → 0 < size → x < span → x * size < span * size
place_product size x l h = mul-lt-mul_of_pos_right h l

pub place_below : (size x : ℕ) → 0 < size → x < span → place_in size x < size
unfolding place_in
place_below size x l h = let z = place_product size x l h in omega arith

pub next_fits : (size m : ℕ) → (m / 65536 % 4096 * 2 + 1) * (span / size) ≤ 8191 * span
next_fits size m =
    let a : m / 65536 % 4096 * 2 + 1 ≤ 8191 = omega arith in
    mul-le-mul a (div-le_self span size)

-- ---- one walk over the places of a mark that is not 0

module _ (t : List ℕ) (m : ℕ) where
  -- an empty place, of the table
  module _ (l : 0 < length t) (i : ℕ) where
    from_empty : (n x : ℕ) → x < span → from t m n x ≡ Some i → (get_or t i 0 ≡ 0) × (i < length t)
    unfolding from
    from_empty zero x h e = let z : true ≡ false = ap is_there e in never (sym z)
    from_empty (suc n) x h e = go (eqb (get_or t at 0) m) refl (eqb (get_or t at 0) 0) refl (from_empty n (next_of (length t) m x) (omega arith))
      where
        at : ℕ
        at = place_in (length t) x

        b : at < length t
        b = place_below (length t) x l h

        go : (y : Bool) → eqb (get_or t at 0) m ≡ y → (z : Bool) → eqb (get_or t at 0) 0 ≡ z
            → (from t m n (next_of (length t) m x) ≡ Some i → (get_or t i 0 ≡ 0) × (i < length t)) → (get_or t i 0 ≡ 0) × (i < length t)
        go true p y q f = let z : None ≡ Some i = rw p at e in let w : true ≡ false = ap is_there z in never (sym w)
        go false p true q f =
            let z : Some at ≡ Some i = rw (p, q) at e in
            let w : at ≡ i = cc in
            (rw (← w) (eqb-true (get_or t at 0) 0 q), rw (← w) b)
        go false p false q f = f (rw (p, q) at e)

  module _ (some : m ≡ 0 → ⊥) (i v : ℕ) (empty : get_or t i 0 ≡ 0) where
    apart : (at : ℕ) → (get_or t at 0 ≡ 0 → ⊥) → at ≡ i → ⊥
    apart at h e = h (ap (λ (k : ℕ). get_or t k 0) e ∙ empty)

    -- what is there is there when an empty place is filled
    there_stays : (n x : ℕ) → is_there (from t m n x) ≡ true → is_there (from (set t i v) m n x) ≡ true
    unfolding from
    there_stays zero x e = refl
    there_stays (suc n) x e = go (eqb (get_or t at 0) m) refl (eqb (get_or t at 0) 0) refl (there_stays n (next_of (length t) m x))
      where
        at : ℕ
        at = place_in (length t) x

        go : (y : Bool) → eqb (get_or t at 0) m ≡ y → (z : Bool) → eqb (get_or t at 0) 0 ≡ z
            → (is_there (from t m n (next_of (length t) m x)) ≡ true → is_there (from (set t i v) m n (next_of (length t) m x)) ≡ true)
            → is_there (from (set t i v) m (suc n) x) ≡ true
        go true p y q f =
            let z = eqb-true (get_or t at 0) m p in
            rw (length-set, get_or-set_other t i at v 0 (apart at (λ (g : get_or t at 0 ≡ 0). some (sym z ∙ g))), p)
        go false p true q f = let z : false ≡ true = rw (p, q) at e in never z
        go false p false q f =
            rw (length-set, get_or-set_other t i at v 0 (apart at (eqb-false (get_or t at 0) 0 q)), p, q) (f (rw (p, q) at e))

  -- the mark is there when it fills the place that the walk found
  module _ (i : ℕ) (b : i < length t) where
    filled_there : (n x : ℕ) → from t m n x ≡ Some i → is_there (from (set t i m) m n x) ≡ true
    unfolding from
    filled_there zero x e = refl
    filled_there (suc n) x e = go (eqb (get_or t at 0) m) refl (eqb (get_or t at 0) 0) refl (eqb at i) refl (filled_there n (next_of (length t) m x))
      where
        at : ℕ
        at = place_in (length t) x

        go : (y : Bool) → eqb (get_or t at 0) m ≡ y → (w : Bool) → eqb (get_or t at 0) 0 ≡ w → (z : Bool) → eqb at i ≡ z
            → (from t m n (next_of (length t) m x) ≡ Some i → is_there (from (set t i m) m n (next_of (length t) m x)) ≡ true)
            → is_there (from (set t i m) m (suc n) x) ≡ true
        go y p w q true r f = rw (length-set, eqb-true at i r, get_or-set_same t i m 0 b, eq-eqb m m refl)
        go true p w q false r f = let z : None ≡ Some i = rw p at e in let w : true ≡ false = ap is_there z in never (sym w)
        go false p true q false r f =
            let z : Some at ≡ Some i = rw (p, q) at e in
            let w : at ≡ i = cc in
            absurd (eqb-false at i r w)
        go false p false q false r f =
            rw (length-set, get_or-set_other t i at m 0 (eqb-false at i r), p, q) (f (rw (p, q) at e))

-- ---- the table

pub length_entered : (table : List ℕ) (m : ℕ) → length (entered table m) ≡ length table
unfolding entered
length_entered table m = go (free_place table m)
  where
    go : (f : Option ℕ) → length (put table m f) ≡ length table
    go None = refl
    go (Some at) = simp length-set

pub sized_as : {table table₁ : List ℕ} → Sized table → length table₁ ≡ length table → Sized table₁
sized_as s e = let a = s.some in let b = s.most in record { some = omega arith; most = omega arith }

module _ (t : List ℕ) (m : ℕ) where
  -- an empty place is found for marks alone that are not 0, and by the walk
  free_found : (i : ℕ) → free_place t m ≡ Some i → (m ≡ 0 → ⊥) × (from t m (length t) (m / span % span) ≡ Some i)
  unfolding free_place
  free_found i e = go (eqb m 0) refl
    where
      go : (x : Bool) → eqb m 0 ≡ x → (m ≡ 0 → ⊥) × (from t m (length t) (m / span % span) ≡ Some i)
      go true p = let z : None ≡ Some i = rw p at e in let w : true ≡ false = ap is_there z in never (sym w)
      go false p = (eqb-false m 0 p, rw p at e)

  free_is : 0 < length t → (i : ℕ) → free_place t m ≡ Some i → (get_or t i 0 ≡ 0) × (i < length t)
  free_is l i e = from_empty t m l i (length t) (m / span % span) (omega arith) (free_found i e).1

  pub free_below : 0 < length t → {f : Option ℕ} → f ≡ free_place t m → {i : ℕ} → f ≡ Some i → i < length t
  free_below l e {i} g = (free_is l i (sym e ∙ g)).1

  -- what is marked stays so
  filled_stays : (n i : ℕ) → is_marked t n ≡ true → get_or t i 0 ≡ 0 → (x : Bool) → eqb n 0 ≡ x → is_marked (set t i m) n ≡ true
  unfolding is_marked free_place
  filled_stays n i e z true p = rw p
  filled_stays n i e z false p = rw (p, length-set) (there_stays t n (eqb-false n 0 p) i m z (length t) (n / span % span) (rw p at e))

  marked_stays : (n : ℕ) → 0 < length t → is_marked t n ≡ true → is_marked (entered t m) n ≡ true
  unfolding entered
  marked_stays n l e = go (free_place t m) refl
    where
      go : (f : Option ℕ) → free_place t m ≡ f → is_marked (put t m f) n ≡ true
      go None p = e
      go (Some i) p = filled_stays n i e (free_is l i p).0 (eqb n 0) refl

  -- what is entered is marked
  entered_marked : 0 < length t → is_marked (entered t m) m ≡ true
  unfolding entered is_marked free_place
  entered_marked l = go (free_place t m) refl
    where
      go : (f : Option ℕ) → free_place t m ≡ f → is_marked (put t m f) m ≡ true
      go None p = ap is_there p
      go (Some i) p =
          let q = free_found i p in
          rw (ne_eqb m 0 q.0, length-set) (filled_there t m i (free_is l i p).1 (length t) (m / span % span) q.1)

-- ---- strings

pub holds_none : (table : List ℕ) → Holds table []
unfolding is_one_of
holds_none table = record { holds = λ x e. never e }

module _ {table : List ℕ} {taken : List (List ℕ)} (h : Holds table taken) (x : List ℕ) where
  pub holds_more : 0 < length table → Holds (entered table (mark_of x)) (taken ++ (x ∷ []))
  unfolding is_one_of
  holds_more l = record { holds = λ y e. go y (is_one_of taken y) refl (sym (one_of_append taken (x ∷ []) y) ∙ e) }
    where
      go : (y : List ℕ) (b : Bool) → is_one_of taken y ≡ b → (is_one_of taken y || is_one_of (x ∷ []) y) ≡ true → is_marked (entered table (mark_of x)) (mark_of y) ≡ true
      go y true e f = marked_stays table (mark_of x) (mark_of y) l (h.holds y e)
      go y false e f =
          let g : same y x ≡ true = sym (or-false (same y x)) ∙ (rw e at f) in
          rw (same_true y x g) (entered_marked table (mark_of x) l)

  pub surely_new : is_marked table (mark_of x) ≡ false → is_one_of taken x ≡ false
  surely_new n = go (is_one_of taken x) refl
    where
      go : (b : Bool) → is_one_of taken x ≡ b → b ≡ false
      go true e = never (sym n ∙ h.holds x e)
      go false e = refl

  -- the same, as calls state it
  module _ {m : ℕ} (e : m ≡ mark_of x) where
    pub enter_holds : {after : List ℕ} → after ≡ entered table m → 0 < length table → Holds after (taken ++ (x ∷ []))
    enter_holds f l = rw (f, e) (holds_more l)

    pub unmarked_new : {r : Bool} → r ≡ is_marked table m → r ≡ false → is_one_of taken x ≡ false
    unmarked_new f g = surely_new (ap (λ (k : ℕ). is_marked table k) (sym e) ∙ sym f ∙ g)
