-- The numbers of a row: its position, a fixed's size, a decimal's note.
-- Assumes nothing.
use Rattle.std.specs.Prelude.{Option, Some, None}
use mathlib.Core.Path.{◌≡◌, refl}
use mathlib.Core.Bool.{Bool, true, false, cond, ◌&&◌}
use mathlib.Core.List.{List, [], ◌∷◌}
use Prim.Native.Nat.{ℕ, ◌+◌, ◌*◌, ◌-◌, ◌^◌, ◌<◌, ◌≤◌}
use native.Mathlib.Omega.{arith}
use lib.Dec.{eqb, leb, ltb}
use lib.ListN.{drop}
use borrow.Author.Tests.{eqb-false, eqb-true, le-leb, le-ltb, lt-ltb, ltb-true, ltb-false}
use Rattle.ground.specs.Bytes.{byte_at}
use Rattle.ground.proofs.Laws.{never}
use Rattle.decimals.specs.Limits.{limit_of}
use Rattle.name.specs.Name.{is_empty}
use Rattle.json_scan.specs.Json.{is_digit, longest}
use Rattle.row.specs.declared.kind.Kind.{Kind}
use Rattle.row.specs.declared.kind.Kind.TheVariants.{Bytes, Fixed}
use Rattle.view.specs.Ends.{is_delimiter}
use Rattle.view.specs.Size.{fitting, size_from, size_of}
use Rattle.view.specs.declared.members.Members.{Members}
use Rattle.form.specs.declared.note.Note.{Note}
use Rattle.form.specs.declared.note.Plain.{Plain}
use Rattle.form.specs.Spots.{on_spot}
use Rattle.form.specs.declared.note.Plain.TheVariants as over
use Rattle.form.specs.Notes.{noted, holds, exceeds, compared, with_scale, with_precision, is_decimal, note_of}
use Rattle.schema.specs.Schema.{row_with}
use Rattle.resolve.specs.Kinds.{is_kind}
use Rattle.resolve.specs.Rules.{good_size, good_note, good_precision, good_decimal, good_numbers}

-- ---- a size literal lies below 2^64

none_value : {A : Type 0} {v : ℕ} → None ≡ Some v → A
none_value e = let z : ◌≡◌ {A = ℕ} 0 1 = cc in absurd (omega arith)

fitting_small : (n v : ℕ) → fitting n ≡ Some v → v < 2 ^ 64
unfolding fitting
fitting_small n v e = go (ltb n 18446744073709551616) refl e
  where
    go : (b : Bool) → ltb n 18446744073709551616 ≡ b → cond b (Some n) None ≡ Some v → v < 2 ^ 64
    go true q f = let h = ltb-true n 18446744073709551616 q in let i : n ≡ v = cc in omega arith
    go false q f = none_value f

from_small : (n : ℕ) (bs : List ℕ) (v : ℕ) → size_from n bs ≡ Some v → v < 2 ^ 64
unfolding size_from
from_small n [] v e = fitting_small n v e
from_small n (b ∷ bs) v e = go (is_digit b) (is_delimiter b) e (from_small (n * 10 + (b - 48)) bs v)
  where
    go : (x y : Bool) → cond x (size_from (n * 10 + (b - 48)) bs) (cond y (fitting n) None) ≡ Some v
        → (size_from (n * 10 + (b - 48)) bs ≡ Some v → v < 2 ^ 64) → v < 2 ^ 64
    go true y f h = h f
    go false true f h = fitting_small n v f
    go false false f h = none_value f

pub size_small : (t : List ℕ) (p v : ℕ) → size_of t p ≡ Some v → v < 2 ^ 64
unfolding size_of
size_small t p v e = go (is_digit (byte_at t p)) e
  where
    go : (b : Bool) → cond b (size_from 0 (drop p t)) None ≡ Some v → v < 2 ^ 64
    go true f = from_small 0 (drop p t) v f
    go false f = none_value f

-- ---- notes

-- the highest note over a plain type
abbrev pub highest : Plain → ℕ
highest over.Bytes = 6
highest (over.Fixed size) = 7

pub record Noted (o : Plain) (n : Note) : Type 0 where
  pub few : n.note ≤ highest o
  pub plain : (n.note ≡ 1 → ⊥) → (n.precision ≡ 0) × (n.scale ≡ 0)
  pub holding : n.note ≡ 1 → (1 ≤ n.precision) × (n.scale ≤ n.precision) × (n.precision < 2 ^ 64)
  pub fitting : exceeds o n.precision ≡ false

none_exceeds : (o : Plain) → exceeds o 0 ≡ false
unfolding exceeds
none_exceeds over.Bytes = refl
none_exceeds (over.Fixed size) = le-ltb (limit_of size) 0 (omega arith)

pub noted_plain : (o : Plain) (k : ℕ) → k ≤ highest o → (k ≡ 1 → ⊥) → Noted o (noted k)
noted_plain o k h n = record { few = h; plain = λ x. (refl, refl); holding = λ x. absurd (n x); fitting = none_exceeds o }

at_most_six : (o : Plain) (k : ℕ) → k ≤ 6 → k ≤ highest o
at_most_six over.Bytes k h = h
at_most_six (over.Fixed size) k h = omega arith

-- what exceeds is a fixed
seven : (o : Plain) (p : ℕ) → exceeds o p ≡ true → 7 ≤ highest o
unfolding exceeds
seven over.Bytes p e = never e
seven (over.Fixed size) p e = omega arith

module _ (o : Plain) where
  low : (k : ℕ) → k ≤ 6 → (k ≡ 1 → ⊥) → Noted o (noted k)
  low k h n = noted_plain o k (at_most_six o k h) n

  compared_good : (p s : ℕ) → p < 2 ^ 64 → Noted o (compared o p s)
  unfolding compared
  compared_good p s h = go (eqb p 0) refl (ltb p s) refl (exceeds o p) refl
    where
      go : (x : Bool) → eqb p 0 ≡ x → (y : Bool) → ltb p s ≡ y → (z : Bool) → exceeds o p ≡ z → Noted o (cond x (noted 5) (cond y (noted 6) (cond z (noted 7) (holds p s))))
      go true q y r z i = low 5 (omega arith) (λ (z : 5 ≡ 1). omega arith)
      go false q true r z i = low 6 (omega arith) (λ (z : 6 ≡ 1). omega arith)
      go false q false r true i = noted_plain o 7 (seven o p i) (λ (z : 7 ≡ 1). omega arith)
      go false q false r false i =
          let a = eqb-false p 0 q in
          let b = ltb-false p s r in
          record { few = at_most_six o 1 (omega arith); plain = λ x. absurd (x refl); holding = λ x. (omega (arith, a), b, h); fitting = i }

module _ (t : List ℕ) (m : Members) (o : Plain) where
  scale_good : (p : ℕ) → p < 2 ^ 64 → Noted o (with_scale t m o p)
  unfolding with_scale
  scale_good p h = go m.scale
    where
      sized : (z : Option ℕ) → Noted o (on_spot z (compared o p) (noted 4))
      sized (Some v) = compared_good o p v h
      sized None = low o 4 (omega arith) (λ (z : 4 ≡ 1). omega arith)

      go : (s : Option ℕ) → Noted o (on_spot s (λ q. on_spot (size_of t q) (compared o p) (noted 4)) (compared o p 0))
      go (Some q) = sized (size_of t q)
      go None = compared_good o p 0 h

  precision_good : Noted o (with_precision t m o)
  unfolding with_precision
  precision_good = go m.precision
    where
      sized : (q : ℕ) (z : Option ℕ) → size_of t q ≡ z → Noted o (on_spot z (with_scale t m o) (noted 3))
      sized q (Some v) e = scale_good v (size_small t q v e)
      sized q None e = low o 3 (omega arith) (λ (z : 3 ≡ 1). omega arith)

      go : (s : Option ℕ) → Noted o (on_spot s (λ q. on_spot (size_of t q) (with_scale t m o) (noted 3)) (noted 2))
      go (Some q) = sized q (size_of t q) refl
      go None = low o 2 (omega arith) (λ (z : 2 ≡ 1). omega arith)

  pub note_good : Noted o (note_of t m o)
  unfolding note_of
  note_good = go (is_decimal t m)
    where
      go : (b : Bool) → Noted o (cond b (with_precision t m o) (noted 0))
      go true = precision_good
      go false = low o 0 (omega arith) (λ (z : 0 ≡ 1). omega arith)

-- ---- the numbers of a row

decimal_good : (o : Plain) (n : Note) → Noted o n → good_decimal n.note n.precision n.scale ≡ true
unfolding good_decimal
decimal_good o n g = go (eqb n.note 1) refl
  where
    go : (b : Bool) → eqb n.note 1 ≡ b
        → cond b (leb 1 n.precision && leb n.scale n.precision && ltb n.precision (2 ^ 64)) (eqb n.precision 0 && eqb n.scale 0) ≡ true
    go true q =
        let z = g.holding (eqb-true n.note 1 q) in
        rw (le-leb 1 n.precision z.0, le-leb n.scale n.precision z.1, lt-ltb n.precision (2 ^ 64) z.2)
    go false q = let z = g.plain (eqb-false n.note 1 q) in rw (z.0, z.1)

module _ (k : Kind) (d p : ℕ) (s : List ℕ) (n : Note) (below : p < longest) (g : Noted over.Bytes n) where
  -- a row that is no fixed
  pub numbers_good : is_kind Fixed k ≡ false → (is_kind Bytes k ≡ false → n.note ≡ 0) → good_numbers (row_with k d p s 0 n) ≡ true
  unfolding good_numbers good_size good_note good_precision is_empty
  numbers_good f h = rw (lt-ltb p longest below, f, note_fits (is_kind Bytes k) refl, decimal_good over.Bytes n g)
    where
      note_fits : (x : Bool) → is_kind Bytes k ≡ x → cond x (leb n.note 6) (eqb n.note 0) ≡ true
      note_fits true q = le-leb n.note 6 g.few
      note_fits false q = rw (h q)

-- a fixed
pub fixed_numbers : (d p : ℕ) (s : List ℕ) (size : ℕ) (n : Note) → p < longest → size < 2 ^ 64 → Noted (over.Fixed size) n → good_numbers (row_with Fixed d p s size n) ≡ true
unfolding good_numbers good_size good_note good_precision is_kind exceeds
fixed_numbers d p s size n below h g =
    rw (lt-ltb p longest below, lt-ltb size (2 ^ 64) h, le-leb n.note 7 g.few, le-leb n.precision (limit_of size) (ltb-false (limit_of size) n.precision g.fitting), decimal_good (over.Fixed size) n g)

-- no note
pub plain_numbers : (k : Kind) (d p : ℕ) (s : List ℕ) → p < longest → good_numbers (row_with k d p s 0 (noted 0)) ≡ true
unfolding good_numbers good_size good_note good_precision good_decimal limit_of is_empty
plain_numbers k d p s h = rw (lt-ltb p longest h) (go (is_kind Fixed k) (is_kind Bytes k))
  where
    go : (x y : Bool) → (cond x (ltb 0 (2 ^ 64)) (eqb 0 0) && cond x (leb 0 7) (cond y (leb 0 6) (eqb 0 0)) && cond x (leb 0 0) true && true) ≡ true
    go true y = refl
    go false true = refl
    go false false = refl
