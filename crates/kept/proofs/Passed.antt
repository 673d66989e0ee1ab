-- What was read was read part by part, and each check before it was passed.
-- Assumes nothing.
use Rattle.std.specs.Prelude.{Option, Some, None, Ok, Err}
use mathlib.Core.Path.{◌≡◌, refl, sym}
use mathlib.Core.Bool.{Bool, true, false}
use mathlib.Core.List.{List, [], ◌∷◌, ◌++◌}
use Prim.Native.Nat.{ℕ}
use native.Mathlib.Omega.{arith}
use Rattle.answer.specs.declared.refusal.Fault.{Fault}
use Rattle.row.specs.Rows.{Row}
use Rattle.row.specs.declared.kind.Kind.{Kind}
use Rattle.form.specs.Checks.{must, ◌then◌, Check}
use Rattle.form.specs.Spots.{on_spot}
use Rattle.schema.specs.Out.{Out, refused, read, rows_then, and_then, after, each}
use Rattle.kept.proofs.Lists.{All, nil, all_append}
use Rattle.kept.proofs.Forest.{Rows, rows_none, rows_append}

-- ---- checks

pub bad_fine : {A : Type 0} {f : Fault} → ◌≡◌ {A = Check} (Err f) (Ok tt) → A
bad_fine e = let z : ◌≡◌ {A = ℕ} 0 1 = cc in absurd (omega arith)

pub must_true : (b : Bool) (f : Fault) → must b f ≡ Ok tt → b ≡ true
must_true true f e = refl
must_true false f e = bad_fine e

pub then_fine : (a b : Check) → (a then b) ≡ Ok tt → (a ≡ Ok tt) × (b ≡ Ok tt)
then_fine (Ok tt) b e = (refl, e)
then_fine (Err f) b e = bad_fine e

-- ---- what was read

pub unread : {A : Type 0} {f : Fault} {rs : List Row} → refused f ≡ read rs → A
unread e = let z : ◌≡◌ {A = ℕ} 0 1 = cc in absurd (omega arith)

pub read_same : {xs ys : List Row} → read xs ≡ read ys → xs ≡ ys
read_same e = cc

pub after_read : (c : Check) (o : Out) {rs : List Row} → after c o ≡ read rs → (c ≡ Ok tt) × (o ≡ read rs)
after_read (Ok tt) o e = (refl, e)
after_read (Err f) o e = unread e

pub record Then (xs : List Row) (o : Out) (rs : List Row) : Type 0 where
  pub more : List Row
  pub reads : o ≡ read more
  pub is : rs ≡ xs ++ more

pub rows_read_lem : (xs : List Row) (o : Out) {rs : List Row} → rows_then xs o ≡ read rs → Then xs o rs
rows_read_lem xs (refused f) e = unread e
rows_read_lem xs (read more) e = record { more = more; reads = refl; is = cc }

pub record Both (a b : Out) (rs : List Row) : Type 0 where
  pub front : List Row
  pub behind : List Row
  pub first : a ≡ read front
  pub second : b ≡ read behind
  pub is : rs ≡ front ++ behind

pub both_read : (a b : Out) {rs : List Row} → and_then a b ≡ read rs → Both a b rs
both_read (refused f) b e = unread e
both_read (read xs) (refused f) e = unread e
both_read (read xs) (read ys) e = record { front = xs; behind = ys; first = refl; second = refl; is = cc }

pub record There (s : Option ℕ) (f : ℕ → Out) (rs : List Row) : Type 0 where
  pub place : ℕ
  pub at : s ≡ Some place
  pub reads : f place ≡ read rs

pub spot_read : (s : Option ℕ) (f : ℕ → Out) (x : Fault) {rs : List Row} → on_spot s f (refused x) ≡ read rs → There s f rs
spot_read (Some q) f x e = record { place = q; at = refl; reads = e }
spot_read None f x e = unread e

-- what was read at each place
pub each_rows : {t : List ℕ} {e : ℕ} {test : Kind → Bool} (reads : ℕ → Out) → ((p : ℕ) (rs : List Row) → reads p ≡ read rs → Rows t e test rs)
    → (ps : List ℕ) {rs : List Row} → each reads ps ≡ read rs → Rows t e test rs
unfolding each
each_rows reads h [] e = rw (sym (read_same e)) rows_none
each_rows reads h (p ∷ ps) e =
    let z = both_read (reads p) (each reads ps) e in
    rw z.is (rows_append (h p z.front z.first) (each_rows reads h ps z.second))

pub each_all : {P : Row → Type 0} (reads : ℕ → Out) → ((p : ℕ) (rs : List Row) → reads p ≡ read rs → All P rs)
    → (ps : List ℕ) {rs : List Row} → each reads ps ≡ read rs → All P rs
unfolding each
each_all reads h [] e = rw (sym (read_same e)) nil
each_all reads h (p ∷ ps) e =
    let z = both_read (reads p) (each reads ps) e in
    rw z.is (all_append (h p z.front z.first) (each_all reads h ps z.second))
