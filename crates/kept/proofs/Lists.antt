-- Lists of rows: what holds of all of them, which of them meet, and the kinds at a depth.
-- Assumes nothing.
use mathlib.Core.Path.{◌≡◌, refl}
use mathlib.Core.Bool.{Bool, true, false, cond}
use mathlib.Core.List.{List, [], ◌∷◌, ◌++◌}
use Prim.Native.Nat.{ℕ}
use lib.Dec.{eqb}
use Rattle.ground.proofs.Laws.{and_true, and_intro}
use Rattle.name.specs.Name.{every}
use Rattle.row.specs.Rows.{Row}
use Rattle.row.specs.declared.kind.Kind.{Kind}
use Rattle.resolve.specs.Kinds.{past}
use Rattle.resolve.specs.Rules.{kinds_at, some, no_two}

-- a test that does not pass fails
pub fails : (b : Bool) → (b ≡ true → ⊥) → b ≡ false
fails true n = absurd (n refl)
fails false n = refl

-- ---- what holds of every row

pub data All (P : Row → Type 0) : List Row → Type 0 where
  nil : All P []
  cons : {r : Row} {rs : List Row} → P r → All P rs → All P (r ∷ rs)

pub all_append : {P : Row → Type 0} {xs ys : List Row} → All P xs → All P ys → All P (xs ++ ys)
all_append nil b = b
all_append (cons p a) b = cons p (all_append a b)

pub all_map : {P Q : Row → Type 0} {rs : List Row} → ((r : Row) → P r → Q r) → All P rs → All Q rs
all_map f nil = nil
all_map f (cons {r = r} p a) = cons (f r p) (all_map f a)

pub all_any : {P : Row → Type 0} → ((r : Row) → P r) → (rs : List Row) → All P rs
all_any f [] = nil
all_any f (r ∷ rs) = cons (f r) (all_any f rs)

-- ---- rows that meet

module _ (meet : Row → Row → Bool) where
  -- a row meets none of some rows
  abbrev pub Misses : Row → List Row → Type 0
  Misses a rs = All (λ b. meet a b ≡ false) rs

  -- no row meets it
  abbrev pub Unmet : Row → Type 0
  Unmet b = (a : Row) → meet a b ≡ false

  misses_some : (a : Row) {rs : List Row} → Misses a rs → some (meet a) rs ≡ false
  unfolding some
  misses_some a nil = refl
  misses_some a (cons e m) = rw (e, misses_some a m)

  pub two_nil : no_two meet [] ≡ true
  unfolding no_two
  two_nil = refl

  pub two_cons : (r : Row) {rs : List Row} → Misses r rs → no_two meet rs ≡ true → no_two meet (r ∷ rs) ≡ true
  unfolding no_two
  two_cons r m e = rw (misses_some r m, e)

  pub unmet_misses : (a : Row) {rs : List Row} → All Unmet rs → Misses a rs
  unmet_misses a u = all_map (λ b h. h a) u

  -- rows that none meets, in front of rows that they miss
  pub two_front : {xs ys : List Row} → All Unmet xs → All (λ a. Misses a ys) xs → no_two meet ys ≡ true → no_two meet (xs ++ ys) ≡ true
  two_front nil m e = e
  two_front (cons {r = r} u us) (cons m ms) e = two_cons r (all_append (unmet_misses r us) m) (two_front us ms e)

-- where no two rows can meet, none do
pub two_never : (meet : Row → Row → Bool) → ((a b : Row) → meet a b ≡ false) → (rs : List Row) → no_two meet rs ≡ true
two_never meet h [] = two_nil meet
two_never meet h (r ∷ rs) = two_cons meet r (all_any (h r) rs) (two_never meet h rs)

-- ---- kinds

module _ (test : Kind → Bool) where
  pub every_both : (a b : List Kind) → every test a ≡ true → every test b ≡ true → every test (a ++ b) ≡ true
  unfolding every
  every_both [] b e f = f
  every_both (k ∷ a) b e f =
      let z = and_true (test k) (every test a) e in
      and_intro (test k) (every test (a ++ b)) z.0 (every_both a b z.1 f)

  pub past_front : (a b : List Kind) → every test a ≡ true → past test (a ++ b) ≡ past test b
  unfolding every past
  past_front [] b e = refl
  past_front (k ∷ a) b e =
      let z = and_true (test k) (every test a) e in
      rw z.0 (past_front a b z.1)

  pub every_past : (other : Kind → Bool) (ks : List Kind) → every test ks ≡ true → every test (past other ks) ≡ true
  unfolding every past
  every_past other [] e = e
  every_past other (k ∷ ks) e = go (other k) (every_past other ks (and_true (test k) (every test ks) e).1)
    where
      go : (b : Bool) → every test (past other ks) ≡ true → every test (cond b (past other ks) (k ∷ ks)) ≡ true
      go true h = h
      go false h = e

pub kinds_append : (d : ℕ) (xs ys : List Row) → kinds_at d (xs ++ ys) ≡ kinds_at d xs ++ kinds_at d ys
unfolding kinds_at
kinds_append d [] ys = refl
kinds_append d (r ∷ xs) ys = go (eqb r.depth d) (kinds_append d xs ys)
  where
    go : (b : Bool) → kinds_at d (xs ++ ys) ≡ kinds_at d xs ++ kinds_at d ys
        → cond b (r.kind ∷ kinds_at d (xs ++ ys)) (kinds_at d (xs ++ ys)) ≡ cond b (r.kind ∷ kinds_at d xs) (kinds_at d xs) ++ kinds_at d ys
    go true h = rw h
    go false h = h
