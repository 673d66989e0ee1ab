-- A list of bytes and its parts between the dots. Assumes nothing.
use mathlib.Core.Path.{◌≡◌, refl, sym, ap}
use mathlib.Core.Bool.{Bool, true, false, cond}
use mathlib.Mathlib.Data.Bool.Basic.{or-eq-false-eq-eq-false-and-eq-false as or-eq-false}
use mathlib.Core.List.{List, [], ◌∷◌, ◌++◌, drop_last}
use Prim.Native.Nat.{ℕ, ◌-◌}
use native.Mathlib.Omega.{arith}
use native.Mathlib.Nat.{le_refl}
use lib.Dec.{eqb}
use lib.ListN.{length, take, drop, length-drop}
use lib.Seq.{take_all}
use borrow.Author.Tests.{eqb-true}
use Rattle.name.specs.Name.{dot, joined, onto_first, parts, has_dot, last_of}

-- no test both fails and passes
pub never : {A : Type 0} → false ≡ true → A
never e = let z : ◌≡◌ {A = ℕ} 0 1 = cc in absurd (omega arith)

-- a part that was lent from the second byte on
pub lent_tail : (s : List ℕ) → take (length s - 1) (drop 1 s) ≡ drop 1 s
lent_tail s = take_all (length s - 1) (drop 1 s) (rw (length-drop 1 s) (le_refl _))

-- ---- parts

-- there is a first part
pub record Parted (s : List ℕ) : Type 0 where
  pub front : List ℕ
  pub more : List (List ℕ)
  pub is : parts s ≡ front ∷ more

pub parted : (s : List ℕ) → Parted s
unfolding parts onto_first
parted [] = record { front = []; more = []; is = refl }
parted (b ∷ bs) = go (eqb b dot) refl (parted bs)
  where
    go : (t : Bool) → eqb b dot ≡ t → Parted bs → Parted (b ∷ bs)
    go true e r = record { front = []; more = parts bs; is = rw e }
    go false e r = record { front = b ∷ r.front; more = r.more; is = rw (e, r.is) }

-- a dot parts what stands before it and what stands behind
pub parts_dot : (a b : List ℕ) → parts (a ++ (dot ∷ b)) ≡ parts a ++ parts b
unfolding parts onto_first
parts_dot [] b = refl
parts_dot (x ∷ a) b = go (eqb x dot) (parted a) (parts_dot a b)
  where
    go : (t : Bool) → Parted a → parts (a ++ (dot ∷ b)) ≡ parts a ++ parts b
        → cond t ([] ∷ parts (a ++ (dot ∷ b))) (onto_first x (parts (a ++ (dot ∷ b)))) ≡ cond t ([] ∷ parts a) (onto_first x (parts a)) ++ parts b
    go true r e = rw e
    go false r e = rw (e, r.is)

-- without a dot there is one part
pub parts_plain : (s : List ℕ) → has_dot s ≡ false → parts s ≡ s ∷ []
unfolding parts onto_first has_dot
parts_plain [] e = refl
parts_plain (b ∷ bs) e = let z = (or-eq-false (eqb b dot) (has_dot bs)).0 e in rw (z.0, parts_plain bs z.1)

-- ---- joined

joined_onto : (b : ℕ) (ps : List (List ℕ)) → joined (onto_first b ps) ≡ b ∷ joined ps
unfolding joined onto_first
joined_onto b [] = refl
joined_onto b (p ∷ []) = refl
joined_onto b (p ∷ q ∷ ps) = refl

joined_empty : (s : List ℕ) → Parted s → joined ([] ∷ parts s) ≡ dot ∷ joined (parts s)
unfolding joined
joined_empty s r = rw r.is

-- every list is its parts joined by dots
pub joined_parts : (s : List ℕ) → joined (parts s) ≡ s
unfolding parts joined
joined_parts [] = refl
joined_parts (b ∷ bs) = go (eqb b dot) refl (joined_parts bs)
  where
    go : (t : Bool) → eqb b dot ≡ t → joined (parts bs) ≡ bs → joined (parts (b ∷ bs)) ≡ b ∷ bs
    go true e r = rw (e, joined_empty bs (parted bs), r) (ap (λ (x : ℕ). x ∷ bs) (sym (eqb-true b dot e)))
    go false e r = rw (e, joined_onto b (parts bs), r)

-- ---- the last part, and those before it

pub last_snoc : (ps : List (List ℕ)) (l : List ℕ) → last_of (ps ++ (l ∷ [])) ≡ l
unfolding last_of
last_snoc [] l = refl
last_snoc (p ∷ []) l = refl
last_snoc (p ∷ q ∷ ps) l = last_snoc (q ∷ ps) l

pub front_snoc : (ps : List (List ℕ)) (l : List ℕ) → drop_last (ps ++ (l ∷ [])) ≡ ps
front_snoc [] l = refl
front_snoc (p ∷ []) l = refl
front_snoc (p ∷ q ∷ ps) l = ap (λ (x : List (List ℕ)). p ∷ x) (front_snoc (q ∷ ps) l)
