-- The rule byte by byte is that of simple names, and of simple names joined by dots. Assumes nothing.
use mathlib.Core.Path.{◌≡◌, refl, sym, ap, ◌∙◌}
use mathlib.Core.Bool.{Bool, true, false, not, cond, ◌&&◌, and_assoc, and-eq-true_iff, false≢true}
use mathlib.Core.List.{List, [], ◌∷◌}
use Prim.Native.Nat.{ℕ, ◌+◌, ◌-◌, ◌<◌, ◌≤◌}
use native.Mathlib.Numerals.{add-one}
use lib.Dec.{eqb}
use lib.ListN.{length, take, drop, get_or, drop_of_length-le}
use lib.Seq.{drop-cons}
use borrow.Author.Tests.{eqb-true}
use Rattle.name.specs.Name.{every, is_within, is_letter, is_digit, is_first, is_later, is_simple, dot, onto_first, parts, is_dotted, starts_with_dot, is_name, is_namespace}
use Rattle.name.specs.Rule.{may_stand}
use Rattle.name.proofs.Parts.{Parted, parted, lent_tail}
use Rattle.name.proofs.Laws.{name_lead, empty_none, empty_some}

-- what is left of a string keeps the rule
unfoldable pub keeps : Bool → Bool → List ℕ → Bool
keeps dots first [] = not first
keeps dots first (b ∷ bs) = may_stand dots first b && keeps dots (eqb b dot) bs

-- a dot is no part of a simple name
dot_letter : (b : ℕ) → eqb b dot ≡ true → is_letter b ≡ false
unfolding is_letter is_within
dot_letter b e = rw (eqb-true b dot e)

dot_later : (b : ℕ) → eqb b dot ≡ true → is_later b ≡ false
unfolding is_later is_letter is_digit is_within
dot_later b e = rw (eqb-true b dot e)

dot_first : (b : ℕ) → eqb b dot ≡ true → is_first b ≡ false
unfolding is_first is_letter is_within
dot_first b e = rw (eqb-true b dot e)

-- a letter may stand anywhere
pub letter_stands : (dots first : Bool) (b : ℕ) → is_letter b ≡ true → may_stand dots first b ≡ true
unfolding may_stand is_first is_later
letter_stands dots first b h = go first (eqb b dot) refl
  where
    no_dot : eqb b dot ≡ true → ⊥
    no_dot e = false≢true (sym (dot_letter b e) ∙ h)

    go : (f t : Bool) → eqb b dot ≡ t → cond t (not f && dots) (cond f (is_first b) (is_later b)) ≡ true
    go f true e = absurd (no_dot e)
    go true false e = rw h
    go false false e = rw h

-- ---- one simple name
one_later : (s : List ℕ) → keeps false false s ≡ every is_later s
unfolding keeps may_stand every
one_later [] = refl
one_later (b ∷ bs) = go (eqb b dot) refl (one_later bs)
  where
    go : (t : Bool) → eqb b dot ≡ t → keeps false false bs ≡ every is_later bs → keeps false false (b ∷ bs) ≡ every is_later (b ∷ bs)
    go true e r = rw (e, dot_later b e)
    go false e r = rw (e, r)

pub keeps_simple : (s : List ℕ) → keeps false true s ≡ is_simple s
unfolding keeps may_stand is_simple
keeps_simple [] = refl
keeps_simple (b ∷ bs) = go (eqb b dot) refl
  where
    go : (t : Bool) → eqb b dot ≡ t → keeps false true (b ∷ bs) ≡ is_simple (b ∷ bs)
    go true e = rw (e, dot_first b e)
    go false e = rw (e, one_later bs)

-- ---- several, joined by dots

-- the first part goes on, and the others are simple names
goes_on : List (List ℕ) → Bool
goes_on [] = true
goes_on (p ∷ ps) = every is_later p && every is_simple ps

record Joins (s : List ℕ) : Type 0 where
  within : keeps true false s ≡ goes_on (parts s)
  start : keeps true true s ≡ every is_simple (parts s)

joins : (s : List ℕ) → Joins s
unfolding keeps may_stand parts onto_first every goes_on is_simple
joins [] = record { within = refl; start = refl }
joins (b ∷ bs) = go (eqb b dot) refl (parted bs) (joins bs)
  where
    go : (t : Bool) → eqb b dot ≡ t → Parted bs → Joins bs → Joins (b ∷ bs)
    go true e p r = record { within = rw (e, r.start); start = rw e }
    go false e p r = record {
      within = rw (e, p.is, r.within, p.is) (sym (and_assoc (is_later b) (every is_later p.front) (every is_simple p.more)));
      start = rw (e, p.is, r.within, p.is) (sym (and_assoc (is_first b) (every is_later p.front) (every is_simple p.more)));
    }

pub keeps_dotted : (s : List ℕ) → keeps true true s ≡ is_dotted s
unfolding is_dotted
keeps_dotted s = (joins s).start

-- by the rule that is asked for
pub keeps_either : (dots : Bool) (s : List ℕ) → keeps dots true s ≡ cond dots (is_dotted s) (is_simple s)
keeps_either true s = keeps_dotted s
keeps_either false s = keeps_simple s

-- ---- one byte more
module _ (dots first : Bool) (s : List ℕ) (i : ℕ) where
  pub keeps_end : length s ≤ i → not first ≡ keeps dots first (drop i s)
  unfolding keeps
  keeps_end h = rw (drop_of_length-le s h)

  module _ (h : i < length s) where
    pub keeps_not : may_stand dots first (get_or s i 0) ≡ false → false ≡ keeps dots first (drop i s)
    unfolding keeps
    keeps_not e = rw (drop-cons s i 0 h, e)

    pub keeps_next : may_stand dots first (get_or s i 0) ≡ true → keeps dots (eqb (get_or s i 0) dot) (drop (i + 1) s) ≡ keeps dots first (drop i s)
    unfolding keeps
    keeps_next e = rw (add-one, drop-cons s i 0 h, e)

-- ---- a leading dot
pub name_tail : (s : List ℕ) → starts_with_dot s ≡ true → is_simple (take (length s - 1) (drop 1 s)) ≡ is_name s
name_tail s e = ap is_simple (lent_tail s) ∙ sym (name_lead s e)

-- ---- a namespace
pub namespace_none : (s : List ℕ) → length s ≡ 0 → true ≡ is_namespace s
unfolding is_namespace
namespace_none s e = rw (empty_none s e)

pub namespace_some : (s : List ℕ) → (length s ≡ 0 → ⊥) → is_dotted s ≡ is_namespace s
unfolding is_namespace
namespace_some s n = rw (empty_some s n)

-- ---- from one byte on
module _ (dots first : Bool) (b : ℕ) (s : List ℕ) where
  -- what follows a byte that may stand
  pub keeps_on : may_stand dots first b ≡ true → keeps dots first (b ∷ s) ≡ keeps dots (eqb b dot) s
  unfolding keeps
  keeps_on e = rw e

  -- behind one that may not, nothing helps
  pub keeps_off : may_stand dots first b ≡ false → keeps dots first (b ∷ s) ≡ false
  unfolding keeps
  keeps_off e = rw e

  pub keeps_front : keeps dots first (b ∷ s) ≡ true → (may_stand dots first b ≡ true) × (keeps dots (eqb b dot) s ≡ true)
  unfolding keeps
  keeps_front e = (and-eq-true_iff (may_stand dots first b) (keeps dots (eqb b dot) s)).0 e
