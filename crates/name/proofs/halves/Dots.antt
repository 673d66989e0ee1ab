-- Where the last dot of a full name stands, and what is lent before and behind it. Assumes nothing.
use mathlib.Core.Path.{◌≡◌, refl, sym, ap, ◌∙◌}
use mathlib.Core.Bool.{Bool, false, ◌||◌}
use mathlib.Core.List.{List, [], ◌∷◌, ◌++◌}
use Prim.Native.Nat.{ℕ, suc, ◌+◌, ◌-◌, ◌<◌}
use native.Mathlib.Numerals.{add-one}
use native.Mathlib.Nat.{le_refl}
use native.Mathlib.Omega.{arith}
use lib.Dec.{eqb}
use lib.ListN.{length, take, drop, get_or, length-drop}
use lib.Seq.{split_at, take_all}
use borrow.Author.Tests.{ne_eqb}
use Rattle.std.specs.Prelude.{Option, Some, None, MatchOption, ◌≢◌}
use Rattle.std.specs.List.{list_any}
use Rattle.std.proofs.lemmas.List.{get_or-drop}
use Rattle.name.specs.Name.{dot, has_dot, last_part, namespace_part}
use Rattle.name.specs.Rule.{IsLastDot}
use Rattle.name.proofs.Laws.{last_of_lem, namespace_of_lem}

pub dot_any : (s : List ℕ) → list_any (λ b. eqb b dot) s ≡ has_dot s
unfolding has_dot
dot_any [] = refl
dot_any (b ∷ s) = ap (λ (x : Bool). eqb b dot || x) (dot_any s)

-- without one at any place there is none
none_told : (s : List ℕ) → ((k : ℕ) → k < length s → get_or s k 0 ≢ dot) → has_dot s ≡ false
unfolding has_dot
none_told [] h = refl
none_told (b ∷ s) h = rw (ne_eqb b dot (h 0 (omega arith)), none_told s (λ k l. h (suc k) (omega arith)))

-- a search from the end tells of the places behind the one that it found
pub last_told : (s : List ℕ) (r : Option ℕ)
    → MatchOption r ((k : ℕ) → k < length s → get_or s k 0 ≢ dot) (λ i. (i < length s) × (get_or s i 0 ≡ dot) × ((k : ℕ) → i < k → k < length s → get_or s k 0 ≢ dot))
    → MatchOption r (has_dot s ≡ false) (IsLastDot s)
last_told s None h = none_told s h
last_told s (Some i) h = (h.0, h.1, none_told (drop (i + 1) s) (λ k l. let m = simp length-drop at l in rw get_or-drop (h.2 (i + 1 + k) (omega arith) (omega arith))))

module _ (s : List ℕ) (at : ℕ) (h : IsLastDot s at) where
  parted_there : s ≡ take at s ++ (dot ∷ drop (at + 1) s)
  parted_there = split_at s at 0 h.0 ∙ rw (h.1, add-one)

  pub last_behind : take (length s - (at + 1)) (drop (at + 1) s) ≡ last_part s
  last_behind =
      take_all (length s - (at + 1)) (drop (at + 1) s) (rw (length-drop (at + 1) s) (le_refl _))
      ∙ sym (ap last_part parted_there ∙ last_of_lem (take at s) (drop (at + 1) s) h.2)

  pub namespace_before : take at s ≡ namespace_part s
  namespace_before = sym (ap namespace_part parted_there ∙ namespace_of_lem (take at s) (drop (at + 1) s) h.2)
