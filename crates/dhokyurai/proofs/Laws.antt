-- A full name by its length; equal strings are stored alike. Assumes nothing.
use mathlib.Core.Path.{◌≡◌, ap, ◌∙◌}
use mathlib.Core.List.{List, [], ◌∷◌}
use mathlib.Core.Bool.{Bool, true, false, cond}
use lib.ListN.{length}
use Prim.Native.Nat.{ℕ}
use Rattle.answer.specs.Answers.{accepted, refused}
use Rattle.ground.specs.Bytes.{store}
use Rattle.name.specs.Name.{is_empty}
use Rattle.row.specs.Sets.{decode}
use Rattle.formed.specs.WellFormed.{well_formed}
use Rattle.set.specs.Naming.{name_in, full_name_in, naming_of}

-- a full name that is there is told by its length
pub named_is : (m s : List ℕ) (place i : ℕ) → s ≡ full_name_in m place i → (length s ≡ 0 → ⊥) → accepted (length s) 0 0 ≡ naming_of m place i
unfolding full_name_in naming_of is_empty
named_is m s place i e h = go (well_formed m) s e h
  where
    some : (name s : List ℕ) → s ≡ name → (length s ≡ 0 → ⊥) → accepted (length s) 0 0 ≡ cond (is_empty name) (refused 21 place 0) (accepted (length name) 0 0)
    some [] s e h = absurd (h (ap length e))
    some (x ∷ name) s e h = ap (λ (y : List ℕ). accepted (length y) 0 0) e

    go : (b : Bool) (s : List ℕ) → s ≡ cond b (name_in (decode m) place i) [] → (length s ≡ 0 → ⊥)
        → accepted (length s) 0 0 ≡ cond b (cond (is_empty (name_in (decode m) place i)) (refused 21 place 0) (accepted (length (name_in (decode m) place i)) 0 0)) (refused 20 place 0)
    go true s e h = some (name_in (decode m) place i) s e h
    go false s e h = absurd (h (ap length e))

pub stored : (m : List ℕ) {m' s u : List ℕ} → m' ≡ store m 0 s → s ≡ u → m' ≡ store m 0 u
stored m e h = e ∙ ap (store m 0) h
