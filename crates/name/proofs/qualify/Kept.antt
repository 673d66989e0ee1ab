-- What is kept of a full name. Assumes nothing.
use Rattle.std.specs.Prelude.{Option, Some, None}
use mathlib.Core.Path.{◌≡◌, sym, ◌∙◌}
use mathlib.Core.Bool.{true, false}
use mathlib.Core.List.{List, ◌∷◌, ◌++◌}
use Prim.Native.Nat.{ℕ, ◌+◌, ◌-◌, ◌<◌, ◌≤◌}
use native.Mathlib.Omega.{arith}
use lib.ListN.{length, take, drop, set, length-append}
use Rattle.ground.specs.Bytes.{store}
use Rattle.ground.proofs.Laws.{store_cons, store_then}
use Rattle.name.specs.Name.{dot, has_dot, starts_with_dot, full_name}
use Rattle.name.specs.Full.{kept_limit, answer_of, buffer_after}
use Rattle.name.proofs.Laws.{answer_short, answer_long, buffer_short, buffer_long, full_lead, full_none, full_written, full_within, empty_none, empty_some}
use Rattle.name.proofs.Parts.{lent_tail}

-- f is answered by r, and the buffer m becomes m'
abbrev pub Kept : List ℕ → List ℕ → List ℕ → Option ℕ → Type 0
Kept f m m' r = (r ≡ answer_of f) × (m' ≡ buffer_after m f)

pub kept_long : (f m : List ℕ) → kept_limit < length f → Kept f m m None
kept_long f m h = (sym (answer_long f h), sym (buffer_long f m h))

pub kept_short : (f m m' : List ℕ) → length f ≤ kept_limit → m' ≡ store m 0 f → Kept f m m' (Some (length f))
kept_short f m m' h e = (sym (answer_short f h), e ∙ sym (buffer_short f m h))

-- ---- namespace, dot, name
module _ (namespace s : List ℕ) where
  length_within : length (namespace ++ (dot ∷ s)) ≡ length namespace + 1 + length s
  length_within = length-append namespace (dot ∷ s) ∙ omega arith

  module _ (m : List ℕ) where
    pub within_long : kept_limit < length namespace + 1 + length s → Kept (namespace ++ (dot ∷ s)) m m None
    within_long h = kept_long (namespace ++ (dot ∷ s)) m (rw length_within h)

    pub within_short : (m₁ m₂ : List ℕ) → length namespace + 1 + length s ≤ kept_limit
        → m₁ ≡ store m 0 namespace → m₂ ≡ store (set m₁ (length namespace) dot) (length namespace + 1) s
        → Kept (namespace ++ (dot ∷ s)) m m₂ (Some (length namespace + 1 + length s))
    within_short m₁ m₂ h p q =
        let y : m₂ ≡ store m 0 (namespace ++ (dot ∷ s)) = store_then m m₁ m₂ 0 (length namespace) namespace (dot ∷ s) p (q ∙ sym (store_cons m₁ (length namespace) dot s)) (omega arith) in
        rw (← length_within) (kept_short (namespace ++ (dot ∷ s)) m m₂ (rw length_within h) y)

-- ---- full names, by 01's three lines
module _ (namespace s m m' : List ℕ) (r : Option ℕ) where
  pub kept_full : (f : List ℕ) → full_name namespace s ≡ f → Kept f m m' r → Kept (full_name namespace s) m m' r
  kept_full f e k = rw e k

  pub kept_lead : starts_with_dot s ≡ true → Kept (take (length s - 1) (drop 1 s)) m m' r → Kept (full_name namespace s) m m' r
  kept_lead e k = kept_full (take (length s - 1) (drop 1 s)) (full_lead namespace s e ∙ sym (lent_tail s)) k

  pub kept_none : starts_with_dot s ≡ false → length namespace ≡ 0 → Kept s m m' r → Kept (full_name namespace s) m m' r
  kept_none e h k = kept_full s (full_none namespace s (empty_none namespace h) e) k

  pub kept_written : starts_with_dot s ≡ false → has_dot s ≡ true → Kept s m m' r → Kept (full_name namespace s) m m' r
  kept_written e d k = kept_full s (full_written namespace s d e) k

  pub kept_within : (length namespace ≡ 0 → ⊥) → has_dot s ≡ false → Kept (namespace ++ (dot ∷ s)) m m' r → Kept (full_name namespace s) m m' r
  kept_within n d k = kept_full (namespace ++ (dot ∷ s)) (full_within namespace s d (empty_some namespace n)) k
