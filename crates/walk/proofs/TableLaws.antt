-- Two tables that are asked for truth alone: what they hold is asked, and a table that is true stays true.
-- Assumes nothing.
use mathlib.Core.Path.{◌≡◌, sym, ap, subst, ◌∙◌}
use mathlib.Core.List.{List}
use Rattle.std.specs.Prelude.{Option, Some, None}
use Prim.Native.Nat.{ℕ, ◌+◌, ◌<◌, ◌≤◌}
use native.Mathlib.Omega.{arith}
use native.Mathlib.Decide.{dec_lt, ℕ_discrete}
use lib.ListN.{length, get_or, set, replicate, get_or-replicate, length-replicate, length-set, get_or-eq_default}
use lib.Seq.{get_or-set_same, get_or-set_other}
use Rattle.row.specs.Sets.{rows_from}
use Rattle.row.specs.Memory.{entry_at, text_at}
use Rattle.resolve.specs.Resolve.{definition_in}
use Rattle.walk.specs.Steps.{type_at, FirstPart, Found, Follows}

-- ---- entries

nothings : (k i : ℕ) → ◌≡◌ {A = Option ℕ} (get_or (replicate k None) i None) None
nothings k i = go (dec_lt i k)
  where
    go : Dec (i < k) → ◌≡◌ {A = Option ℕ} (get_or (replicate k None) i None) None
    go (yes l) = get_or-replicate k i None None l
    go (no l) = get_or-eq_default (replicate k None) None (subst (λ (x : ℕ). x ≤ i) (sym (length-replicate {A = Option ℕ} k None)) (omega arith))

-- what stands at a place after a store
set_holds : (t : List (Option ℕ)) (i v x : ℕ) → get_or (set t i (Some v)) i None ≡ Some x → v ≡ x
set_holds t i v x h = go (dec_lt i (length t))
  where
    go : Dec (i < length t) → v ≡ x
    go (yes l) = let z : Some v ≡ Some x = sym (get_or-set_same t i (Some v) None l) ∙ h in cc
    go (no l) =
        let z : None ≡ Some x = sym (get_or-eq_default (set t i (Some v)) None (subst (λ (y : ℕ). y ≤ i) (sym (length-set t i (Some v))) (omega arith))) ∙ h in
        absurd cc

-- each entry of a table says something of its row
module _ (Says : ℕ → ℕ → Type 0) where
  abbrev True : List (Option ℕ) → Type 0
  True table = (i d : ℕ) → get_or table i None ≡ Some d → Says i d

  true_nothings : (k : ℕ) → True (replicate k None)
  true_nothings k i d h = let z : None ≡ Some d = sym (nothings k i) ∙ h in absurd cc

  module _ (table : List (Option ℕ)) (known : True table) (row : ℕ) where
    -- it is asked
    true_held : {o : Option ℕ} {d : ℕ} → o ≡ get_or table row None → o ≡ Some d → Says row d
    true_held {o} {d} e f = known row d (sym e ∙ f)

    -- one more is noted
    true_set : (d : ℕ) → Says row d → {table' : List (Option ℕ)} → table' ≡ set table row (Some d) → True table'
    true_set d e {table'} f i g h = go (ℕ_discrete i row)
      where
        here : get_or (set table row (Some d)) i None ≡ Some g
        here = ap (λ (t : List (Option ℕ)). get_or t i None) (sym f) ∙ h

        go : Dec (i ≡ row) → Says i g
        go (yes same) =
            let b : d ≡ g = set_holds table row d g (ap (λ (x : ℕ). get_or (set table row (Some d)) x None) (sym same) ∙ here) in
            subst (λ (x : ℕ). Says x g) (sym same) (subst (λ (x : ℕ). Says row x) b e)
        go (no other) = known i g (sym (get_or-set_other table row i (Some d) None other) ∙ here)

module _ (m : List ℕ) (n : ℕ) where
  -- ---- definitions

  -- row d defines what row i refers to
  abbrev Defines : ℕ → ℕ → Type 0
  Defines i d = type_at m n d ≡ definition_in (text_at m i) (rows_from m n 0)

  abbrev Below : ℕ → ℕ → Type 0
  Below i d = d ≤ n

  pub found_nothings : (k : ℕ) → Found m n (replicate k None)
  found_nothings k = record { below = true_nothings Below k; says = true_nothings Defines k }

  module _ {table : List (Option ℕ)} (known : Found m n table) (row : ℕ) where
    pub found_below : {o : Option ℕ} {d : ℕ} → o ≡ get_or table row None → o ≡ Some d → d ≤ n
    found_below e f = true_held Below table known.below row e f

    pub found_held : {o : Option ℕ} {d : ℕ} → o ≡ get_or table row None → o ≡ Some d → type_at m n d ≡ definition_in (text_at m row) (rows_from m n 0)
    found_held e f = true_held Defines table known.says row e f

    pub found_noted : (d : ℕ) → d ≤ n → type_at m n d ≡ definition_in (text_at m row) (rows_from m n 0)
        → {table' : List (Option ℕ)} → table' ≡ set table row (Some d) → Found m n table'
    found_noted d l e f = record { below = true_set Below table known.below row d l f; says = true_set Defines table known.says row d e f }

  -- ---- parts behind parts

  -- row j is the part behind the part at row i
  abbrev Behind : ℕ → ℕ → Type 0
  Behind i j = FirstPart m n (entry_at m i).depth (i + 1) j

  pub follows_nothings : (k : ℕ) → Follows m n (replicate k None)
  follows_nothings k = record { says = true_nothings Behind k }

  module _ {table : List (Option ℕ)} (known : Follows m n table) (row : ℕ) where
    pub follows_held : {o : Option ℕ} {d : ℕ} → o ≡ get_or table row None → o ≡ Some d → FirstPart m n (entry_at m row).depth (row + 1) d
    follows_held e f = true_held Behind table known.says row e f

    pub follows_noted : (j : ℕ) → FirstPart m n (entry_at m row).depth (row + 1) j → {table' : List (Option ℕ)} → table' ≡ set table row (Some j)
        → Follows m n table'
    follows_noted j p f = record { says = true_set Behind table known.says row j p f }
