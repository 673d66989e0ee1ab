-- The table of verdicts: what it holds where, and that a table that is true stays true.
-- Assumes nothing.
use mathlib.Core.Path.{◌≡◌, refl, sym, ap, subst, ◌∙◌}
use mathlib.Core.Bool.{Bool, true, false}
use mathlib.Core.List.{List}
use Prim.Native.Nat.{ℕ, suc, ◌+◌, ◌*◌, ◌<◌, ◌≤◌}
use native.Mathlib.Nat.{mul-le-mul_left, mul-le-mul_right, suc-mul}
use native.Mathlib.Omega.{arith}
use native.Mathlib.Decide.{dec_lt, ℕ_discrete}
use lib.ListN.{length, get_or, set, replicate, get_or-replicate, length-replicate, length-set, get_or-eq_default}
use lib.Seq.{set_out, get_or-set_same, get_or-set_other}
use borrow.Author.Tests.{lt-ltb, le-ltb}
use Rattle.row.specs.Layout.{row_limit}
use Rattle.fits.specs.Fits.{plain_fits}
use Rattle.fits.specs.Steps.{type_at, fitting, mark, is_kept, entry_at, noted, Verdicts}

-- ---- one entry

pub place_few : (n p : ℕ) → p ≤ 256 → n ≤ row_limit → p * n ≤ 262144
place_few n p h l = let a = mul-le-mul_left p l in omega arith

module _ (n r p : ℕ) where
  kept : r < n → p < 256 → is_kept n r p ≡ true
  unfolding is_kept
  kept l h = rw (lt-ltb r n l, lt-ltb p 256 h)

  kept_row : n ≤ r → is_kept n r p ≡ false
  unfolding is_kept
  kept_row l = rw (le-ltb r n l)

  kept_place : r < n → 256 ≤ p → is_kept n r p ≡ false
  unfolding is_kept
  kept_place l h = rw (lt-ltb r n l, le-ltb p 256 h)

  module _ (t : List ℕ) where
    pub entry_row : n ≤ r → 0 ≡ entry_at n t r p
    unfolding entry_at
    entry_row l = rw (kept_row l)

    pub entry_place : r < n → 256 ≤ p → 0 ≡ entry_at n t r p
    unfolding entry_at
    entry_place l h = rw (kept_place l h)

    pub entry_here : r < n → p < 256 → get_or t (p * n + r) 0 ≡ entry_at n t r p
    unfolding entry_at
    entry_here l h = rw (kept l h)

    pub entry_out : r < n → p < 256 → length t ≤ p * n + r → 0 ≡ entry_at n t r p
    entry_out l h k = sym (get_or-eq_default t 0 k) ∙ entry_here l h

    module _ (v : ℕ) where
      pub noted_row : n ≤ r → t ≡ noted n t r p v
      unfolding noted
      noted_row l = rw (kept_row l)

      pub noted_place : r < n → 256 ≤ p → t ≡ noted n t r p v
      unfolding noted
      noted_place l h = rw (kept_place l h)

      pub noted_here : r < n → p < 256 → set t (p * n + r) v ≡ noted n t r p v
      unfolding noted
      noted_here l h = rw (kept l h)

      pub noted_out : r < n → p < 256 → length t ≤ p * n + r → t ≡ noted n t r p v
      noted_out l h k = sym (set_out t (p * n + r) v k) ∙ noted_here l h

-- where a table holds something, it has a place for it
held : (n r p : ℕ) (t : List ℕ) (x : ℕ) → (x ≡ 0 → ⊥) → entry_at n t r p ≡ x → (r < n) × (p < 256) × (get_or t (p * n + r) 0 ≡ x)
held n r p t x some h = go (dec_lt r n) (dec_lt p 256)
  where
    go : Dec (r < n) → Dec (p < 256) → (r < n) × (p < 256) × (get_or t (p * n + r) 0 ≡ x)
    go (yes l) (yes k) = (l, k, entry_here n r p t l k ∙ h)
    go (yes l) (no k) = absurd (some (sym h ∙ sym (entry_place n r p t l (omega arith))))
    go (no l) k = absurd (some (sym h ∙ sym (entry_row n r p t (omega arith))))

-- each row has its place
module _ (n : ℕ) where
  earlier : (q s p r : ℕ) → s < n → q < p → q * n + s ≡ p * n + r → ⊥
  earlier q s p r l h e =
      let a : suc q * n ≤ p * n = mul-le-mul_right n (omega arith) in
      let b = suc-mul q n in
      omega arith

  apart : (q s p r : ℕ) → s < n → r < n → q * n + s ≡ p * n + r → q ≡ p
  apart q s p r l h e = go (dec_lt q p) (dec_lt p q)
    where
      go : Dec (q < p) → Dec (p < q) → q ≡ p
      go (yes k) d = absurd (earlier q s p r l k e)
      go (no k) (yes d) = absurd (earlier p r q s h d (sym e))
      go (no k) (no d) = omega arith

-- ---- marks

mark_some : (f : ℕ) (b : Bool) → mark f b ≡ 0 → ⊥
unfolding mark
mark_some f true h = omega arith
mark_some f false h = omega arith

mark_left : (f g : ℕ) (b c : Bool) → mark f b ≡ mark g c → f ≡ g
unfolding mark
mark_left f g true true h = omega arith
mark_left f g true false h = absurd (omega arith)
mark_left f g false true h = absurd (omega arith)
mark_left f g false false h = omega arith

mark_verdict : (f g : ℕ) (b c : Bool) → mark f b ≡ mark g c → b ≡ c
unfolding mark
mark_verdict f g true true h = refl
mark_verdict f g true false h = absurd (omega arith)
mark_verdict f g false true h = absurd (omega arith)
mark_verdict f g false false h = refl

-- ---- a table that is true

pub zeros : (n i : ℕ) → ◌≡◌ {A = ℕ} (get_or (replicate n 0) i 0) 0
zeros n i = go (dec_lt i n)
  where
    go : Dec (i < n) → ◌≡◌ {A = ℕ} (get_or (replicate n 0) i 0) 0
    go (yes l) = get_or-replicate n i 0 0 l
    go (no l) = get_or-eq_default (replicate n 0) 0 (subst (λ (x : ℕ). x ≤ i) (sym (length-replicate {A = ℕ} n 0)) (omega arith))

-- what stands at a place after a store, where it is not nothing
pub set_holds : (t : List ℕ) (i v x : ℕ) → (x ≡ 0 → ⊥) → get_or (set t i v) i 0 ≡ x → v ≡ x
set_holds t i v x some h = go (dec_lt i (length t))
  where
    go : Dec (i < length t) → v ≡ x
    go (yes l) = sym (get_or-set_same t i v 0 l) ∙ h
    go (no l) = absurd (some (sym h ∙ get_or-eq_default (set t i v) 0 (subst (λ (y : ℕ). y ≤ i) (sym (length-set t i v)) (omega arith))))

module _ (m : List ℕ) (n : ℕ) (t : List ℕ) where
  abbrev is : ℕ → ℕ → ℕ → Bool
  is f r p = plain_fits t (fitting m n t f) (type_at m n r) p

  -- a table of zeros says nothing
  pub true_zeros : (k : ℕ) → Verdicts m n t (replicate k 0)
  true_zeros k = record {
    says = λ f r p b h.
        let a = held n r p (replicate k 0) (mark f b) (mark_some f b) h in
        absurd (mark_some f b (sym a.2 ∙ zeros k (p * n + r)));
  }

  module _ {table : List ℕ} (known : Verdicts m n t table) (f r p : ℕ) where
    -- it is asked
    pub true_no : {v : ℕ} → v ≡ entry_at n table r p → v ≡ f * 2 + 1 → false ≡ is f r p
    unfolding mark
    true_no e g = sym (known.says f r p false (sym e ∙ g))

    pub true_yes : {v : ℕ} → v ≡ entry_at n table r p → v ≡ f * 2 + 2 → true ≡ is f r p
    unfolding mark
    true_yes e g = sym (known.says f r p true (sym e ∙ g))

    -- one more is set
    true_set : (b : Bool) → r < n → is f r p ≡ b → Verdicts m n t (set table (p * n + r) (mark f b))
    true_set b l e = record { says = λ g s q c k. go g s q c (held n s q _ (mark g c) (mark_some g c) k) (ℕ_discrete (q * n + s) (p * n + r)) }
      where
        go : (g s q : ℕ) (c : Bool) → (s < n) × (q < 256) × (get_or (set table (p * n + r) (mark f b)) (q * n + s) 0 ≡ mark g c) → Dec (q * n + s ≡ p * n + r) → is g s q ≡ c
        go g s q c k (yes same) =
            let j : q ≡ p = apart n q s p r k.0 l same in
            let o : q * n ≡ p * n = ap (λ (x : ℕ). x * n) j in
            let i : s ≡ r = omega arith in
            let z : mark f b ≡ mark g c = set_holds table (p * n + r) (mark f b) (mark g c) (mark_some g c) (ap (λ (x : ℕ). get_or (set table (p * n + r) (mark f b)) x 0) (sym same) ∙ k.2) in
            ap (λ (x : ℕ). is x s q) (sym (mark_left f g b c z)) ∙ ap (λ (x : ℕ). is f x q) i ∙ ap (λ (x : ℕ). is f r x) j ∙ e ∙ mark_verdict f g b c z
        go g s q c k (no other) =
            known.says g s q c (sym (entry_here n s q table k.0 k.1) ∙ sym (get_or-set_other table (p * n + r) (q * n + s) (mark f b) 0 other) ∙ k.2)

    -- one more is noted
    true_noted : (b : Bool) → is f r p ≡ b → Verdicts m n t (noted n table r p (mark f b))
    true_noted b e = go (dec_lt r n) (dec_lt p 256)
      where
        go : Dec (r < n) → Dec (p < 256) → Verdicts m n t (noted n table r p (mark f b))
        go (yes l) (yes k) = subst (λ (y : List ℕ). Verdicts m n t y) (noted_here n r p table (mark f b) l k) (true_set b l e)
        go (yes l) (no k) = subst (λ (y : List ℕ). Verdicts m n t y) (noted_place n r p table (mark f b) l (omega arith)) known
        go (no l) k = subst (λ (y : List ℕ). Verdicts m n t y) (noted_row n r p table (mark f b) (omega arith)) known

    module _ {x : Bool} (e : x ≡ is f r p) {table' : List ℕ} where
      pub noted_no : x ≡ false → table' ≡ noted n table r p (f * 2 + 1) → Verdicts m n t table'
      unfolding mark
      noted_no g h = subst (λ (y : List ℕ). Verdicts m n t y) (sym h) (true_noted false (sym e ∙ g))

      pub noted_yes : x ≡ true → table' ≡ noted n table r p (f * 2 + 2) → Verdicts m n t table'
      unfolding mark
      noted_yes g h = subst (λ (y : List ℕ). Verdicts m n t y) (sym h) (true_noted true (sym e ∙ g))
