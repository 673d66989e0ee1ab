-- Laws of chains: what was entered is on the chain of its slot, and so a chain answers for all numbers.
-- Assumes nothing.
use mathlib.Core.Path.{◌≡◌, refl, sym, ap, ◌∙◌}
use mathlib.Core.Bool.{Bool, true, false, cond, ◌||◌}
use mathlib.Core.List.{List}
use Prim.Native.Nat.{ℕ, zero, suc, ◌+◌, ◌-◌, ◌<◌, ◌≤◌}
use native.Mathlib.Omega.{arith}
use native.Mathlib.Numerals.{add-one}
use native.Mathlib.Decide.{dec_lt}
use lib.Dec.{eqb}
use lib.ListN.{length, get_or, set}
use lib.Seq.{get_or-set_same, get_or-set_other}
use borrow.Author.Tests.{eqb-true, eqb-false, eq-eqb, ne_eqb}
use Rattle.ground.proofs.Laws.{never}
use Rattle.chains.specs.Chains.{slots, slot_of, on_chain, any_below, Keeps}

either : (x : Bool) {y : Bool} → y ≡ true → (x || y) ≡ true
either true e = refl
either false e = e

pub slot_below : (mark owner : ℕ) → slot_of mark owner < slots
unfolding slot_of
slot_below mark owner = omega arith

-- ---- one chain

module _ (test : ℕ → Bool) (next : List ℕ) where
  -- a number that is not below n is not followed
  pub on_far : (n h : ℕ) → n < h → on_chain test next n h ≡ false
  unfolding on_chain
  on_far zero h l = refl
  on_far (suc n) h l = rw (ne_eqb h (suc n) (λ e. omega arith)) (on_far n h (omega arith))

  -- what is found is below n
  on_below : (n h : ℕ) → on_chain test next n h ≡ true → h ≤ n
  on_below n h e = go (dec_lt n h)
    where
      go : Dec (n < h) → h ≤ n
      go (yes l) = never (sym (on_far n h l) ∙ e)
      go (no k) = omega arith

  -- and is found where more numbers are
  on_more_lem : (n h : ℕ) → on_chain test next n h ≡ true → on_chain test next (suc n) h ≡ true
  unfolding on_chain
  on_more_lem n h e = let l = on_below n h e in rw (ne_eqb h (suc n) (λ q. omega arith)) e

  -- one number, then those behind it
  pub on_at : (n a : ℕ) → a < n → on_chain test next n (suc a) ≡ (test a || on_chain test next a (get_or next a 0))
  unfolding on_chain
  on_at zero a l = absurd (omega arith)
  on_at (suc n) a l = go (eqb a n) refl (λ k. on_at n a k)
    where
      go : (x : Bool) → eqb a n ≡ x → (a < n → on_chain test next n (suc a) ≡ (test a || on_chain test next a (get_or next a 0))) → on_chain test next (suc n) (suc a) ≡ (test a || on_chain test next a (get_or next a 0))
      go true e f = rw (eqb-true a n e, eq-eqb (suc n) (suc n) refl)
      go false e f = let k = eqb-false a n e in rw (ne_eqb (suc a) (suc n) (λ q. k (omega arith))) (f (omega arith))

  -- where no number below n keeps the test, none of a chain does
  pub on_none : (n h : ℕ) → ((a : ℕ) → a < n → test a ≡ false) → on_chain test next n h ≡ false
  unfolding on_chain
  on_none zero h f = refl
  on_none (suc n) h f = go (eqb h (suc n)) (f n (omega arith)) (on_none n (get_or next n 0) (λ a l. f a (omega arith))) (on_none n h (λ a l. f a (omega arith)))
    where
      go : (x : Bool) {t a b : Bool} → t ≡ false → a ≡ false → b ≡ false → cond x (t || a) b ≡ false
      go true p q r = rw (p, q)
      go false p q r = r

  -- a store at a number that is not below n
  on_set_lem : (n h k v : ℕ) → n ≤ k → on_chain test (set next k v) n h ≡ on_chain test next n h
  unfolding on_chain
  on_set_lem zero h k v l = refl
  on_set_lem (suc n) h k v l = rw (get_or-set_other next k n v 0 (λ e. omega arith), on_set_lem n (get_or next n 0) k v (omega arith), on_set_lem n h k v (omega arith))

-- ---- a walk along a chain: what is left of it, from h on and below `left`, gives the whole answer

on_zero : (test : ℕ → Bool) (next : List ℕ) (n : ℕ) → on_chain test next n 0 ≡ false
unfolding on_chain
on_zero test next zero = refl
on_zero test next (suc n) = rw (ne_eqb 0 (suc n) (λ e. omega arith)) (on_zero test next n)

module _ (test : ℕ → Bool) (next : List ℕ) (left h : ℕ) (x : Bool) (inv : on_chain test next left h ≡ x) where
  pub walk_far : left < h → false ≡ x
  walk_far l = sym (on_far test next left h l) ∙ inv

  module _ (p : 0 < h) (q : h ≤ left) where
    here : (test (h - 1) || on_chain test next (h - 1) (get_or next (h - 1) 0)) ≡ x
    here =
        let e : suc (h - 1) ≡ h = omega arith in
        sym (on_at test next left (h - 1) (omega arith)) ∙ ap (λ (k : ℕ). on_chain test next left k) e ∙ inv

    pub walk_hit : test (h - 1) ≡ true → true ≡ x
    walk_hit e = rw e at here

    pub walk_on : test (h - 1) ≡ false → {g : ℕ} → g ≡ get_or next (h - 1) 0 → on_chain test next (h - 1) g ≡ x
    walk_on e f = rw f (rw e at here)

  -- where no number below h keeps the test
  pub walk_none : ((a : ℕ) → a < h → test a ≡ false) → false ≡ x
  walk_none f = go (dec_lt left h) (dec_lt 0 h)
    where
      go : Dec (left < h) → Dec (0 < h) → false ≡ x
      go (yes l) d = walk_far l
      go (no l) (yes k) =
          let e = on_none test next (h - 1) (get_or next (h - 1) 0) (λ a z. f a (omega arith)) in
          sym (rw (f (h - 1) (omega arith)) e) ∙ here k (omega arith)
      go (no l) (no k) =
          let e : h ≡ 0 = omega arith in
          sym (on_zero test next left) ∙ ap (λ (z : ℕ). on_chain test next left z) (sym e) ∙ inv

-- ---- any number below n

module _ (test : ℕ → Bool) where
  any_none : (n : ℕ) → any_below test n ≡ false → (a : ℕ) → a < n → test a ≡ false
  unfolding any_below
  any_none zero e a l = absurd (omega arith)
  any_none (suc n) e a l = go (any_below test n) refl (test n) refl (eqb a n) refl (λ k. any_none n k a)
    where
      go : (x : Bool) → any_below test n ≡ x → (y : Bool) → test n ≡ y → (z : Bool) → eqb a n ≡ z → (any_below test n ≡ false → a < n → test a ≡ false) → test a ≡ false
      go true p y q z r f = let w : true ≡ false = rw p at e in cc
      go false p true q z r f = let w : true ≡ false = rw (p, q) at e in cc
      go false p false q true r f = rw (eqb-true a n r) q
      go false p false q false r f = let k = eqb-false a n r in f p (omega arith)

  any_one : {X : Bool} (n : ℕ) → ((a : ℕ) → a < n → test a ≡ true → X ≡ true) → any_below test n ≡ true → X ≡ true
  unfolding any_below
  any_one zero f e = never e
  any_one {X} (suc n) f e = go (any_below test n) refl (any_one n (λ a l. f a (omega arith)))
    where
      go : (x : Bool) → any_below test n ≡ x → (any_below test n ≡ true → X ≡ true) → X ≡ true
      go true p g = g p
      go false p g = f n (omega arith) (rw p at e)

-- ---- what was entered

module _ {is_in : ℕ → Bool} {slot : ℕ → ℕ} where
  -- nothing was, whatever the tables hold
  pub keeps_none : (first next : List ℕ) (n : ℕ) → ((a : ℕ) → a < n → is_in a ≡ false) → Keeps is_in slot first next n
  keeps_none first next n f = record { keeps = λ a l i t e. never (sym (f a l) ∙ i) }

  module _ {first next : List ℕ} {n : ℕ} (k : Keeps is_in slot first next n) where
    -- a number that is none of them
    pub keeps_past : is_in n ≡ false → Keeps is_in slot first next (n + 1)
    keeps_past f = record { keeps = λ a l i t e. go a l i t e (eqb a n) refl }
      where
        go : (a : ℕ) → a < n + 1 → is_in a ≡ true → (test : ℕ → Bool) → test a ≡ true → (x : Bool) → eqb a n ≡ x → on_chain test next (n + 1) (get_or first (slot a) 0) ≡ true
        go a l i t e true q = never (sym f ∙ ap is_in (sym (eqb-true a n q)) ∙ i)
        go a l i t e false q = let z = eqb-false a n q in rw (add-one n) (on_more_lem t next n _ (k.keeps a (omega arith) i t e))

    -- one that is entered
    module _ (p : slot n < length first) (q : n < length next) where
      first' : List ℕ
      first' = set first (slot n) (n + 1)

      next' : List ℕ
      next' = set next n (get_or first (slot n) 0)

      -- the chain of its slot is the number, then what was there before
      at_slot : (test : ℕ → Bool) (s : ℕ) → s ≡ slot n → on_chain test next' (suc n) (get_or first' s 0) ≡ (test n || on_chain test next n (get_or first (slot n) 0))
      unfolding first' next'
      at_slot test s e = rw (e, get_or-set_same first (slot n) (n + 1) 0 p, add-one n, on_at test next' (suc n) n (omega arith), get_or-set_same next n (get_or first (slot n) 0) 0 q, on_set_lem test next n (get_or first (slot n) 0) n (get_or first (slot n) 0) (omega arith))

      -- those of the others are what they were
      elsewhere : (test : ℕ → Bool) (s : ℕ) → (s ≡ slot n → ⊥) → on_chain test next n (get_or first s 0) ≡ true → on_chain test next' (suc n) (get_or first' s 0) ≡ true
      unfolding first' next'
      elsewhere test s e f = rw (get_or-set_other first (slot n) s (n + 1) 0 e) (on_more_lem test next' n (get_or first s 0) (on_set_lem test next n (get_or first s 0) n (get_or first (slot n) 0) (omega arith) ∙ f))

      pub keeps_more : Keeps is_in slot (set first (slot n) (n + 1)) (set next n (get_or first (slot n) 0)) (n + 1)
      unfolding first' next'
      keeps_more = record { keeps = λ a l i t e. ap (λ (z : ℕ). on_chain t next' z (get_or first' (slot a) 0)) (add-one n) ∙ go a l i t e (eqb a n) refl (eqb (slot a) (slot n)) refl }
        where
          go : (a : ℕ) → a < n + 1 → is_in a ≡ true → (test : ℕ → Bool) → test a ≡ true → (x : Bool) → eqb a n ≡ x → (y : Bool) → eqb (slot a) (slot n) ≡ y → on_chain test next' (suc n) (get_or first' (slot a) 0) ≡ true
          go a l i t e true q y r = let z = eqb-true a n q in at_slot t (slot a) (ap slot z) ∙ rw (← z, e)
          go a l i t e false q true r = let z = eqb-false a n q in at_slot t (slot a) (eqb-true (slot a) (slot n) r) ∙ either (t n) (ap (λ (s : ℕ). on_chain t next n (get_or first s 0)) (sym (eqb-true (slot a) (slot n) r)) ∙ k.keeps a (omega arith) i t e)
          go a l i t e false q false r = let z = eqb-false a n q in elsewhere t (slot a) (eqb-false (slot a) (slot n) r) (k.keeps a (omega arith) i t e)

    -- a chain answers for all numbers, where those that keep a test are of its slot
    pub chain_any : (test : ℕ → Bool) (s : ℕ) → ((a : ℕ) → a < n → test a ≡ true → (is_in a ≡ true) × (slot a ≡ s)) → on_chain test next n (get_or first s 0) ≡ any_below test n
    chain_any test s f = go (any_below test n) refl
      where
        one : (a : ℕ) → a < n → test a ≡ true → on_chain test next n (get_or first s 0) ≡ true
        one a l e = let g = f a l e in ap (λ (z : ℕ). on_chain test next n (get_or first z 0)) (sym g.1) ∙ k.keeps a l g.0 test e

        go : (x : Bool) → any_below test n ≡ x → on_chain test next n (get_or first s 0) ≡ x
        go true e = any_one test n one e
        go false e = on_none test next n (get_or first s 0) (any_none test n e)
