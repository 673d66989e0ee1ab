-- A loop that goes from one element to the next, or from one member to the next, visits exactly the list.
-- Assumes nothing.
use Rattle.std.specs.Prelude.{Option, Some, None}
use mathlib.Core.Path.{◌≡◌, refl, sym, ap, ◌∙◌}
use mathlib.Core.Bool.{Bool, true, false, cond, ◌&&◌}
use mathlib.Core.List.{List, [], ◌∷◌}
use Prim.Native.Nat.{ℕ, zero, suc, ◌+◌, ◌<◌, ◌≤◌}
use native.Mathlib.Omega.{arith}
use lib.Dec.{eqb}
use lib.ListN.{length}
use Rattle.ground.specs.Bytes.{byte_at}
use Rattle.ground.proofs.Laws.{and_true}
use Rattle.view.specs.Values.{skip_of, starts_value}
use Rattle.view.specs.Ends.{end_of}
use Rattle.view.specs.Elements.{value_from, first_element, next_element, unroll, elements_at, elements}
use Rattle.view.specs.Members.{colon_of, value_of, is_member, key_from, first_key, key_behind, key_after, keys_at}
use Rattle.view.proofs.Places.{value_in_text, skip_ahead, end_ahead}

two : {A : Type 0} {q : ℕ} → None ≡ Some q → A
two e = let z : ◌≡◌ {A = ℕ} 0 1 = cc in absurd (omega arith)

-- ---- whatever goes forth within a bound
module _ (next : ℕ → Option ℕ) where
  unroll_done : (n : ℕ) → unroll next n None ≡ []
  unfolding unroll
  unroll_done zero = refl
  unroll_done (suc n) = refl

  unroll_few : (n : ℕ) (s : Option ℕ) → length (unroll next n s) ≤ n
  unfolding unroll
  unroll_few zero s = omega arith
  unroll_few (suc n) None = omega arith
  unroll_few (suc n) (Some p) = let h = unroll_few n (next p) in omega arith

module _ (next : ℕ → Option ℕ) (most : ℕ) (ahead : (p q : ℕ) → next p ≡ Some q → (p < q) × (q < most)) where
  on : (n m p : ℕ) → ((q : ℕ) → p < q → q < most → unroll next n (Some q) ≡ unroll next m (Some q))
      → (s : Option ℕ) → next p ≡ s → unroll next n s ≡ unroll next m s
  on n m p r (Some q) e = let f = ahead p q e in r q f.0 f.1
  on n m p r None e = unroll_done next n ∙ sym (unroll_done next m)

  enough : (n m p : ℕ) → p < most → most ≤ n + p → most ≤ m + p → unroll next n (Some p) ≡ unroll next m (Some p)
  unfolding unroll
  enough zero m p h a b = absurd (omega arith)
  enough (suc n) zero p h a b = absurd (omega arith)
  enough (suc n) (suc m) p h a b =
      ap (λ (l : List ℕ). p ∷ l) (on n m p (λ q (f : p < q) (g : q < most). enough n m q g (omega arith) (omega arith)) (next p) refl)

  -- the fuel is no limit
  unroll_next : (p : ℕ) → unroll next (suc most) (Some p) ≡ p ∷ unroll next (suc most) (next p)
  unfolding unroll
  unroll_next p =
      ap (λ (l : List ℕ). p ∷ l)
      (on most (suc most) p (λ q (f : p < q) (g : q < most). enough most (suc most) q g (omega arith) (omega arith)) (next p) refl)

-- ---- what is found stands ahead, and within the text
pub value_ahead : (t : List ℕ) (p q : ℕ) → value_from t p ≡ Some q → (p ≤ q) × (q < length t) × (starts_value (byte_at t q) ≡ true)
unfolding value_from
value_ahead t p q e = go (starts_value (byte_at t (skip_of t p))) refl e
  where
    go : (x : Bool) → starts_value (byte_at t (skip_of t p)) ≡ x → cond x (Some (skip_of t p)) None ≡ Some q → (p ≤ q) × (q < length t) × (starts_value (byte_at t q) ≡ true)
    go true f g =
        let k : skip_of t p ≡ q = cc in
        let l = value_in_text t (skip_of t p) (byte_at t (skip_of t p)) refl f in
        let a = skip_ahead t p in
        (omega arith, omega arith, rw k at f)
    go false f g = two g

pub first_ahead : (t : List ℕ) (p q : ℕ) → first_element t p ≡ Some q → (p < q) × (q < length t) × (starts_value (byte_at t q) ≡ true)
unfolding first_element
first_ahead t p q e = go (eqb (byte_at t p) 91) e
  where
    go : (x : Bool) → cond x (value_from t (p + 1)) None ≡ Some q → (p < q) × (q < length t) × (starts_value (byte_at t q) ≡ true)
    go true g = let v = value_ahead t (p + 1) q g in (omega arith, v.1, v.2)
    go false g = two g

pub next_ahead : (t : List ℕ) (p q : ℕ) → next_element t p ≡ Some q → (end_of t p < q) × (q < length t) × (starts_value (byte_at t q) ≡ true)
unfolding next_element
next_ahead t p q e = go (eqb (byte_at t (skip_of t (end_of t p))) 44) e
  where
    go : (x : Bool) → cond x (value_from t (skip_of t (end_of t p) + 1)) None ≡ Some q → (end_of t p < q) × (q < length t) × (starts_value (byte_at t q) ≡ true)
    go true g = let v = value_ahead t (skip_of t (end_of t p) + 1) q g in let a = skip_ahead t (end_of t p) in (omega arith, v.1, v.2)
    go false g = two g

element_ahead : (t : List ℕ) (p q : ℕ) → next_element t p ≡ Some q → (p < q) × (q < length t)
element_ahead t p q e = let v = next_ahead t p q e in let a = end_ahead t p in (omega arith, v.1)

-- ---- the two equations of a loop over an array
pub elements_next : (t : List ℕ) (p : ℕ) → elements_at t (Some p) ≡ p ∷ elements_at t (next_element t p)
unfolding elements_at
elements_next t p = unroll_next (next_element t) (length t) (element_ahead t) p

pub elements_done : (t : List ℕ) → elements_at t None ≡ []
unfolding elements_at
elements_done t = unroll_done (next_element t) (suc (length t))

pub elements_few : (t : List ℕ) (s : Option ℕ) → length (elements_at t s) ≤ length t + 1
unfolding elements_at
elements_few t s = let h = unroll_few (next_element t) (suc (length t)) s in omega arith

-- the same, as a loop states it: its measure is the length of what is left
pub left_start : (t : List ℕ) (p : ℕ) {s : Option ℕ} → s ≡ first_element t p → elements_at t s ≡ elements t p
unfolding elements
left_start t p e = ap (λ (x : Option ℕ). elements_at t x) e

pub left_done : (t : List ℕ) {s : Option ℕ} → s ≡ None → elements_at t s ≡ []
left_done t e = ap (λ (x : Option ℕ). elements_at t x) e ∙ elements_done t

pub left_next : (t : List ℕ) {s s' : Option ℕ} {p : ℕ} → s ≡ Some p → s' ≡ next_element t p → elements_at t s ≡ p ∷ elements_at t s'
left_next t {p = p} e f =
    ap (λ (x : Option ℕ). elements_at t x) e ∙ elements_next t p ∙ ap (λ (x : Option ℕ). p ∷ elements_at t x) (sym f)

-- ---- the same for the members of an object
pub key_ahead : (t : List ℕ) (p k : ℕ) → key_from t p ≡ Some k → (p ≤ k) × (is_member t k ≡ true)
unfolding key_from
key_ahead t p k e = go (is_member t (skip_of t p)) refl e
  where
    go : (x : Bool) → is_member t (skip_of t p) ≡ x → cond x (Some (skip_of t p)) None ≡ Some k → (p ≤ k) × (is_member t k ≡ true)
    go true f g =
        let e : skip_of t p ≡ k = cc in
        let a = skip_ahead t p in
        (omega arith, rw e at f)
    go false f g = two g

pub first_key_ahead : (t : List ℕ) (p k : ℕ) → first_key t p ≡ Some k → (p < k) × (is_member t k ≡ true)
unfolding first_key
first_key_ahead t p k e = go (eqb (byte_at t p) 123) e
  where
    go : (x : Bool) → cond x (key_from t (p + 1)) None ≡ Some k → (p < k) × (is_member t k ≡ true)
    go true g = let v = key_ahead t (p + 1) k g in (omega arith, v.1)
    go false g = two g

pub next_key_ahead : (t : List ℕ) (v k : ℕ) → key_behind t v ≡ Some k → (end_of t v < k) × (is_member t k ≡ true)
unfolding key_behind
next_key_ahead t v k e = go (eqb (byte_at t (skip_of t (end_of t v))) 44) e
  where
    go : (x : Bool) → cond x (key_from t (skip_of t (end_of t v) + 1)) None ≡ Some k → (end_of t v < k) × (is_member t k ≡ true)
    go true g = let w = key_ahead t (skip_of t (end_of t v) + 1) k g in let a = skip_ahead t (end_of t v) in (omega arith, w.1)
    go false g = two g

pub value_behind : (t : List ℕ) (k : ℕ) → end_of t k < value_of t k
unfolding value_of
value_behind t k = let a = skip_ahead t (end_of t k) in let b = skip_ahead t (colon_of t k + 1) in omega arith

-- a member: its value stands behind its key, and within the text
pub member_value : (t : List ℕ) (k : ℕ) → is_member t k ≡ true → (end_of t k < value_of t k) × (value_of t k < length t) × (starts_value (byte_at t (value_of t k)) ≡ true)
unfolding is_member
member_value t k e =
    let a = and_true (eqb (byte_at t k) 34 && eqb (byte_at t (colon_of t k)) 58) (starts_value (byte_at t (value_of t k))) e in
    let l = value_in_text t (value_of t k) (byte_at t (value_of t k)) refl a.1 in
    (value_behind t k, l, a.1)

after_ahead : (t : List ℕ) (k q : ℕ) → key_after t k ≡ Some q → (k < q) × (q < length t)
after_ahead t k q e =
    let a = next_key_ahead t (value_of t k) q e in
    let b = member_value t q a.1 in
    let c = end_ahead t q in
    let d = end_ahead t (value_of t k) in
    let f = value_behind t k in
    let g = end_ahead t k in
    (omega arith, omega arith)

pub keys_next : (t : List ℕ) (k : ℕ) → keys_at t (Some k) ≡ k ∷ keys_at t (key_after t k)
unfolding keys_at
keys_next t k = unroll_next (key_after t) (length t) (after_ahead t) k

pub keys_done : (t : List ℕ) → keys_at t None ≡ []
unfolding keys_at
keys_done t = unroll_done (key_after t) (suc (length t))
