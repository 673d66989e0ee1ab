-- On scanned text the fuel of the reader of declarations never runs out: with any more of it, and whatever were answered where it runs out, the forms
-- and the rows are the same.
-- Assumes nothing.
use mathlib.Core.Path.{◌≡◌, refl, ap, ◌∙◌}
use mathlib.Core.List.{List, []}
use Prim.Native.Nat.{ℕ, zero, suc, ◌+◌, ◌≤◌}
use native.Mathlib.Omega.{arith}
use lib.ListN.{length}
use Rattle.std.specs.Prelude.{Ok}
use Rattle.json_scan.specs.Json.{Stack, deepest, verdict}
use Rattle.view.specs.Values.{shape_at, value_start}
use Rattle.viewed.proofs.Scanned.{Scanned, text_scanned}
use Rattle.form.specs.declared.forms.Form.{Form}
use Rattle.form.specs.Forms.{form_by, form_within, form_of, most_nested}
use Rattle.schema.specs.Out.{Out}
use Rattle.schema.specs.Schema.{Around, within, schema_by, schema_of, rows_of}
use Rattle.fuel.proofs.Deep.{Deep}
use Rattle.fuel.proofs.Forms.{form_same, form_stands}
use Rattle.fuel.proofs.Rows.{rows_same}

-- the readers, with the answer z where the fuel runs out
unfoldable pub form_else : (ℕ → Form) → ℕ → List ℕ → ℕ → Form
form_else z zero t p = z p
form_else z (suc n) t p = form_by (form_else z n t) t p (shape_at t p)

unfoldable pub schema_else : (Around → ℕ → ℕ → Out) → ℕ → List ℕ → Around → ℕ → ℕ → Out
schema_else z zero t a d p = z a d p
schema_else z (suc n) t a d p = schema_by (schema_else z n t) t a d (form_of t p)

-- what one more leaves as it is, any number more leaves
more : {A : Type 0} (f : ℕ → A) → ((n : ℕ) → most_nested ≤ n → f (suc n) ≡ f n) → (j : ℕ) → f (most_nested + j) ≡ f most_nested
more f h zero = refl
more f h (suc j) = let e : most_nested + suc j ≡ suc (most_nested + j) = omega arith in ap f e ∙ h (most_nested + j) (omega arith) ∙ more f h j

module _ (t : List ℕ) where
  -- ---- in m brackets: a reader is asked only where fuel and brackets make `most_nested`, and there are at most `deepest` brackets

  spent : {A : Type 0} (m p : ℕ) → Deep t m p → most_nested ≤ 0 + m → A
  spent m p i h = let l = i.least in let u = i.most in absurd (omega arith)

  form_step : (n m p : ℕ) → Deep t m p → most_nested ≤ n + m → form_within (suc n) t p ≡ form_within n t p
  unfolding form_within
  form_step zero m p i h = spent m p i h
  form_step (suc n) m p i h = form_same t m p {f = form_within (suc n) t} {g = form_within n t} (λ q k. form_step n (suc m) q k (omega arith)) i

  form_else_lem : (z : ℕ → Form) (n m p : ℕ) → Deep t m p → most_nested ≤ n + m → form_else z n t p ≡ form_within n t p
  unfolding form_else form_within
  form_else_lem z zero m p i h = spent m p i h
  form_else_lem z (suc n) m p i h = form_same t m p {f = form_else z n t} {g = form_within n t} (λ q k. form_else_lem z n (suc m) q k (omega arith)) i

  schema_step : (n m : ℕ) (a : Around) (d p : ℕ) → Deep t m p → most_nested ≤ n + m → schema_of (suc n) t a d p ≡ schema_of n t a d p
  unfolding schema_of
  schema_step zero m a d p i h = spent m p i h
  schema_step (suc n) m a d p i h =
      rows_same t m {s = schema_of (suc n) t} {s' = schema_of n t} (λ b e q k. schema_step n (suc m) b e q k (omega arith)) a d (form_of t p) (form_stands t m most_nested p i)

  schema_else_lem : (z : Around → ℕ → ℕ → Out) (n m : ℕ) (a : Around) (d p : ℕ) → Deep t m p → most_nested ≤ n + m → schema_else z n t a d p ≡ schema_of n t a d p
  unfolding schema_else schema_of
  schema_else_lem z zero m a d p i h = spent m p i h
  schema_else_lem z (suc n) m a d p i h =
      rows_same t m {s = schema_else z n t} {s' = schema_of n t} (λ b e q k. schema_else_lem z n (suc m) b e q k (omega arith)) a d (form_of t p) (form_stands t m most_nested p i)

  -- ---- at any value of the text

  module _ (p : ℕ) (k : Stack) (s : Scanned t p k) (h : length k ≤ deepest) where
    here : Deep t 0 p
    here = record { stack = k; scanned = s; least = omega arith; most = h }

    pub form_enough : (j : ℕ) → form_within (most_nested + j) t p ≡ form_of t p
    form_enough j = more (λ (n : ℕ). form_within n t p) (λ n l. form_step n 0 p here (omega arith)) j

    pub form_lasts : (z : ℕ → Form) → form_else z most_nested t p ≡ form_of t p
    form_lasts z = form_else_lem z most_nested 0 p here (omega arith)

    pub schema_enough : (a : Around) (d j : ℕ) → schema_of (most_nested + j) t a d p ≡ schema_of most_nested t a d p
    schema_enough a d j = more (λ (n : ℕ). schema_of n t a d p) (λ n l. schema_step n 0 a d p here (omega arith)) j

    pub schema_lasts : (z : Around → ℕ → ℕ → Out) (a : Around) (d : ℕ) → schema_else z most_nested t a d p ≡ schema_of most_nested t a d p
    schema_lasts z a d = schema_else_lem z most_nested 0 a d p here (omega arith)

  -- ---- a declaration

  pub enough : verdict t ≡ Ok tt → (j : ℕ) → schema_of (most_nested + j) t (within []) 0 (value_start t) ≡ rows_of t
  unfolding rows_of
  enough w j = schema_enough (value_start t) [] (text_scanned t w) (omega arith) (within []) 0 j

  pub lasts : verdict t ≡ Ok tt → (z : Around → ℕ → ℕ → Out) → schema_else z most_nested t (within []) 0 (value_start t) ≡ rows_of t
  unfolding rows_of
  lasts w z = schema_lasts (value_start t) [] (text_scanned t w) (omega arith) z (within []) 0
