-- The nesting that `fits` is given never runs out on a default that memory may keep: with any more of it the answer is the same. So it is there to
-- make the recursion end, and refuses nothing.
-- Assumes nothing.
use Rattle.std.specs.Prelude.{Option, Some, None}
use mathlib.Core.Path.{◌≡◌, refl, sym, ap, ap₂, ◌∙◌}
use mathlib.Core.Bool.{Bool, true, false, not, cond, ◌&&◌, ◌||◌}
use mathlib.Core.List.{List, [], ◌∷◌}
use Prim.Native.Nat.{ℕ, zero, suc, ◌+◌, ◌-◌, ◌≤◌}
use native.Mathlib.Omega.{arith}
use lib.ListN.{length}
use borrow.Author.Tests.{eqb-true, leb-true, not-true}
use Rattle.std.specs.Prelude.{Ok, Err}
use Rattle.ground.specs.Bytes.{byte_at}
use Rattle.ground.proofs.Laws.{never, and_true}
use Rattle.name.specs.Name.{every}
use Rattle.name.specs.Full.{kept_limit, is_short}
use Rattle.json_scan.specs.Json.{deepest, is_space, scanned, verdict, Verdict}
use Rattle.json_scan.proofs.Laws.{not_too_long}
use Rattle.row.specs.Rows.{Row}
use Rattle.row.specs.declared.kind.Kind.{Kind}
use Rattle.row.specs.declared.kind.Kind.TheVariants.{Null, Boolean, Int, Long, Float, Double, Bytes, String, Reference, Array, Map, Union, Record, Enum, Fixed, Field, Symbol, Alias, FieldAlias}
use Rattle.view.specs.Values.{count, skip_of, value_start}
use Rattle.view.specs.Elements.{elements}
use Rattle.view.specs.Strings.{string_at}
use Rattle.view.specs.Members.{members_at, member}
use Rattle.view.specs.declared.members.Member.{Member}
use Rattle.view.proofs.Laws.{All}
use Rattle.viewed.proofs.Scanned.{text_scanned}
use Rattle.resolve.specs.Kinds.{is_kind}
use Rattle.resolve.specs.Rules.{some, passes, is_default}
use Rattle.values.specs.Values.{is_array, is_object}
use Rattle.fits.specs.Types.{parts_under, type_of, has_default}
use Rattle.fits.specs.Fits.{on_value, member_fits, field_fits, kind_fits, plain_fits, reached, one_fits, any_fits, fits}
use Rattle.fuel.proofs.Deep.{Deep, Opens, deep_elements, deep_member}

-- ---- tests that agree on a list

every_same : {A : Type 0} {P : A → Type 0} {f g : A → Bool} → ((x : A) → P x → f x ≡ g x) → (xs : List A) → All P xs → every f xs ≡ every g xs
unfolding every
every_same h [] a = refl
every_same h (x ∷ xs) a = ap₂ (λ (p q : Bool). p && q) (h x a.0) (every_same h xs a.1)

every_alike : {A : Type 0} {f g : A → Bool} → ((x : A) → f x ≡ g x) → (xs : List A) → every f xs ≡ every g xs
unfolding every
every_alike h [] = refl
every_alike h (x ∷ xs) = ap₂ (λ (p q : Bool). p && q) (h x) (every_alike h xs)

some_alike : {A : Type 0} {f g : A → Bool} → ((x : A) → f x ≡ g x) → (xs : List A) → some f xs ≡ some g xs
unfolding some
some_alike h [] = refl
some_alike h (x ∷ xs) = ap₂ (λ (p q : Bool). p || q) (h x) (some_alike h xs)

-- ---- two readers that agree on every value one bracket further in

module _ (t : List ℕ) (m : ℕ) {go go' : List Row → ℕ → Bool} (same : (type : List Row) (q : ℕ) → Deep t (suc m) q → go type q ≡ go' type q) where
  value_same : (type : List Row) (none : Bool) (s : Option ℕ) → ((v : ℕ) → s ≡ Some v → Deep t (suc m) v) → on_value (go type) none s ≡ on_value (go' type) none s
  unfolding on_value
  value_same type none (Some v) h = same type v (h v refl)
  value_same type none None h = refl

  module _ (p : ℕ) (o : Opens t m 123 p) where
    member_same : (type : List Row) (k : Member) → member_fits t go type p k ≡ member_fits t go' type p k
    unfolding member_fits
    member_same type k = value_same type false (member t p (string_at t k.key)) (λ v e. deep_member t m p o (string_at t k.key) v e)

    field_same : (rows : List Row) → field_fits t go p rows ≡ field_fits t go' p rows
    unfolding field_fits
    field_same [] = refl
    field_same (f ∷ rest) = ap (λ (b : Bool). not (is_kind Field f.kind) || b) (value_same (type_of rest) (has_default f) (member t p f.text) (λ v e. deep_member t m p o f.text v e))

  module _ (r : Row) (rest : List Row) (p : ℕ) (d : Deep t m p) where
    opens_array : is_array t p ≡ true → Opens t m 91 p
    unfolding is_array
    opens_array e = record { deep = d; byte = eqb-true (byte_at t p) 91 e }

    opens_object : is_object t p ≡ true → Opens t m 123 p
    unfolding is_object
    opens_object e = record { deep = d; byte = eqb-true (byte_at t p) 123 e }

    -- what is asked where a test holds
    only : (b c : Bool) {x y : Bool} → b ≡ c → (c ≡ true → x ≡ y) → (b && x) ≡ (b && y)
    only true true e h = h refl
    only true false e h = never (sym e)
    only false c e h = refl

    kind_same : (k : Kind) → kind_fits t go k r rest p ≡ kind_fits t go' k r rest p
    unfolding kind_fits
    kind_same Null = refl
    kind_same Boolean = refl
    kind_same Int = refl
    kind_same Long = refl
    kind_same Float = refl
    kind_same Double = refl
    kind_same Bytes = refl
    kind_same String = refl
    kind_same Fixed = refl
    kind_same Enum = refl
    kind_same Array = only (is_array t p) (is_array t p) refl (λ e. every_same (λ q i. same rest q i) (elements t p) (deep_elements t m p (opens_array e)))
    kind_same Map = only (is_object t p) (is_object t p) refl (λ e. every_alike (member_same p (opens_object e) rest) (members_at t p))
    kind_same Record = only (is_object t p) (is_object t p) refl (λ e. every_alike (field_same p (opens_object e)) (parts_under r.depth rest))
    kind_same Union = refl
    kind_same Reference = refl
    kind_same Field = refl
    kind_same Symbol = refl
    kind_same Alias = refl
    kind_same FieldAlias = refl

  plain_same : (type : List Row) (p : ℕ) → Deep t m p → plain_fits t go type p ≡ plain_fits t go' type p
  unfolding plain_fits
  plain_same [] p d = refl
  plain_same (r ∷ rest) p d = kind_same r rest p d r.kind

  module _ (rows : List Row) (p : ℕ) (d : Deep t m p) where
    one_same : (type : List Row) → one_fits rows t go p type ≡ one_fits rows t go' p type
    unfolding one_fits
    one_same type = plain_same (reached rows type) p d

    any_same : (type : List Row) → any_fits rows t go type p ≡ any_fits rows t go' type p
    unfolding any_fits
    any_same [] = refl
    any_same (r ∷ rest) = ap₂ (cond (is_kind Union r.kind)) (some_alike one_same (parts_under r.depth rest)) (one_same (r ∷ rest))

-- ---- a value in m brackets, with n left: there are at most `deepest` brackets

module _ (rows : List Row) (t : List ℕ) where
  spent : {A : Type 0} (m p : ℕ) → Deep t m p → suc deepest ≤ 0 + m → A
  spent m p i h = let l = i.least in let u = i.most in absurd (omega arith)

  fits_step : (n m p : ℕ) (type : List Row) → Deep t m p → suc deepest ≤ n + m → fits rows t (suc n) type p ≡ fits rows t n type p
  unfolding fits
  fits_step zero m p type i h = spent m p i h
  fits_step (suc n) m p type i h = any_same t m {go = fits rows t (suc n)} {go' = fits rows t n} (λ w q k. fits_step n (suc m) q w k (omega arith)) rows p i type

  fits_more : (p : ℕ) (type : List Row) → Deep t 0 p → (j : ℕ) → fits rows t (suc deepest + j) type p ≡ fits rows t (suc deepest) type p
  fits_more p type i zero = ap (λ (n : ℕ). fits rows t n type p) (omega arith)
  fits_more p type i (suc j) =
      let e : suc deepest + suc j ≡ suc (suc deepest + j) = omega arith in
      ap (λ (n : ℕ). fits rows t n type p) e ∙ fits_step (suc deepest + j) 0 p type i (omega arith) ∙ fits_more p type i j

-- ---- a default

-- its value is its first byte
starts : (t : List ℕ) → is_space (byte_at t 0) ≡ false → value_start t ≡ 0
unfolding skip_of count byte_at
starts [] h = refl
starts (b ∷ bs) h = rw h

whole : (s : Verdict) → passes s ≡ true → s ≡ Ok tt
unfolding passes
whole (Ok u) h = refl
whole (Err f) h = never h

pub fits_enough : (rows : List Row) (t : List ℕ) → is_default t ≡ true → (type : List Row) (j : ℕ) → fits rows t (suc deepest + j) type 0 ≡ fits rows t (suc deepest) type 0
unfolding is_default is_short
fits_enough rows t h type j =
    let a = and_true _ (not (is_space (byte_at t (length t - 1)))) h in
    let b = and_true _ (not (is_space (byte_at t 0))) a.0 in
    let c = and_true _ (passes (scanned t)) b.0 in
    let l = leb-true (length t) kept_limit c.0 in
    let w : verdict t ≡ Ok tt = sym (not_too_long t (omega arith)) ∙ whole (scanned t) c.1 in
    let z = starts t (not-true _ b.1) in
    fits_more rows t 0 type (record { stack = []; scanned = rw z at (text_scanned t w); least = omega arith; most = omega arith }) j
