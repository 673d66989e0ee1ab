-- Strings that have to be names: what is lent of the buffers, and one law for each way out of the code.
-- Assumes nothing.
use Rattle.std.specs.Prelude.{Option, Some, None, Ok, Err, Result}
use mathlib.Core.Path.{◌≡◌, refl, sym, ap, ◌∙◌}
use mathlib.Core.Bool.{Bool, true, false}
use mathlib.Core.List.{List}
use Prim.Native.Nat.{ℕ, ◌+◌, ◌-◌, ◌<◌, ◌≤◌}
use native.Mathlib.Nat.{sub-zero}
use native.Mathlib.Omega.{arith}
use lib.Dec.{leb}
use lib.ListN.{length, take, drop}
use lib.Seq.{take-append_seam}
use borrow.Author.Tests.{le-leb, lt-leb}
use Rattle.answer.specs.declared.refusal.Fault.{Fault}
use Rattle.answer.specs.declared.refusal.Why.TheVariants.{StringTooLong, Reserved}
use Rattle.ground.specs.Bytes.{part, store}
use Rattle.ground.proofs.Laws.{length_part, length_store, store_fits}
use Rattle.name.specs.Name.{is_empty, is_simple, is_name, is_namespace, has_dot, full_name, is_reserved}
use Rattle.name.specs.Full.{kept_limit, is_short, answer_of, buffer_after}
use Rattle.name.proofs.Laws.{plain_lead, length_full, full_reserved, fits_length, too_long, buffer_short, buffer_long}
use Rattle.json_scan.specs.Json.{longest}
use Rattle.view.specs.declared.members.Members.{Members}
use Rattle.view.specs.Strings.{string_at}
use Rattle.view.proofs.Laws.{string_short}
use Rattle.form.specs.Checks.{fault, must, ◌then◌, Check}
use Rattle.form.specs.Spots.{on_spot, as_text}
use Rattle.form.specs.Names.{not_a_name, kept, unreserved, simple_check, full_at, reference_check, alias_check, namespace_of, defined_at, namespace_check, spaced_check, definition_check, named, kept_in}

-- ---- a string of the text in a buffer that has room for the text: `&all[0..n]` can be lent, and it is the string

pub record Copied (s : List ℕ) (n : ℕ) (m : List ℕ) : Type 0 where
  pub room : n ≤ length m
  pub front : take (n - 0) (drop 0 m) ≡ s

front_is : (s m m' : List ℕ) (n : ℕ) → n ≡ length s → m' ≡ store m 0 s → length s ≤ length m → take (n - 0) (drop 0 m') ≡ s
front_is s m m' n e f h =
    let w : 0 + length s ≤ length m = omega arith in
    rw (f, e, sub-zero, store_fits m 0 s w) (take-append_seam s (drop (0 + length s) m))

pub copied_fit : (s : List ℕ) {n : ℕ} (m : List ℕ) {m' : List ℕ} → (n ≡ length s) × (m' ≡ store m 0 s) → n ≤ length m → Copied s n m'
copied_fit s {n} m {m'} e h =
    let b = ap length e.1 ∙ length_store m 0 s in
    let c = e.0 in
    record { room = omega arith; front = front_is s m m' n e.0 e.1 (omega arith) }

pub copied : (t : List ℕ) (q : ℕ) {n : ℕ} (m : List ℕ) {m' : List ℕ} → (n ≡ length (string_at t q)) × (m' ≡ store m 0 (string_at t q))
    → length t ≤ longest → length m ≡ longest → Copied (string_at t q) n m'
copied t q {n} m {m'} e h k =
    let a = string_short t q in
    let b = e.0 in
    copied_fit (string_at t q) m e (omega arith)

-- the front of a buffer, as it is lent
lent_front : (m : List ℕ) (n : ℕ) → take (n - 0) (drop 0 m) ≡ part m 0 n
unfolding part
lent_front m n = rw sub-zero

-- a name without a dot there
pub spaced_plain : (m : List ℕ) (n : ℕ) {b : Bool} → b ≡ has_dot (take (n - 0) (drop 0 m)) → b ≡ false → has_dot (part m 0 n) ≡ false
spaced_plain m n e f = sym (e ∙ ap has_dot (lent_front m n)) ∙ f

-- moved to another buffer that has room for it
pub moved : (m own : List ℕ) (n : ℕ) {own' : List ℕ} → own' ≡ store own 0 (take (n - 0) (drop 0 m)) → n ≤ length m → n ≤ length own
    → take (n - 0) (drop 0 own') ≡ part m 0 n
moved m own n {own'} e h k =
    let l = length_part m 0 n (omega arith) in
    front_is (part m 0 n) own own' n (sym l) (e ∙ ap (λ (x : List ℕ). store own 0 x) (lent_front m n)) (omega arith)

-- ---- the answer and the buffer, for a check, a full name f, the buffer before and afterwards

abbrev pub Answers : Check → List ℕ → List ℕ → List ℕ → Result ℕ Fault → Type 0
Answers c f m m' r = (r ≡ named c f) × (m' ≡ kept_in m c f)

answers_next : (a c : Check) (f m m' : List ℕ) (r : Result ℕ Fault) → a ≡ Ok tt → Answers c f m m' r → Answers (a then c) f m m' r
answers_next a c f m m' r e h = rw e h

answers_bad : (a c : Check) (f m : List ℕ) (x : Fault) → a ≡ Err x → Answers (a then c) f m m (Err x)
answers_bad a c f m x e = rw e (refl, refl)

-- a test of a string that was read
passes : (k : List ℕ → Bool) {s w : List ℕ} {b : Bool} (x : Fault) → w ≡ s → b ≡ k w → b ≡ true → must (k s) x ≡ Ok tt
passes k x e f g = rw (← e, ← f, g)

fails : (k : List ℕ → Bool) {s w : List ℕ} {b : Bool} {x y : Fault} → w ≡ s → b ≡ k w → b ≡ false → y ≡ x → must (k s) x ≡ Err y
fails k e f g h = rw (← e, ← f, g, h)

-- where a length is answered the check is fine, and the buffer begins with the full name; where a fault is, it is the check's
pub named_kept : (c : Check) (f : List ℕ) {n : ℕ} → Ok n ≡ named c f → (c ≡ Ok tt) × (n ≡ length f)
named_kept (Ok tt) f {n} e = let z : n ≡ length f = cc in (refl, z)
named_kept (Err x) f e = let z : ◌≡◌ {A = ℕ} 0 1 = cc in absurd (omega arith)

pub named_wrong : (c : Check) (f : List ℕ) {x : Fault} → Err x ≡ named c f → c ≡ Err x
named_wrong (Ok tt) f e = let z : ◌≡◌ {A = ℕ} 0 1 = cc in absurd (omega arith)
named_wrong (Err y) f {x} e = let z : x ≡ y = cc in ap Err (sym z)

pub kept_copied : (c : Check) (f m : List ℕ) {m' : List ℕ} {n : ℕ} → Ok n ≡ named c f → m' ≡ kept_in m c f → length f ≤ kept_limit → length m ≡ kept_limit → Copied f n m'
kept_copied (Ok tt) f m {m'} {n} e g h k =
    let z : n ≡ length f = cc in
    copied_fit f m (z, g) (omega arith)
kept_copied (Err x) f m e g h k = let z : ◌≡◌ {A = ℕ} 0 1 = cc in absurd (omega arith)

-- ---- simple names

module _ (t w : List ℕ) (q : ℕ) {b : Bool} (f : b ≡ is_simple w) where
  pub simple_not : b ≡ false → {x : Fault} → x ≡ not_a_name is_simple t q → Err x ≡ (must (is_simple w) (not_a_name is_simple t q) then kept w q)
  simple_not g h = rw (← f, g, h)

  pub simple_kept : b ≡ true → {r : Check} → r ≡ must (leb (length w) kept_limit) (fault StringTooLong q) → r ≡ (must (is_simple w) (not_a_name is_simple t q) then kept w q)
  unfolding is_short
  simple_kept g i = rw (← f, g) i

-- of the string at q
pub simple_at : (t : List ℕ) (q : ℕ) {w : List ℕ} → w ≡ string_at t q → {r : Check} → r ≡ (must (is_simple w) (not_a_name is_simple t q) then kept w q) → r ≡ simple_check t q
unfolding simple_check
simple_at t q e h = h ∙ rw e

module _ (f m m' : List ℕ) (q : ℕ) {a : Option ℕ} (e : (a ≡ answer_of f) × (m' ≡ buffer_after m f)) where
  pub keep_fits : {n : ℕ} → a ≡ Some n → Answers (kept f q) f m m' (Ok n)
  unfolding is_short store
  keep_fits {n} g =
      let z = fits_length f n (sym e.0 ∙ g) in
      rw (le-leb (length f) kept_limit z.1) (ap Ok z.0, e.1 ∙ buffer_short f m z.1)

  pub keep_long : a ≡ None → Answers (kept f q) f m m' (Err (fault StringTooLong q))
  unfolding is_short
  keep_long g =
      let z = too_long f (sym e.0 ∙ g) in
      rw (lt-leb (length f) kept_limit z) (refl, e.1 ∙ buffer_long f m z)

kept_long : (f m : List ℕ) (q : ℕ) → kept_limit < length f → Answers (kept f q) f m m (Err (fault StringTooLong q))
unfolding is_short
kept_long f m q h = rw (lt-leb (length f) kept_limit h) (refl, refl)

module _ (namespace s m : List ℕ) (q : ℕ) {b : Bool} (e : b ≡ is_reserved s) where
  pub given_reserved : b ≡ true
      → Answers (unreserved (full_name namespace s) q then kept (full_name namespace s) q) (full_name namespace s) m m (Err (fault Reserved q))
  given_reserved f =
      answers_bad (unreserved (full_name namespace s) q) (kept (full_name namespace s) q) (full_name namespace s) m (fault Reserved q)
      (rw (full_reserved namespace s, ← e, f))

  pub given_free : b ≡ false → {m' : List ℕ} {r : Result ℕ Fault} → Answers (kept (full_name namespace s) q) (full_name namespace s) m m' r
      → Answers (unreserved (full_name namespace s) q then kept (full_name namespace s) q) (full_name namespace s) m m' r
  given_free f {m'} {r} h =
      answers_next (unreserved (full_name namespace s) q) (kept (full_name namespace s) q) (full_name namespace s) m m' r
      (rw (full_reserved namespace s, ← e, f)) h

module _ (t namespace : List ℕ) (q : ℕ) (m : List ℕ) {w : List ℕ} (e : w ≡ string_at t q) {b : Bool} (f : b ≡ is_name w) where
  pub reference_not : b ≡ false → {x : Fault} → x ≡ not_a_name is_name t q → Answers (reference_check t namespace q) (full_at t namespace q) m m (Err x)
  unfolding reference_check
  reference_not g {x} h =
      answers_bad (must (is_name (string_at t q)) (not_a_name is_name t q)) (kept (full_at t namespace q) q) (full_at t namespace q) m x (fails is_name e f g h)

  pub alias_not : b ≡ false → {x : Fault} → x ≡ not_a_name is_name t q → Answers (alias_check t namespace q) (full_at t namespace q) m m (Err x)
  unfolding alias_check
  alias_not g {x} h =
      answers_bad (must (is_name (string_at t q)) (not_a_name is_name t q)) (unreserved (full_at t namespace q) q then kept (full_at t namespace q) q) (full_at t namespace q) m x
      (fails is_name e f g h)

  module _ (g : b ≡ true) {m' : List ℕ} {r : Result ℕ Fault} where
    pub reference_kept : Answers (kept (full_name namespace w) q) (full_name namespace w) m m' r → Answers (reference_check t namespace q) (full_at t namespace q) m m' r
    unfolding reference_check full_at
    reference_kept h =
        answers_next (must (is_name (string_at t q)) (not_a_name is_name t q)) (kept (full_name namespace (string_at t q)) q) (full_name namespace (string_at t q)) m m' r
        (passes is_name (not_a_name is_name t q) e f g) (rw e at h)

    pub alias_kept : Answers (unreserved (full_name namespace w) q then kept (full_name namespace w) q) (full_name namespace w) m m' r
        → Answers (alias_check t namespace q) (full_at t namespace q) m m' r
    unfolding alias_check full_at
    alias_kept h =
        answers_next (must (is_name (string_at t q)) (not_a_name is_name t q))
        (unreserved (full_name namespace (string_at t q)) q then kept (full_name namespace (string_at t q)) q) (full_name namespace (string_at t q)) m m' r
        (passes is_name (not_a_name is_name t q) e f g) (rw e at h)

-- ---- a name without a dot, in the namespace that is written at w

-- a full name is at least as long as its name
full_longer : (namespace s : List ℕ) → has_dot s ≡ false → length s ≤ length (full_name namespace s)
full_longer namespace s e = go (is_empty namespace) refl
  where
    go : (x : Bool) → is_empty namespace ≡ x → length s ≤ length (full_name namespace s)
    go true f = omega (arith, rw (e, f, plain_lead s e) at (length_full namespace s))
    go false f = omega (arith, rw (e, f) at (length_full namespace s))

module _ (t : List ℕ) (w n q : ℕ) (word m : List ℕ) {v : List ℕ} (o : v ≡ string_at t w) {y : Bool} (z : y ≡ is_namespace v) where
  pub spaced_not : y ≡ false → {x : Fault} → x ≡ not_a_name is_namespace t w → Answers (spaced_check t w (part word 0 n) q) (full_name (string_at t w) (part word 0 n)) m m (Err x)
  unfolding spaced_check
  spaced_not u {x} h =
      answers_bad (must (is_namespace (string_at t w)) (not_a_name is_namespace t w))
      (unreserved (full_name (string_at t w) (part word 0 n)) q then kept (full_name (string_at t w) (part word 0 n)) q) (full_name (string_at t w) (part word 0 n)) m x
      (fails is_namespace o z u h)

  module _ (u : y ≡ true) {b : Bool} (e : b ≡ is_reserved (take (n - 0) (drop 0 word))) where
    spaced_by : {m' : List ℕ} {r : Result ℕ Fault}
        → Answers (unreserved (full_name v (part word 0 n)) q then kept (full_name v (part word 0 n)) q) (full_name v (part word 0 n)) m m' r
        → Answers (spaced_check t w (part word 0 n) q) (full_name (string_at t w) (part word 0 n)) m m' r
    unfolding spaced_check
    spaced_by {m'} {r} h =
        answers_next (must (is_namespace (string_at t w)) (not_a_name is_namespace t w))
        (unreserved (full_name (string_at t w) (part word 0 n)) q then kept (full_name (string_at t w) (part word 0 n)) q) (full_name (string_at t w) (part word 0 n)) m m' r
        (passes is_namespace (not_a_name is_namespace t w) o z u) (rw o at h)

    pub spaced_reserved : b ≡ true → Answers (spaced_check t w (part word 0 n) q) (full_name (string_at t w) (part word 0 n)) m m (Err (fault Reserved q))
    spaced_reserved f = spaced_by (given_reserved v (part word 0 n) m q (e ∙ ap is_reserved (lent_front word n)) f)

    module _ (f : b ≡ false) where
      -- s: the name from where it was moved to
      pub spaced_kept : {s : List ℕ} → s ≡ part word 0 n → {m' : List ℕ} {r : Result ℕ Fault} → Answers (kept (full_name v s) q) (full_name v s) m m' r
          → Answers (spaced_check t w (part word 0 n) q) (full_name (string_at t w) (part word 0 n)) m m' r
      spaced_kept i h = spaced_by (given_free v (part word 0 n) m q (e ∙ ap is_reserved (lent_front word n)) f (rw i at h))

      pub spaced_long : n ≤ length word → has_dot (part word 0 n) ≡ false → kept_limit < n
          → Answers (spaced_check t w (part word 0 n) q) (full_name (string_at t w) (part word 0 n)) m m (Err (fault StringTooLong q))
      spaced_long h d l =
          let a = full_longer v (part word 0 n) d in
          let b = length_part word 0 n (omega arith) in
          spaced_kept refl (kept_long (full_name v (part word 0 n)) m q (omega arith))

-- ---- definitions

-- a name with a dot has one full name in all namespaces
pub full_fixed : (a b s : List ℕ) → has_dot s ≡ true → full_name a s ≡ full_name b s
unfolding full_name
full_fixed a b s h = rw h

module _ (t enclosing : List ℕ) (d : Members) (q : ℕ) (m : List ℕ) {w : List ℕ} (e : w ≡ string_at t q) {b : Bool} (f : b ≡ is_name w) where
  pub definition_not : b ≡ false → {x : Fault} → x ≡ not_a_name is_name t q → Answers (definition_check t enclosing d q) (defined_at t enclosing d q) m m (Err x)
  unfolding definition_check
  definition_not g {x} h =
      answers_bad (must (is_name (string_at t q)) (not_a_name is_name t q))
      (namespace_check t d q then unreserved (defined_at t enclosing d q) q then kept (defined_at t enclosing d q) q) (defined_at t enclosing d q) m x
      (fails is_name e f g h)

  module _ (g : b ≡ true) where
    -- the namespace's check, and then the rest by the full name
    named_in : {m' : List ℕ} {r : Result ℕ Fault} (n : List ℕ) → namespace_check t d q ≡ Ok tt → defined_at t enclosing d q ≡ full_name n (string_at t q)
        → Answers (unreserved (full_name n w) q then kept (full_name n w) q) (full_name n w) m m' r
        → Answers (definition_check t enclosing d q) (defined_at t enclosing d q) m m' r
    unfolding definition_check
    named_in {m'} {r} n a i h =
        answers_next (must (is_name (string_at t q)) (not_a_name is_name t q))
        (namespace_check t d q then unreserved (defined_at t enclosing d q) q then kept (defined_at t enclosing d q) q) (defined_at t enclosing d q) m m' r
        (passes is_name (not_a_name is_name t q) e f g)
        (answers_next (namespace_check t d q) (unreserved (defined_at t enclosing d q) q then kept (defined_at t enclosing d q) q) (defined_at t enclosing d q) m m' r a
        (rw i (rw e at h)))

    module _ {c : Bool} (h : c ≡ has_dot w) where
      dots : {x : Bool} → c ≡ x → has_dot (string_at t q) ≡ x
      dots i = sym (ap has_dot e) ∙ sym h ∙ i

      pub definition_dot : c ≡ true → {m' : List ℕ} {r : Result ℕ Fault}
          → Answers (unreserved (full_name enclosing w) q then kept (full_name enclosing w) q) (full_name enclosing w) m m' r
          → Answers (definition_check t enclosing d q) (defined_at t enclosing d q) m m' r
      unfolding namespace_check defined_at full_at
      definition_dot i u =
          named_in enclosing (rw (dots i)) (full_fixed (namespace_of t enclosing d) enclosing (string_at t q) (dots i)) u

      module _ (i : c ≡ false) {s : Option ℕ} (j : s ≡ as_text t d.namespace) where
        space_by : {s' : Option ℕ} → s ≡ s' → namespace_check t d q ≡ on_spot s' (λ p. must (is_namespace (string_at t p)) (not_a_name is_namespace t p)) (Ok tt)
        unfolding namespace_check
        space_by k =
            rw (dots i)
            (ap (λ (x : Option ℕ). on_spot x (λ p. must (is_namespace (string_at t p)) (not_a_name is_namespace t p)) (Ok tt)) (sym j ∙ k))

        full_by : {s' : Option ℕ} → s ≡ s' → defined_at t enclosing d q ≡ full_name (on_spot s' (string_at t) enclosing) (string_at t q)
        unfolding defined_at full_at namespace_of
        full_by k = ap (λ (x : Option ℕ). full_name (on_spot x (string_at t) enclosing) (string_at t q)) (sym j ∙ k)

        pub definition_enclosed : s ≡ None → {m' : List ℕ} {r : Result ℕ Fault}
            → Answers (unreserved (full_name enclosing w) q then kept (full_name enclosing w) q) (full_name enclosing w) m m' r
            → Answers (definition_check t enclosing d q) (defined_at t enclosing d q) m m' r
        definition_enclosed k u = named_in enclosing (space_by k) (full_by k) u

        -- the name, copied, in the first n bytes of a buffer
        pub definition_space : {p : ℕ} → s ≡ Some p → (word : List ℕ) (n : ℕ) → take (n - 0) (drop 0 word) ≡ string_at t q → {m' : List ℕ} {r : Result ℕ Fault}
            → Answers (spaced_check t p (part word 0 n) q) (full_name (string_at t p) (part word 0 n)) m m' r
            → Answers (definition_check t enclosing d q) (defined_at t enclosing d q) m m' r
        unfolding definition_check spaced_check
        definition_space {p} k word n l {m'} {r} h =
            answers_next (must (is_name (string_at t q)) (not_a_name is_name t q))
            (namespace_check t d q then unreserved (defined_at t enclosing d q) q then kept (defined_at t enclosing d q) q) (defined_at t enclosing d q) m m' r
            (passes is_name (not_a_name is_name t q) e f g)
            (rw (space_by k, full_by k) (rw (sym (lent_front word n) ∙ l) at h))
