-- The laws of names that callers cite. Assumes nothing.
use Rattle.std.specs.Prelude.{Option, Some, None}
use mathlib.Core.Path.{◌≡◌, refl, sym, ap, ◌∙◌}
use mathlib.Core.Bool.{Bool, true, false, not, cond, ◌&&◌, ◌||◌, and-true, and-false, and_assoc, or-false, or-true, or_assoc, and-eq-true_iff}
use mathlib.Mathlib.Data.Bool.Basic.{or-eq-false-eq-eq-false-and-eq-false as or-eq-false}
use mathlib.Core.List.{List, [], ◌∷◌, ◌++◌}
use Prim.Native.Nat.{ℕ, ◌+◌, ◌-◌, ◌<◌, ◌≤◌}
use native.Mathlib.Nat.{sub-zero}
use native.Mathlib.Omega.{arith}
use native.Mathlib.Decide.{dec_lt}
use lib.Dec.{eqb}
use lib.ListN.{length, take, drop, length-append, length-drop}
use lib.Seq.{take-append_seam}
use borrow.Author.Tests.{eqb-true, le-leb, lt-leb}
use Rattle.name.specs.Name.{every, is_empty, is_one_of, is_within, is_letter, is_digit, is_first, is_later, is_simple, dot, joined, parts, is_dotted, starts_with_dot, is_name, is_namespace, has_dot, full_name, last_of, last_part, namespace_part, is_reserved}
use Rattle.ground.specs.Bytes.{same, store}
use Rattle.ground.proofs.Laws.{length_store, store_fits}
use Rattle.name.specs.Full.{kept_limit, is_short, answer_of, buffer_after}
use Rattle.name.proofs.Parts.{never, parted, parts_dot, parts_plain, joined_parts, last_snoc, front_snoc}

-- ---- one of some strings

pub one_of_append : (a b : List (List ℕ)) (s : List ℕ) → is_one_of (a ++ b) s ≡ (is_one_of a s || is_one_of b s)
unfolding is_one_of
one_of_append [] b s = refl
one_of_append (w ∷ a) b s = ap (λ (x : Bool). same s w || x) (one_of_append a b s) ∙ sym (or_assoc (same s w) (is_one_of a s) (is_one_of b s))

-- ---- no bytes

-- a list is empty where its length is 0
pub empty_none : (s : List ℕ) → length s ≡ 0 → is_empty s ≡ true
unfolding is_empty
empty_none [] e = refl
empty_none (b ∷ bs) e = absurd (omega arith)

-- and not where it is another
pub empty_some : (s : List ℕ) → (length s ≡ 0 → ⊥) → is_empty s ≡ false
unfolding is_empty
empty_some [] n = absurd (n refl)
empty_some (b ∷ bs) n = refl

-- what is empty is the empty list
pub empty_nil : (s : List ℕ) → is_empty s ≡ true → s ≡ []
unfolding is_empty
empty_nil [] e = refl
empty_nil (b ∷ bs) e = never e

-- ---- dots

-- what may stand in a simple name is no dot
later_no_dot : (b : ℕ) → is_later b ≡ true → eqb b dot ≡ false
unfolding is_within is_letter is_digit is_later
later_no_dot b e = go (eqb b dot) refl
  where
    go : (t : Bool) → eqb b dot ≡ t → t ≡ false
    go false q = refl
    go true q = never (ap is_later (sym (eqb-true b dot q)) ∙ e)

-- what may stand first may stand later
first_later : (b : ℕ) → is_first b ≡ true → is_later b ≡ true
unfolding is_first is_later
first_later b e = go (is_letter b) (is_digit b) (eqb b 95) e
  where
    go : (x y z : Bool) → x || z ≡ true → x || y || z ≡ true
    go true y z e = refl
    go false true z e = refl
    go false false z e = e

later_plain : (s : List ℕ) → every is_later s ≡ true → has_dot s ≡ false
unfolding every has_dot
later_plain [] e = refl
later_plain (b ∷ bs) e =
    let z = (and-eq-true_iff (is_later b) (every is_later bs)).0 e in
    rw (later_no_dot b z.0, later_plain bs z.1)

-- a simple name has no dot
pub simple_plain : (s : List ℕ) → is_simple s ≡ true → has_dot s ≡ false
unfolding is_simple has_dot
simple_plain [] e = refl
simple_plain (b ∷ bs) e =
    let z = (and-eq-true_iff (is_first b) (every is_later bs)).0 e in
    rw (later_no_dot b (first_later b z.0), later_plain bs z.1)

every_append : {A : Type 0} (test : A → Bool) (a b : List A) → every test (a ++ b) ≡ every test a && every test b
unfolding every
every_append test [] b = refl
every_append test (x ∷ a) b = rw (every_append test a b) (sym (and_assoc (test x) (every test a) (every test b)))

-- a dot joins simple names joined by dots
pub dotted_dot : (a b : List ℕ) → is_dotted (a ++ (dot ∷ b)) ≡ is_dotted a && is_dotted b
unfolding is_dotted
dotted_dot a b = rw (parts_dot a b) (every_append is_simple (parts a) (parts b))

-- without a dot it is one simple name
pub dotted_plain : (s : List ℕ) → has_dot s ≡ false → is_dotted s ≡ is_simple s
unfolding is_dotted every
dotted_plain s e = rw (parts_plain s e, and-true)

-- and one simple name counts as joined
pub simple_dotted : (s : List ℕ) → is_simple s ≡ true → is_dotted s ≡ true
simple_dotted s e = dotted_plain s (simple_plain s e) ∙ e

-- any simple names, at least one, joined by dots
pub dotted_joined : (p : List ℕ) (ps : List (List ℕ)) → every is_simple (p ∷ ps) ≡ true → is_dotted (joined (p ∷ ps)) ≡ true
unfolding every joined
dotted_joined p [] e = simple_dotted p ((and-eq-true_iff (is_simple p) true).0 e).0
dotted_joined p (q ∷ ps) e =
    let z = (and-eq-true_iff (is_simple p) (every is_simple (q ∷ ps))).0 e in
    rw (dotted_dot p (joined (q ∷ ps)), simple_dotted p z.0, dotted_joined q ps z.1)

-- what starts with a dot is no simple name
lead_simple : (s : List ℕ) → starts_with_dot s ≡ true → is_simple s ≡ false
unfolding starts_with_dot is_simple is_first is_letter is_within
lead_simple [] e = refl
lead_simple (b ∷ bs) e = rw (eqb-true b dot e)

-- nor simple names joined by dots
pub lead_dotted : (s : List ℕ) → starts_with_dot s ≡ true → is_dotted s ≡ false
unfolding starts_with_dot is_dotted parts every is_simple
lead_dotted [] e = refl
lead_dotted (b ∷ bs) e = rw e

-- simple names joined by dots are not nothing
pub dotted_some : (s : List ℕ) → is_dotted s ≡ true → is_empty s ≡ false
unfolding is_dotted parts every is_simple is_empty
dotted_some [] d = never d
dotted_some (b ∷ bs) d = refl

-- simple names joined by dots do not start with one
pub dotted_lead : (s : List ℕ) → is_dotted s ≡ true → starts_with_dot s ≡ false
dotted_lead s d = go (starts_with_dot s) refl
  where
    go : (x : Bool) → starts_with_dot s ≡ x → x ≡ false
    go false e = refl
    go true e = never (sym (lead_dotted s e) ∙ d)

-- a leading dot is a dot
pub lead_has : (s : List ℕ) → starts_with_dot s ≡ true → has_dot s ≡ true
unfolding starts_with_dot has_dot
lead_has [] e = never e
lead_has (b ∷ bs) e = rw e

-- what starts with a dot has a byte
pub lead_long : (s : List ℕ) → starts_with_dot s ≡ true → 1 ≤ length s
unfolding starts_with_dot
lead_long [] e = never e
lead_long (b ∷ bs) e = omega arith

-- where there is no dot there is no leading one
pub plain_lead : (s : List ℕ) → has_dot s ≡ false → starts_with_dot s ≡ false
unfolding starts_with_dot has_dot
plain_lead [] e = refl
plain_lead (b ∷ bs) e = ((or-eq-false (eqb b dot) (has_dot bs)).0 e).0

-- ---- names

-- after a leading dot a name is a simple name
pub name_lead : (s : List ℕ) → starts_with_dot s ≡ true → is_name s ≡ is_simple (drop 1 s)
unfolding is_name
name_lead s e = rw (e, lead_simple s e, lead_dotted s e) (or-false (is_simple (drop 1 s)))

-- else a name is simple names joined by dots
pub name_else : (s : List ℕ) → starts_with_dot s ≡ false → is_name s ≡ is_dotted s
unfolding is_name
name_else s e = rw e (go (is_simple s) refl)
  where
    go : (x : Bool) → is_simple s ≡ x → x || false || is_dotted s ≡ is_dotted s
    go true q = sym (simple_dotted s q)
    go false q = refl

-- simple names joined by dots are a name: a full name can be written again
pub dotted_name : (s : List ℕ) → is_dotted s ≡ true → is_name s ≡ true
dotted_name s d = name_else s (dotted_lead s d) ∙ d

-- ---- the two halves of a full name

module _ (a b : List ℕ) (e : has_dot b ≡ false) where
  -- the last part is what stands behind the last dot
  pub last_of_lem : last_part (a ++ (dot ∷ b)) ≡ b
  unfolding last_part
  last_of_lem = rw (parts_dot a b, parts_plain b e) (last_snoc (parts a) b)

  -- the namespace part is what stands before the last dot
  pub namespace_of_lem : namespace_part (a ++ (dot ∷ b)) ≡ a
  unfolding namespace_part
  namespace_of_lem = rw (parts_dot a b, parts_plain b e, front_snoc (parts a) b) (joined_parts a)

-- without a dot the last part is the whole
pub last_plain : (s : List ℕ) → has_dot s ≡ false → last_part s ≡ s
unfolding last_part last_of
last_plain s e = rw (parts_plain s e)

-- and there is no namespace
pub namespace_plain : (s : List ℕ) → has_dot s ≡ false → namespace_part s ≡ []
unfolding namespace_part joined
namespace_plain s e = rw (parts_plain s e)

-- dropping a leading dot leaves the last part
last_lead : (s : List ℕ) → starts_with_dot s ≡ true → last_part (drop 1 s) ≡ last_part s
unfolding starts_with_dot parts last_part last_of
last_lead [] e = never e
last_lead (b ∷ bs) e = rw (e, (parted bs).is)

-- where there is a dot there is a last one
record Split (s : List ℕ) : Type 0 where
  front : List ℕ
  end : List ℕ
  plain : has_dot end ≡ false
  is : s ≡ front ++ (dot ∷ end)

split : (s : List ℕ) → has_dot s ≡ true → Split s
unfolding has_dot
split [] e = never e
split (b ∷ bs) e = go (has_dot bs) refl (eqb b dot) refl e (split bs)
  where
    go : (x : Bool) → has_dot bs ≡ x → (y : Bool) → eqb b dot ≡ y → y || x ≡ true → (has_dot bs ≡ true → Split bs) → Split (b ∷ bs)
    go true q y w h r = let z = r q in record { front = b ∷ z.front; end = z.end; plain = z.plain; is = ap (λ (l : List ℕ). b ∷ l) z.is }
    go false q true w h r = record { front = []; end = bs; plain = q; is = ap (λ (x : ℕ). x ∷ bs) (eqb-true b dot w) }
    go false q false w h r = never h

-- namespace part, dot and last part put together give the whole, where it has a dot
pub halves : (s : List ℕ) → has_dot s ≡ true → namespace_part s ++ (dot ∷ last_part s) ≡ s
halves s e =
    let r = split s e in
    ap (λ (l : List ℕ). namespace_part l ++ (dot ∷ last_part l)) r.is
    ∙ rw (last_of_lem r.front r.end r.plain, namespace_of_lem r.front r.end r.plain) (sym r.is)

-- a last part has no dot
pub last_no_dot : (s : List ℕ) → has_dot (last_part s) ≡ false
last_no_dot s = go (has_dot s) refl
  where
    go : (x : Bool) → has_dot s ≡ x → has_dot (last_part s) ≡ false
    go false e = rw (last_plain s e) e
    go true e =
        let r = split s e in
        ap (λ (l : List ℕ). has_dot (last_part l)) r.is ∙ rw (last_of_lem r.front r.end r.plain) r.plain

module _ (s : List ℕ) (d : is_dotted s ≡ true) where
  both_dotted : has_dot s ≡ true → (is_dotted (namespace_part s) ≡ true) × (is_dotted (last_part s) ≡ true)
  both_dotted e =
      let z : is_dotted (namespace_part s) && is_dotted (last_part s) ≡ true = sym (dotted_dot (namespace_part s) (last_part s)) ∙ ap is_dotted (halves s e) ∙ d in
      (and-eq-true_iff (is_dotted (namespace_part s)) (is_dotted (last_part s))).0 z

  -- the last part of a full name is a simple name
  pub last_simple : is_simple (last_part s) ≡ true
  last_simple = go (has_dot s) refl
    where
      go : (x : Bool) → has_dot s ≡ x → is_simple (last_part s) ≡ true
      go false e = rw (last_plain s e) (sym (dotted_plain s e) ∙ d)
      go true e = sym (dotted_plain (last_part s) (last_no_dot s)) ∙ (both_dotted e).1

  -- the namespace part of a full name is a namespace
  pub namespace_good : is_namespace (namespace_part s) ≡ true
  unfolding is_namespace is_empty
  namespace_good = go (has_dot s) refl
    where
      go : (x : Bool) → has_dot s ≡ x → is_namespace (namespace_part s) ≡ true
      go false e = rw (namespace_plain s e)
      go true e = rw (both_dotted e).0 (or-true (is_empty (namespace_part s)))

-- a namespace that is not empty is simple names joined by dots
pub namespace_dotted : (s : List ℕ) → is_namespace s ≡ true → is_empty s ≡ false → is_dotted s ≡ true
unfolding is_namespace
namespace_dotted s n e = rw e at n

-- ---- full names, by 01's three lines

module _ (namespace s : List ℕ) where
  -- no dot, and a non-empty namespace: namespace, dot, name
  pub full_within : has_dot s ≡ false → is_empty namespace ≡ false → full_name namespace s ≡ namespace ++ (dot ∷ s)
  unfolding full_name
  full_within e f = rw (e, f)

  -- a leading dot is dropped
  pub full_lead : starts_with_dot s ≡ true → full_name namespace s ≡ drop 1 s
  unfolding full_name
  full_lead e = rw (lead_has s e, e)

  -- a dot elsewhere: as written
  pub full_written : has_dot s ≡ true → starts_with_dot s ≡ false → full_name namespace s ≡ s
  unfolding full_name
  full_written e f = rw (e, f)

  -- an empty namespace and no leading dot: as written
  pub full_none : is_empty namespace ≡ true → starts_with_dot s ≡ false → full_name namespace s ≡ s
  unfolding full_name
  full_none e f = rw (e, f, and-false)

-- `.a` gives `a`
pub full_dot : (namespace s : List ℕ) → full_name namespace (dot ∷ s) ≡ s
unfolding starts_with_dot
full_dot namespace s = full_lead namespace (dot ∷ s) refl

-- a name without a dot in an empty namespace is itself
pub full_plain : (s : List ℕ) → has_dot s ≡ false → full_name [] s ≡ s
unfolding is_empty
full_plain s e = full_none [] s refl (plain_lead s e)

-- a full name in an empty namespace is itself
pub full_itself : (s : List ℕ) → is_dotted s ≡ true → full_name [] s ≡ s
unfolding is_empty
full_itself s d = full_none [] s refl (dotted_lead s d)

-- qualifying a full name again leaves a dotted one as it is
pub full_again : (namespace s : List ℕ) → is_dotted s ≡ true → has_dot s ≡ true → full_name namespace s ≡ s
full_again namespace s d e = full_written namespace s e (dotted_lead s d)

-- the full name of the halves is the whole
pub full_halves : (s : List ℕ) → is_dotted s ≡ true → full_name (namespace_part s) (last_part s) ≡ s
full_halves s d = go (has_dot s) refl
  where
    go : (x : Bool) → has_dot s ≡ x → full_name (namespace_part s) (last_part s) ≡ s
    go false e = rw (namespace_plain s e, last_plain s e) (full_plain s e)
    go true e = full_within (namespace_part s) (last_part s) (last_no_dot s) (dotted_some (namespace_part s) (both_dotted s d e).0) ∙ halves s e

-- a full name is simple names joined by dots
pub full_dotted : (namespace s : List ℕ) → is_namespace namespace ≡ true → is_name s ≡ true → is_dotted (full_name namespace s) ≡ true
full_dotted namespace s n e = go (starts_with_dot s) refl (has_dot s) refl (is_empty namespace) refl
  where
    go : (x : Bool) → starts_with_dot s ≡ x → (y : Bool) → has_dot s ≡ y → (z : Bool) → is_empty namespace ≡ z → is_dotted (full_name namespace s) ≡ true
    go true p y q z r = rw (full_lead namespace s p) (simple_dotted (drop 1 s) (sym (name_lead s p) ∙ e))
    go false p y q true r = rw (full_none namespace s r p) (sym (name_else s p) ∙ e)
    go false p true q false r = rw (full_written namespace s q p) (sym (name_else s p) ∙ e)
    go false p false q false r =
        rw (full_within namespace s q r, dotted_dot namespace s, sym (name_else s p) ∙ e, and-true) (namespace_dotted namespace n r)

-- the last part of a full name is that of the name as written
pub full_last : (namespace s : List ℕ) → last_part (full_name namespace s) ≡ last_part s
full_last namespace s = go (starts_with_dot s) refl (has_dot s) refl (is_empty namespace) refl
  where
    go : (x : Bool) → starts_with_dot s ≡ x → (y : Bool) → has_dot s ≡ y → (z : Bool) → is_empty namespace ≡ z → last_part (full_name namespace s) ≡ last_part s
    go true p y q z r = rw (full_lead namespace s p) (last_lead s p)
    go false p y q true r = rw (full_none namespace s r p)
    go false p true q false r = rw (full_written namespace s q p)
    go false p false q false r = rw (full_within namespace s q r, last_of_lem namespace s q) (sym (last_plain s q))

-- so whether a full name is reserved can be asked of the name as written
pub full_reserved : (namespace s : List ℕ) → is_reserved (full_name namespace s) ≡ is_reserved s
unfolding is_reserved
full_reserved namespace s = rw (full_last namespace s)

-- the namespace part of the full name of a name without a dot is the namespace
pub full_namespace : (namespace s : List ℕ) → has_dot s ≡ false → namespace_part (full_name namespace s) ≡ namespace
full_namespace namespace s e = go (is_empty namespace) refl
  where
    go : (x : Bool) → is_empty namespace ≡ x → namespace_part (full_name namespace s) ≡ namespace
    go true f = rw (full_none namespace s f (plain_lead s e)) (namespace_plain s e ∙ sym (empty_nil namespace f))
    go false f = rw (full_within namespace s e f) (namespace_of_lem namespace s e)

-- two names without a dot that have equal full names are equal, and so are their namespaces
pub full_one : (n m a b : List ℕ) → has_dot a ≡ false → has_dot b ≡ false → full_name n a ≡ full_name m b → (n ≡ m) × (a ≡ b)
full_one n m a b p q e = (
  sym (full_namespace n a p) ∙ ap namespace_part e ∙ full_namespace m b q,
  sym (last_plain a p) ∙ sym (full_last n a) ∙ ap last_part e ∙ full_last m b ∙ last_plain b q,
)

-- the length of a full name, by the same three lines
pub length_full : (namespace s : List ℕ)
    → length (full_name namespace s) ≡ cond (not (has_dot s) && not (is_empty namespace)) (length namespace + 1 + length s) (cond (starts_with_dot s) (length s - 1) (length s))
unfolding full_name
length_full namespace s = go (not (has_dot s) && not (is_empty namespace)) (starts_with_dot s)
  where
    go : (x y : Bool) → length (cond x (namespace ++ (dot ∷ s)) (cond y (drop 1 s) s)) ≡ cond x (length namespace + 1 + length s) (cond y (length s - 1) (length s))
    go true y = length-append namespace (dot ∷ s) ∙ omega arith
    go false true = length-drop 1 s
    go false false = refl

-- ---- the answer and the buffer, for a full name f and a buffer m

module _ (f : List ℕ) where
  -- up to the limit the answer is the length
  pub answer_short : length f ≤ kept_limit → answer_of f ≡ Some (length f)
  unfolding answer_of is_short
  answer_short h = rw (le-leb (length f) kept_limit h)

  -- above it is that it is too long
  pub answer_long : kept_limit < length f → answer_of f ≡ None
  unfolding answer_of is_short
  answer_long h = rw (lt-leb (length f) kept_limit h)

  -- a length that is answered is that of the full name, and within the limit
  pub fits_length : (n : ℕ) → answer_of f ≡ Some n → (n ≡ length f) × (length f ≤ kept_limit)
  fits_length n e = go (dec_lt kept_limit (length f))
    where
      go : Dec (kept_limit < length f) → (n ≡ length f) × (length f ≤ kept_limit)
      go (yes l) = let w = answer_long l in let z : ◌≡◌ {A = ℕ} 0 1 = cc in absurd (omega arith)
      go (no g) = let w = answer_short (omega arith) in let z : n ≡ length f = cc in (z, omega arith)

  -- where none is, the full name is longer
  pub too_long : answer_of f ≡ None → kept_limit < length f
  too_long e = go (dec_lt kept_limit (length f))
    where
      go : Dec (kept_limit < length f) → kept_limit < length f
      go (yes l) = l
      go (no g) = let w = answer_short (omega arith) in let z : ◌≡◌ {A = ℕ} 0 1 = cc in absurd (omega arith)

  module _ (m : List ℕ) where
    -- up to the limit the full name is stored
    pub buffer_short : length f ≤ kept_limit → buffer_after m f ≡ store m 0 f
    unfolding buffer_after is_short
    buffer_short h = rw (le-leb (length f) kept_limit h)

    -- above the buffer stays as it was
    pub buffer_long : kept_limit < length f → buffer_after m f ≡ m
    unfolding buffer_after is_short
    buffer_long h = rw (lt-leb (length f) kept_limit h)

    -- the buffer keeps its length
    pub buffer_length : length (buffer_after m f) ≡ length m
    buffer_length = go (dec_lt kept_limit (length f))
      where
        go : Dec (kept_limit < length f) → length (buffer_after m f) ≡ length m
        go (yes l) = ap length (buffer_long l)
        go (no g) = ap length (buffer_short (omega arith)) ∙ length_store m 0 f

-- after `full_name` has answered `Some(n)`: r is the answer, m the buffer before and m' the buffer afterwards
module _ (f m m' : List ℕ) (r : Option ℕ) (a : r ≡ answer_of f) (b : m' ≡ buffer_after m f) (n : ℕ) (e : r ≡ Some n) (h : length m ≡ kept_limit) where
  -- `&out[0..n]` can be lent
  pub fits_room : n ≤ length m'
  fits_room = let z = fits_length f n (sym a ∙ e) in let w = ap length b ∙ buffer_length f m in omega arith

  -- and it is the full name
  pub fits_front : take (n - 0) (drop 0 m') ≡ f
  fits_front =
      let z = fits_length f n (sym a ∙ e) in
      let w : 0 + length f ≤ length m = omega arith in
      rw (b, buffer_short f m z.1, z.0, sub-zero, store_fits m 0 f w) (take-append_seam f (drop (0 + length f) m))
