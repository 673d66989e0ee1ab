-- Laws of the views, for whoever calls them. All hold of any text.
-- Assumes nothing.
use Rattle.std.specs.Prelude.{Option, Some, None}
use mathlib.Core.Path.{◌≡◌, refl}
use mathlib.Core.Bool.{Bool, true, false, cond}
use mathlib.Core.List.{List, [], ◌∷◌, ◌++◌, map}
use Prim.Native.Nat.{ℕ, zero, suc, ◌+◌, ◌*◌, ◌/◌, ◌%◌, ◌<◌}
use native.Mathlib.Omega.{arith}
use lib.Dec.{eqb, ltb}
use lib.ListN.{length}
use borrow.Author.Tests.{ltb-true}
use Rattle.ground.specs.Bytes.{byte_at, same}
use Rattle.view.specs.Values.{starts_value}
use Rattle.view.specs.Ends.{end_of}
use Rattle.view.specs.Elements.{first_element, next_element, unroll, elements_at, elements}
use Rattle.view.specs.Strings.{unit_at, utf8_of, short_of, part_of, part_at, is_stop, string_from, bytes_from, string_at}
use Rattle.view.specs.Members.{value_of, is_member, first_key, key_after, keys_at, member_of, members_at, last_under, member}
use Rattle.view.specs.declared.members.Member.{Member}
use Rattle.view.proofs.Visits.{first_ahead, next_ahead, first_key_ahead, next_key_ahead, member_value}
use Rattle.view.proofs.Undone.{unit_small}
pub use Rattle.view.proofs.Places.{in_text, value_in_text, skip_ahead, skip_within, end_ahead, end_within}
pub use Rattle.view.proofs.Visits.{elements_next, elements_done, elements_few, left_start, left_done, left_next, keys_next, keys_done}
pub use Rattle.view.proofs.Known.{known_none}
pub use Rattle.view.proofs.Undone.{bytes_stop, bytes_next, string_short, past_stop, stop_in, Holds, part_holds, low_alone, spells_first, read_end, read_byte, read_within}
pub use Rattle.view.proofs.OnePass.{key_of, own, true_turn, own_value, keys_turn, pass_less}
pub use Rattle.view.proofs.Titled.{left_behind, last_start_lem, last_turn, last_end}

-- every element of a list
abbrev pub All : {A : Type 0} → (A → Type 0) → List A → Type 0
All P [] = Unit {0}
All P (x ∷ xs) = P x × All P xs

-- ---- elements and members stand behind the bracket and within the text
pub record Inside (t : List ℕ) (p q : ℕ) : Type 0 where
  pub behind : p < q
  pub within : q < length t
  pub value : starts_value (byte_at t q) ≡ true

module _ (P : ℕ → Type 0) (next : ℕ → Option ℕ) (on : (p q : ℕ) → P p → next p ≡ Some q → P q) where
  pub all_on : (n : ℕ) (s : Option ℕ) → ((q : ℕ) → s ≡ Some q → P q) → All P (unroll next n s)
  unfolding unroll
  all_on zero s h = tt
  all_on (suc n) None h = tt
  all_on (suc n) (Some p) h = (h p refl, all_on n (next p) (λ q e. on p q (h p refl) e))

pub elements_inside : (t : List ℕ) (p : ℕ) → All (Inside t p) (elements t p)
unfolding elements elements_at
elements_inside t p =
    all_on (Inside t p) (next_element t) go (suc (length t)) (first_element t p)
    (λ q e. let a = first_ahead t p q e in record { behind = a.0; within = a.1; value = a.2 })
  where
    go : (x q : ℕ) → Inside t p x → next_element t x ≡ Some q → Inside t p q
    go x q i e =
        let a = next_ahead t x q e in
        let b = end_ahead t x in
        let c = i.behind in
        record { behind = omega arith; within = a.1; value = a.2 }

-- each element starts behind the end of the one before
abbrev pub Ascending : List ℕ → List ℕ → Type 0
Ascending t [] = Unit {0}
Ascending t (x ∷ xs) = All (λ y. end_of t x < y) xs × Ascending t xs

ascend : (t : List ℕ) (n : ℕ) (s : Option ℕ) → Ascending t (unroll (next_element t) n s)
unfolding unroll
ascend t zero s = tt
ascend t (suc n) None = tt
ascend t (suc n) (Some p) =
    (all_on (λ q. end_of t p < q) (next_element t) go n (next_element t p) (λ q e. (next_ahead t p q e).0), ascend t n (next_element t p))
  where
    go : (x q : ℕ) → end_of t p < x → next_element t x ≡ Some q → end_of t p < q
    go x q i e = let a = (next_ahead t x q e).0 in let b = end_ahead t x in omega arith

pub elements_ascend : (t : List ℕ) (p : ℕ) → Ascending t (elements t p)
unfolding elements elements_at
elements_ascend t p = ascend t (suc (length t)) (first_element t p)

-- a key, and its value behind it
pub record Entered (t : List ℕ) (p : ℕ) (m : Member) : Type 0 where
  pub behind : p < m.key
  pub value_behind : end_of t m.key < m.value
  pub within : m.value < length t
  pub value : starts_value (byte_at t m.value) ≡ true

entered : (t : List ℕ) (p k : ℕ) → p < k → is_member t k ≡ true → Entered t p (member_of t k)
entered t p k h e = let a = member_value t k e in record { behind = h; value_behind = a.0; within = a.1; value = a.2 }

pub all_map : {A B : Type 0} (f : A → B) (P : B → Type 0) (l : List A) → All (λ x. P (f x)) l → All P (map f l)
all_map f P [] h = tt
all_map f P (x ∷ l) h = (h.0, all_map f P l h.1)

pub members_inside : (t : List ℕ) (p : ℕ) → All (Entered t p) (members_at t p)
unfolding members_at keys_at
members_inside t p =
    all_map (member_of t) (Entered t p) (unroll (key_after t) (suc (length t)) (first_key t p))
    (all_on (λ k. Entered t p (member_of t k)) (key_after t) go (suc (length t)) (first_key t p)
    (λ k e. let a = first_key_ahead t p k e in entered t p k a.0 a.1))
  where
    go : (x k : ℕ) → Entered t p (member_of t x) → key_after t x ≡ Some k → Entered t p (member_of t k)
    go x k i e =
        let a = next_key_ahead t (value_of t x) k e in
        let b = end_ahead t (value_of t x) in
        let c = end_ahead t x in
        let d = i.value_behind in
        let f = i.behind in
        entered t p k (omega arith) a.1

-- ---- the value under a key
-- the last member counts
pub last_counts : (t w : List ℕ) (s : Option ℕ) (ms : List Member) (m : Member)
    → last_under t w s (ms ++ (m ∷ [])) ≡ cond (same (string_at t m.key) w) (Some m.value) (last_under t w s ms)
unfolding last_under
last_counts t w s [] m = refl
last_counts t w s (x ∷ ms) m = last_counts t w (cond (same (string_at t x.key) w) (Some x.value) s) ms m

-- what holds of every member's value holds of the value under a key
module _ (t w : List ℕ) (P : ℕ → Type 0) where
  of_all : (ms : List Member) (s : Option ℕ) → All (λ m. P m.value) ms → ((v : ℕ) → s ≡ Some v → P v) → (v : ℕ) → last_under t w s ms ≡ Some v → P v
  unfolding last_under
  of_all [] s a h v e = h v e
  of_all (m ∷ ms) s a h v e = of_all ms (cond (same (string_at t m.key) w) (Some m.value) s) a.1 (go (same (string_at t m.key) w)) v e
    where
      go : (x : Bool) (u : ℕ) → cond x (Some m.value) s ≡ Some u → P u
      go true u f = let z : m.value ≡ u = cc in rw z at a.0
      go false u f = h u f

  pub member_all : (p : ℕ) → All (λ m. P m.value) (members_at t p) → (v : ℕ) → member t p w ≡ Some v → P v
  unfolding member
  member_all p a v e = of_all (members_at t p) None a (λ u f. none f) v e
    where
      none : {u : ℕ} → None ≡ Some u → P u
      none f = let z : ◌≡◌ {A = ℕ} 0 1 = cc in absurd (omega arith)

-- it stands behind the brace and within the text
pub member_inside : (t : List ℕ) (p : ℕ) (w : List ℕ) (v : ℕ) → member t p w ≡ Some v → Inside t p v
member_inside t p w v e = member_all t w (Inside t p) p (go (members_at t p) (members_inside t p)) v e
  where
    go : (ms : List Member) → All (Entered t p) ms → All (λ m. Inside t p m.value) ms
    go [] a = tt
    go (m ∷ ms) a =
        let i = a.0 in
        let b = i.behind in
        let c = i.value_behind in
        let d = end_ahead t m.key in
        (record { behind = omega arith; within = i.within; value = i.value }, go ms a.1)

-- ---- the bytes of a string are bytes
abbrev pub Bytes : List ℕ → Type 0
Bytes l = All (λ b. b < 256) l

bytes_append : (a b : List ℕ) → Bytes a → Bytes b → Bytes (a ++ b)
bytes_append [] b h k = k
bytes_append (x ∷ a) b h k = (h.0, bytes_append a b h.1 k)

pub byte_small : (t : List ℕ) → Bytes t → (p : ℕ) → byte_at t p < 256
unfolding byte_at
byte_small [] h p = omega arith
byte_small (x ∷ t) h zero = h.0
byte_small (x ∷ t) h (suc p) = byte_small t h.1 p

short_small : (b : ℕ) → b < 256 → short_of b < 256
unfolding short_of
short_small b h = go (eqb b 98) (eqb b 102) (eqb b 110) (eqb b 114) (eqb b 116)
  where
    go : (u v w x y : Bool) → cond u 8 (cond v 12 (cond w 10 (cond x 13 (cond y 9 b)))) < 256
    go true v w x y = omega arith
    go false true w x y = omega arith
    go false false true x y = omega arith
    go false false false true y = omega arith
    go false false false false true = omega arith
    go false false false false false = h

pub utf8_small : (c : ℕ) → c < 1114112 → Bytes (utf8_of c)
unfolding utf8_of
utf8_small c h = go (ltb c 128) refl (ltb c 2048) refl (ltb c 65536) refl
  where
    go : (x : Bool) → ltb c 128 ≡ x → (y : Bool) → ltb c 2048 ≡ y → (z : Bool) → ltb c 65536 ≡ z
        → Bytes (cond x (c ∷ []) (cond y ((192 + c / 64) ∷ (128 + c % 64) ∷ [])
        (cond z ((224 + c / 4096) ∷ (128 + c / 64 % 64) ∷ (128 + c % 64) ∷ [])
        ((240 + c / 262144) ∷ (128 + c / 4096 % 64) ∷ (128 + c / 64 % 64) ∷ (128 + c % 64) ∷ []))))
    go true e y f z g = let l = ltb-true c 128 e in (omega arith, tt)
    go false e true f z g = let l = ltb-true c 2048 f in (omega arith, (omega arith, tt))
    go false e false f true g = let l = ltb-true c 65536 g in (omega arith, (omega arith, (omega arith, tt)))
    go false e false f false g = (omega arith, (omega arith, (omega arith, (omega arith, tt))))

module _ (t : List ℕ) (h : Bytes t) where
  part_small : (p : ℕ) → Bytes (part_at t p).bytes
  unfolding part_at
  part_small p = go (eqb (byte_at t p) 92) (eqb (byte_at t (p + 1)) 117) (eqb (unit_at t (p + 2) / 1024) 54)
    where
      go : (x y z : Bool) → Bytes (cond x (cond y (cond z
          (part_of (p + 12) (utf8_of (65536 + unit_at t (p + 2) % 1024 * 1024 + unit_at t (p + 8) % 1024)))
          (part_of (p + 6) (utf8_of (unit_at t (p + 2))))) (part_of (p + 2) (short_of (byte_at t (p + 1)) ∷ []))) (part_of (p + 1) (byte_at t p ∷ []))).bytes
      go true true true = utf8_small (65536 + unit_at t (p + 2) % 1024 * 1024 + unit_at t (p + 8) % 1024) (omega arith)
      go true true false = let u = unit_small t (p + 2) in utf8_small (unit_at t (p + 2)) (omega arith)
      go true false z = (short_small (byte_at t (p + 1)) (byte_small t h (p + 1)), tt)
      go false y z = (byte_small t h p, tt)

  from_small : (n p : ℕ) → Bytes (string_from t n p)
  unfolding string_from
  from_small zero p = tt
  from_small (suc n) p = go (from_small n (part_at t p).next) (is_stop (byte_at t p))
    where
      go : Bytes (string_from t n (part_at t p).next) → (x : Bool) → Bytes (cond x [] ((part_at t p).bytes ++ string_from t n (part_at t p).next))
      go i true = tt
      go i false = bytes_append (part_at t p).bytes (string_from t n (part_at t p).next) (part_small p) i

  pub string_bytes : (p : ℕ) → Bytes (string_at t p)
  unfolding string_at bytes_from
  string_bytes p = go (eqb (byte_at t p) 34)
    where
      go : (x : Bool) → Bytes (cond x (string_from t (suc (length t)) (p + 1)) [])
      go true = from_small (suc (length t)) (p + 1)
      go false = tt
