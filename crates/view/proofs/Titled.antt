-- The members that name an object, in one pass.
-- Assumes nothing.
use Rattle.std.specs.Prelude.{Option, Some, None}
use mathlib.Core.Path.{◌≡◌, refl, sym, ap, ◌∙◌}
use mathlib.Core.Bool.{Bool, true, false, cond}
use mathlib.Core.List.{List, [], ◌∷◌, map}
use Prim.Native.Nat.{ℕ}
use native.Mathlib.Omega.{arith}
use lib.Dec.{eqb}
use lib.ListN.{length}
use Rattle.ground.specs.Bytes.{byte_at, same}
use Rattle.ground.proofs.Laws.{same_true}
use Rattle.view.specs.Strings.{string_at}
use Rattle.view.specs.Members.{first_key, key_behind, keys_at, member_of, members_at, last_under, member, entry_of, name_key, aliases_key, title_number, titles_of, entry}
use Rattle.view.specs.declared.members.Member.{Member}
use Rattle.view.proofs.Visits.{keys_done}
use Rattle.view.proofs.KeyNumber.{differs}
use Rattle.view.proofs.OnePass.{key_of, own, true_turn, own_value, keys_turn}

-- ---- the number of a key
module _ (s : List ℕ) where
  no_name : (byte_at s 0 ≡ 110 → ⊥) → same s name_key ≡ false
  no_name n = differs s 110 (97 ∷ 109 ∷ 101 ∷ []) n

  no_aliases : (byte_at s 0 ≡ 97 → ⊥) → same s aliases_key ≡ false
  no_aliases n = differs s 97 (108 ∷ 105 ∷ 97 ∷ 115 ∷ 101 ∷ 115 ∷ []) n

  -- by its first byte
  pub title_n : byte_at s 0 ≡ 110 → cond (same s name_key) 1 13 ≡ title_number s
  unfolding title_number
  title_n e = rw (no_aliases (λ (h : byte_at s 0 ≡ 97). omega arith))

  pub title_a : byte_at s 0 ≡ 97 → cond (same s aliases_key) 3 13 ≡ title_number s
  unfolding title_number
  title_a e = rw (no_name (λ (h : byte_at s 0 ≡ 110). omega arith))

  pub title_none : (byte_at s 0 ≡ 110 → ⊥) → (byte_at s 0 ≡ 97 → ⊥) → 13 ≡ title_number s
  unfolding title_number
  title_none n a = rw (no_name n, no_aliases a)

  -- by comparing it with both
  pub is_first_lem : {a : Bool} → a ≡ same s name_key → a ≡ true → 1 ≡ title_number s
  unfolding title_number
  is_first_lem e f = rw (← e, f)

  pub is_second : {a b : Bool} → a ≡ same s name_key → a ≡ false → b ≡ same s aliases_key → b ≡ true → 3 ≡ title_number s
  unfolding title_number
  is_second e f g h = rw (← e, f, ← g, h)

  pub is_other : {a b : Bool} → a ≡ same s name_key → a ≡ false → b ≡ same s aliases_key → b ≡ false → 13 ≡ title_number s
  unfolding title_number
  is_other e f g h = rw (← e, f, ← g, h)

  tells_name : eqb (title_number s) 1 ≡ same s name_key
  unfolding title_number
  tells_name = go (same s name_key) (same s aliases_key)
    where
      go : (y z : Bool) → eqb (cond y 1 (cond z 3 13)) 1 ≡ y
      go true z = refl
      go false true = refl
      go false false = refl

  not_both : same s name_key ≡ true → same s aliases_key ≡ true → ⊥
  not_both e f = let n = ap length (sym (same_true s name_key e) ∙ same_true s aliases_key f) in omega arith

  tells_aliases : eqb (title_number s) 3 ≡ same s aliases_key
  unfolding title_number
  tells_aliases = go (same s name_key) (same s aliases_key) refl refl
    where
      go : (y z : Bool) → same s name_key ≡ y → same s aliases_key ≡ z → eqb (cond y 1 (cond z 3 13)) 3 ≡ z
      go true true e f = absurd (not_both e f)
      go true false e f = refl
      go false true e f = refl
      go false false e f = refl

-- ---- one pass

-- the members that are left to read
abbrev pub left_behind : List ℕ → Option Member → List Member
left_behind t e = map (member_of t) (keys_at t (key_of e))

-- the invariant: the entry is that of its own key, and what will be found is the answer
pub record Titling (t : List ℕ) (p : ℕ) (n a : Option ℕ) (e : Option Member) : Type 0 where
  pub true_entry : e ≡ entry_of t (key_of e)
  pub will_name : last_under t name_key n (left_behind t e) ≡ member t p name_key
  pub will_aliases : last_under t aliases_key a (left_behind t e) ≡ member t p aliases_key

module _ (t : List ℕ) (w : List ℕ) where
  pub last_start_lem : (p : ℕ) {e : Option Member} → e ≡ entry_of t (first_key t p) → last_under t w None (left_behind t e) ≡ member t p w
  unfolding member members_at
  last_start_lem p {e} h = ap (λ (s : Option ℕ). last_under t w None (map (member_of t) (keys_at t s))) (own t e (first_key t p) h)

  pub last_turn : {e : Option Member} {k v : ℕ} → e ≡ entry_of t (key_of e) → e ≡ entry k v → {e' : Option Member} → e' ≡ entry_of t (key_behind t v) → (s : Option ℕ)
      → last_under t w (cond (same (string_at t k) w) (Some v) s) (left_behind t e') ≡ last_under t w s (left_behind t e)
  unfolding last_under
  last_turn {e} {k} {v} i h {e'} d s =
      ap (λ (x : ℕ). last_under t w (cond (same (string_at t k) w) (Some x) s) (left_behind t e')) (own_value t i h)
      ∙ sym (ap (λ (l : List ℕ). last_under t w s (map (member_of t) l)) (keys_turn t i h d))

  pub last_end : {e : Option Member} → e ≡ None → (s : Option ℕ) → s ≡ last_under t w s (left_behind t e)
  unfolding last_under
  last_end h s =
      ap (λ (l : List ℕ). last_under t w s (map (member_of t) l)) (sym (keys_done t))
      ∙ ap (λ (x : Option Member). last_under t w s (left_behind t x)) (sym h)

module _ (t : List ℕ) (p : ℕ) where
  pub titling_start : {e : Option Member} → e ≡ entry_of t (first_key t p) → Titling t p None None e
  titling_start h = record {
    true_entry = true_turn t (first_key t p) h;
    will_name = last_start_lem t name_key p h;
    will_aliases = last_start_lem t aliases_key p h;
  }

  pub titling_turn : {n a : Option ℕ} {e : Option Member} → Titling t p n a e → {k v : ℕ} → e ≡ entry k v → {x : ℕ} → x ≡ title_number (string_at t k)
      → {n' : Option ℕ} → n' ≡ cond (eqb x 1) (Some v) n → {a' : Option ℕ} → a' ≡ cond (eqb x 3) (Some v) a
      → {e' : Option Member} → e' ≡ entry_of t (key_behind t v) → Titling t p n' a' e'
  titling_turn {n} {a} i {k} {v} h f g b d = record {
    true_entry = true_turn t (key_behind t v) d;
    will_name = rw (g, f, tells_name (string_at t k)) (last_turn t name_key i.true_entry h d n ∙ i.will_name);
    will_aliases = rw (b, f, tells_aliases (string_at t k)) (last_turn t aliases_key i.true_entry h d a ∙ i.will_aliases);
  }

  pub titling_end : {n a : Option ℕ} {e : Option Member} → Titling t p n a e → e ≡ None → record { name = n; aliases = a } ≡ titles_of t p
  unfolding titles_of
  titling_end {n} {a} i h = λ j. record {
    name = (last_end t name_key h n ∙ i.will_name) j;
    aliases = (last_end t aliases_key h a ∙ i.will_aliases) j;
  }
