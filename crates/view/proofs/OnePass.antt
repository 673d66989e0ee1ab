-- The members of an object by key, in one pass.
-- Assumes nothing.
use Rattle.std.specs.Prelude.{Option, Some, None}
use mathlib.Core.Path.{◌≡◌, refl, sym, ap, ◌∙◌}
use mathlib.Core.Bool.{Bool, true, false, cond, ◌&&◌}
use mathlib.Core.List.{List, [], ◌∷◌, map}
use Prim.Native.Nat.{ℕ, suc, ◌<◌, ◌≤◌}
use native.Mathlib.Omega.{arith}
use native.Mathlib.Decide.{dec_lt}
use lib.ListN.{set, length, get_or, take, length-take, length-set}
use lib.Seq.{take-set-lt, take-set-le, set_out, get_or-take}
use Rattle.ground.specs.Bytes.{same}
use Rattle.ground.proofs.Laws.{same_true, and_true}
use Rattle.view.specs.Strings.{string_at}
use Rattle.view.specs.Members.{value_of, first_key, key_behind, keys_at, member_of, members_at, last_under, member, keys, index_of, key_number, entry_of, members_of, entry}
use Rattle.view.specs.declared.members.Member.{Member}
use Rattle.view.proofs.Places.{never}
use Rattle.view.proofs.Visits.{keys_next, keys_done}

-- ---- a word stands once in a list
absent : List ℕ → List (List ℕ) → Bool
absent s [] = true
absent s (w ∷ ws) = let more = absent s ws in cond (same s w) false more

distinct : List (List ℕ) → Bool
distinct [] = true
distinct (w ∷ ws) = absent w ws && distinct ws

module _ (s : List ℕ) (v : Option ℕ) (f : List ℕ → Option ℕ) where
  abbrev put : List ℕ → Option ℕ
  put w = cond (same s w) v (f w)

  untouched : (ws : List (List ℕ)) → absent s ws ≡ true → map f ws ≡ map put ws
  unfolding absent
  untouched [] e = refl
  untouched (w ∷ ws) e = go (untouched ws) (same s w) e
    where
      go : (absent s ws ≡ true → map f ws ≡ map put ws) → (z : Bool) → cond z false (absent s ws) ≡ true → f w ∷ map f ws ≡ cond z v (f w) ∷ map put ws
      go r true g = never g
      go r false g = ap (λ (l : List (Option ℕ)). f w ∷ l) (r g)

  set_index : (ws : List (List ℕ)) → distinct ws ≡ true → set (map f ws) (index_of s ws) v ≡ map put ws
  unfolding index_of distinct
  set_index [] e = refl
  set_index (w ∷ ws) e = go (set_index ws) (same s w) refl (and_true (absent w ws) (distinct ws) e)
    where
      go : (distinct ws ≡ true → set (map f ws) (index_of s ws) v ≡ map put ws) → (z : Bool) → same s w ≡ z → (absent w ws ≡ true) × (distinct ws ≡ true)
          → set (f w ∷ map f ws) (cond z 0 (suc (index_of s ws))) v ≡ cond z v (f w) ∷ map put ws
      go r true g h = ap (λ (l : List (Option ℕ)). v ∷ l) (untouched ws (ap (λ (x : List ℕ). absent x ws) (same_true s w g) ∙ h.0))
      go r false g h = ap (λ (l : List (Option ℕ)). f w ∷ l) (r h.1)

keys_distinct : distinct keys ≡ true
unfolding keys same distinct absent
keys_distinct = refl

-- ---- one pass: what is found once the members that are left are read too
unfoldable pub fill : List ℕ → List (Option ℕ) → List Member → List (Option ℕ)
fill t f [] = f
fill t f (m ∷ ms) = fill t (set f (key_number (string_at t m.key)) (Some m.value)) ms

fill_map : (t : List ℕ) (ms : List Member) (f : List ℕ → Option ℕ) → fill t (map f keys) ms ≡ map (λ w. last_under t w (f w) ms) keys
unfolding fill last_under
fill_map t [] f = refl
fill_map t (m ∷ ms) f =
    ap (λ (l : List (Option ℕ)). fill t l ms) (set_index (string_at t m.key) (Some m.value) f keys keys_distinct)
    ∙ fill_map t ms (λ w. cond (same (string_at t m.key) w) (Some m.value) (f w))

-- the key of an entry
abbrev pub key_of : Option Member → Option ℕ
key_of (Some m) = Some m.key
key_of None = None

abbrev value_in : Option Member → ℕ
value_in (Some m) = m.value
value_in None = 0

key_of_lem : (t : List ℕ) (s : Option ℕ) → key_of (entry_of t s) ≡ s
key_of_lem t (Some k) = refl
key_of_lem t None = refl

-- the first 13 of what is found: the last is for all other keys
unfoldable pub found : List ℕ → List (Option ℕ) → Option ℕ → List (Option ℕ)
found t f s = fill t (take 13 f) (map (member_of t) (keys_at t s))

pub entries : List ℕ → ℕ → List (Option ℕ)
entries t p = map (member t p) keys

abbrev pub none : List (Option ℕ)
none = None ∷ None ∷ None ∷ None ∷ None ∷ None ∷ None ∷ None ∷ None ∷ None ∷ None ∷ None ∷ None ∷ []

none_is : none ≡ map (λ w. None) keys
unfolding keys
none_is = refl

-- the invariant: the entry is that of its own key, and what will be found is the answer
pub record Passing (t : List ℕ) (p : ℕ) (f : List (Option ℕ)) (e : Option Member) : Type 0 where
  pub fourteen : length f ≡ 14
  pub true_entry : e ≡ entry_of t (key_of e)
  pub will_be : found t f (key_of e) ≡ entries t p

pub own : (t : List ℕ) (e : Option Member) (s : Option ℕ) → e ≡ entry_of t s → key_of e ≡ s
own t e s h = ap key_of h ∙ key_of_lem t s

pub true_turn : (t : List ℕ) (s : Option ℕ) {e : Option Member} → e ≡ entry_of t s → e ≡ entry_of t (key_of e)
true_turn t s {e} h = h ∙ ap (λ (s : Option ℕ). entry_of t s) (sym (own t e s h))

pub pass_start : (t : List ℕ) (p : ℕ) {f : List (Option ℕ)} {e : Option Member} → f ≡ None ∷ none → e ≡ entry_of t (first_key t p) → Passing t p f e
unfolding found entries member members_at
pass_start t p {f} {e} g h =
    let k = own t e (first_key t p) h in
    record {
      fourteen = ap length g;
      true_entry = true_turn t (first_key t p) h;
      will_be = rw (g, k) (ap (λ (l : List (Option ℕ)). fill t l (members_at t p)) none_is ∙ fill_map t (members_at t p) (λ w. None));
    }

take_set : (l : List (Option ℕ)) (n : ℕ) (v : Option ℕ) → take 13 (set l n v) ≡ set (take 13 l) n v
take_set l n v = go (dec_lt n 13)
  where
    go : Dec (n < 13) → take 13 (set l n v) ≡ set (take 13 l) n v
    go (yes h) = take-set-lt 13 l n v h
    go (no h) = let k = length-take 13 l in take-set-le 13 l n v (omega arith) ∙ sym (set_out (take 13 l) n v (omega arith))

index_few : (s : List ℕ) (ws : List (List ℕ)) → index_of s ws ≤ length ws
unfolding index_of
index_few s [] = omega arith
index_few s (w ∷ ws) = go (index_few s ws) (same s w)
  where
    go : index_of s ws ≤ length ws → (x : Bool) → cond x 0 (suc (index_of s ws)) ≤ suc (length ws)
    go h true = omega arith
    go h false = omega arith

pub number_few : (s : List ℕ) {n : ℕ} → n ≡ key_number s → n < 14
unfolding keys
number_few s e = let h = index_few s keys in omega arith

-- the entry's value is that of its key, and its key is the next that is read
module _ (t : List ℕ) {e : Option Member} {k v : ℕ} (i : e ≡ entry_of t (key_of e)) (h : e ≡ entry k v) where
  pub own_value : v ≡ value_of t k
  own_value = go (rw h at i)
    where
      go : entry k v ≡ entry k (value_of t k) → v ≡ value_of t k
      go q = ap (λ (x : Option Member). value_in x) q

  pub keys_turn : {e' : Option Member} → e' ≡ entry_of t (key_behind t v) → keys_at t (key_of e) ≡ k ∷ keys_at t (key_of e')
  keys_turn {e'} d =
      ap (λ (x : Option Member). keys_at t (key_of x)) h ∙ keys_next t k ∙ ap (λ (x : ℕ). k ∷ keys_at t (key_behind t x)) (sym own_value)
      ∙ ap (λ (s : Option ℕ). k ∷ keys_at t s) (sym (own t e' (key_behind t v) d))

  -- fewer members are left to read
  pub pass_less : {e' : Option Member} → e' ≡ entry_of t (key_behind t v) → length (keys_at t (key_of e')) < length (keys_at t (key_of e))
  pass_less d = omega (arith, ap length (keys_turn d))

-- one more member is read
pub pass_turn : (t : List ℕ) (p : ℕ) {f g : List (Option ℕ)} {e e' : Option Member} {k v n : ℕ} → Passing t p f e → e ≡ entry k v → n ≡ key_number (string_at t k)
    → g ≡ set f n (Some v) → e' ≡ entry_of t (key_behind t v) → Passing t p g e'
unfolding found fill
pass_turn t p {f} {g} {e} {e'} {k} {v} {n} i h a b d =
    record {
      fourteen = ap length b ∙ length-set f n (Some v) ∙ i.fourteen;
      true_entry = true_turn t (key_behind t v) d;
      will_be =
          rw (b, take_set f n (Some v), a, own_value t i.true_entry h) refl
          ∙ ap (λ (l : List ℕ). fill t (take 13 f) (map (member_of t) l)) (sym (keys_turn t i.true_entry h d))
          ∙ i.will_be;
    }

-- all are read
pub pass_end : (t : List ℕ) (p : ℕ) {f : List (Option ℕ)} {e : Option Member} → Passing t p f e → e ≡ None → take 13 f ≡ entries t p
unfolding found fill
pass_end t p {f} i h =
    ap (λ (l : List ℕ). fill t (take 13 f) (map (member_of t) l)) (sym (keys_done t))
    ∙ ap (λ (x : Option Member). found t f (key_of x)) (sym h) ∙ i.will_be

-- what is found, field by field
module _ (t : List ℕ) (p : ℕ) (f : List (Option ℕ)) (e : take 13 f ≡ entries t p) (d : Option ℕ) where
  entry_at : (k : ℕ) → k < 13 → get_or f k d ≡ get_or (entries t p) k d
  entry_at k h = sym (get_or-take 13 f k d h) ∙ ap (λ (l : List (Option ℕ)). get_or l k d) e

  pub collected : record { typed = get_or f 0 d; name = get_or f 1 d; namespace = get_or f 2 d; aliases = get_or f 3 d; fields = get_or f 4 d; symbols = get_or f 5 d; default = get_or f 6 d; size = get_or f 7 d; items = get_or f 8 d; values = get_or f 9 d; logical_type = get_or f 10 d; precision = get_or f 11 d; scale = get_or f 12 d } ≡ members_of t p
  unfolding members_of entries keys
  collected = λ i. record {
    typed = entry_at 0 (omega arith) i;
    name = entry_at 1 (omega arith) i;
    namespace = entry_at 2 (omega arith) i;
    aliases = entry_at 3 (omega arith) i;
    fields = entry_at 4 (omega arith) i;
    symbols = entry_at 5 (omega arith) i;
    default = entry_at 6 (omega arith) i;
    size = entry_at 7 (omega arith) i;
    items = entry_at 8 (omega arith) i;
    values = entry_at 9 (omega arith) i;
    logical_type = entry_at 10 (omega arith) i;
    precision = entry_at 11 (omega arith) i;
    scale = entry_at 12 (omega arith) i;
  }
