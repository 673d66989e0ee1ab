-- The values of an array and the members of an object, by the views. Assumes nothing.
use Rattle.std.specs.Prelude.{Option, Some, None}
use mathlib.Core.Path.{◌≡◌, refl, sym, ap, ap₂, ◌∙◌}
use mathlib.Core.Bool.{true, false, cond}
use mathlib.Core.List.{List, [], ◌∷◌, ◌++◌, map, append_assoc}
use Prim.Native.Nat.{ℕ, suc, ◌+◌}
use native.Mathlib.Omega.{arith}
use lib.Dec.{eqb}
use lib.ListN.{length, drop, length-append}
use Rattle.json_scan.specs.Json.{is_space}
use Rattle.ground.specs.Bytes.{byte_at}
use Rattle.view.specs.Values.{count, skip_of, shape_of, is_value, starts_value}
use Rattle.view.specs.Ends.{end_of, is_token, is_delimiter}
use Rattle.view.specs.Elements.{value_from, next_element, elements_at}
use Rattle.view.specs.Strings.{string_at}
use Rattle.view.specs.Members.{value_of, is_member, key_from, key_behind, key_after, keys_at}
use Rattle.view.specs.Members.{member_of as member-at}
use Rattle.view.proofs.Laws.{elements_next, elements_done, keys_next, keys_done}
use Rattle.viewed.proofs.Values.{byte_here}
use Rattle.grammar.specs.Grammar.{Byte, bytes, ◌·◌, join, Optional, absent, present, Many, none, more, ws, value_separator, name_separator, string, member, value}
use Rattle.tree.specs.Characters.{string_of}
use Rattle.tree.specs.Tree.{Tree, Trees, Members, a_text, text_of, no_tree, tree, no_member, under, further_values, values_in, member_of, further_members, members_in, tree_of}
use Rattle.tree.specs.Seen.{shown, shown_all, shown_members, text_at}
use Rattle.tree.proofs.Standing.{past, front, back, skip_over, skip_none, Stops, stops_at}
use Rattle.tree.proofs.Strings.{string_seen}
use Rattle.tree.proofs.Frames.{string_end}
use Rattle.tree.proofs.Values.{Shows}

-- ---- a separator or a closing bracket at p
record Separated (t : List ℕ) (p c : ℕ) (z : List ℕ) : Type 0 where
  byte : byte_at t (skip_of t p) ≡ c
  beyond : skip_of t (skip_of t p + 1) ≡ skip_of t (p + length z)

separated : (t : List ℕ) (p c : ℕ) → is_space c ≡ false → {z : List ℕ} → (ws · Byte c · ws) z → (u : List ℕ) → drop p t ≡ z ++ u → Separated t p c z
separated t p c n (join {s = w} d (join {t = w'} bytes d')) u e =
    let f : drop p t ≡ w ++ (c ∷ (w' ++ u)) = front t p w (c ∷ w') u e in
    let g : drop (p + length w) t ≡ c ∷ (w' ++ u) = past t p w (c ∷ (w' ++ u)) f in
    let q : skip_of t p ≡ p + length w = skip_over t p (c ∷ (w' ++ u)) d f ∙ skip_none t (p + length w) n g in
    let h : drop (p + length w + 1) t ≡ w' ++ u = past t (p + length w) (c ∷ []) (w' ++ u) g in
    let l : length (w ++ (c ∷ w')) ≡ length w + suc (length w') = length-append w (c ∷ w') in
    let k : p + length w + 1 + length w' ≡ p + length (w ++ (c ∷ w')) = omega arith in
    record {
      byte = ap (byte_at t) q ∙ byte_here t (p + length w) c (w' ++ u) g;
      beyond = ap (λ (y : ℕ). skip_of t (y + 1)) q ∙ skip_over t (p + length w + 1) u d' h ∙ ap (skip_of t) k;
    }

comma : is_delimiter 44 ≡ true
unfolding is_delimiter
comma = refl

closing : is_delimiter 93 ≡ true
unfolding is_delimiter
closing = refl

closing_brace : is_delimiter 125 ≡ true
unfolding is_delimiter
closing_brace = refl

-- items with commas before them, and the closing bracket: a word or a number ends there
items_stop : {P : List ℕ → Type 0} {s z : List ℕ} (c : ℕ) → is_delimiter c ≡ true → Many (value_separator · P) s → (ws · Byte c · ws) z → (u : List ℕ) → Stops (s ++ (z ++ u))
items_stop c h none d u = stops_at c h d u
items_stop {z = z} c h (more {t = t} (join {s = a} {t = i} x y) r) d u =
    ap (count is_token) (append_assoc (a ++ i) t (z ++ u) ∙ append_assoc a i (t ++ (z ++ u))) ∙ stops_at 44 comma x (i ++ (t ++ (z ++ u)))

module _ (t : List ℕ) (n : ℕ) where
  -- what a value of the array or the object is shown as
  abbrev pub Sees : Type 0
  Sees = (s : List ℕ) (p : ℕ) (u : List ℕ) (d : value n s) → drop p t ≡ s ++ u → Stops u → Shows t n p s (tree_of n s p d)

  -- ---- values
  -- behind a value: a comma at e, and the next one
  unfoldable comma_at : ℕ → Option ℕ
  comma_at e = cond (eqb (byte_at t e) 44) (value_from t (e + 1)) None

  next_comma : (q : ℕ) → next_element t q ≡ comma_at (skip_of t (end_of t q))
  unfolding next_element comma_at
  next_comma q = refl

  unfoldable shown_from : Option ℕ → Trees
  shown_from s = shown_all t (shown t (suc n)) (elements_at t s)

  from_none : no_tree ≡ shown_from None
  unfolding shown_from shown_all
  from_none = ap (shown_all t (shown t (suc n))) (sym (elements_done t))

  from_one : (q : ℕ) → tree (shown t (suc n) q) (shown_from (next_element t q)) ≡ shown_from (Some q)
  unfolding shown_from shown_all
  from_one q = ap (shown_all t (shown t (suc n))) (sym (elements_next t q))

  -- the value at p, looked for from x on
  item : (x p : ℕ) {s : List ℕ} {y : Tree} → skip_of t x ≡ skip_of t p → Shows t n p s y → (rest : Trees) → rest ≡ shown_from (comma_at (skip_of t (p + length s))) → tree y rest ≡ shown_from (value_from t x)
  unfolding value_from
  item x p {s} {y} e h rest r =
      let f : rest ≡ shown_from (next_element t (skip_of t p)) = r ∙ ap (λ (z : ℕ). shown_from (comma_at z)) (sym h.ended) ∙ ap shown_from (sym (next_comma (skip_of t p))) in
      ap₂ tree h.tree f ∙ from_one (skip_of t p) ∙ (rw (e, h.starts))

  no_comma : (e c : ℕ) → byte_at t e ≡ c → eqb c 44 ≡ false → no_tree ≡ shown_from (comma_at e)
  unfolding comma_at
  no_comma e c h k = rw (h, k) from_none

  with_comma : (e : ℕ) → byte_at t e ≡ 44 → {y : Trees} → y ≡ shown_from (value_from t (e + 1)) → y ≡ shown_from (comma_at e)
  unfolding comma_at
  with_comma e h r = rw h r

  module _ (see : Sees) where
    -- the values behind commas, and the closing bracket
    further : {s : List ℕ} (ds : Many (value_separator · value n) s) (p : ℕ) {z : List ℕ} → (ws · Byte 93 · ws) z → (u : List ℕ) → drop p t ≡ s ++ (z ++ u)
        → further_values (tree_of n) p ds ≡ shown_from (comma_at (skip_of t p))
    unfolding further_values
    further none p d u e = no_comma (skip_of t p) 93 (separated t p 93 refl d u e).byte refl
    further (more {t = r} (join {s = c} {t = v} x y) ds) p {z} d u e =
        let a : drop p t ≡ (c ++ v) ++ (r ++ (z ++ u)) = e ∙ append_assoc (c ++ v) r (z ++ u) in
        let b : drop (p + length c) t ≡ v ++ (r ++ (z ++ u)) = back t p c v (r ++ (z ++ u)) a in
        let k = separated t p 44 refl x (v ++ (r ++ (z ++ u))) (front t p c v (r ++ (z ++ u)) a) in
        let h = see v (p + length c) (r ++ (z ++ u)) y b (items_stop 93 closing ds d u) in
        let f = further ds (p + length (c ++ v)) d u (past t p (c ++ v) (r ++ (z ++ u)) a) in
        let l : length (c ++ v) ≡ length c + length v = length-append c v in
        let g : p + length (c ++ v) ≡ p + length c + length v = omega arith in
        with_comma (skip_of t p) k.byte (item (skip_of t p + 1) (p + length c) k.beyond h _ (f ∙ ap (λ (q : ℕ). shown_from (comma_at (skip_of t q))) g))

    -- all values, looked for from x on
    pub values_shown : {s : List ℕ} (ds : Optional (value n · Many (value_separator · value n)) s) (p x : ℕ) {z : List ℕ} → (ws · Byte 93 · ws) z → (u : List ℕ) → drop p t ≡ s ++ (z ++ u)
        → skip_of t x ≡ skip_of t p → values_in (tree_of n) p ds ≡ shown_all t (shown t (suc n)) (elements_at t (value_from t x))
    unfolding values_in shown_from value_from shape_of is_value
    values_shown absent p x d u e q =
        let b : byte_at t (skip_of t x) ≡ 93 = ap (byte_at t) q ∙ (separated t p 93 refl d u e).byte in
        from_none ∙ (rw b)
    values_shown (present (join {s = v} {t = r} y ds)) p x {z} d u e q =
        let a : drop p t ≡ v ++ (r ++ (z ++ u)) = front t p v r (z ++ u) e in
        let h = see v p (r ++ (z ++ u)) y a (items_stop 93 closing ds d u) in
        item x p q h _ (further ds (p + length v) d u (past t p v (r ++ (z ++ u)) a))

  -- ---- members
  -- behind a value: a comma at e, and the next key
  unfoldable comma_key : ℕ → Option ℕ
  comma_key e = cond (eqb (byte_at t e) 44) (key_from t (e + 1)) None

  next_key : (v : ℕ) → key_behind t v ≡ comma_key (skip_of t (end_of t v))
  unfolding key_behind comma_key
  next_key v = refl

  unfoldable shown_keys : Option ℕ → Members
  shown_keys s = shown_members t (shown t (suc n)) (map (member-at t) (keys_at t s))

  keys_none : no_member ≡ shown_keys None
  unfolding shown_keys shown_members
  keys_none = ap (λ (l : List ℕ). shown_members t (shown t (suc n)) (map (member-at t) l)) (sym (keys_done t))

  keys_one : (k : ℕ) → under (text_at t k) (shown t (suc n) (value_of t k)) (shown_keys (key_after t k)) ≡ shown_keys (Some k)
  unfolding shown_keys shown_members
  keys_one k = ap (λ (l : List ℕ). shown_members t (shown t (suc n)) (map (member-at t) l)) (sym (keys_next t k))

  no_key : (e c : ℕ) → byte_at t e ≡ c → eqb c 44 ≡ false → no_member ≡ shown_keys (comma_key e)
  unfolding comma_key
  no_key e c h k = rw (h, k) keys_none

  with_key : (e : ℕ) → byte_at t e ≡ 44 → {y : Members} → y ≡ shown_keys (key_from t (e + 1)) → y ≡ shown_keys (comma_key e)
  unfolding comma_key
  with_key e h r = rw h r

  -- a key at p: its string, and the value's place
  record Keyed (p : ℕ) (key : Tree) (at : ℕ) : Type 0 where
    here : skip_of t p ≡ p
    quote : byte_at t p ≡ 34
    key_is : key ≡ text_at t p
    colon : byte_at t (skip_of t (end_of t p)) ≡ 58
    value_at : value_of t p ≡ skip_of t at

  keyed : (p : ℕ) {k c : List ℕ} (dk : string k) → name_separator c → (r : List ℕ) → drop p t ≡ k ++ (c ++ r) → Keyed p (text_of k p dk) (p + length k + length c)
  unfolding value_of text_of text_at
  keyed p {k} {c} dk dc r e =
      let f = string_end t p dk (c ++ r) e in
      let s = separated t (p + length k) 58 refl dc r (past t p k (c ++ r) e) in
      on dk e f (string_seen t p dk (c ++ r) e) s
    where
      on : {k : List ℕ} (dk : string k) → drop p t ≡ k ++ (c ++ r) → end_of t p ≡ p + length k → string_at t p ≡ string_of dk → Separated t (p + length k) 58 c
          → Keyed p (text_of k p dk) (p + length k + length c)
      on (join {t = q} bytes x) e f g s = record {
        here = skip_none t p refl e;
        quote = byte_here t p 34 (q ++ (c ++ r)) e;
        key_is = ap₂ (a_text p) (sym f) (sym g);
        colon = ap (λ (y : ℕ). byte_at t (skip_of t y)) f ∙ s.byte;
        value_at = ap (λ (y : ℕ). skip_of t (skip_of t y + 1)) f ∙ s.beyond;
      }

  -- the member at p, looked for from x on
  entry : (x p at : ℕ) {key : Tree} {v : List ℕ} {y : Tree} → skip_of t x ≡ skip_of t p → Keyed p key at → Shows t n at v y → (rest : Members)
      → rest ≡ shown_keys (comma_key (skip_of t (at + length v))) → under key y rest ≡ shown_keys (key_from t x)
  unfolding key_from is_member
  entry x p at {key} {v} {y} e k h rest r =
      let q : skip_of t x ≡ p = e ∙ k.here in
      let f : rest ≡ shown_keys (key_after t p) =
      r ∙ ap (λ (z : ℕ). shown_keys (comma_key z)) (sym (ap (λ (z : ℕ). skip_of t (end_of t z)) k.value_at ∙ h.ended)) ∙ ap shown_keys (sym (next_key (value_of t p))) in
      let g : y ≡ shown t (suc n) (value_of t p) = h.tree ∙ ap (shown t (suc n)) (sym k.value_at) in
      let s : starts_value (byte_at t (value_of t p)) ≡ true = ap (λ (z : ℕ). starts_value (byte_at t z)) k.value_at ∙ h.starts in
      ap₂ (λ (z w : Tree). under z w rest) k.key_is g ∙ ap (under (text_at t p) (shown t (suc n) (value_of t p))) f ∙ keys_one p
      ∙ (rw (q, k.quote, k.colon, s))

  module _ (see : Sees) where
    -- a member, and what follows it
    one_member : {s : List ℕ} (m : member (value n) s) (p x : ℕ) (r : List ℕ) → drop p t ≡ s ++ r → Stops r → skip_of t x ≡ skip_of t p → (rest : Members)
        → rest ≡ shown_keys (comma_key (skip_of t (p + length s))) → member_of (tree_of n) p m rest ≡ shown_keys (key_from t x)
    unfolding member_of
    one_member (join {s = k} dk (join {s = c} {t = v} dc d)) p x r e g q rest h =
        let a : drop p t ≡ k ++ ((c ++ v) ++ r) = front t p k (c ++ v) r e in
        let b : (c ++ v) ++ r ≡ c ++ (v ++ r) = append_assoc c v r in
        let f : drop p t ≡ k ++ (c ++ (v ++ r)) = a ∙ ap (λ (y : List ℕ). k ++ y) b in
        let j : drop (p + length k + length c) t ≡ v ++ r = past t (p + length k) c (v ++ r) (past t p k (c ++ (v ++ r)) f) in
        let l : length (k ++ (c ++ v)) ≡ length k + length (c ++ v) = length-append k (c ++ v) in
        let l' : length (c ++ v) ≡ length c + length v = length-append c v in
        let i : p + length (k ++ (c ++ v)) ≡ p + length k + length c + length v = omega arith in
        entry x p (p + length k + length c) q (keyed p dk dc (v ++ r) f) (see v (p + length k + length c) r d j g) rest (h ∙ ap (λ (y : ℕ). shown_keys (comma_key (skip_of t y))) i)

    -- the members behind commas, and the closing brace
    further_members_lem : {s : List ℕ} (ms : Many (value_separator · member (value n)) s) (p : ℕ) {z : List ℕ} → (ws · Byte 125 · ws) z → (u : List ℕ) → drop p t ≡ s ++ (z ++ u)
        → further_members (tree_of n) p ms ≡ shown_keys (comma_key (skip_of t p))
    unfolding further_members
    further_members_lem none p d u e = no_key (skip_of t p) 125 (separated t p 125 refl d u e).byte refl
    further_members_lem (more {t = r} (join {s = c} {t = v} x m) ms) p {z} d u e =
        let a : drop p t ≡ (c ++ v) ++ (r ++ (z ++ u)) = e ∙ append_assoc (c ++ v) r (z ++ u) in
        let b : drop (p + length c) t ≡ v ++ (r ++ (z ++ u)) = back t p c v (r ++ (z ++ u)) a in
        let k = separated t p 44 refl x (v ++ (r ++ (z ++ u))) (front t p c v (r ++ (z ++ u)) a) in
        let f = further_members_lem ms (p + length (c ++ v)) d u (past t p (c ++ v) (r ++ (z ++ u)) a) in
        let l : length (c ++ v) ≡ length c + length v = length-append c v in
        let g : p + length (c ++ v) ≡ p + length c + length v = omega arith in
        with_key (skip_of t p) k.byte
        (one_member m (p + length c) (skip_of t p + 1) (r ++ (z ++ u)) b (items_stop 125 closing_brace ms d u) k.beyond _ (f ∙ ap (λ (q : ℕ). shown_keys (comma_key (skip_of t q))) g))

    -- all members, looked for from x on
    pub members_shown : {s : List ℕ} (ms : Optional (member (value n) · Many (value_separator · member (value n))) s) (p x : ℕ) {z : List ℕ} → (ws · Byte 125 · ws) z → (u : List ℕ)
        → drop p t ≡ s ++ (z ++ u) → skip_of t x ≡ skip_of t p → members_in (tree_of n) p ms ≡ shown_members t (shown t (suc n)) (map (member-at t) (keys_at t (key_from t x)))
    unfolding members_in shown_keys key_from is_member
    members_shown absent p x d u e q =
        let b : byte_at t (skip_of t x) ≡ 125 = ap (byte_at t) q ∙ (separated t p 125 refl d u e).byte in
        keys_none ∙ (rw b)
    members_shown (present (join {s = v} {t = r} m ms)) p x {z} d u e q =
        let a : drop p t ≡ v ++ (r ++ (z ++ u)) = front t p v r (z ++ u) e in
        one_member m p x (r ++ (z ++ u)) a (items_stop 125 closing_brace ms d u) q _ (further_members_lem ms (p + length v) d u (past t p v (r ++ (z ++ u)) a))
