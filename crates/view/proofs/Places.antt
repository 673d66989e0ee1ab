-- Laws of places: white space, the ends of values, elements and members.
-- Assumes nothing.
use Rattle.std.specs.Prelude.{Option, Some, None}
use mathlib.Core.Path.{◌≡◌, refl, sym, ap, ◌∙◌}
use mathlib.Core.Bool.{Bool, true, false, cond}
use mathlib.Core.List.{List, [], ◌∷◌}
use Prim.Native.Nat.{ℕ, suc, ◌+◌, ◌<◌, ◌≤◌}
use native.Mathlib.Nat.{add-zero}
use native.Mathlib.Numerals.{add-one}
use native.Mathlib.Omega.{arith}
use native.Mathlib.Decide.{dec_lt}
use lib.ListN.{length, get_or, drop, drop_of_length-le, length-drop}
use lib.Seq.{drop-cons}
use borrow.Author.Tests.{eq-eqb, ne_eqb}
use Rattle.json_scan.specs.Json.{is_space}
use Rattle.ground.specs.Bytes.{byte_at}
use Rattle.ground.proofs.Laws.{byte_past}
use Rattle.view.specs.Values.{count, skip_of, shape_of, is_value, starts_value}
use Rattle.view.specs.Ends.{is_delimiter, is_token, literal_end, mode_after, depth_after, at_rest, to_rest, closing_of, is_block, end_of}
use Rattle.view.specs.Elements.{value_from, first_element, next_element}
use Rattle.view.specs.Members.{value_of, is_member, key_from, first_key, key_behind, entry_of, entry}
use Rattle.view.specs.declared.members.Member.{Member}

pub never : {A : Type 0} → false ≡ true → A
never e = let z : ◌≡◌ {A = ℕ} 0 1 = cc in absurd (omega arith)

-- what is no 0 stands within the text
pub in_text : (t : List ℕ) (p b x : ℕ) → b ≡ byte_at t p → b ≡ x → 0 < x → p < length t
in_text t p b x e f h = go (dec_lt p (length t))
  where
    go : Dec (p < length t) → p < length t
    go (yes l) = l
    go (no n) = let z = byte_past t p (omega arith) in absurd (omega arith)

pub class_in_text : (c : ℕ → Bool) → c 0 ≡ false → (t : List ℕ) (p b : ℕ) → b ≡ byte_at t p → c b ≡ true → p < length t
class_in_text c n t p b e f = go (dec_lt p (length t))
  where
    go : Dec (p < length t) → p < length t
    go (yes l) = l
    go (no m) = never (sym n ∙ ap c (sym (e ∙ byte_past t p (omega arith))) ∙ f)

-- ---- white space, numbers and words
module _ (c : ℕ → Bool) where
  counted : (t : List ℕ) → count c t ≤ length t
  unfolding count
  counted [] = omega arith
  counted (b ∷ bs) = go (c b) (counted bs)
    where
      go : (x : Bool) → count c bs ≤ length bs → cond x (suc (count c bs)) 0 ≤ suc (length bs)
      go true h = omega arith
      go false h = omega arith

  module _ (t : List ℕ) (p : ℕ) where
    count_out : length t ≤ p → p ≡ p + count c (drop p t)
    unfolding count
    count_out h = rw (drop_of_length-le t h, add-zero)

    count_step : p < length t → c (get_or t p 0) ≡ true → p + 1 + count c (drop (p + 1) t) ≡ p + count c (drop p t)
    unfolding count
    count_step h e = rw (drop-cons t p 0 h, e, add-one) (omega arith)

    count_stop : p < length t → c (get_or t p 0) ≡ false → p ≡ p + count c (drop p t)
    unfolding count
    count_stop h e = rw (drop-cons t p 0 h, e, add-zero)

module _ (t : List ℕ) (p : ℕ) where
  pub skip_out : length t ≤ p → p ≡ skip_of t p
  unfolding skip_of
  skip_out h = count_out is_space t p h

  pub skip_step : p < length t → is_space (get_or t p 0) ≡ true → skip_of t (p + 1) ≡ skip_of t p
  unfolding skip_of
  skip_step h e = count_step is_space t p h e

  pub skip_stop : p < length t → is_space (get_or t p 0) ≡ false → p ≡ skip_of t p
  unfolding skip_of
  skip_stop h e = count_stop is_space t p h e

  pub skip_within : p ≤ length t → skip_of t p ≤ length t
  unfolding skip_of
  skip_within h = let a = counted is_space (drop p t) in let b = length-drop p t in omega arith

  pub skip_ahead : p ≤ skip_of t p
  unfolding skip_of
  skip_ahead = omega arith

  pub literal_out : length t ≤ p → p ≡ literal_end t p
  unfolding literal_end
  literal_out h = count_out is_token t p h

  pub literal_step : p < length t → is_delimiter (get_or t p 0) ≡ false → literal_end t (p + 1) ≡ literal_end t p
  unfolding literal_end
  literal_step h e = count_step is_token t p h (rw e)

  pub literal_stop : p < length t → is_delimiter (get_or t p 0) ≡ true → p ≡ literal_end t p
  unfolding literal_end
  literal_stop h e = count_stop is_token t p h (rw e)

  literal_within : p ≤ length t → literal_end t p ≤ length t
  unfolding literal_end
  literal_within h = let a = counted is_token (drop p t) in let b = length-drop p t in omega arith

-- ---- strings and brackets
rested : (m d : ℕ) (t : List ℕ) → to_rest m d t ≤ length t
unfolding to_rest
rested m d [] = omega arith
rested m d (b ∷ bs) = go (at_rest (mode_after m b) (depth_after m b d)) (rested (mode_after m b) (depth_after m b d) bs)
  where
    go : (x : Bool) → to_rest (mode_after m b) (depth_after m b d) bs ≤ length bs
        → cond x 1 (suc (to_rest (mode_after m b) (depth_after m b d) bs)) ≤ suc (length bs)
    go true h = omega arith
    go false h = omega arith

module _ (t : List ℕ) (m d p : ℕ) where
  pub closing_out : length t ≤ p → p ≡ closing_of t m d p
  unfolding closing_of to_rest
  closing_out h = rw (drop_of_length-le t h, add-zero)

  closing_within : p ≤ length t → closing_of t m d p ≤ length t
  unfolding closing_of
  closing_within h = let a = rested m d (drop p t) in let b = length-drop p t in omega arith

  module _ (h : p < length t) {m1 d1 : ℕ} (e : m1 ≡ mode_after m (get_or t p 0)) (f : d1 ≡ depth_after m (get_or t p 0) d) where
    pub closing_rest : at_rest m1 d1 ≡ true → p + 1 ≡ closing_of t m d p
    unfolding closing_of to_rest
    closing_rest g = rw (drop-cons t p 0 h, ← e, ← f, g)

    pub closing_more : at_rest m1 d1 ≡ false → closing_of t m1 d1 (p + 1) ≡ closing_of t m d p
    unfolding closing_of to_rest
    closing_more g = rw (drop-cons t p 0 h, ← e, ← f, g, add-one) (omega arith)

module _ (t : List ℕ) (p b : ℕ) (e : b ≡ byte_at t p) where
  pub end_block : is_block b ≡ true → closing_of t 0 0 p ≡ end_of t p
  unfolding end_of
  end_block f = rw (← e, f)

  pub end_literal : is_block b ≡ false → literal_end t p ≡ end_of t p
  unfolding end_of
  end_literal f = rw (← e, f)

pub end_within : (t : List ℕ) (p : ℕ) → p ≤ length t → end_of t p ≤ length t
unfolding end_of
end_within t p h = go (is_block (byte_at t p))
  where
    go : (x : Bool) → cond x (closing_of t 0 0 p) (literal_end t p) ≤ length t
    go true = closing_within t 0 0 p h
    go false = literal_within t p h

pub end_ahead : (t : List ℕ) (p : ℕ) → p ≤ end_of t p
unfolding end_of closing_of literal_end
end_ahead t p = go (is_block (byte_at t p))
  where
    go : (x : Bool) → p ≤ cond x (closing_of t 0 0 p) (literal_end t p)
    go true = omega arith
    go false = omega arith

-- ---- elements
no_value : starts_value 0 ≡ false
unfolding shape_of is_value
no_value = refl

pub value_in_text : (t : List ℕ) (p b : ℕ) → b ≡ byte_at t p → starts_value b ≡ true → p < length t
value_in_text = class_in_text starts_value no_value

module _ (t : List ℕ) (p q b : ℕ) (s : q ≡ skip_of t p) (e : b ≡ byte_at t q) where
  pub value_here : starts_value b ≡ true → Some q ≡ value_from t p
  unfolding value_from
  value_here f = rw (← s, ← e, f)

  pub value_none : starts_value b ≡ false → None ≡ value_from t p
  unfolding value_from
  value_none f = rw (← s, ← e, f)

module _ (t : List ℕ) (p b : ℕ) (e : b ≡ byte_at t p) where
  pub element_first : b ≡ 91 → {r : Option ℕ} → r ≡ value_from t (p + 1) → r ≡ first_element t p
  unfolding first_element
  element_first f g = rw (← e, eq-eqb b 91 f) g

  pub element_none : (b ≡ 91 → ⊥) → None ≡ first_element t p
  unfolding first_element
  element_none f = rw (← e, ne_eqb b 91 f)

-- behind the value at p: its end x, then white space up to q
module _ (t : List ℕ) (p : ℕ) {x q b : ℕ} (d : x ≡ end_of t p) (s : q ≡ skip_of t x) (e : b ≡ byte_at t q) where
  pub element_next : b ≡ 44 → {r : Option ℕ} → r ≡ value_from t (q + 1) → r ≡ next_element t p
  unfolding next_element
  element_next f g = rw (← d, ← s, ← e, eq-eqb b 44 f) g

  pub element_last : (b ≡ 44 → ⊥) → None ≡ next_element t p
  unfolding next_element
  element_last f = rw (← d, ← s, ← e, ne_eqb b 44 f)

  pub key_next : b ≡ 44 → {r : Option Member} → r ≡ entry_of t (key_from t (q + 1)) → r ≡ entry_of t (key_behind t p)
  unfolding key_behind
  key_next f g = rw (← d, ← s, ← e, eq-eqb b 44 f) g

  pub key_last : (b ≡ 44 → ⊥) → None ≡ entry_of t (key_behind t p)
  unfolding key_behind
  key_last f = rw (← d, ← s, ← e, ne_eqb b 44 f)

-- ---- members
module _ (t : List ℕ) (p b : ℕ) (e : b ≡ byte_at t p) where
  pub key_first : b ≡ 123 → {r : Option Member} → r ≡ entry_of t (key_from t (p + 1)) → r ≡ entry_of t (first_key t p)
  unfolding first_key
  key_first f g = rw (← e, eq-eqb b 123 f) g

  pub key_none : (b ≡ 123 → ⊥) → None ≡ entry_of t (first_key t p)
  unfolding first_key
  key_none f = rw (← e, ne_eqb b 123 f)

-- white space up to k, and what stands there
module _ (t : List ℕ) (p k b : ℕ) (s : k ≡ skip_of t p) (e : b ≡ byte_at t k) where
  pub no_key : (b ≡ 34 → ⊥) → None ≡ entry_of t (key_from t p)
  unfolding key_from is_member
  no_key n = rw (← s, ← e, ne_eqb b 34 n)

  module _ (i : b ≡ 34) {x c u : ℕ} (f : x ≡ end_of t k) (g : c ≡ skip_of t x) (h : u ≡ byte_at t c) where
    pub no_colon : (u ≡ 58 → ⊥) → None ≡ entry_of t (key_from t p)
    unfolding key_from is_member
    no_colon n = rw (← s, ← e, eq-eqb b 34 i, ← f, ← g, ← h, ne_eqb u 58 n)

    module _ (j : u ≡ 58) {v w : ℕ} (l : v ≡ skip_of t (c + 1)) (m : w ≡ byte_at t v) where
      value_is : v ≡ value_of t k
      unfolding value_of
      value_is = rw (← f, ← g, ← l)

      pub no_member : starts_value w ≡ false → None ≡ entry_of t (key_from t p)
      unfolding key_from is_member
      no_member n = rw (← s, ← e, eq-eqb b 34 i, ← f, ← g, ← h, eq-eqb u 58 j, ← value_is, ← m, n)

      pub is_member_lem : starts_value w ≡ true → entry k v ≡ entry_of t (key_from t p)
      unfolding key_from is_member
      is_member_lem n = rw (← s, ← e, eq-eqb b 34 i, ← f, ← g, ← h, eq-eqb u 58 j, ← value_is, ← m, n) (ap (λ (x : ℕ). entry k x) value_is)
